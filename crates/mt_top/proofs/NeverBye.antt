-- No line that sets a picture up, and no entry's text, is answered with a farewell.
use Rattle.std.proofs.Common.{◌≡◌, ◌∙◌, ⊎_elim, ℕ, true, false, List, [], ◌∷◌, ◌++◌, map, sym, ap, subst, append_assoc, append-nil, true≢false}
use Rattle.mt_base.specs.declared.command.Entry.{Entry}
use Rattle.mt_io.specs.HasRead.{AreRead}
use Rattle.mt_io.specs.Lines.{lines_of}
use Rattle.mt_lines.specs.Given.{is_farewell}
use Rattle.mt_write.specs.declared.reply.Reply.{Reply}
use Rattle.mt_top.specs.Following.{entry_line}
use Rattle.mt_top.specs.Script.{IsReplied, asked}
use Rattle.mt_top.specs.Standby.{IsStoodBy, opened}
use Rattle.mt_top.proofs.EntriesFed.{AreFit, fed_on}
use Rattle.mt_top.proofs.NeverMemory.{HasOther}
use Rattle.mt_top.proofs.OpeningPassed.{Leaves, Opens, Stands, leaves_of, no_bye, one_step, still_before}
use Rattle.mt_top.proofs.Stood.{opened_begun, opened_still}
use Rattle.mt_world.specs.World.{World}

-- the lines that were read are the first
pub first_lines : (input left : List ℕ) (lines : List (List ℕ)) → AreRead input left lines → (more : List (List ℕ)) × (lines_of input ≡ lines ++ more)
first_lines input left lines read = ⊎_elim
    (λ whole. (
      lines_of (read.beyond ++ left),
      ap lines_of (read.input_is ∙ append_assoc read.gone read.beyond left) ∙ whole.each (read.beyond ++ left),
    ))
    (λ (are, no_more, none). (
      [],
      ap lines_of (read.input_is ∙ (λ i. (read.gone ++ no_more i) ++ none i) ∙ append-nil (read.gone ++ []) ∙ append-nil read.gone) ∙ are ∙ sym (append-nil lines),
    ))
    read.lines_are

-- a reply after which the picture has begun is none
begun_by : (r : Reply) (next : World) → next.begun ≡ true → Leaves r next → is_farewell r ≡ false
begun_by r next begun left = ⊎_elim (λ before. absurd (true≢false (sym begun ∙ before))) (λ begins. ap is_farewell begins) left.0

module _ (entries : List Entry) (fit : AreFit entries) (last : List ℕ) (begun : World) (has_begun : begun.begun ≡ true) (r : Reply) (line : List ℕ) (more : List (List ℕ)) (end : World) (reply : Reply) where
  pub no_farewell : (before first : List (List ℕ)) (w middle stop : World) (bytes all : List ℕ) → w.begun ≡ false → w.history ≡ []
      → before ++ last ∷ map entry_line entries ≡ first ++ line ∷ more → Opens w before bytes middle → HasOther IsReplied middle last r begun
      → Stands w first all stop → HasOther IsStoodBy stop line reply end → is_farewell reply ≡ false
  no_farewell [] [] w middle stop bytes all unbegun none are (empty, ended) script (nothing, stopped) stood =
      let is : last ≡ line = cc in
      let from : HasOther IsReplied w last r begun = subst (λ v. HasOther IsReplied v last r begun) ended script in
      let here : HasOther IsStoodBy w last reply end = subst (λ v. HasOther IsStoodBy v last reply end) stopped (subst (λ l. HasOther IsStoodBy stop l reply end) (sym is) stood) in
      let one = one_step w last r reply begun end unbegun from here in
      ap is_farewell (sym one.same) ∙ begun_by r begun has_begun (leaves_of w begun (asked w last) r unbegun none one.is)
  no_farewell [] (l ∷ first) w middle stop bytes all unbegun none are (empty, ended) script (s, rest, mid, next, also, goes, after, bytes_are, others) stood =
      let is : last ≡ l = cc in
      let others_are : map entry_line entries ≡ first ++ line ∷ more = cc in
      let from : HasOther IsReplied w last r begun = subst (λ v. HasOther IsReplied v last r begun) ended script in
      let one = one_step w last r s begun mid unbegun from (subst (λ x. HasOther IsStoodBy w x s mid) (sym is) also) in
      let next_is : next ≡ opened begun = after ∙ one.other_is in
      fed_on entries first line more next stop end rest reply (ap (λ (v : World). v.begun) next_is ∙ opened_begun begun ∙ has_begun) fit others_are others stood
  no_farewell (b ∷ before) [] w middle stop bytes all unbegun none are (q, rest, mid, next, replied, opens, then, bytes_are, others) script (nothing, stopped) stood =
      let is : b ≡ line = cc in
      let here : HasOther IsStoodBy w b reply end = subst (λ v. HasOther IsStoodBy v b reply end) stopped (subst (λ l. HasOther IsStoodBy stop l reply end) (sym is) stood) in
      let one = one_step w b q reply mid end unbegun replied here in
      ap is_farewell (sym one.same) ∙ no_bye q opens
  no_farewell (b ∷ before) (l ∷ first) w middle stop bytes all unbegun none are (q, rest, mid, next, replied, opens, then, bytes_are, others) script (s, rest', mid', next', also, goes, after, bytes_are', others') stood =
      let is : b ≡ l = cc in
      let rest_are : before ++ last ∷ map entry_line entries ≡ first ++ line ∷ more = cc in
      let one = one_step w b q s mid mid' unbegun replied (subst (λ x. HasOther IsStoodBy w x s mid') (sym is) also) in
      let left = leaves_of w mid (asked w b) q unbegun none one.is in
      let still = still_before q mid opens left in
      let same : next' ≡ next = after ∙ one.other_is ∙ sym (opened_still mid still) ∙ sym then in
      no_farewell before first next middle stop rest rest' (ap (λ (v : World). v.begun) then ∙ still) (ap (λ (v : World). v.history) then ∙ left.1) rest_are others script
      (subst (λ v. Stands v first rest' stop) same others') stood
