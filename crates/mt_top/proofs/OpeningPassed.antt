-- The lines that set a picture up: a standby's run leaves of them what a script's does, where `memory` is wanted in neither.
use Rattle.std.proofs.Common.{◌≡◌, ◌||◌, ◌∙◌, ◌⊎◌, inl, inr, ⊎_elim, ℕ, Bool, true, false, List, [], ◌∷◌, ◌++◌, Result, Ok, Err, refl, sym, ap, subst, true≢false}
use Rattle.std.specs.Prelude.{MatchBool, ⊤}
use Rattle.mt_base.specs.Tables.{Tables}
use Rattle.mt_lines.specs.Answering.{AreReplied}
use Rattle.mt_lines.specs.Given.{is_farewell}
use Rattle.mt_read.specs.declared.request.Request.{Request}
use Rattle.mt_read.specs.declared.request.Request.TheVariants as requests
use Rattle.mt_tables.specs.declared.add_no.AddNo.{AddNo}
use Rattle.mt_world.proofs.Areas.{added_either}
use Rattle.mt_world.specs.World.{IsAdded, IsServed, World}
use Rattle.mt_write.specs.declared.reply.DoneWord.{DoneWord}
use Rattle.mt_write.specs.declared.reply.DoneWord.TheVariants as done
use Rattle.mt_write.specs.declared.reply.Reply.{Reply}
use Rattle.mt_write.specs.declared.reply.Reply.TheVariants as replies
use Rattle.mt_write.specs.Reply.{reply_text}
use Rattle.mt_top.specs.Lines.{ends_opening}
use Rattle.mt_top.specs.Script.{IsAnswered, IsReplied, NothingFollows, asked}
use Rattle.mt_top.specs.Standby.{IsStoodBy, opened}
use Rattle.mt_top.proofs.NeverMemory.{HasOther}
use Rattle.mt_top.proofs.OneReply.{one_reply}
use Rattle.mt_top.proofs.Stood.{opened_still}

when_false : (b : Bool) (P Q : Type 0) → b ≡ false → MatchBool b P Q → Q
when_false true P Q e m = cc
when_false false P Q e m = m

-- what a line leaves of a picture that hasn't begun: no entry, and it begins by the one reply alone
abbrev pub Leaves : Reply → World → Type 0
Leaves reply next = ((next.begun ≡ false) ⊎ (reply ≡ replies.Done done.Begin)) × (next.history ≡ [])

left_as : (next after : World) (reply : Reply) → next ≡ after → after.begun ≡ false → after.history ≡ [] → Leaves reply next
left_as next after reply is before none = (inl (ap (λ (v : World). v.begun) is ∙ before), ap (λ (v : World). v.history) is ∙ none)

module _ (w next : World) (who : ℕ) (reply : Reply) (before : w.begun ≡ false) (none : w.history ≡ []) where
  same : next ≡ w → Leaves reply next
  same is = left_as next w reply is before none

  added : (checked : Result ⊤ AddNo) (word : DoneWord) (taken : Reply) (tables : Tables) → IsAdded w checked word taken tables reply next → Leaves reply next
  added (Ok _) word taken tables g = left_as next (record w { tables = tables }) reply g.next_is before none
  added (Err refusal) word taken tables r = same r.same

  leaves : (request : Request) → IsServed w who request reply next → Leaves reply next
  leaves (requests.Fix name x y) served = added _ _ _ _ (when_false w.begun _ _ before served)
  leaves (requests.TypeLine name bands) served = added _ _ _ _ (when_false w.begun _ _ before served)
  leaves (requests.Area area) served =
      ⊎_elim same (λ g. left_as next _ reply g.next_is before none) (added_either w next area reply (when_false w.begun _ _ before served))
  leaves (requests.Rule set) served = left_as next _ reply (when_false w.begun _ _ before served).next_is before none
  leaves requests.Begin served =
      let begun = when_false w.begun _ _ before served in
      (inr begun.reply_is, ap (λ (v : World). v.history) begun.next_is)
  leaves (requests.Hello role) served = same served.next_is
  leaves requests.Bye served = same served.next_is
  leaves request served = same (when_false w.begun _ _ before served).same

pub leaves_of : (w next : World) (a : Result (ℕ × Request) Reply) (reply : Reply) → w.begun ≡ false → w.history ≡ [] → IsAnswered w a reply next → Leaves reply next
leaves_of w next (Ok a) reply before none served = leaves w next a.0 reply before none a.1 served
leaves_of w next (Err refusal) reply before none refused = same w next 0 reply before none refused.same

or_left : (a b : Bool) → (a || b) ≡ false → a ≡ false
or_left true b is = absurd (true≢false is)
or_left false b is = refl

-- a line that doesn't end the opening is answered with no farewell, and begins nothing
pub no_bye : (reply : Reply) → ends_opening reply ≡ false → is_farewell reply ≡ false
no_bye reply goes = or_left (is_farewell reply) _ goes

pub still_before : (reply : Reply) (next : World) → ends_opening reply ≡ false → Leaves reply next → next.begun ≡ false
still_before reply next goes left = ⊎_elim (λ before. before) (λ begins. absurd (true≢false (sym (ap ends_opening begins) ∙ goes))) left.0

-- a reply that isn't `memory` is that of the line
answered : (w next : World) (line : List ℕ) (reply : Reply) → HasOther IsReplied w line reply next → IsAnswered w (asked w line) reply next
answered w next line reply (replied, other) = ⊎_elim (λ is. is) (λ wants. absurd (other wants.reply_is)) replied

-- the one reply to a line before the picture has begun, and the one world that it leaves
pub record IsOne (w : World) (line : List ℕ) (r s : Reply) (next other : World) : Type 0 where
  pub is : IsAnswered w (asked w line) r next
  pub same : r ≡ s
  pub other_is : other ≡ opened next

pub one_step : (w : World) (line : List ℕ) (r s : Reply) (next other : World) → w.begun ≡ false → HasOther IsReplied w line r next → HasOther IsStoodBy w line s other
    → IsOne w line r s next other
one_step w line r s next other before script (stood, isnt) =
    let (middle, replied, other_is) = when_false w.begun _ _ before stood in
    let is = answered w next line r script in
    let one = one_reply w (asked w line) r s next middle is (answered w middle line s (replied, isnt)) in
    record { is = is; same = one.0; other_is = other_is ∙ ap opened (sym one.1) }

-- lines of a script up to one that begins its picture, or of a standby
abbrev pub Opens : World → List (List ℕ) → List ℕ → World → Type 0
Opens w lines bytes end = AreReplied reply_text ends_opening (HasOther IsReplied) NothingFollows w lines bytes end

abbrev pub Stands : World → List (List ℕ) → List ℕ → World → Type 0
Stands w lines bytes end = AreReplied reply_text is_farewell (HasOther IsStoodBy) NothingFollows w lines bytes end

-- what a standby answers after the lines that leave this world of a script
pub record IsPassed (begun : World) (later : List (List ℕ)) (end : World) : Type 0 where
  pub none : begun.history ≡ []
  pub rest : List ℕ
  pub stands : Stands (opened begun) later rest end

pub passed : (before : List (List ℕ)) (last : List ℕ) (later : List (List ℕ)) (w middle begun end : World) (bytes all : List ℕ) (r : Reply) → w.begun ≡ false
    → w.history ≡ [] → Opens w before bytes middle → HasOther IsReplied middle last r begun → Stands w (before ++ last ∷ later) all end → IsPassed begun later end
passed [] last later w middle begun end bytes all r unbegun none (empty, ended) script (s, rest, mid, next, stood, goes, after, bytes_are, others) =
    let first : HasOther IsReplied w last r begun = subst (λ v. HasOther IsReplied v last r begun) ended script in
    let one = one_step w last r s begun mid unbegun first stood in
    record {
      none = (leaves_of w begun (asked w last) r unbegun none one.is).1;
      rest = rest;
      stands = subst (λ v. Stands v later rest end) (after ∙ one.other_is) others;
    }
passed (line ∷ before) last later w middle begun end bytes all r unbegun none (q, more, mid, next, replied, opens, then, are, others) script (s, rest, mid', next', stood, goes, after, bytes_are, others') =
    let one = one_step w line q s mid mid' unbegun replied stood in
    let left = leaves_of w mid (asked w line) q unbegun none one.is in
    let still = still_before q mid opens left in
    let same : next' ≡ next = after ∙ one.other_is ∙ sym (opened_still mid still) ∙ sym then in
    passed before last later next middle begun end more rest r (ap (λ (v : World). v.begun) then ∙ still) (ap (λ (v : World). v.history) then ∙ left.1) others script
    (subst (λ v. Stands v (before ++ last ∷ later) rest end) same others')
