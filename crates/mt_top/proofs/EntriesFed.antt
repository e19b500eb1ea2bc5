-- The texts of entries as lines of a standby.
use Rattle.std.proofs.Common.{◌≡◌, ◌≤◌, ◌∙◌, ⊎_elim, ℕ, Bool, true, false, List, [], ◌∷◌, ◌++◌, length, map, nat_lt, Result, Ok, refl, ap, subst, arith, length-append}
use Rattle.std.specs.Prelude.{All, MatchBool}
use Rattle.std.proofs.lemmas.Bool.Decides.{nat_tests}
use Rattle.std.proofs.lemmas.List.Elements.{All-head, All-map, All-tail, All-weaker}
use Rattle.serde_json.specs.Written.{compact_text}
use Rattle.mt_base.specs.declared.command.Entry.{Entry}
use Rattle.mt_base.specs.Complete.{IsComplete}
use Rattle.mt_history.proofs.LinesRead.{read_first, read_none}
use Rattle.mt_history.specs.Printed.{AreReadAsEntries}
use Rattle.mt_lines.specs.Given.{is_farewell}
use Rattle.mt_read.proofs.FeedEntries.{entry_followed}
use Rattle.mt_read.specs.declared.following.FeedLine.{FeedLine}
use Rattle.mt_read.specs.declared.following.FeedLine.TheVariants.{Followed}
use Rattle.mt_standby.specs.Law.{AreAnswered}
use Rattle.mt_standby.specs.Standby.{IsEntryAnswered, IsFeedAnswered, IsStandbyReplied, fed_line}
use Rattle.mt_wire.proofs.EntryLaw.{text_back}
use Rattle.mt_world.specs.World.{World}
use Rattle.mt_write.specs.declared.reply.Reply.{Reply}
use Rattle.mt_write.specs.Entry.{entry_text, entry_value}
use Rattle.mt_top.specs.Following.{entry_line}
use Rattle.mt_top.specs.Standby.{IsStoodBy}
use Rattle.mt_top.proofs.NeverMemory.{HasOther}
use Rattle.mt_top.proofs.OpeningPassed.{Stands}

when_true : (b : Bool) (P Q : Type 0) → b ≡ true → MatchBool b P Q → P
when_true true P Q e m = m
when_true false P Q e m = cc

-- complete entries, whose texts are short
pub record AreFit (entries : List Entry) : Type 0 where
  pub complete : All IsComplete entries
  pub short : All (λ e. length (entry_text e) ≤ 65536) entries

fit_tail : (e : Entry) (entries : List Entry) → AreFit (e ∷ entries) → AreFit entries
fit_tail e entries fit =
    record { complete = All-tail IsComplete e entries fit.complete; short = All-tail (λ x. length (entry_text x) ≤ 65536) e entries fit.short }

short_line : (e : Entry) → length (entry_text e) ≤ 65536 → length (entry_line e) ≤ 65536
short_line e short = omega (arith, short, length-append (compact_text (entry_value e)) (10 ∷ []))

pub short_lines : (entries : List Entry) → AreFit entries → All (λ line. length line ≤ 65536) (map entry_line entries)
short_lines entries fit = All-map (λ line. length line ≤ 65536) entry_line entries
    (All-weaker (λ e. length (entry_text e) ≤ 65536) (λ e. length (entry_line e) ≤ 65536) short_line entries fit.short)

pub read_lines : (entries : List Entry) → AreFit entries → AreReadAsEntries (map entry_line entries) entries
read_lines [] fit = read_none
read_lines (e ∷ entries) fit =
    read_first (entry_line e) e (map entry_line entries) entries (text_back e (All-head IsComplete e entries fit.complete)) (read_lines entries (fit_tail e entries fit))

-- what an entry's text asks for
asked_for : (line : List ℕ) (e : Entry) → length line ≤ 65536 → entry_line e ≡ line → IsComplete e → fed_line line ≡ Ok (Followed e)
asked_for line e short is complete =
    let fits : nat_lt 65536 (length line) ≡ false = grind (arith, nat_tests) in
    rw (fits, ← is, entry_followed (entry_line e) e (text_back e complete)) refl

-- what an entry's text is answered once the picture has begun
record IsFed (w : World) (e : Entry) (line : List ℕ) (reply : Reply) (next : World) : Type 0 where
  fed : IsFeedAnswered w (fed_line line) reply next
  begun : next.begun ≡ true
  goes : is_farewell reply ≡ false

entered : (w : World) (e : Entry) (line : List ℕ) (reply : Reply) (next : World) → w.begun ≡ true → IsFeedAnswered w (fed_line line) reply next
    → IsEntryAnswered w e reply next → IsFed w e line reply next
entered w e line reply next begun fed answered = ⊎_elim
    (λ late. record { fed = fed; begun = ap (λ (v : World). v.begun) late.refused.same ∙ begun; goes = ap is_farewell late.refused.reply_is })
    (λ rest. ⊎_elim
    (λ illegal. record { fed = fed; begun = ap (λ (v : World). v.begun) illegal.refused.same ∙ begun; goes = ap is_farewell illegal.refused.reply_is })
    (λ put. record { fed = fed; begun = ap (λ (v : World). v.begun) put.given.next_is ∙ begun; goes = ap is_farewell put.given.reply_is })
    rest)
    answered

fed_one : (w : World) (e : Entry) (line : List ℕ) (reply : Reply) (next : World) → w.begun ≡ true → IsComplete e → length (entry_text e) ≤ 65536
    → entry_line e ≡ line → HasOther IsStoodBy w line reply next → IsFed w e line reply next
fed_one w e line reply next begun complete short is (stood, other) =
    let replied : IsStandbyReplied w line reply next = when_true w.begun _ _ begun stood in
    let fed : IsFeedAnswered w (fed_line line) reply next = ⊎_elim (λ answered. answered) (λ wants. absurd (other wants.refused.reply_is)) replied in
    let fits : length line ≤ 65536 = subst (λ (l : List ℕ). length l ≤ 65536) is (short_line e short) in
    let asked : fed_line line ≡ Ok (Followed e) = asked_for line e fits is complete in
    entered w e line reply next begun fed (subst (λ (a : Result FeedLine Reply). IsFeedAnswered w a reply next) asked fed)

fed_first : (w : World) (e : Entry) (entries : List Entry) (line : List ℕ) (reply : Reply) (next : World) → w.begun ≡ true → AreFit (e ∷ entries)
    → entry_line e ≡ line → HasOther IsStoodBy w line reply next → IsFed w e line reply next
fed_first w e entries line reply next begun fit is stood =
    fed_one w e line reply next begun (All-head IsComplete e entries fit.complete) (All-head (λ x. length (entry_text x) ≤ 65536) e entries fit.short) is stood

-- so each is answered by the definition
pub fed_all : (entries : List Entry) (w : World) (bytes : List ℕ) (end : World) → w.begun ≡ true → AreFit entries → Stands w (map entry_line entries) bytes end
    → AreAnswered w (map entry_line entries) bytes end
fed_all [] w bytes end begun fit (none, ended) = (none, ended)
fed_all (e ∷ entries) w bytes end begun fit (reply, rest, middle, next, stood, goes, after, bytes_are, others) =
    let first = fed_first w e entries (entry_line e) reply middle begun fit refl stood in
    let then = fed_all entries next rest end (ap (λ (v : World). v.begun) after ∙ first.begun) (fit_tail e entries fit) others in
    (reply, rest, middle, next, first.fed, goes, after, bytes_are, then)

-- and none with a farewell
pub fed_on : (entries : List Entry) (first : List (List ℕ)) (line : List ℕ) (more : List (List ℕ)) (w middle end : World) (bytes : List ℕ) (reply : Reply)
    → w.begun ≡ true → AreFit entries → map entry_line entries ≡ first ++ line ∷ more → Stands w first bytes middle → HasOther IsStoodBy middle line reply end
    → is_farewell reply ≡ false
fed_on [] [] line more w middle end bytes reply begun fit are stands last = cc
fed_on [] (l ∷ first) line more w middle end bytes reply begun fit are stands last = cc
fed_on (e ∷ entries) [] line more w middle end bytes reply begun fit are (none, ended) last =
    let is : entry_line e ≡ line = cc in
    (fed_first w e entries line reply end begun fit is (subst (λ v. HasOther IsStoodBy v line reply end) ended last)).goes
fed_on (e ∷ entries) (l ∷ first) line more w middle end bytes reply begun fit are (s, rest, mid, next, stood, goes, after, bytes_are, others) last =
    let is : entry_line e ≡ l = cc in
    let others_are : map entry_line entries ≡ first ++ line ∷ more = cc in
    let fed = fed_first w e entries l s mid begun fit is stood in
    fed_on entries first line more next middle end rest reply (ap (λ (v : World). v.begun) after ∙ fed.begun) (fit_tail e entries fit) others_are others last
