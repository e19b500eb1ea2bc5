-- An entry that is read says from when its clearance holds, since an entry has all its fields. So a moment fills in nothing.
use Rattle.std.proofs.Common.{◌≡◌, ℕ, ℤ, Bool, true, false, List, [], map, Result, Ok, Err, IsOk, refl, sym, ap, subst, unsigned_abs}
use Rattle.std.specs.Bool.{⊤}
use Rattle.std.specs.Prelude.{◌&&◌, Option, Some, None, is_some, option_and_then, option_map, IfOk}
use Rattle.std.specs.Option.{option_map_or}
use Rattle.serde_json.specs.Data.{Data, Members}
use Rattle.serde_json.specs.Find.{get_member}
use Rattle.mt_base.specs.declared.clearance.Clearance.{Clearance}
use Rattle.mt_base.specs.declared.command.Command.{Command}
use Rattle.mt_base.specs.declared.command.Command.TheVariants.{Clear, Tentative}
use Rattle.mt_base.specs.Checks.{judged}
use Rattle.mt_base.specs.Decision.{filled}
use Rattle.mt_base.proofs.CheckLemmas.{all_passed}
use Rattle.mt_json.specs.Field.{as_whole}
use Rattle.mt_read.specs.declared.key.Fault.{Fault}
use Rattle.mt_read.specs.declared.key.Key.TheVariants as key
use Rattle.mt_read.specs.declared.origin.Origin.TheVariants as origins
use Rattle.mt_read.specs.declared.request.LineNo.{LineNo}
use Rattle.mt_read.specs.declared.word.Change.{Change}
use Rattle.mt_read.specs.declared.word.Change.TheVariants as change
use Rattle.mt_read.specs.declared.word.EntryWord.{EntryWord}
use Rattle.mt_read.specs.declared.word.EntryWord.TheVariants as entries
use Rattle.mt_read.specs.Entry.{held_in, of_entry_word}
use Rattle.mt_read.specs.Field.{count_if_there, is_of, kind_check}
use Rattle.mt_read.specs.Key.{key_text}
use Rattle.mt_read.specs.Line.{◌>>=◌, GivesReading, checked, decoded, kinds, read_value, who_bounds, who_fields, who_in, word_text}
use Rattle.mt_read.specs.Table.{Layout, change_layout, clearance_fields, entry_layout}
use Rattle.mt_read.specs.Words.{entry_word_of}
use Rattle.mt_read.proofs.BoundedLines.{layout_holds, value_holds}

-- a moment fills in nothing
abbrev pub IsFull : Command → Type 0
IsFull c = (now : ℕ) → filled now c ≡ c

clear_full : (call : List ℕ) (clearance : Clearance) (eff : Option ℕ) → is_some eff ≡ true → IsFull (Clear call clearance eff)
clear_full call clearance None there now = cc
clear_full call clearance (Some eff) there now = refl

tentative_full : (call : List ℕ) (clearance : Clearance) (eff : Option ℕ) → is_some eff ≡ true → IsFull (Tentative call clearance eff)
tentative_full call clearance None there now = cc
tentative_full call clearance (Some eff) there now = refl

whole_there : (w : Option ℤ) → is_some w ≡ true → is_some (option_map unsigned_abs w) ≡ true
whole_there None there = cc
whole_there (Some z) there = refl

-- a second that must stand
second_there : (o : Option Data) → option_map_or (λ d. true && is_of as_whole d) o false ≡ true
    → is_some (option_map unsigned_abs (option_and_then as_whole o)) ≡ true
second_there None there = cc
second_there (Some d) there = whole_there (as_whole d) there

eff_there : (ms : Members) → IsOk (kinds origins.Entry clearance_fields ms) → is_some (count_if_there key.Eff ms) ≡ true
eff_there ms passed =
    second_there (get_member (key_text key.Eff) ms) (all_passed (map (kind_check origins.Entry ms) clearance_fields) (tt {0}) passed).1.1.1.0

change_full : (c : Change) (ms : Members) → IsOk (kinds origins.Entry (change_layout c).fields ms) → IsFull ((change_layout c).asks ms)
change_full change.Clear ms passed = clear_full _ _ (count_if_there key.Eff ms) (eff_there ms passed)
change_full change.Tentative ms passed = tentative_full _ _ (count_if_there key.Eff ms) (eff_there ms passed)
change_full c ms passed = λ now. refl

held_full : (w : EntryWord) (ms : Members) → IsOk (kinds origins.Entry (entry_layout w).fields ms) → IsFull ((entry_layout w).asks ms)
held_full (entries.Change c) ms passed = change_full c ms passed
held_full entries.Accepted ms passed = λ now. refl

-- the fields of what was read are there, and it is what they ask for
record Steps (fields_are : Result ⊤ Fault) (q : Command) (a : ℕ × Command) : Type 0 where
  fields_ok : IsOk fields_are
  asked_is : q ≡ a.1

steps : (k l b : Result ⊤ Fault) (who : Result ℕ Fault) (s : Result ⊤ Fault) (q : Command) (a : ℕ × Command)
    → (k >>= λ _. (l >>= λ _. (b >>= λ _. (who >>= λ n. (s >>= λ _. Ok (n, q)))))) ≡ Ok a → Steps k q a
steps (Ok _) (Ok _) (Ok _) (Ok n) (Ok _) q a e =
    let same : (n, q) ≡ a = cc in record { fields_ok = refl; asked_is = ap (λ (x : ℕ × Command). x.1) same }
steps (Err f) l b who s q a e = cc
steps (Ok _) (Err f) b who s q a e = cc
steps (Ok _) (Ok _) (Err f) who s q a e = cc
steps (Ok _) (Ok _) (Ok _) (Err f) s q a e = cc
steps (Ok _) (Ok _) (Ok _) (Ok n) (Err f) q a e = cc

abbrev no_more : List (Fault × Bool)
no_more = []

checked_steps : (row : Layout Command) (ms : Members) (a : ℕ × Command) → checked origins.Entry [] row ms ≡ Ok a
    → Steps (kinds origins.Entry row.fields ms) (row.asks ms) a
unfolding checked
checked_steps row ms a e =
    steps (kinds origins.Entry row.fields ms) (kinds origins.Entry (who_fields origins.Entry) ms) (judged (row.bounds ms) (tt {0}))
    (judged (who_bounds origins.Entry ms) (who_in origins.Entry ms)) (judged no_more (tt {0})) (row.asks ms) a e

abbrev pub HoldsFull : ℕ × Command → Type 0
HoldsFull a = IsFull a.1

row_full : (w : EntryWord) (ms : Members) (a : ℕ × Command) → checked origins.Entry [] (entry_layout w) ms ≡ Ok a → HoldsFull a
row_full w ms a e = let was = checked_steps (entry_layout w) ms a e in subst IsFull was.asked_is (held_full w ms was.fields_ok)

pub word_full : (ms : Members) (o : Option EntryWord) (a : ℕ × Command) → of_entry_word ms o ≡ Ok a → HoldsFull a
word_full ms None a e = cc
word_full ms (Some w) a e = layout_holds HoldsFull origins.Entry [] (entry_layout w) ms a (row_full w ms) e

-- a moment fills in nothing of what is read
pub held_answer_full : (bytes : List ℕ) (r : Result (ℕ × Command) LineNo) → GivesReading r (read_value held_in (decoded bytes)) → IfOk r HoldsFull
held_answer_full bytes (Ok a) e =
    value_holds HoldsFull held_in (decoded bytes) a (λ ms. word_full ms (option_and_then entry_word_of (word_text ms)) a) (sym e)
held_answer_full bytes (Err e) h = tt
