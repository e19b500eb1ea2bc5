-- How the members of an entry are read, step by step.
use Rattle.std.proofs.Common.{◌≡◌, ℕ, ℤ, pos, ◌-◌, ◌<◌, ◌≤◌, ◌^◌, Bool, true, false, map, List, [], ◌∷◌, codes, Option, Some, None, Result, Ok, refl, ap, ◌∙◌, arith}
use Rattle.std.specs.Bool.{⊤}
use Rattle.std.specs.Prelude.{◌&&◌, int_le, option_and_then}
use Rattle.std.specs.List.{AllByRecursion}
use Rattle.std.proofs.lemmas.Int.{ints}
use Rattle.serde_json.specs.Data.{Members, number}
use Rattle.serde_json.specs.Find.{get_member, of_integer}
use Rattle.mt_base.specs.declared.command.Command.{Command}
use Rattle.mt_base.specs.declared.command.Command.TheVariants as command
use Rattle.mt_base.specs.Bounds.{IsWithin}
use Rattle.mt_base.specs.Checks.{check_answer, judged, next}
use Rattle.mt_read.specs.declared.key.Fault.{Fault}
use Rattle.mt_read.specs.declared.origin.Origin.TheVariants as origins
use Rattle.mt_read.specs.declared.request.LineNo.{LineNo}
use Rattle.mt_read.specs.declared.word.Change.TheVariants as change
use Rattle.mt_read.specs.declared.word.EntryWord.{EntryWord}
use Rattle.mt_read.specs.declared.word.EntryWord.TheVariants as entries
use Rattle.mt_read.specs.Entry.{held_in, of_entry_word}
use Rattle.mt_read.specs.Field.{kind_check}
use Rattle.mt_read.specs.Line.{◌>>=◌, checked, keys_of, kinds, least_other, as_line_refusal, read_layout, unless_other, who_bounds, who_fields, who_in, word_text}
use Rattle.mt_read.specs.Table.{Layout, entry_layout}
use Rattle.mt_read.specs.Words.{entry_word_of}

pub tested : (low high z : ℤ) → IsWithin low high z → (int_le low z && int_le z high) ≡ true
tested low high z w = grind (arith, ints, w.least, w.most)

-- a number of things
pub counted : (low high n : ℕ) → low ≤ n → n ≤ high → (int_le (pos low) (pos n) && int_le (pos n) (pos high)) ≡ true
counted low high n l h = tested (pos low) (pos high) (pos n) (record { least = grind (arith, ints); most = grind (arith, ints) })

one_passes : {A : Type 0} (f : Fault) (b : Bool) (r : Result A Fault) → b ≡ true → next (check_answer (f, b)) r ≡ r
unfolding check_answer
one_passes f true r h = refl
one_passes f false r h = cc

passes : {A : Type 0} (cs : List (Fault × Bool)) (x : A) → AllByRecursion (λ c. c.1 ≡ true) cs → judged cs x ≡ Ok x
passes [] x h = refl
passes (c ∷ cs) x h = one_passes c.0 c.1 (judged cs x) h.0 ∙ passes cs x h.1

abbrev asked_by : ℕ → Command → ℕ × Command
asked_by who c = (who, c)

steps_are : (k l b : Result ⊤ Fault) (w : Result ℕ Fault) (who : ℕ) (q : Command) → k ≡ Ok (tt {0}) → l ≡ Ok (tt {0}) → b ≡ Ok (tt {0}) → w ≡ Ok who
    → (k >>= λ _. (l >>= λ _. (b >>= λ _. (w >>= λ n. (Ok (tt {0}) >>= λ _. Ok (asked_by n q)))))) ≡ Ok (asked_by who q)
steps_are k l b w who q e f g h = rw (e, f, g, h) refl

other_is : (o : Option (List ℕ)) (r : Result (ℕ × Command) LineNo) → o ≡ None → unless_other o r ≡ r
other_is None r e = refl
other_is (Some key) r e = cc

-- the word that an entry of a command has
abbrev pub word_for : Command → EntryWord
word_for (command.Plan call kind route at from level rvsm) = entries.Change change.Plan
word_for (command.External call straight) = entries.Change change.External
word_for (command.Drop call) = entries.Change change.Drop
word_for (command.Report call report) = entries.Change change.Report
word_for (command.Tick now) = entries.Change change.Tick
word_for (command.Renew call) = entries.Change change.Renew
word_for (command.Clear call clearance eff) = entries.Change change.Clear
word_for (command.Accept call clearance eff probed) = entries.Accepted
word_for (command.Tentative call clearance eff) = entries.Change change.Tentative
word_for (command.Withdraw call force) = entries.Change change.Withdraw
word_for (command.Commit call) = entries.Change change.Commit

-- Members have the fields of a command and no others, within their bounds, and hold that command and who asked for it.
pub record HoldCommand (ms : Members) (who : ℕ) (c : Command) : Type 0 where
  pub word : option_and_then entry_word_of (word_text ms) ≡ Some (word_for c)
  pub keys : least_other (keys_of origins.Entry (entry_layout (word_for c)).fields) ms ≡ None
  pub fields : AllByRecursion (λ c. c.1 ≡ true) (map (kind_check origins.Entry ms) (entry_layout (word_for c)).fields)
  pub bounds : AllByRecursion (λ c. c.1 ≡ true) ((entry_layout (word_for c)).bounds ms)
  pub asks : (entry_layout (word_for c)).asks ms ≡ c
  pub actor : get_member (codes "who") ms ≡ Some (number (of_integer (pos who)))

actor_stands : (ms : Members) (who : ℕ) → get_member (codes "who") ms ≡ Some (number (of_integer (pos who)))
    → kinds origins.Entry (who_fields origins.Entry) ms ≡ Ok (tt {0})
actor_stands ms who e = passes (map (kind_check origins.Entry ms) (who_fields origins.Entry)) (tt {0}) (rw e refl, tt)

actor_is : (ms : Members) (who : ℕ) → get_member (codes "who") ms ≡ Some (number (of_integer (pos who))) → who < 2 ^ 32
    → judged (who_bounds origins.Entry ms) (who_in origins.Entry ms) ≡ Ok who
actor_is ms who e h =
    let small : who ≤ 2 ^ 32 - 1 = omega (arith, h) in
    passes (who_bounds origins.Entry ms) (who_in origins.Entry ms) (rw e (counted 0 (2 ^ 32 - 1) who (omega arith) small), tt) ∙ rw e refl

row_read : (row : Layout Command) (ms : Members) (who : ℕ) (c : Command) → least_other (keys_of origins.Entry row.fields) ms ≡ None
    → AllByRecursion (λ c. c.1 ≡ true) (map (kind_check origins.Entry ms) row.fields) → AllByRecursion (λ c. c.1 ≡ true) (row.bounds ms) → row.asks ms ≡ c
    → get_member (codes "who") ms ≡ Some (number (of_integer (pos who))) → who < 2 ^ 32 → read_layout origins.Entry [] row ms ≡ Ok (who, c)
unfolding checked
row_read row ms who c keys fields bounds asks actor h =
    other_is (least_other (keys_of origins.Entry row.fields) ms) (as_line_refusal (checked origins.Entry [] row ms)) keys
    ∙ ap as_line_refusal (steps_are (kinds origins.Entry row.fields ms) (kinds origins.Entry (who_fields origins.Entry) ms) (judged (row.bounds ms) (tt {0}))
    (judged (who_bounds origins.Entry ms) (who_in origins.Entry ms)) who (row.asks ms) (passes (map (kind_check origins.Entry ms) row.fields) (tt {0}) fields) (actor_stands ms who actor)
    (passes (row.bounds ms) (tt {0}) bounds) (actor_is ms who actor h))
    ∙ ap (λ (q : Command). Ok (who, q)) asks

-- such members are read as that
pub is_held : (ms : Members) (who : ℕ) (c : Command) → HoldCommand ms who c → who < 2 ^ 32 → held_in ms ≡ Ok (who, c)
is_held ms who c r h =
    ap (of_entry_word ms) r.word ∙ row_read (entry_layout (word_for c)) ms who c r.keys r.fields r.bounds r.asks r.actor h
