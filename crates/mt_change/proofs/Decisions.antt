-- Decisions, from the checks that are passed and the hits that are found.
use Rattle.std.proofs.Common.{◌≡◌, ℕ, List, [], ◌∷◌, Ok, Err, ◌∙◌, ap, inl, inr, refl, slice_get}
use Rattle.std.specs.Prelude.{⊤, Result}
use Rattle.mt_base.specs.declared.command.Command.{Command}
use Rattle.mt_base.specs.declared.command.Entry.{Entry}
use Rattle.mt_base.specs.declared.command.Refusal.{Refusal}
use Rattle.mt_base.specs.declared.command.Refusal.TheVariants.{Stale}
use Rattle.mt_base.specs.declared.hit.Hit.{Hit}
use Rattle.mt_base.specs.Checks.{judged, next}
use Rattle.mt_base.specs.Decision.{HasHits, IsDecided, checks, decision_of, filled, look_at}
use Rattle.mt_base.specs.Picture.{State}
use Rattle.mt_base.specs.Tables.{Setup}
use Rattle.mt_base.proofs.CheckLemmas.{judged-answer}
use Rattle.mt_change.specs.Deciding.{IsFirstHit}

-- the first of some hits
pub first_of_hits : (setup : Setup) (s : State) (command : Command) (hits : List Hit) → HasHits setup s command hits
    → IsFirstHit setup s command (slice_get hits 0)
first_of_hits setup s command [] has = has
first_of_hits setup s command (first ∷ others) has = (others, has)

module _ (setup : Setup) (s : State) (who : ℕ) (command : Command) where
  abbrev pub entry_of : Entry
  entry_of = record { who = who; command = filled s.now command }

  judge_is : (r : Result ⊤ Refusal) → judged (checks setup (look_at s command) who command) (tt {0}) ≡ r → decision_of setup s who command ≡ next r (Ok entry_of)
  judge_is r is = judged-answer (checks setup (look_at s command) who command) entry_of ∙ ap (λ (q : Result ⊤ Refusal). next q (Ok entry_of)) is

  -- a check fails
  pub refused : (refusal : Refusal) → judged (checks setup (look_at s command) who command) (tt {0}) ≡ Err refusal → IsDecided setup s who command (Err refusal)
  refused refusal is = inl (judge_is (Err refusal) is)

  -- none fails, and there is a hit
  pub stale : (first : Hit) → judged (checks setup (look_at s command) who command) (tt {0}) ≡ Ok (tt {0}) → (others : List Hit)
      → HasHits setup s command (first ∷ others) → IsDecided setup s who command (Err (Stale first))
  stale first is others has = inr (record {
    entry = entry_of;
    passed = judge_is (Ok (tt {0})) is;
    first = first;
    others = others;
    hits = has;
    refusal_is = refl;
  })

  -- none fails, and there is none
  pub entered : judged (checks setup (look_at s command) who command) (tt {0}) ≡ Ok (tt {0}) → HasHits setup s command []
      → IsDecided setup s who command (Ok entry_of)
  entered is none = (judge_is (Ok (tt {0})) is, none)
