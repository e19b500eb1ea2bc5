-- Renewals, as far as they went before memory was wanted.
use Rattle.std.proofs.Common.{◌≡◌, ◌⊎◌, ℕ, List, [], ◌∷◌, ◌++◌, Result, Ok, Err, sym, ◌∙◌, ap, append-nil}
use Rattle.std.specs.Prelude.{OnErr}
use Rattle.mt_memory.specs.declared.Memory.{Memory}
use Rattle.mt_base.specs.declared.command.Entry.{Entry}
use Rattle.mt_base.specs.Settled.{AreRenewed, IsPassedOver, IsRenewed, due_calls}
use Rattle.mt_base.specs.Effect.{state_of}
use Rattle.mt_base.specs.Tables.{Setup}
use Rattle.mt_world.specs.World.{IsSettledSoFar, World, setup_of}

-- some of these were renewed, in order
abbrev pub Part : Setup → ℕ → List (List ℕ) → List Entry → List Entry → Type 0
Part setup who calls h next = (done : List (List ℕ)) × (left : List (List ℕ)) × (calls ≡ done ++ left) × AreRenewed setup who done h next

pub part_more : {T : Type 0} (setup : Setup) (who : ℕ) (call : List ℕ) (calls rest : List (List ℕ)) (h between next : List Entry) (r : Result T Memory)
    → calls ≡ call ∷ rest → IsRenewed setup who call h between ⊎ IsPassedOver setup who call h between → OnErr r (Part setup who rest between next)
    → OnErr r (Part setup who calls h next)
part_more setup who call calls rest h between next (Ok x) is step part = tt
part_more setup who call calls rest h between next (Err e) is step part =
    (call ∷ part.0, part.1, is ∙ ap (λ (cs : List (List ℕ)). call ∷ cs) part.2, (between, step, part.3))

-- all of the flights that were due were renewed
pub all_settled : (w next : World) (who : ℕ) (calls : List (List ℕ)) → calls ≡ due_calls (state_of (setup_of w) w.history).records
    → AreRenewed (setup_of w) who calls w.history next.history → next ≡ record w { history = next.history } → IsSettledSoFar w who next
all_settled w next who calls due renewed is = record {
  history = next.history;
  part = record { done = calls; left = []; all = sym due ∙ sym (append-nil calls); renewed = renewed };
  next_is = is;
}
