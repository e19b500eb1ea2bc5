-- A worker's jobs, one more at a time.
use Rattle.std.proofs.Common.{◌≡◌, ℕ, List, [], ◌∷◌, ◌++◌, Option, Some, None, Result, refl, sym, ◌∙◌, ap, append_assoc, append-nil}
use Rattle.std.specs.Prelude.{IfSome}
use Rattle.mt_base.specs.declared.command.Command.TheVariants.{Renew}
use Rattle.mt_base.specs.declared.command.Entered.{Entered}
use Rattle.mt_board.specs.declared.no.No.{No}
use Rattle.mt_board.specs.Changing.{IsChanged}
use Rattle.mt_board.specs.BoardSeat.{BoardSeat}
use Rattle.mt_board.proofs.SeatLemmas.{renewals_add}
use Rattle.mt_workers.specs.Jobs.{AreTaken, AreJobsOver}
use Rattle.mt_workers.specs.Work.{HasWorkedAll}
use Rattle.mt_workers.specs.Private.Work.{HasWorked}

none_taken : (left : Option (List (List ℕ))) → AreTaken left left []
none_taken None = tt
none_taken (Some xs) = refl

taken_on : (a b c : Option (List (List ℕ))) (xs ys : List (List ℕ)) → AreTaken a b xs → AreTaken b c ys → AreTaken a c (xs ++ ys)
taken_on None b c xs ys ab bc = tt
taken_on (Some js) None c xs ys ab bc = absurd ab
taken_on (Some js) (Some bs) None xs ys ab bc = absurd bc
taken_on (Some js) (Some bs) (Some cs) xs ys ab bc = ab ∙ ap (λ s. xs ++ s) bc ∙ sym (append_assoc xs ys cs)

-- before the first job
pub idle : (left : Option (List (List ℕ))) (s : BoardSeat) → HasWorked left left s s
idle left s = record { calls = []; taken = none_taken left; results = []; renewed = refl }

-- one job more
pub works_on : (left now next : Option (List (List ℕ))) (s middle t : BoardSeat) (call : List ℕ) (r : Result Entered No)
    → HasWorked left now s middle → AreTaken now next (call ∷ []) → IsChanged middle (Renew call) r t → HasWorked left next s t
works_on left now next s middle t call r so_far taken changed = record {
  calls = so_far.calls ++ call ∷ [];
  taken = taken_on left now next so_far.calls (call ∷ []) so_far.taken taken;
  results = so_far.results ++ r ∷ [];
  renewed = renewals_add s middle t so_far.calls (call ∷ []) so_far.results (r ∷ []) so_far.renewed (t, changed, refl);
}

all_of : (left now end : Option (List (List ℕ))) (calls : List (List ℕ)) → AreTaken left now calls → AreTaken now end [] → AreJobsOver end → IfSome left (λ xs. xs ≡ calls)
all_of None now end calls taken last over = tt
all_of (Some xs) None end calls taken last over = absurd taken
all_of (Some xs) (Some ys) None calls taken last over = absurd last
all_of (Some xs) (Some ys) (Some zs) calls taken last over = taken ∙ rw (last, over) (append-nil calls)

-- no job is left
pub works_all : (left now end : Option (List (List ℕ))) (s t : BoardSeat) → HasWorked left now s t → AreTaken now end [] → AreJobsOver end → HasWorkedAll left s t
works_all left now end s t so_far last over = record {
  calls = so_far.calls;
  all = all_of left now end so_far.calls so_far.taken last over;
  results = so_far.results;
  renewed = so_far.renewed;
}
