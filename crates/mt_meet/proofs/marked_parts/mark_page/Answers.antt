use Rattle.std.proofs.Common.{◌≡◌, ⊎_elim, ℕ, Option, get_or, subst, sym, arith}
use Rattle.std.proofs.lemmas.Bool.{cases_lt}
use Rattle.std.specs.Int.{bit_at}
use Rattle.mt_meet.specs.Private.Boxing.{CrossesIn, IsCrossedIn, no_window}
use Rattle.mt_meet.specs.declared.boxes.Boxes.{Boxes}
use Rattle.mt_meet.specs.declared.subject.Window.{Window}
use Rattle.mt_meet.proofs.marked_parts.mark_page.Goals as goal

pub loop-number-preserved : goal.loop-number-preserved
loop-number-preserved c = λ place number part within below crossed one. ⊎_elim
    (λ early. c.mark_in.ensures.kept place part (c.loop-number.invariant place number part within early crossed one))
    (λ last. let same : number ≡ c.loop-number.number = omega (arith, last, below) in
    c.mark_in.ensures.own place part within
    (subst (λ (b : Option Boxes). CrossesIn (Window.bounds (get_or c.args.windows.now c.loop-number.number no_window)) b place) (sym c.get.ensures)
    (subst (λ (n : ℕ). IsCrossedIn c.args.page.now (get_or c.args.windows.now n no_window) place) same crossed))
    (subst (λ (n : ℕ). bit_at (Window.part (get_or c.args.windows.now n no_window)) part ≡ 1) same one))
    (cases_lt number c.loop-number.number)
