use Rattle.std.proofs.Common.{◌≡◌, ◌/◌, ◌%◌, ◌∙◌, ⊎_elim, ℕ, None, Option, ap, get_or, subst, sym, unwrap_or, arith}
use Rattle.std.proofs.lemmas.Bool.{cases_eq}
use Rattle.mt_cover.specs.Sliced.{Have, Sliced, slice_at}
use Rattle.mt_meet.specs.Private.Boxing.{bounds_in}
use Rattle.mt_meet.specs.Private.Stepping.{IsBoxedBy}
use Rattle.mt_meet.specs.declared.boxes.Boxes.{Boxes}
use Rattle.mt_meet.specs.declared.steps.Bounds.{Bounds}
use Rattle.mt_meet.proofs.Crossing.{boxed_within}
use Rattle.mt_meet.proofs.Putting.{beside_on}
use Rattle.mt_meet.proofs.windows.put_slices.Goals as goal

pub loop-window-preserved : goal.loop-window-preserved
loop-window-preserved c =
    let put = c.in_ok-put_bounds.ensures in
    let so_far = c.loop-window.invariant in
    let s = c.args.slices.now in
    record {
      full = put.number ∙ so_far.full;
      own = λ k have below. ⊎_elim
          (λ here. subst (λ (b : Bounds). IsBoxedBy b s.rvsm (slice_at s k))
          (sym (ap (λ (w : ℕ). bounds_in (get_or c.put_bounds.new.page (w % 64) None) c.args.place) here ∙ put.own))
          (boxed_within c.boxed-bounds.result s.rvsm c.over_window.result (slice_at s k) (c.over_window.ensures.hold k have here)
          (rw c.rvsm.ensures at c.boxed-bounds.ensures)))
          (λ there.
          let window = c.windows_of-first.ensures.all k have in
          subst (λ (b : Option Boxes). IsBoxedBy (bounds_in b c.args.place) s.rvsm (slice_at s k))
          (sym (put.elsewhere (k / 256 % 64) (omega (arith, there, window.0, window.1, c.windows_of-first.ensures.few, c.loop-window.auto.window, c.loop-window-test.true))))
          (so_far.own k have (omega (arith, below, there))))
          (cases_eq (k / 256) c.loop-window.window);
      beside = beside_on _ c.loop-window.page c.put_bounds.new.page (c.loop-window.window % 64) c.args.place so_far.beside put.beside put.elsewhere;
    }

pub returns : goal.returns
returns c = record {
  full = c.loop-window.invariant.full;
  own = λ theirs k is have.
      let same : c.args.slices.now ≡ theirs = ap (λ (x : Option Sliced). unwrap_or x c.args.slices.now) is in
      let had : Have c.args.slices.now k = rw same have in
      rw (← same) (c.loop-window.invariant.own k had (omega (arith, (c.windows_of-first.ensures.all k had).1, c.loop-window-test.false)));
  beside = c.loop-window.invariant.beside;
}

pub over_window-requires : goal.over_window-requires
over_window-requires c = (c.windows_of-first.ensures.have c.loop-window.window c.loop-window.auto.window c.loop-window-test.true).0
