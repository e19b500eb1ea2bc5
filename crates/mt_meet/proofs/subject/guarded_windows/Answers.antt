use Rattle.std.proofs.Common.{ap, subst, sym, ◌≡◌, ◌<◌, ◌/◌, ◌-◌, ◌%◌, ⊎_elim, ℕ, List, [], ◌∷◌, ◌++◌, get_or, length, length-append, arith}
use Rattle.std.proofs.lemmas.Bool.{cases_lt}
use Rattle.std.proofs.lemmas.List.{get_or_append_left, get_or_push}
use Rattle.mt_base.specs.declared.rules.Rules.{Rules}
use Rattle.mt_cover.specs.Sliced.{Sliced, slice_at}
use Rattle.std.specs.Int.{bit_at}
use Rattle.mt_meet.specs.Searching.{part_at, windows_a_part}
use Rattle.mt_meet.specs.Private.Boxing.{IsGuardedAt, no_window}
use Rattle.mt_meet.specs.Private.Stepping.{IsGuardedBy}
use Rattle.mt_meet.specs.declared.subject.Window.{Window}
use Rattle.mt_meet.proofs.Crossing.{guarded_within}
use Rattle.mt_meet.proofs.subject.guarded_windows.Goals as goal

few_more : (windows : List Window) (own : Window) → ((place : ℕ) → place < length windows → Window.remainder (get_or windows place no_window) < 64)
    → Window.remainder own < 64 → (place : ℕ) → place < length (windows ++ own ∷ []) → Window.remainder (get_or (windows ++ own ∷ []) place no_window) < 64
few_more windows own before few place within = ⊎_elim
    (λ early. rw (get_or_append_left windows (own ∷ []) no_window place early) (before place early))
    (λ last. rw (get_or_push windows own no_window place (let more = length-append windows (own ∷ []) in omega (arith, more, within, last))) few)
    (cases_lt place (length windows))

guarded_before : (rules : Rules) (s : Sliced) (windows : List Window) (own : Window) (k : ℕ) → IsGuardedAt rules s windows k
    → IsGuardedAt rules s (windows ++ own ∷ []) k
guarded_before rules s windows own k at = record {
  place = at.place;
  within = (let more = length-append windows (own ∷ []) in omega (arith, more, at.within));
  remainder_is = rw (get_or_append_left windows (own ∷ []) no_window at.place at.within) at.remainder_is;
  part_is = rw (get_or_append_left windows (own ∷ []) no_window at.place at.within) at.part_is;
  guarded = rw (get_or_append_left windows (own ∷ []) no_window at.place at.within) at.guarded;
}

guarded_last : (rules : Rules) (s : Sliced) (windows : List Window) (own : Window) (k : ℕ) → Window.remainder own ≡ k / 256 % 64
    → bit_at (Window.part own) (part_at s k) ≡ 1 → IsGuardedBy rules (Window.bounds own) s.rvsm (slice_at s k) → IsGuardedAt rules s (windows ++ own ∷ []) k
guarded_last rules s windows own k is part guarded = record {
  place = length windows;
  within = (let more = length-append windows (own ∷ []) in omega (arith, more));
  remainder_is = rw (get_or_push windows own no_window (length windows) (omega arith)) is;
  part_is = rw (get_or_push windows own no_window (length windows) (omega arith)) part;
  guarded = rw (get_or_push windows own no_window (length windows) (omega arith)) guarded;
}

pub loop-window-preserved : goal.loop-window-preserved
loop-window-preserved c =
    let s = c.args.slices.now in
    let windows = c.loop-window.windows.items in
    let so_far = c.loop-window.invariant in
    rw c.in_ok-push.ensures.items (record {
      few = few_more windows _ so_far.few (omega arith);
      each = λ k have below. ⊎_elim
          (λ early. guarded_before c.args.rules.now s windows _ k (so_far.each k have early))
          (λ last.
          let here : k / 256 ≡ c.loop-window.window = omega (arith, below, last) in
          guarded_last c.args.rules.now s windows _ k (ap (λ (w : ℕ). w % 64) (sym here))
          (subst (λ (w : ℕ). bit_at c.part_of.result ((w - s.from / 256) / windows_a_part s) ≡ 1) (sym here) c.part_of.ensures)
          (guarded_within c.args.rules.now c.guarded.result s.rvsm c.over_window.result (slice_at s k) (c.over_window.ensures.hold k have here)
          (rw c.rvsm.ensures at c.guarded.ensures)))
          (cases_lt (k / 256) c.loop-window.window);
    })

pub over_window-requires : goal.over_window-requires
over_window-requires c = (c.windows_of-first.ensures.have c.loop-window.window c.loop-window.auto.window c.loop-window-test.true).0

pub part_of-requires : goal.part_of-requires
part_of-requires c = (c.windows_of-first.ensures.have c.loop-window.window c.loop-window.auto.window c.loop-window-test.true).0
