-- What is open holds at a fraction strictly between two whole numbers exactly where it does at an instant of some second from the one to
-- the other.
use Rattle.std.proofs.Common.{◌≡◌, ℕ, ℤ, pos, ◌*ℤ◌, ◌<ℤ◌, ◌↔◌}
use Rattle.mt_frac.specs.declared.fraction.Frac.{Frac}
use Rattle.mt_frac.specs.FractionOrder.{IsBetween}
use Rattle.mt_frac.proofs.Openness.{HoldsInside, IsOpen}
use Rattle.mt_frac.proofs.Seconds.{inside_over}
use Rattle.mt_frac.specs.Instants.{HoldsIn}
use Rattle.mt_track.specs.Seconds.{HasSome}
use Rattle.mt_pair.specs.Private.Below.{HoldsBetween}

between_of : (lo hi : Frac) (low high : ℕ) (n d : ℤ) → lo.num ≡ pos low → lo.den ≡ pos 1 → hi.num ≡ pos high → hi.den ≡ pos 1
    → (pos low *ℤ d) <ℤ (n *ℤ pos 1) → (n *ℤ pos 1) <ℤ (pos high *ℤ d) → IsBetween lo hi n d
between_of lo hi low high n d lo_num lo_den hi_num hi_den after until =
    record { after = rw (lo_num, lo_den) after; until = rw (hi_num, hi_den) until }

pub between_over : (P : ℤ → ℤ → Type 0) → IsOpen P → (lo hi : Frac) (low high : ℕ) → lo.num ≡ pos low → lo.den ≡ pos 1 → hi.num ≡ pos high → hi.den ≡ pos 1
    → HoldsBetween P lo hi ↔ HasSome (HoldsIn P) low high
between_over P open_p lo hi low high lo_num lo_den hi_num hi_den =
    let same = inside_over P low high open_p in (
      (λ some.
          let inside : HoldsInside P (pos low) (pos 1) (pos high) (pos 1) = record {
            n = some.n;
            d = some.d;
            positive = some.positive;
            after = rw (lo_num, lo_den) at some.between.after;
            until = rw (hi_num, hi_den) at some.between.until;
            holds = some.holds;
          } in
          let over = same.0 inside in
          record { k = over.k; begun = over.begun; ahead = over.ahead; holds = over.holds }),
      (λ over.
          let inside = same.1 (record { k = over.k; begun = over.begun; ahead = over.ahead; holds = over.holds }) in
          record {
            n = inside.n;
            d = inside.d;
            positive = inside.positive;
            between = between_of lo hi low high inside.n inside.d lo_num lo_den hi_num hi_den inside.after inside.until;
            holds = inside.holds;
          }),
    )
