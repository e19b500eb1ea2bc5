-- Steps: what meets crosses.
use Rattle.std.proofs.Common.{◌≡◌, ◌≤◌, ◌/◌, ◌&&◌, inl, inr, ⊎_elim, Bool, true, ℕ, ℤ, pos, negsuc, neg_ℤ, ◌+ℤ◌, ◌-ℤ◌, ◌≤ℤ◌, refl, arith}
use Rattle.std.proofs.lemmas.Int.{ints, clamps}
use Rattle.std.specs.Int.{int_max, int_min}
use Rattle.std.specs.Prelude.{unsigned_abs}
use Rattle.mt_ring.proofs.Signs.{cases_lt}
use Rattle.mt_base.specs.declared.rules.Rules.{Rules}
use Rattle.mt_base.specs.Bounds.{AreWithinBounds}
use Rattle.mt_cover.specs.declared.layer.Layer.{Layer}
use Rattle.mt_cover.specs.declared.sliced.Slice.{Slice}
use Rattle.mt_cover.specs.Sliced.{Holds}
use Rattle.mt_pair.specs.High.{level_of}
use Rattle.mt_meet.specs.Heights.{EndBelow, LieApart}
use Rattle.mt_meet.specs.Meeting.{SlicesMeet}
use Rattle.mt_meet.specs.Private.Stepping.{Cross, Enclose, IsBoxedBy, IsGuard, IsGuardedBy, IsBelowTop, IsReach, bounds_of, boxed_bounds, guard_bounds, height_step, step, wider_by}
use Rattle.mt_meet.specs.declared.steps.Bounds.{Bounds}

abs_rises : (a b : ℤ) → pos 0 ≤ℤ a → a ≤ℤ b → unsigned_abs a ≤ unsigned_abs b
abs_rises (pos m) (pos n) some more = omega (arith, ints, more)
abs_rises (pos m) (negsuc n) some more = absurd (omega (arith, ints, more))
abs_rises (negsuc m) b some more = absurd (omega (arith, ints, some))

quotient_rises : (m n : ℕ) → m ≤ n → m / 1024 ≤ n / 1024
quotient_rises m n more = omega (arith, more)

thousandth_rises : (m n : ℕ) → m ≤ n → m / 1000 ≤ n / 1000
thousandth_rises m n more = omega (arith, more)

-- a greater value is in no lesser step
pub step_rises : (y z : ℤ) → y ≤ℤ z → pos (step y) ≤ℤ pos (step z)
step_rises y z more =
    let rises = quotient_rises _ _ (abs_rises (int_min (int_max y (neg_ℤ (pos 16777216))) (pos 16777215) +ℤ pos 16777216)
    (int_min (int_max z (neg_ℤ (pos 16777216))) (pos 16777215) +ℤ pos 16777216) (omega (arith, ints, clamps)) (omega (arith, ints, clamps, more))) in
    omega (arith, ints, rises)

pub height_rises : (y z : ℤ) → y ≤ℤ z → pos (height_step y) ≤ℤ pos (height_step z)
height_rises y z more =
    let rises = thousandth_rises _ _ (abs_rises (int_min (int_max y (neg_ℤ (pos 16000000))) (pos 15999999) +ℤ pos 16000000)
    (int_min (int_max z (neg_ℤ (pos 16000000))) (pos 15999999) +ℤ pos 16000000) (omega (arith, ints, clamps)) (omega (arith, ints, clamps, more))) in
    omega (arith, ints, rises)

on : {a b c : Bounds} → Enclose a b → Enclose b c → Enclose a c
on h g = record {
  west = omega (arith, ints, h.west, g.west);
  east = omega (arith, ints, h.east, g.east);
  south = omega (arith, ints, h.south, g.south);
  north = omega (arith, ints, h.north, g.north);
  low = omega (arith, ints, h.low, g.low);
  high = omega (arith, ints, h.high, g.high);
}

-- what a slice holds lies between its steps, where the heights do
enclosed : (wide s : Slice) (low least high most : ℤ) → Holds wide s → low ≤ℤ least → most ≤ℤ high → Enclose (bounds_of wide.x wide.y low high) (bounds_of s.x s.y least most)
enclosed wide s low least high most holds more less = record {
  west = step_rises wide.x.low s.x.low holds.x.low;
  east = step_rises s.x.high wide.x.high holds.x.high;
  south = step_rises wide.y.low s.y.low holds.y.low;
  north = step_rises s.y.high wide.y.high holds.y.high;
  low = height_rises low least more;
  high = height_rises most high less;
}

low_within : (approved : Bool) (wide s : Layer) → s.high ≤ℤ wide.high → IsBelowTop approved wide → IsBelowTop approved s
low_within approved wide s high low = record { approved_is = low.approved_is; below = omega (arith, ints, high, low.below) }

wider_low : (by y z : ℤ) → y ≤ℤ z → (y -ℤ by) ≤ℤ (z -ℤ by)
wider_low by y z more = omega (arith, ints, more)

wider_high : (by y z : ℤ) → y ≤ℤ z → (y +ℤ by) ≤ℤ (z +ℤ by)
wider_high by y z more = omega (arith, ints, more)

boxed_enclosed : (wide s : Slice) (a b : Layer) → Holds wide s → a.low ≤ℤ b.low → b.high ≤ℤ a.high → Enclose (boxed_bounds wide a) (boxed_bounds s b)
boxed_enclosed wide s a b holds low high = enclosed wide s a.low b.low (a.high +ℤ pos 999) (b.high +ℤ pos 999) holds low (wider_high (pos 999) b.high a.high high)

guard_enclosed : (wide s : Slice) (a b : Layer) → Holds wide s → a.low ≤ℤ b.low → b.high ≤ℤ a.high → Enclose (guard_bounds wide a) (guard_bounds s b)
guard_enclosed wide s a b holds low high = enclosed wide s (a.low +ℤ pos 999) (b.low +ℤ pos 999) a.high b.high holds (wider_high (pos 999) a.low b.low low) high

-- heights that reach farther by so much hold those of what a slice holds
wider_held : (by : ℤ) (wide s : Slice) → Holds wide s → ((wide.layer.low -ℤ by) ≤ℤ (s.layer.low -ℤ by)) × ((s.layer.high +ℤ by) ≤ℤ (wide.layer.high +ℤ by))
wider_held by wide s holds = (wider_low by wide.layer.low s.layer.low holds.low, wider_high by s.layer.high wide.layer.high holds.high)

pub boxed_within : (b : Bounds) (approved : Bool) (wide s : Slice) → Holds wide s → IsBoxedBy b approved wide → IsBoxedBy b approved s
boxed_within b approved wide s holds by =
    let far = wider_held (pos 600000) wide s holds in ⊎_elim
    (λ low. record {
      reach = s.layer;
      reach_is = inl (low_within approved wide.layer s.layer holds.high low.0, refl);
      enclose = on by.enclose (boxed_enclosed wide s by.reach s.layer holds (rw low.1 holds.low) (rw low.1 holds.high));
    })
    (λ high. record {
      reach = wider_by (pos 600000) s.layer;
      reach_is = inr refl;
      enclose = on by.enclose (boxed_enclosed wide s by.reach (wider_by (pos 600000) s.layer) holds (rw high far.0) (rw high far.1));
    })
    by.reach_is

pub guarded_within : (rules : Rules) (b : Bounds) (approved : Bool) (wide s : Slice) → Holds wide s → IsGuardedBy rules b approved wide → IsGuardedBy rules b approved s
guarded_within rules b approved wide s holds by =
    let near = wider_held (rules.sv -ℤ pos 1) wide s holds in
    let far = wider_held (rules.sv2 -ℤ pos 1) wide s holds in ⊎_elim
    (λ low. record {
      guard = wider_by (rules.sv -ℤ pos 1) s.layer;
      guard_is = inl (low_within approved wide.layer s.layer holds.high low.0, refl);
      enclose = on by.enclose (guard_enclosed wide s by.guard (wider_by (rules.sv -ℤ pos 1) s.layer) holds (rw low.1 near.0) (rw low.1 near.1));
    })
    (λ high. record {
      guard = wider_by (rules.sv2 -ℤ pos 1) s.layer;
      guard_is = inr refl;
      enclose = on by.enclose (guard_enclosed wide s by.guard (wider_by (rules.sv2 -ℤ pos 1) s.layer) holds (rw high far.0) (rw high far.1));
    })
    by.guard_is

between : (a b c d : ℤ) → a ≤ℤ b → b ≤ℤ c → c ≤ℤ d → a ≤ℤ d
between a b c d p q r = omega (arith, ints, p, q, r)

not_far : (least y z : ℤ) → ¬ (least ≤ℤ (y -ℤ z)) → y ≤ℤ (z +ℤ (least -ℤ pos 1))
not_far least y z near = ⊎_elim (λ less. omega (arith, ints, less)) (λ far. absurd (near far)) (cases_lt (y -ℤ z) least)

-- the heights by which two are found and looked for have one in common, unless the two lie apart
record InCommon (guard reach : Layer) : Type 0 where
  low : guard.low ≤ℤ reach.high
  high : reach.low ≤ℤ guard.high

in_common : (rules : Rules) (left right : Bool) (a b guard reach : Layer) → AreWithinBounds rules → ¬ LieApart rules (level_of (left && right)) a b
    → IsGuard rules left a guard → IsReach right b reach → InCommon guard reach
in_common rules left right a b guard reach kept near guard_is reach_is =
    let above = not_far rules.sv2 a.low b.high (λ far. near (inl (inr far))) in
    let below = not_far rules.sv2 b.low a.high (λ far. near (inl (inl far))) in
    let sv = kept.sv.least in
    let sv2 = kept.sv2.most in ⊎_elim
    (λ low. ⊎_elim
    (λ other.
    let level : level_of (left && right) ≡ level_of true = rw (low.0.approved_is, other.0.approved_is) refl in
    let ends : EndBelow (level_of (left && right)) a b = record { first = rw level low.0.below; second = rw level other.0.below } in
    let over = not_far rules.sv a.low b.high (λ far. near (inr (ends, inr far))) in
    let under = not_far rules.sv b.low a.high (λ far. near (inr (ends, inl far))) in
    record { low = rw (low.1, other.1) (omega (arith, ints, over)); high = rw (low.1, other.1) (omega (arith, ints, under)) })
    (λ wide. let far : reach ≡ wider_by (pos 600000) b = wide in record { low = rw (low.1, far) (omega (arith, ints, above, sv, sv2)); high = rw (low.1, far) (omega (arith, ints, below, sv, sv2)) })
    reach_is)
    (λ far. let guard_far : guard ≡ wider_by (rules.sv2 -ℤ pos 1) a = far in ⊎_elim
    (λ other. record { low = rw (guard_far, other.1) (omega (arith, ints, above)); high = rw (guard_far, other.1) (omega (arith, ints, below)) })
    (λ wide. let reach_far : reach ≡ wider_by (pos 600000) b = wide in
    record { low = rw (guard_far, reach_far) (omega (arith, ints, above)); high = rw (guard_far, reach_far) (omega (arith, ints, below)) })
    reach_is)
    guard_is

-- two slices that meet have steps in common
pub crossing : (rules : Rules) (left right : Bool) (a b : Slice) (p q : Bounds) → AreWithinBounds rules → SlicesMeet rules (left && right) a b
    → IsGuardedBy rules p left a → IsBoxedBy q right b → Cross p q
crossing rules left right a b p q kept meet mine theirs =
    let heights = in_common rules left right a.layer b.layer mine.guard theirs.reach kept meet.heights mine.guard_is theirs.reach_is in
    record {
      west = between _ _ _ _ mine.enclose.west (step_rises a.x.low b.x.high meet.touch.x.left) theirs.enclose.east;
      east = between _ _ _ _ theirs.enclose.west (step_rises b.x.low a.x.high meet.touch.x.right) mine.enclose.east;
      south = between _ _ _ _ mine.enclose.south (step_rises a.y.low b.y.high meet.touch.y.left) theirs.enclose.north;
      north = between _ _ _ _ theirs.enclose.south (step_rises b.y.low a.y.high meet.touch.y.right) mine.enclose.north;
      low = between _ _ _ _ mine.enclose.low (height_rises (mine.guard.low +ℤ pos 999) (theirs.reach.high +ℤ pos 999) (wider_high (pos 999) mine.guard.low theirs.reach.high heights.low)) theirs.enclose.high;
      high = between _ _ _ _ theirs.enclose.low (height_rises theirs.reach.low mine.guard.high heights.high) mine.enclose.high;
    }
