-- Steps of items and of subjects, as the code has them.
use Rattle.std.proofs.Common.{◌≡◌, ⊎_elim, Bool, ℤ, pos, neg_ℤ, ◌+ℤ◌, ◌-ℤ◌, ◌≤ℤ◌, arith}
use Rattle.std.proofs.lemmas.Int.{ints}
use Rattle.mt_base.specs.declared.rules.Rules.{Rules}
use Rattle.mt_base.specs.Bounds.{AreWithinBounds, IsWithin}
use Rattle.mt_cover.specs.declared.layer.Layer.{Layer}
use Rattle.mt_cover.specs.declared.sliced.Slice.{Slice}
use Rattle.mt_cover.specs.Layer.{IsLayerKept}
use Rattle.mt_track.proofs.Bits.{IsNear, in_32, near_32}
use Rattle.mt_meet.specs.Private.Stepping.{Enclose, IsBoxedBy, IsGuard, IsGuardedBy, IsReach, bounds_of, boxed_bounds, guard_bounds, wider_by}
use Rattle.mt_meet.specs.declared.steps.Bounds.{Bounds}

-- heights that may be rounded up
abbrev IsHeightNear : ℤ → Type 0
IsHeightNear z = IsWithin (neg_ℤ (pos 1200000)) (pos 4800000) z

record AreHeightsNear (layer : Layer) : Type 0 where
  low : IsHeightNear layer.low
  high : IsHeightNear layer.high

wider_near : (by : ℤ) (layer : Layer) → IsLayerKept layer → pos 0 ≤ℤ by → by ≤ℤ pos 600000 → AreHeightsNear (wider_by by layer)
wider_near by layer kept some few = record {
  low = record { least = omega (arith, ints, kept.low.least, few); most = omega (arith, ints, kept.low.most, some) };
  high = record { least = omega (arith, ints, kept.high.least, some); most = omega (arith, ints, kept.high.most, few) };
}

kept_near : (layer : Layer) → IsLayerKept layer → AreHeightsNear layer
kept_near layer kept = record {
  low = record { least = omega (arith, ints, kept.low.least); most = omega (arith, ints, kept.low.most) };
  high = record { least = omega (arith, ints, kept.high.least); most = omega (arith, ints, kept.high.most) };
}

reach_near : (approved : Bool) (layer reach : Layer) → IsLayerKept layer → IsReach approved layer reach → AreHeightsNear reach
reach_near approved layer reach kept = ⊎_elim
    (λ low. rw low.1 (kept_near layer kept))
    (λ far. let far_is : reach ≡ wider_by (pos 600000) layer = far in rw far_is (wider_near (pos 600000) layer kept (omega (arith, ints)) (omega (arith, ints))))

guard_near : (rules : Rules) (approved : Bool) (layer guard : Layer) → AreWithinBounds rules → IsLayerKept layer → IsGuard rules approved layer guard
    → AreHeightsNear guard
guard_near rules approved layer guard within kept =
    let least = within.sv.least in
    let most = within.sv.most in
    let more = within.sv2.least in
    let most2 = within.sv2.most in ⊎_elim
    (λ low. rw low.1 (wider_near (rules.sv -ℤ pos 1) layer kept (omega (arith, ints, least)) (omega (arith, ints, most))))
    (λ far. let far_is : guard ≡ wider_by (rules.sv2 -ℤ pos 1) layer = far in
    rw far_is (wider_near (rules.sv2 -ℤ pos 1) layer kept (omega (arith, ints, least, more)) (omega (arith, ints, most2))))

as_is : (z : ℤ) → IsHeightNear z → in_32 z ≡ z
as_is z near = near_32 z (record { least = omega (arith, ints, near.least); most = omega (arith, ints, near.most) })

-- a height that is rounded up
up_near : (z : ℤ) → IsHeightNear z → IsNear (z +ℤ pos 999)
up_near z near = record { least = omega (arith, ints, near.least); most = omega (arith, ints, near.most) }

up_is : (z : ℤ) → IsHeightNear z → in_32 (in_32 z +ℤ pos 999) ≡ z +ℤ pos 999
up_is z near = rw (as_is z near) (near_32 (z +ℤ pos 999) (up_near z near))

same : {b c : Bounds} → b ≡ c → Enclose b c
same is = rw is (record {
  west = omega (arith, ints);
  east = omega (arith, ints);
  south = omega (arith, ints);
  north = omega (arith, ints);
  low = omega (arith, ints);
  high = omega (arith, ints);
})

pub boxed_by : (b : Bounds) (approved : Bool) (s : Slice) (reach : Layer) → IsLayerKept s.layer → IsReach approved s.layer reach
    → b ≡ bounds_of s.x s.y (in_32 reach.low) (in_32 (in_32 reach.high +ℤ pos 999)) → IsBoxedBy b approved s
boxed_by b approved s reach kept reach_is is =
    let near = reach_near approved s.layer reach kept reach_is in
    let plain : b ≡ boxed_bounds s reach = rw (as_is reach.low near.low, up_is reach.high near.high) at is in
    record { reach = reach; reach_is = reach_is; enclose = same plain }

pub guarded_by : (rules : Rules) (b : Bounds) (approved : Bool) (s : Slice) (guard : Layer) → AreWithinBounds rules → IsLayerKept s.layer
    → IsGuard rules approved s.layer guard → b ≡ bounds_of s.x s.y (in_32 (in_32 guard.low +ℤ pos 999)) (in_32 guard.high) → IsGuardedBy rules b approved s
guarded_by rules b approved s guard within kept guard_is is =
    let near = guard_near rules approved s.layer guard within kept guard_is in
    let plain : b ≡ guard_bounds s guard = rw (up_is guard.low near.low, as_is guard.high near.high) at is in
    record { guard = guard; guard_is = guard_is; enclose = same plain }
