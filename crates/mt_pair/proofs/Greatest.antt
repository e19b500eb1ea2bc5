-- The numbers of the pair test are that great.
use Rattle.std.proofs.Common.{◌≡◌, refl, ⊎_elim, Bool, ℕ, ◌*◌, ◌+◌, ◌≤◌, ℤ, pos, neg_ℤ, ◌+ℤ◌, ◌-ℤ◌, ◌*ℤ◌, arith}
use Rattle.std.proofs.lemmas.Int.{ints}
use Rattle.std.proofs.lemmas.List.Elements.{All-from_recursion}
use Rattle.mt_ring.proofs.Signs.{square_nonneg}
use Rattle.mt_ring.proofs.Sizes.{Abs, abs_add, abs_lit, abs_mul, abs_sub, abs_to, abs_weaken}
use Rattle.mt_base.specs.Bounds.{AreWithinBounds, IsBoundedRow, IsWithin}
use Rattle.mt_base.specs.declared.row.Row.{Row}
use Rattle.mt_base.specs.declared.rules.Rules.{Rules}
use Rattle.mt_track.proofs.Strands.{IsBoundedRow-row_at}
use Rattle.mt_frac.specs.declared.linear.Linear.{Linear}
use Rattle.mt_frac.specs.declared.quadratic.Quad.{Quad}
use Rattle.mt_pair.specs.Gap.{above_of, excess_of, gain_of, gap_of, offset_of, product}
use Rattle.mt_pair.specs.Greatest.{AreCutsWithinSizes, AreWithinSizes, IsAtMost, IsFractionWithinSizes, NumbersFit, vertical_lines}
use Rattle.mt_pair.specs.High.{level_of}
use Rattle.mt_pair.proofs.Gaps.{level_size}
use Rattle.mt_pair.proofs.Sizes.{least_size, row_sizes, sh_size, sv2_kept}

-- to and from
at_most : {m : ℕ} {z : ℤ} → Abs m z → IsAtMost m z
at_most {m} {z} h = record { least = h.low; most = h.high }

-- a sum of two squares less a third is between what the third and what the two can be
squares : {m n : ℕ} {x y w : ℤ} → Abs m x → Abs m y → Abs n w → n * n ≤ m * m + m * m → Abs (m * m + m * m) (x *ℤ x +ℤ y *ℤ y -ℤ w *ℤ w)
squares {m} {n} {x} {y} {w} f g h less =
    let two = abs_add (abs_mul f f) (abs_mul g g) in
    let third = abs_mul h h in
    record {
      low = omega (arith, ints, third.high, square_nonneg x, square_nonneg y, less);
      high = omega (arith, ints, two.high, square_nonneg w);
    }

-- two heights differ by at most the greatest one
between : {y z : ℤ} → IsWithin (pos 0) (pos 3600000) y → IsWithin (pos 0) (pos 3600000) z → Abs 3600000 (z -ℤ y)
between {y} {z} f g = record { low = omega (arith, ints, f.most, g.least); high = omega (arith, ints, f.least, g.most) }

-- how great the numbers of a line and of the quadratic are
record LineSizes (line : Linear) : Type 0 where
  b : Abs 40000 line.b
  c : Abs 7200000 line.c

record QuadSizes (gap : Quad) : Type 0 where
  a : Abs 8000000 gap.a
  b : Abs 59846400000 gap.b
  c : Abs 108716359680000 gap.c

-- the quadratic at a fraction of that size
at_fraction : (gap : Quad) (num den : ℤ) → QuadSizes gap → Abs 7200000 num → Abs 40000 den → IsFractionWithinSizes gap num den
at_fraction gap num den g n d = record {
  denominator = at_most d;
  numerator = let size = abs_to _ _ n in omega (arith, size);
  value_there = let size = abs_to _ _ (abs_add (abs_add (abs_mul (abs_mul g.a n) n) (abs_mul (abs_mul g.b n) d)) (abs_mul (abs_mul g.c d) d)) in omega (arith, size);
}

turned : {m : ℕ} {y z : ℤ} → y ≡ neg_ℤ z → Abs m z → Abs m y
turned {m} {y} {z} is h = omega (arith, ints, is, h.low, h.high)

same : {m : ℕ} {y z : ℤ} → y ≡ z → Abs m z → Abs m y
same {m} {y} {z} is h = omega (arith, ints, is, h.low, h.high)

cuts : (gap : Quad) (line : Linear) → QuadSizes gap → LineSizes line → AreCutsWithinSizes gap line
cuts gap line g l num den cut = ⊎_elim
    (λ rising. at_fraction gap num den g (turned rising.0 l.c) (same rising.1 l.b))
    (λ falling. at_fraction gap num den g (same falling.0 l.c) (turned falling.1 l.b))
    cut.is

excess_sizes : (least : ℤ) (a b : Row) → IsWithin (pos 1) (pos 600000) least → IsBoundedRow a → IsBoundedRow b → LineSizes (excess_of least a b)
excess_sizes least a b least_kept a_kept b_kept =
    let h = row_sizes a a_kept in
    let k = row_sizes b b_kept in
    record {
      b = abs_sub (abs_sub (abs_sub k.vz h.vz) h.gw) k.gw;
      c = abs_weaken (abs_sub (abs_sub (abs_sub (between a_kept.z.value b_kept.z.value) (least_size least least_kept)) h.w) k.w) (omega arith);
    }

above_sizes : (approved : Bool) (a : Row) → IsBoundedRow a → LineSizes (above_of (level_of approved) a)
above_sizes approved a kept =
    let h = row_sizes a kept in
    record { b = abs_weaken (turned refl h.vz) (omega arith); c = abs_sub (level_size approved) h.z }

sizes : (rules : Rules) (a b : Row) → AreWithinBounds rules → IsBoundedRow a → IsBoundedRow b → AreWithinSizes rules a b
sizes rules a b rules_kept a_kept b_kept =
    let h = row_sizes a a_kept in
    let k = row_sizes b b_kept in
    let x = abs_sub k.x h.x in
    let y = abs_sub k.y h.y in
    let width : Abs 216000 (rules.sh +ℤ a.r +ℤ b.r) = abs_add (abs_add (sh_size rules rules_kept) h.r) k.r in
    let vx = abs_sub k.vx h.vx in
    let vy = abs_sub k.vy h.vy in
    let gain = abs_add h.gr k.gr in
    let leading : Abs 8000000 (product (gain_of a b) (gain_of a b)) = squares vx vy gain (omega arith) in
    let middle : Abs 59846400000 (pos 2 *ℤ product (offset_of rules a b) (gain_of a b)) =
    abs_mul (abs_lit 2) (abs_sub (abs_add (abs_mul x vx) (abs_mul y vy)) (abs_mul width gain)) in
    let constant : Abs 108716359680000 (product (offset_of rules a b) (offset_of rules a b)) = squares x y width (omega arith) in
    let gap : QuadSizes (gap_of rules a b) = record { a = leading; b = middle; c = constant } in
    let greater = sv2_kept rules rules_kept in
    let sv2 = least_size rules.sv2 greater in
    record {
      x = at_most x;
      y = at_most y;
      vx = at_most vx;
      vy = at_most vy;
      width = at_most width;
      width_gain = at_most gain;
      height = at_most (abs_sub (abs_sub (abs_sub (between a_kept.z.value b_kept.z.value) sv2) h.w) k.w);
      height_gain = at_most (abs_sub (abs_sub (abs_sub k.vz h.vz) h.gw) k.gw);
      leading = at_most leading;
      middle = at_most middle;
      constant = at_most constant;
      discriminant = let size = abs_to _ _ (abs_sub (abs_mul middle middle) (abs_mul (abs_mul (abs_lit 4) leading) constant)) in omega (arith, size);
      wholes = λ k short. at_fraction (gap_of rules a b) (pos k) (pos 1) gap (record { low = omega (arith, ints); high = omega (arith, ints, short) })
          (record { low = omega (arith, ints); high = omega (arith, ints) });
      cuts = λ approved. All-from_recursion (AreCutsWithinSizes (gap_of rules a b)) (vertical_lines rules (level_of approved) a b) (
        cuts _ _ gap (excess_sizes rules.sv a b rules_kept.sv a_kept b_kept),
        (
          cuts _ _ gap (excess_sizes rules.sv b a rules_kept.sv b_kept a_kept),
          (
            cuts _ _ gap (excess_sizes rules.sv2 a b greater a_kept b_kept),
            (
              cuts _ _ gap (excess_sizes rules.sv2 b a greater b_kept a_kept),
              (
                cuts _ _ gap (above_sizes approved a a_kept),
                (
                  cuts _ _ gap (above_sizes approved b b_kept),
                  tt,
                ),
              ),
            ),
          ),
        ),
      );
    }

pub numbers_fit : NumbersFit
numbers_fit rules a b k one other rules_kept a_kept b_kept one_at other_at =
    sizes rules one other rules_kept (IsBoundedRow-row_at a k one a_kept one_at) (IsBoundedRow-row_at b k other b_kept other_at)
