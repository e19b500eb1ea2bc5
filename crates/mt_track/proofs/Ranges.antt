-- Spans of a wider range, and values at instants of a later second.
use Rattle.std.proofs.Common.{◌≡◌, ℕ, ◌<◌, ◌≤◌, ℤ, ◌+ℤ◌, ◌*ℤ◌, Option, Some, None, arith}
use Rattle.mt_ring.proofs.Ring.{lin, spread}
use Rattle.mt_base.specs.Instant.{value_at}
use Rattle.mt_base.specs.Span.{IsSpan}

-- a range that leaves out only seconds without P
pub IsSpan-cut : (P : ℕ → Type 0) (from to begin end : ℕ) (span : Option (ℕ × ℕ)) → from ≤ begin → end ≤ to
    → ((k : ℕ) → from ≤ k → k < to → P k → (begin ≤ k) × (k < end)) → IsSpan P begin end span → IsSpan P from to span
IsSpan-cut P from to begin end None later sooner within cut = λ k low high at. let h = within k low high at in cut k h.0 h.1 at
IsSpan-cut P from to begin end (Some span) later sooner within cut = record {
  inside = (omega (arith, cut.inside.0), cut.inside.1, omega (arith, cut.inside.2));
  first_is = cut.first_is;
  last_is = cut.last_is;
  none_outside = λ k low high at. let h = within k low high at in cut.none_outside k h.0 h.1 at;
}

-- a value at an instant of a later second, by the row then and by the first row
pub moved : (z v k n d : ℤ) → value_at (z +ℤ v *ℤ k) v n d ≡ value_at z v (n +ℤ k *ℤ d) d
moved z v k n d = simp spread (omega (arith, lin))
