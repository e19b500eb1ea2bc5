-- A conflict over all seconds, and the one in a window; and that a loss doesn't tell which of the two comes first.
use Rattle.std.proofs.Common.{◌≡◌, max, min, Option, Some, None, ◌&&◌, ◌⊎◌, inl, inr, ⊎_elim, refl, sym, ◌∙◌, ap, not, true≢false, Bool, true, ℕ, ◌+◌, ◌<◌, ◌≤◌, ℤ, ◌+ℤ◌, ◌-ℤ◌, ◌*ℤ◌, ◌<ℤ◌, neg_ℤ, false, arith}
use Rattle.std.proofs.lemmas.Bool.{and_from, and_parts, cases_Bool}
use Rattle.std.proofs.lemmas.Bool.Decides.{nat_tests}
use Rattle.mt_ring.proofs.Ring.{lin, spread}
use Rattle.mt_base.specs.declared.row.Row.{Row}
use Rattle.mt_base.specs.declared.rules.Rules.{Rules}
use Rattle.mt_base.specs.Conflict.{IsConflict, IsLossSecond, IsSpanOfLoss}
use Rattle.mt_base.specs.Instant.{value_at}
use Rattle.mt_base.specs.Loss.{IsNearAt, LosesAt}
use Rattle.mt_base.specs.Picture.{window_end}
use Rattle.mt_base.specs.Trajectory.{Trajectory}
use Rattle.mt_edges.specs.declared.edge.Edge.{Edge}
use Rattle.mt_base.specs.Trajectory.{horizon}
use Rattle.mt_base.specs.Span.{IsSolid}
use Rattle.mt_kept.specs.Losing.{IsSolidAsSaid}
use Rattle.mt_kept.specs.Window.{IsOpen, straddles}
use Rattle.mt_kept.specs.Private.Made.{borders, is_tested, span_within, window_last}

-- the loss of two rows at an instant, over plain numbers
across : (p q r s w v z : ℤ) → ((q -ℤ p) *ℤ (q -ℤ p) +ℤ (s -ℤ r) *ℤ (s -ℤ r)) <ℤ ((w +ℤ v +ℤ z) *ℤ (w +ℤ v +ℤ z))
    → ((p -ℤ q) *ℤ (p -ℤ q) +ℤ (r -ℤ s) *ℤ (r -ℤ s)) <ℤ ((w +ℤ z +ℤ v) *ℤ (w +ℤ z +ℤ v))
across p q r s w v z h = simp spread (omega (arith, lin, simp spread at h))

above : (p q w v z : ℤ) → neg_ℤ (q -ℤ p) <ℤ (w +ℤ v +ℤ z) → (p -ℤ q) <ℤ (w +ℤ z +ℤ v)
above p q w v z h = omega (arith, lin)

below : (p q w v z : ℤ) → (q -ℤ p) <ℤ (w +ℤ v +ℤ z) → neg_ℤ (p -ℤ q) <ℤ (w +ℤ z +ℤ v)
below p q w v z h = omega (arith, lin)

IsNearAt-sym : (least : ℤ) (a b : Row) (n d : ℤ) → IsNearAt least a b n d → IsNearAt least b a n d
IsNearAt-sym least a b n d near = record {
  above = below (value_at a.z a.vz n d) (value_at b.z b.vz n d) (least *ℤ d) (value_at a.w a.gw n d) (value_at b.w b.gw n d) near.below;
  below = above (value_at a.z a.vz n d) (value_at b.z b.vz n d) (least *ℤ d) (value_at a.w a.gw n d) (value_at b.w b.gw n d) near.above;
}

swapped : {P Q : Type 0} → P ⊎ Q → Q ⊎ P
swapped some = ⊎_elim inr inl some

not_both : (pa pb : Bool) → (pa && pb) ≡ false → (pb && pa) ≡ false
not_both true true none = none
not_both true false none = refl
not_both false true none = refl
not_both false false none = refl

pub LosesAt-sym : (rules : Rules) (pa pb : Bool) (a b : Row) (n d : ℤ) → LosesAt rules pa pb a b n d → LosesAt rules pb pa b a n d
LosesAt-sym rules pa pb a b n d loss = record {
  horizontal = across (value_at a.x a.vx n d) (value_at b.x b.vx n d) (value_at a.y a.vy n d) (value_at b.y b.vy n d)
      (rules.sh *ℤ d) (value_at a.r a.gr n d) (value_at b.r b.gr n d) loss.horizontal;
  vertical = ⊎_elim (λ near. inl (IsNearAt-sym rules.sv a b n d near))
      (λ high. ⊎_elim (λ most. inr (inl (IsNearAt-sym rules.sv2 a b n d most.0, swapped most.1)))
      (λ some. inr (inr (IsNearAt-sym rules.sv2 a b n d some.0, not_both pa pb some.1, swapped some.2))) high)
      loss.vertical;
}

pub IsLossSecond-sym : (rules : Rules) (a b : Trajectory) (k : ℕ) → IsLossSecond rules a b k → IsLossSecond rules b a k
IsLossSecond-sym rules a b k h = record {
  left = h.right;
  right = h.left;
  left_is = h.right_is;
  right_is = h.left_is;
  loss = record { n = h.loss.n; d = h.loss.d; begun = h.loss.begun; within = h.loss.within; loss = LosesAt-sym rules a.rvsm b.rvsm h.left h.right h.loss.n h.loss.d h.loss.loss };
}

pub IsSpanOfLoss-sym : (rules : Rules) (a b : Trajectory) (from to first last : ℕ) → IsSpanOfLoss rules a b from to first last
    → IsSpanOfLoss rules b a from to first last
IsSpanOfLoss-sym rules a b from to first last h = record {
  inside = h.inside;
  first_is = IsLossSecond-sym rules a b first h.first_is;
  last_is = IsLossSecond-sym rules a b last h.last_is;
  none_outside = λ k low high loss. h.none_outside k low high (IsLossSecond-sym rules b a k loss);
}

-- an open pair that straddles no edge of the window lies inside it
within_window : (now : ℕ) (e : Edge) → IsOpen now e → straddles now e ≡ false → (now ≤ e.first) × (e.last < window_end now)
within_window now e is_open none = grind (arith, nat_tests)

-- so its conflict in the window is the one over all seconds
span_in_window : (rules : Rules) (a b : Trajectory) (now : ℕ) (e : Edge) → now ≤ 10000000 → IsOpen now e → straddles now e ≡ false
    → IsSpanOfLoss rules a b 0 horizon e.first e.last → IsSpanOfLoss rules a b now (window_end now) e.first e.last
span_in_window rules a b now e early is_open none whole =
    let h = within_window now e is_open none in
    record {
      inside = (h.0, whole.inside.1, h.1);
      first_is = whole.first_is;
      last_is = whole.last_is;
      none_outside = λ k low high loss. whole.none_outside k (omega arith) (omega arith) loss;
    }

-- a pair's conflict in the window is the one in what of its span lies within
pub window_within : (rules : Rules) (a b : Trajectory) (now : ℕ) (e : Edge) (found : Option (ℕ × ℕ)) → now ≤ 10000000
    → IsSpanOfLoss rules a b 0 horizon e.first e.last → IsConflict rules a b (span_within now e).0 ((span_within now e).1 + 1) found
    → IsConflict rules a b now (window_end now) found
window_within rules a b now e None early whole none = λ k low high loss.
    let h = whole.none_outside k (omega arith) (omega arith) loss in none k (omega arith) (omega arith) loss
window_within rules a b now e (Some span) early whole some = record {
  inside = (let h = some.inside.0 in omega arith, some.inside.1, let h = some.inside.2 in omega arith);
  first_is = some.first_is;
  last_is = some.last_is;
  none_outside = λ k low high loss.
      let h = whole.none_outside k (omega arith) (omega arith) loss in some.none_outside k (omega arith) (omega arith) loss;
}

-- where the whole conflict is solid, that is what of it lies within the window
solid_in_window : (rules : Rules) (a b : Trajectory) (now : ℕ) (e : Edge) → now ≤ 10000000 → IsOpen now e
    → IsSpanOfLoss rules a b 0 horizon e.first e.last → IsSolid (IsLossSecond rules a b) (Some (e.first, e.last))
    → IsSpanOfLoss rules a b now (window_end now) (span_within now e).0 (span_within now e).1
solid_in_window rules a b now e early meets whole solid =
    let some = whole.inside.1 in
    let ahead = meets.0 in
    let lasting = meets.1 in
    record {
      inside = (omega arith, omega arith, omega arith);
      first_is = solid (max now e.first) (omega arith) (omega arith);
      last_is = solid (min (window_last now) e.last) (omega arith) (omega arith);
      none_outside = λ k low high loss. let h = whole.none_outside k (omega arith) (omega arith) loss in (omega arith, omega arith);
    }

-- so it is where a pair needs no test
pub span_shown : (rules : Rules) (a b : Trajectory) (now : ℕ) (e : Edge) → now ≤ 10000000 → IsOpen now e → is_tested now e ≡ false
    → IsSpanOfLoss rules a b 0 horizon e.first e.last → IsSolidAsSaid rules a b e
    → IsSpanOfLoss rules a b now (window_end now) (span_within now e).0 (span_within now e).1
span_shown rules a b now e early meets none whole said = ⊎_elim
    (λ some. solid_in_window rules a b now e early meets whole (said (⊎_elim (λ yes. yes)
    (λ no. absurd (true≢false (sym (and_from (straddles now e) (not e.solid) some (ap not no)) ∙ none))) (cases_Bool e.solid))))
    (λ inner.
    let h = within_window now e meets inner in
    let low = h.0 in
    let high = h.1 in
    let first : max now e.first ≡ e.first = omega arith in
    let last : min (window_last now) e.last ≡ e.last = omega arith in
    rw (first, last) (span_in_window rules a b now e early meets inner whole)) (cases_Bool (straddles now e))

-- what a pair says of its being solid, with the two the other way round
pub IsSolidAsSaid-sym : (rules : Rules) (a b : Trajectory) (e : Edge) → IsSolidAsSaid rules a b e → IsSolidAsSaid rules b a e
IsSolidAsSaid-sym rules a b e said = λ yes k begun ends. IsLossSecond-sym rules a b k (said yes k begun ends)

-- a pair at the border of the window is open; an open one that isn't lies inside it, and straddles no edge of it
pub borders_open : (now : ℕ) (e : Edge) → borders now e ≡ true → IsOpen now e
borders_open now e some = grind (arith, nat_tests)

pub within_border : (now : ℕ) (e : Edge) → IsOpen now e → borders now e ≡ false → (now ≤ e.first) × (e.last < window_last now)
within_border now e is_open none = grind (arith, nat_tests)

inner_straddles : (now : ℕ) (e : Edge) → IsOpen now e → borders now e ≡ false → straddles now e ≡ false
inner_straddles now e is_open none = grind (arith, nat_tests)

pub tested_borders : (now : ℕ) (e : Edge) → IsOpen now e → is_tested now e ≡ true → borders now e ≡ true
tested_borders now e meets some = ⊎_elim (λ yes. yes)
    (λ no. absurd (true≢false (sym (and_parts (straddles now e) (not e.solid) some).0 ∙ inner_straddles now e meets no))) (cases_Bool (borders now e))

-- one that begins before the window and goes on in it, or ends after its last second but one, is at its border, and one that lies inside isn't
pub borders_begun : (now : ℕ) (e : Edge) → e.first < now → now ≤ e.last → borders now e ≡ true
borders_begun now e begun lasting = grind (arith, nat_tests)

pub borders_end : (now : ℕ) (e : Edge) → e.first < window_end now → window_last now ≤ e.last → borders now e ≡ true
borders_end now e ahead lasting = grind (arith, nat_tests)

pub borders_not : (now : ℕ) (e : Edge) → now ≤ e.first → e.last < window_last now → borders now e ≡ false
borders_not now e late early = grind (arith, nat_tests)

-- a pair with a loss second in the window is open
pub is_open_at : (rules : Rules) (a b : Trajectory) (now k : ℕ) (e : Edge) → now ≤ 10000000 → IsSpanOfLoss rules a b 0 horizon e.first e.last
    → now ≤ k → k < window_end now → IsLossSecond rules a b k → IsOpen now e
is_open_at rules a b now k e early whole low high loss =
    let h = whole.none_outside k (omega arith) (omega arith) loss in (omega arith, omega arith)
