-- An open condition holds at a fraction strictly between two whole numbers exactly where it holds at an instant of some second from the
-- one to the other.
use Rattle.std.proofs.Common.{◌≡◌, ℕ, zero, suc, ◌+◌, ◌*◌, ◌<◌, ◌≤◌, ℤ, pos, negsuc, ◌+ℤ◌, ◌-ℤ◌, ◌*ℤ◌, ◌≤ℤ◌, ◌<ℤ◌, ◌↔◌, List, [], ◌∷◌, subst, arith, mul-le-mul, le_refl, ⊎_elim}
use Rattle.std.proofs.Math.Nat.{div-add-mod, mod-lt}
use Rattle.std.proofs.lemmas.Bool.{cases_lt}
use Rattle.std.proofs.lemmas.Int.{ints}
use Rattle.std.proofs.lemmas.List.Elements.{All-cons, All-head, All-tail}
use Rattle.std.specs.Prelude.{◌/◌, ◌%◌}
use Rattle.mt_ring.proofs.Ring.{lin, spread}
use Rattle.mt_ring.proofs.Signs.{mul_nonneg}
use Rattle.mt_frac.specs.declared.linear.Linear.{Linear}
use Rattle.mt_frac.specs.Instants.{HoldsIn}
use Rattle.mt_frac.specs.Meeting.{AreBelow, MeetBelow}
use Rattle.mt_frac.specs.Polynomials.{line_value}
use Rattle.mt_frac.proofs.Openness.{HoldsFrom, HoldsInside, IsOpen, both_open, half_open, line_is_open, same_open}

-- an instant of a second is not before that second's start, and before its end
pub after_start : (l k n d : ℤ) → l ≤ℤ k → pos 0 ≤ℤ n → pos 0 ≤ℤ d → (l *ℤ d) ≤ℤ ((n +ℤ k *ℤ d) *ℤ pos 1)
after_start l k n d later begun d+ =
    let p = mul_nonneg (k -ℤ l) d (omega (arith, lin)) d+ in
    simp spread (omega (arith, lin, simp spread at p))

pub before_end : (h k n d : ℤ) → (k +ℤ pos 1) ≤ℤ h → n <ℤ d → pos 0 ≤ℤ d → ((n +ℤ k *ℤ d) *ℤ pos 1) <ℤ (h *ℤ d)
before_end h k n d sooner within d+ =
    let p = mul_nonneg (h -ℤ k -ℤ pos 1) d (omega (arith, lin)) d+ in
    simp spread (omega (arith, lin, simp spread at p))

-- P holds at some instant of some second from low up to high
pub record HoldsOver (P : ℤ → ℤ → Type 0) (low high : ℕ) : Type 0 where
  pub k : ℕ
  pub begun : low ≤ k
  pub ahead : k < high
  pub holds : HoldsIn P k

-- in which second a fraction lies
below_quotient : (low n d q : ℕ) → low * d < n → n < q * d + d → low ≤ q
below_quotient low n d q after until = ⊎_elim
    (λ less. let p = mul-le-mul less (le_refl d) in absurd (omega (arith, p)))
    (λ enough. enough)
    (cases_lt q low)

above_quotient : (high n d q r : ℕ) → n < high * d → q * d + r ≡ n → q < high
above_quotient high n d q r until is = ⊎_elim
    (λ less. less)
    (λ more. let p = mul-le-mul more (le_refl d) in absurd (omega (arith, p)))
    (cases_lt q high)

second_at : (P : ℤ → ℤ → Type 0) (low high n d q r : ℕ) → q * d + r ≡ n → r < d → low * d < n → n < high * d → P (pos n) (pos d) → HoldsOver P low high
second_at P low high n d q r is rest after until at =
    let e : n ≡ r + q * d = omega arith in
    record {
      k = q;
      begun = below_quotient low n d q after (omega arith);
      ahead = above_quotient high n d q r until is;
      holds = record {
        n = pos r;
        d = pos d;
        begun = omega (arith, ints);
        within = omega (arith, ints);
        holds = subst (λ (m : ℕ). P (pos m) (pos d)) e at;
      };
    }

second_of : (P : ℤ → ℤ → Type 0) (low high : ℕ) (n d : ℤ) → pos 0 <ℤ d → (pos low *ℤ d) <ℤ (n *ℤ pos 1) → (n *ℤ pos 1) <ℤ (pos high *ℤ d) → P n d → HoldsOver P low high
second_of P low high n (negsuc d) d+ after until at = absurd (omega (arith, ints))
second_of P low high n (pos zero) d+ after until at = absurd (omega (arith, ints))
second_of P low high (negsuc n) (pos (suc d)) d+ after until at = absurd (omega (arith, ints))
second_of P low high (pos n) (pos (suc d)) d+ after until at =
    let split = div-add-mod n (suc d) in
    second_at P low high n (suc d) (n / suc d) (n % suc d) (omega (arith, split)) (mod-lt n (omega arith)) (omega (arith, ints)) (omega (arith, ints)) at

pub inside_over : (P : ℤ → ℤ → Type 0) (low high : ℕ) → IsOpen P → HoldsInside P (pos low) (pos 1) (pos high) (pos 1) ↔ HoldsOver P low high
inside_over P low high open_p = (
  (λ some. second_of P low high some.n some.d some.positive some.after some.until some.holds),
  (λ some.
      let at = some.holds in
      let d+ : pos 0 <ℤ at.d = let b = at.begun in let w = at.within in omega (arith, lin) in
      let from : HoldsFrom P (pos low) (pos 1) (pos high) (pos 1) = record {
        n = at.n +ℤ pos some.k *ℤ at.d;
        d = at.d;
        positive = d+;
        begun = after_start (pos low) (pos some.k) at.n at.d (let h = some.begun in omega (arith, ints)) at.begun (omega (arith, lin));
        until = before_end (pos high) (pos some.k) at.n at.d (let h = some.ahead in omega (arith, ints)) at.within (omega (arith, lin));
        holds = at.holds;
      } in
      (half_open P (pos low) (pos 1) (pos high) (pos 1) (omega (arith, ints)) (omega (arith, ints)) open_p).0 from),
)

-- the same for several lines below 0
none_open : IsOpen (AreBelow [])
none_open = record { near = λ m e x y h. record { from = 0; holds = λ k far i d below. absurd (omega arith) } }

one_open : (line : Linear) (lines : List Linear) → IsOpen (AreBelow lines) → IsOpen (AreBelow (line ∷ lines))
one_open line lines rest =
    let P = λ (l : Linear) (n d : ℤ). line_value l.b l.c n d <ℤ pos 0 in
    same_open (λ n d. P line n d × AreBelow lines n d) (AreBelow (line ∷ lines))
    (λ n d. (
      (λ h. All-cons (λ (l : Linear). P l n d) line lines h.0 h.1),
      (λ h. (All-head (λ (l : Linear). P l n d) line lines h, All-tail (λ (l : Linear). P l n d) line lines h)),
    ))
    (both_open (P line) (AreBelow lines) (line_is_open line.b line.c) rest)

pub are_open : (lines : List Linear) → IsOpen (AreBelow lines)
are_open [] = none_open
are_open (line ∷ lines) = one_open line lines (are_open lines)

pub meet_over : (lines : List Linear) (low high : ℕ) → MeetBelow lines (pos low) (pos high) ↔ HoldsOver (AreBelow lines) low high
meet_over lines low high =
    let same = inside_over (AreBelow lines) low high (are_open lines) in (
      (λ some. same.0 (record {
        n = some.n;
        d = some.d;
        positive = some.positive;
        after = let h = some.after in omega (arith, lin);
        until = let h = some.until in omega (arith, lin);
        holds = some.below;
      })),
      (λ over.
          let some = same.1 over in
          record {
            n = some.n;
            d = some.d;
            positive = some.positive;
            after = let h = some.after in omega (arith, lin);
            until = let h = some.until in omega (arith, lin);
            below = some.holds;
          }),
    )
