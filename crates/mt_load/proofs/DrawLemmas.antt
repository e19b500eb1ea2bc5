-- What a draw leaves, what four draws leave, and that a draw is below its number.
use Rattle.std.proofs.Common.{◌≡◌, ◌∙◌, ℕ, suc, ◌+◌, ◌*◌, ◌%◌, ◌/◌, ◌^◌, ◌<◌, ap, refl, arith}
use Rattle.std.proofs.Math.Nat.{mod-add-mod, mod-lt}
use Rattle.mt_load.specs.Draws.{drawn, next_state, state_after}

-- the product may be cut to 64 bits before the sum is
pub next_is : (state seen : ℕ) → state ≡ seen
    → (state * 6364136223846793005 % 18446744073709551616 + 1442695040888963407) % 18446744073709551616 ≡ next_state seen
unfolding next_state
next_is state seen same = mod-add-mod (state * 6364136223846793005) 18446744073709551616 1442695040888963407 ∙ ap next_state same

pub drawn_below : (n state : ℕ) → 0 < n → drawn n state < n
unfolding drawn
drawn_below n state some = mod-lt (state / 2 ^ 33) some

-- one draw more
pub one_more : (draws first state next : ℕ) → state ≡ state_after draws first → next ≡ next_state state → next ≡ state_after (suc draws) first
unfolding state_after
one_more draws first state next is_state is_next = is_next ∙ ap next_state is_state

-- no draw
pub none : (first state : ℕ) → state ≡ first → state ≡ state_after 0 first
unfolding state_after
none first state same = same

-- one draw
pub one : (first next : ℕ) → next ≡ next_state first → next ≡ state_after 1 first
unfolding state_after
one first next is_next = is_next

-- four draws more
pub four_more : (flights first state next : ℕ) → state ≡ state_after (4 * flights) first → next ≡ state_after 4 state
    → next ≡ state_after (4 * (flights + 1)) first
unfolding state_after
four_more flights first state next is_state is_next =
    let e : 4 * (flights + 1) ≡ suc (suc (suc (suc (4 * flights)))) = omega arith in
    is_next ∙ rw (e, is_state) refl
