-- A plan by the values that were drawn for it.
use Rattle.std.proofs.Common.{◌≡◌, ℕ, ◌+◌, ◌*◌, true, List, [], ◌∷◌, refl}
use Rattle.mt_base.specs.declared.command.Command.TheVariants.{Plan}
use Rattle.mt_load.specs.Draws.{drawn, next_state, state_after}
use Rattle.mt_load.specs.Input.{callsign, fix_name, kind_name, other_than, plan_from}
use Rattle.mt_load.proofs.DrawLemmas.{one, one_more}

-- four states, each after a draw from the one before it
pub record AreFour (before first second third fourth : ℕ) : Type 0 where
  pub first_is : first ≡ state_after 1 before
  pub second_is : second ≡ state_after 2 before
  pub third_is : third ≡ state_after 3 before
  pub fourth_is : fourth ≡ state_after 4 before

pub four_are : (before first second third fourth : ℕ) → first ≡ next_state before → second ≡ next_state first → third ≡ next_state second → fourth ≡ next_state third
    → AreFour before first second third fourth
four_are before first second third fourth to_first to_second to_third to_fourth =
    let e1 = one before first to_first in
    let e2 = one_more 1 before first second e1 to_second in
    let e3 = one_more 2 before second third e2 to_third in
    record { first_is = e1; second_is = e2; third_is = e3; fourth_is = one_more 3 before third fourth e3 to_fourth }

pub plan_is : (n before s1 s2 s3 s4 first drawn_second second tens at : ℕ) (call kind : List ℕ) (route : List (List ℕ)) → AreFour before s1 s2 s3 s4
    → first ≡ drawn 64 s1 → drawn_second ≡ drawn 63 s2 → tens ≡ drawn 10 s3 → at ≡ drawn 1200 s4 → second ≡ other_than first drawn_second
    → call ≡ callsign n → kind ≡ kind_name → route ≡ fix_name first ∷ fix_name second ∷ []
    → Plan call kind route at (300 + 10 * tens) (300 + 10 * tens) true ≡ plan_from n before
plan_is n before s1 s2 s3 s4 first drawn_second second tens at call kind route four is_first is_drawn is_tens is_at is_second is_call is_kind is_route =
    rw (is_route, is_kind, is_call, is_second, is_first, is_drawn, is_tens, is_at, four.first_is, four.second_is, four.third_is, four.fourth_is) refl
