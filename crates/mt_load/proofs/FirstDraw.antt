-- Values from the number 1, worked out by hand, so that a wrong constant or step in a definition does not check.
use Rattle.std.proofs.Common.{◌≡◌, ◌/◌, ◌^◌, true, [], ◌∷◌, pos, neg_ℤ, codes, refl}
use Rattle.mt_base.specs.declared.command.Command.TheVariants.{Plan}
use Rattle.mt_read.specs.declared.request.Request.TheVariants.{Change, Fix}
use Rattle.mt_load.specs.Draws.{drawn, next_state, state_after}
use Rattle.mt_load.specs.Input.{fix, plan_of}

pub first_state : next_state 1 ≡ 7806831264735756412
unfolding next_state
first_state = refl

pub first_bits : next_state 1 / 2 ^ 33 ≡ 908834774
unfolding next_state
first_bits = refl

pub first_of_sixteen : drawn 16 (next_state 1) ≡ 6
unfolding drawn next_state
first_of_sixteen = refl

-- the first flight's first fix is number 22
pub first_of_sixty_four : drawn 64 (next_state 1) ≡ 22
unfolding drawn next_state
first_of_sixty_four = refl

pub fix_22 : fix 22 ≡ Fix (codes "F26") (neg_ℤ (pos 172800)) (pos 288000)
fix_22 = refl

-- four draws: 22 of 64; 57 of 63, so the fix number 58; 6 of 10; 870 of 1,200
pub first_plan : plan_of 1 0 ≡ Change (Plan (codes "L0000") (codes "JA1") (codes "F26" ∷ codes "F72" ∷ []) 870 360 360 true)
unfolding drawn next_state state_after
first_plan = refl
