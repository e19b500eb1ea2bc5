-- The story that callers see, and room for an entry, at the ways out of a function; and numbers of places that fit.
use mir.Syntax.{w32}
use mir.Val.{Fits}
use Rattle.std.proofs.Common.{◌≡◌, ℕ, ◌+◌, ◌*◌, ◌<◌, ◌≤◌, ℤ, pos, List, [], ◌∷◌, ◌++◌, ◌∙◌, ap, ap₂, arith}
use Rattle.std.proofs.lemmas.Int.{ints}
use Rattle.mt_base.specs.Bounds.{IsWithin}
use Rattle.mt_base.specs.declared.command.Entry.{Entry}
use Rattle.mt_base.specs.Tables.{Setup}
use Rattle.mt_picture.specs.Story.{Story}

abbrev pub told : Setup → List Entry → Story
told setup history = record { setup = setup; history = history }

pub told_same : (s t : Setup) (g h : List Entry) → s ≡ t → g ≡ h → told s g ≡ told t h
told_same s t g h setup history = ap₂ told setup history

pub pushed_on : {X : Type 0} (new kept old : List X) (x : X) → new ≡ kept ++ x ∷ [] → kept ≡ old → new ≡ old ++ x ∷ []
pushed_on new kept old x pushed same = pushed ∙ ap (λ xs. xs ++ x ∷ []) same

pub has_room : (n m : ℕ) → n + 1 ≤ m → n < m
has_room n m room = omega arith

-- a slot and its two places, where there are as many slots as the rules say
pub few_slots : (slot n : ℕ) (flights : ℤ) → slot < n → pos n ≡ flights → IsWithin (pos 1) (pos 1024) flights → slot < 2147483648
few_slots slot n flights inside many few = omega (arith, ints)

pub first_fits : (slot n : ℕ) (flights : ℤ) → slot < n → pos n ≡ flights → IsWithin (pos 1) (pos 1024) flights → Fits w32 (2 * slot)
first_fits slot n flights inside many few = omega (arith, few_slots slot n flights inside many few)

pub second_fits : (slot n : ℕ) (flights : ℤ) → slot < n → pos n ≡ flights → IsWithin (pos 1) (pos 1024) flights → Fits w32 (2 * slot + 1)
second_fits slot n flights inside many few = omega (arith, few_slots slot n flights inside many few)
