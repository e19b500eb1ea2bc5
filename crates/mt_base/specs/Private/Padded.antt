-- No public contract names these: they are of private steps and of proofs.
use Rattle.std.specs.Prelude.{◌≡◌, ℕ, ◌+◌, ◌-◌, ◌*◌, ◌^◌, zero, suc, true, List, [], ◌∷◌, ◌++◌, length, take, get_or, replicate}
use Rattle.mt_base.specs.Name.{is_name}

-- the eight bytes of a name: its letters, zeros, and how many letters there are
abbrev pub padded : List ℕ → List ℕ
padded text = text ++ replicate (7 - length text) 0 ++ length text ∷ []

-- the letters that stand in eight bytes
abbrev pub letters_in : List ℕ → List ℕ
letters_in form = take (get_or form 7 0) form

-- they are the eight bytes of a name
pub record IsPadded (form : List ℕ) : Type 0 where
  pub same : padded (letters_in form) ≡ form
  pub named : is_name 1 7 (letters_in form) ≡ true

-- `left + 1` bytes as one number: letters, zeros, and last how many letters there are with those that stand `before`
abbrev pub packed : ℕ → ℕ → List ℕ → ℕ
packed left before [] = before
packed zero before (x ∷ xs) = before
packed (suc left) before (x ∷ xs) = x * 256 ^ suc left + packed left (suc before) xs

-- the eight bytes of a name as one number, the first the highest
abbrev pub name_number : List ℕ → ℕ
name_number text = packed 7 0 text
