-- The first line of bytes, cut after its 0x0A.
use Rattle.std.proofs.Common.{◌≡◌, ◌<◌, ℕ, zero, suc, true, false, nat_eq, List, [], ◌∷◌, length, get_or, take, drop, ◌-◌, refl, sym, ap, ◌∙◌, arith}
use Rattle.std.proofs.Math.Seq.{drop-length}
use Rattle.std.proofs.lemmas.List.{take_rest}
use Rattle.std.proofs.lemmas.Bool.Decides.{nat_tests}
use Rattle.mt_io.specs.Lines.{IsPart, lines_of}
use Rattle.mt_io.proofs.Lines.{lines_of-last}

-- no byte below a place is 0x0A
abbrev pub IsClear : List ℕ → ℕ → Type 0
IsClear bytes end = (k : ℕ) → k < end → get_or bytes k 0 ≡ 10 → ⊥

other_byte : (b : ℕ) → (b ≡ 10 → ⊥) → nat_eq b 10 ≡ false
other_byte b apart = grind (arith, nat_tests)

end_byte : (b : ℕ) → b ≡ 10 → nat_eq b 10 ≡ true
end_byte b is = grind (arith, nat_tests)

-- a line that ends
cut : (bytes : List ℕ) (end : ℕ) → IsClear bytes end → end < length bytes → get_or bytes end 0 ≡ 10
    → lines_of bytes ≡ take end bytes ∷ lines_of (drop (suc end) bytes)
cut [] end clear below is = absurd (omega arith)
cut (b ∷ bytes) zero clear below is = rw (end_byte b is) refl
cut (b ∷ bytes) (suc end) clear below is =
    rw (other_byte b (clear zero (omega arith)), cut bytes end (λ k h. clear (suc k) (omega arith)) (omega arith) is) refl

part_of : (bytes : List ℕ) → IsClear bytes (length bytes) → IsPart bytes
part_of [] clear = tt
part_of (b ∷ bytes) clear = (clear zero (omega arith), part_of bytes (λ k h. clear (suc k) (omega arith)))

-- a last line
uncut : (bytes : List ℕ) → IsClear bytes (length bytes) → 0 < length bytes → lines_of bytes ≡ bytes ∷ []
uncut bytes clear some = lines_of-last bytes (part_of bytes clear) some

pub cut_at : (bytes : List ℕ) (end next : ℕ) → next ≡ suc end → IsClear bytes end → end < length bytes → get_or bytes end 0 ≡ 10
    → lines_of bytes ≡ take end bytes ∷ lines_of (take (length bytes - next) (drop next bytes))
cut_at bytes end next after clear below is =
    let rest : drop (suc end) bytes ≡ take (length bytes - next) (drop next bytes) =
    ap (λ (n : ℕ). drop n bytes) (sym after) ∙ sym (take_rest bytes next) in
    cut bytes end clear below is ∙ ap (λ (others : List ℕ). take end bytes ∷ lines_of others) rest

pub uncut_at : (bytes : List ℕ) → IsClear bytes (length bytes) → 0 < length bytes
    → lines_of bytes ≡ bytes ∷ lines_of (take (length bytes - length bytes) (drop (length bytes) bytes))
uncut_at bytes clear some =
    let none : [] ≡ take (length bytes - length bytes) (drop (length bytes) bytes) =
    sym (take_rest bytes (length bytes) ∙ drop-length bytes) in
    uncut bytes clear some ∙ ap (λ (others : List ℕ). bytes ∷ lines_of others) none
