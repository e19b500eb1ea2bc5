-- A list up to its first 0x0A, and the part of a buffer that is left after some bytes.
use Rattle.std.proofs.Common.{◌≡◌, ◌≢◌, ◌<◌, ◌≤◌, ℕ, ◌+◌, ◌-◌, Bool, true, false, List, [], ◌∷◌, ◌++◌, length, get_or, take, drop, slice_range, refl, sym, ◌∙◌, ap, arith, append-nil, zero, suc}
use Rattle.std.proofs.lemmas.List.{drop-take, drop-drop, drop_all}
use Rattle.mt_io.specs.Lines.{IsPart}
use Rattle.mt_io.specs.Reading.{Store}
use Rattle.mt_io.specs.Private.Gathering.{IsGathered, Moves}

pub drop-slice_range : (xs : List ℕ) (a b n : ℕ) → a + n ≤ b → drop n (slice_range xs a b) ≡ slice_range xs (a + n) b
drop-slice_range xs a b n le =
    let e : b - a ≡ n + (b - (a + n)) = omega arith in
    rw (e, drop-take n (b - (a + n)) (drop a xs), drop-drop n a xs) refl

-- no place has a 0x0A
pub IsPart-by_index : (xs : List ℕ) → ((k : ℕ) → k < length xs → get_or xs k 0 ≢ 10) → IsPart xs
IsPart-by_index [] none = tt
IsPart-by_index (x ∷ xs) none = (none 0 (omega arith), IsPart-by_index xs (λ k lt. none (suc k) (omega arith)))

-- the bytes before the first 0x0A
pub IsPart-take : (xs : List ℕ) (i : ℕ) → ((k : ℕ) → k < i → get_or xs k 0 ≢ 10) → i ≤ length xs → IsPart (take i xs)
IsPart-take xs zero none le = tt
IsPart-take [] (suc i) none le = tt
IsPart-take (x ∷ xs) (suc i) none le = (none 0 (omega arith), IsPart-take xs i (λ k lt. none (suc k) (omega arith)) (omega arith))

pub split_at_byte : (xs : List ℕ) (i b : ℕ) → i < length xs → get_or xs i 0 ≡ b → xs ≡ (take i xs ++ b ∷ []) ++ drop (i + 1) xs
split_at_byte [] i b lt here = absurd (omega arith)
split_at_byte (x ∷ xs) zero b lt here = rw here refl
split_at_byte (x ∷ xs) (suc i) b lt here =
    let le : i < length xs = omega arith in
    let rest : xs ≡ (take i xs ++ b ∷ []) ++ drop (i + 1) xs = split_at_byte xs i b le here in
    let e : suc i + 1 ≡ suc (i + 1) = omega arith in
    rw e (ap (λ ys. x ∷ ys) rest)

-- up to the 0x0A at this place
pub moves_to_break : (old : Store) (place : ℕ) (kept : List ℕ) (was_long : Bool) (kept_now : List ℕ) (is_long : Bool)
    → place < length old.ahead → get_or old.ahead place 0 ≡ 10 → ((k : ℕ) → k < place → get_or old.ahead k 0 ≢ 10)
    → ((line : List ℕ) → IsGathered kept was_long line → IsGathered kept_now is_long (line ++ take place old.ahead))
    → Moves old (record old { ahead = drop (place + 1) old.ahead }) kept was_long kept_now is_long true
moves_to_break old place kept was_long kept_now is_long lt here before adds = record {
  piece = take place old.ahead;
  is_part = IsPart-take old.ahead place before (omega arith);
  bytes = split_at_byte old.ahead place 10 lt here;
  adds = adds;
  all = λ e. cc;
  taken = refl;
  ended = refl;
}

-- all bytes, where none is 0x0A
pub moves_all : (old : Store) (kept : List ℕ) (was_long : Bool) (kept_now : List ℕ) (is_long : Bool)
    → ((k : ℕ) → k < length old.ahead → get_or old.ahead k 0 ≢ 10)
    → ((line : List ℕ) → IsGathered kept was_long line → IsGathered kept_now is_long (line ++ old.ahead))
    → Moves old (record old { ahead = drop (length old.ahead) old.ahead }) kept was_long kept_now is_long false
moves_all old kept was_long kept_now is_long none adds =
    let le : length old.ahead ≤ length old.ahead = omega arith in
    let gone : drop (length old.ahead) old.ahead ≡ [] = drop_all (length old.ahead) old.ahead le in
    rw gone (record {
      piece = old.ahead;
      is_part = IsPart-by_index old.ahead none;
      bytes = sym (append-nil (old.ahead ++ []) ∙ append-nil old.ahead);
      adds = adds;
      all = λ e. refl;
      taken = refl;
      ended = refl;
    })
