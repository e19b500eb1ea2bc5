-- What a read takes of a message that was begun.
use Rattle.std.proofs.Common.{◌≡◌, ◌<◌, ◌≤◌, ℕ, ◌+◌, ◌-◌, Bool, true, false, List, [], ◌∷◌, ◌++◌, length, take, drop, refl, sym, ◌∙◌, ap, arith, append-nil, set, min}
use Rattle.std.proofs.Math.Seq.{take-append_seam, take-length}
use Rattle.std.proofs.lemmas.List.{take-append-drop, drop-drop, append_assoc, length-take-le, length-drop, drop_all, length-take}
use Rattle.mt_io.specs.Gathering.{ending_of}
use Rattle.mt_ws.specs.Messages.{with_ending}

pub take-append-eq : (n : ℕ) (xs ys : List ℕ) → length xs ≡ n → take n (xs ++ ys) ≡ xs
take-append-eq n xs ys e = rw (← e) (take-append_seam xs ys)

-- the front of what is left of a message, copied to a buffer
pub gives_rest : (xs buf copied ending : List ℕ) (at n : ℕ) → at ≤ length xs → n ≤ length xs - at → copied ≡ take n (take (length xs - at) (drop at xs))
    → drop at xs ++ ending ≡ take n (copied ++ drop n buf) ++ (drop (at + n) xs ++ ending)
gives_rest xs buf copied ending at n le few is =
    let size : length (drop at xs) ≡ length xs - at = length-drop at xs in
    let all : take (length xs - at) (drop at xs) ≡ drop at xs = rw (← size) (take-length (drop at xs)) in
    let short : length (take n (drop at xs)) ≡ n = length-take-le n (drop at xs) (omega arith) in
    let front : take n (take n (drop at xs) ++ drop n buf) ≡ take n (drop at xs) = take-append-eq n (take n (drop at xs)) (drop n buf) short in
    rw (is, all, front, ← append_assoc (take n (drop at xs)) (drop (at + n) xs) ending, ← drop-drop n at xs, take-append-drop n (drop at xs)) refl

-- nothing more than the ending is left
pub all_gone : (xs : List ℕ) (at : ℕ) → at ≤ length xs → length (take (length xs - at) (drop at xs)) ≡ 0 → drop at xs ≡ []
all_gone xs at le none =
    let size : length (take (length xs - at) (drop at xs)) ≡ min (length xs - at) (length (drop at xs)) = length-take (length xs - at) (drop at xs) in
    let left : length (drop at xs) ≡ length xs - at = length-drop at xs in
    drop_all at xs (omega arith)

pub few_left : (xs : List ℕ) (at n room : ℕ) → n ≡ min (length (take (length xs - at) (drop at xs))) room → n ≤ length xs - at
few_left xs at n room is =
    let size : length (take (length xs - at) (drop at xs)) ≡ min (length xs - at) (length (drop at xs)) = length-take (length xs - at) (drop at xs) in
    omega arith

-- the ending alone is left
pub gives_break : (xs buf : List ℕ) (at : ℕ) (unended : Bool) → at ≤ length xs → 0 < length buf → length (take (length xs - at) (drop at xs)) ≡ 0
    → 0 < length (drop at xs ++ ending_of unended) → drop at xs ++ ending_of unended ≡ take 1 (set buf 0 10) ++ (drop at xs ++ [])
gives_break xs [] at unended le room none some = absurd (omega arith)
gives_break xs (b ∷ buf) at true le room none some = rw (all_gone xs at le none) refl
gives_break xs (b ∷ buf) at false le room none some =
    let gone : drop at xs ++ [] ≡ [] = rw (all_gone xs at le none) refl in
    let few : length (drop at xs ++ []) ≡ 0 = ap length gone in
    absurd (omega arith)

-- nothing is left of a message where its end is met, and its ending was given
pub none_left : (xs : List ℕ) (at : ℕ) → at ≤ length xs → (at ≡ length xs → drop at xs ++ [] ≡ []) × (drop at xs ++ [] ≡ [] → at ≡ length xs)
none_left xs at le =
    let size : length (drop at xs) ≡ length xs - at = length-drop at xs in (
      (λ e. rw (append-nil (drop at xs)) (drop_all at xs (omega arith))),
      (λ e. let e2 : length (drop at xs) ≡ 0 = ap length (sym (append-nil (drop at xs)) ∙ e) in omega arith),
    )

-- a message with its ending has a byte
pub some_ended : (bytes : List ℕ) → 0 < length (with_ending bytes)
some_ended [] = omega arith
some_ended (b ∷ bytes) = omega arith

pub takes_some : (n : ℕ) (xs : List ℕ) → (0 < n) × (n ≤ length xs) → 0 < length (take n xs)
takes_some n xs fits =
    let size : length (take n xs) ≡ n = length-take-le n xs fits.1 in
    omega arith

-- the same of bytes that have no ending
pub gives_left : (xs buf copied : List ℕ) (at n : ℕ) → at ≤ length xs → n ≤ length xs - at → copied ≡ take n (take (length xs - at) (drop at xs))
    → drop at xs ≡ take n (copied ++ drop n buf) ++ drop (at + n) xs
gives_left xs buf copied at n le few is =
    sym (append-nil (drop at xs)) ∙ gives_rest xs buf copied [] at n le few is ∙ ap (λ l. take n (copied ++ drop n buf) ++ l) (append-nil (drop (at + n) xs))

-- all is given where the end is met
pub all_given : (xs : List ℕ) (at : ℕ) → at ≤ length xs → (at ≡ length xs → drop at xs ≡ []) × (drop at xs ≡ [] → at ≡ length xs)
all_given xs at le =
    let size : length (drop at xs) ≡ length xs - at = length-drop at xs in (
      (λ e. drop_all at xs (omega arith)),
      (λ e. let none : length (drop at xs) ≡ 0 = ap length e in omega arith),
    )
