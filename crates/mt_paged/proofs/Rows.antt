-- Reads and writes of a list that stands in rows of 32.
use Rattle.std.proofs.Common.{◌≡◌, ℕ, zero, suc, ◌+◌, ◌-◌, ◌*◌, ◌/◌, ◌%◌, ◌<◌, ◌≤◌, List, [], ◌∷◌, ◌++◌, length, get_or, set, take, replicate, All, refl, sym, ap, ◌∙◌, subst, arith, length-set, length-take}
use Rattle.std.proofs.Math.Seq.{take-set-lt}
use Rattle.std.proofs.lemmas.List.{length-replicate, replicate-append-replicate, take-replicate, get_or-append-add, get_or-take, get_or_append_left, set-append_left, set-append_right}
use Rattle.std.proofs.lemmas.List.Elements.{All-get_or, All-replicate, All-head, All-set, All-tail}
use Rattle.mt_paged.specs.Private.Pages.{AreRows, rows_joined}

-- the place r of row q
get_joined : {X : Type 0} (rows : List (List X)) (q r : ℕ) (d : X) → All (λ row. length row ≡ 32) rows → q < length rows → r < 32
    → get_or (rows_joined rows) (32 * q + r) d ≡ get_or (get_or rows q []) r d
get_joined [] q r d full within few = absurd (omega arith)
get_joined {X} (row ∷ rows) zero r d full within few =
    let wide : length row ≡ 32 = All-head (λ (x : List X). length x ≡ 32) row rows full in
    let at : 32 * 0 + r ≡ r = omega arith in
    rw at (get_or_append_left row (rows_joined rows) d r (omega (arith, wide)))
get_joined {X} (row ∷ rows) (suc q) r d full within few =
    let wide : length row ≡ 32 = All-head (λ (x : List X). length x ≡ 32) row rows full in
    let at : 32 * suc q + r ≡ length row + (32 * q + r) = omega (arith, wide) in
    rw at (get_or-append-add row (rows_joined rows) (32 * q + r) d ∙ get_joined rows q r d (All-tail (λ (x : List X). length x ≡ 32) row rows full) (omega arith) few)

set_joined : {X : Type 0} (rows : List (List X)) (q r : ℕ) (a : X) → All (λ row. length row ≡ 32) rows → q < length rows → r < 32
    → set (rows_joined rows) (32 * q + r) a ≡ rows_joined (set rows q (set (get_or rows q []) r a))
set_joined [] q r a full within few = absurd (omega arith)
set_joined {X} (row ∷ rows) zero r a full within few =
    let wide : length row ≡ 32 = All-head (λ (x : List X). length x ≡ 32) row rows full in
    let at : 32 * 0 + r ≡ r = omega arith in
    rw at (set-append_left row (rows_joined rows) r a (omega (arith, wide)))
set_joined {X} (row ∷ rows) (suc q) r a full within few =
    let wide : length row ≡ 32 = All-head (λ (x : List X). length x ≡ 32) row rows full in
    let at : 32 * suc q + r - 32 ≡ 32 * q + r = omega arith in
    set-append_right row (rows_joined rows) 32 (32 * suc q + r) a wide (omega arith)
    ∙ rw at (ap (λ (z : List X). row ++ z) (set_joined rows q r a (All-tail (λ (x : List X). length x ≡ 32) row rows full) (omega arith) few))

pub within_count : {X : Type 0} (count : ℕ) (rows : List (List X)) (i : ℕ) → AreRows count rows → i < length (take count (rows_joined rows)) → i < count
within_count count rows i are within = omega (arith, length-take count (rows_joined rows))

pub row_of : {X : Type 0} (count : ℕ) (rows : List (List X)) (i : ℕ) → AreRows count rows → i < count → i / 32 < length rows
row_of count rows i are within = omega (arith, are.enough)

pub row_is_full : {X : Type 0} (count : ℕ) (rows : List (List X)) (i : ℕ) → AreRows count rows → i < count → length (get_or rows (i / 32) []) ≡ 32
row_is_full {X} count rows i are within = All-get_or (λ (row : List X). length row ≡ 32) rows (i / 32) [] (row_of count rows i are within) are.full

-- the place i of the list
pub get_listed : {X : Type 0} (count : ℕ) (rows : List (List X)) (i : ℕ) (d : X) → AreRows count rows → i < count
    → get_or (take count (rows_joined rows)) i d ≡ get_or (get_or rows (i / 32) []) (i % 32) d
get_listed {X} count rows i d are within =
    let at : i ≡ 32 * (i / 32) + i % 32 = omega arith in
    get_or-take count (rows_joined rows) i d within
    ∙ ap (λ (z : ℕ). get_or (rows_joined rows) z d) at
    ∙ get_joined rows (i / 32) (i % 32) d are.full (row_of count rows i are within) (omega arith)

pub set_listed : {X : Type 0} (count : ℕ) (rows : List (List X)) (i : ℕ) (a : X) → AreRows count rows → i < count
    → take count (rows_joined (set rows (i / 32) (set (get_or rows (i / 32) []) (i % 32) a))) ≡ set (take count (rows_joined rows)) i a
set_listed {X} count rows i a are within =
    let at : 32 * (i / 32) + i % 32 ≡ i = omega arith in
    ap (take count) (sym (set_joined rows (i / 32) (i % 32) a are.full (row_of count rows i are within) (omega arith)))
    ∙ ap (λ (z : ℕ). take count (set (rows_joined rows) z a)) at
    ∙ take-set-lt count (rows_joined rows) i a within

pub rows_set : {X : Type 0} (count : ℕ) (rows : List (List X)) (i : ℕ) (a : X) → AreRows count rows → i < count
    → AreRows count (set rows (i / 32) (set (get_or rows (i / 32) []) (i % 32) a))
rows_set {X} count rows i a are within =
    let row = set (get_or rows (i / 32) []) (i % 32) a in
    record {
      full = All-set (λ (x : List X). length x ≡ 32) rows (i / 32) row (length-set (get_or rows (i / 32) []) (i % 32) a ∙ row_is_full count rows i are within) are.full;
      enough = omega (arith, are.enough, length-set rows (i / 32) row);
    }

-- equal rows, as many as n places need
joined-replicate : {X : Type 0} (k : ℕ) (x : X) → rows_joined (replicate k (replicate 32 x)) ≡ replicate (32 * k) x
joined-replicate zero x = refl
joined-replicate {X} (suc k) x =
    let whole : 32 + 32 * k ≡ 32 * suc k = omega arith in
    ap (λ (xs : List X). replicate 32 x ++ xs) (joined-replicate k x) ∙ replicate-append-replicate 32 (32 * k) x ∙ ap (λ (n : ℕ). replicate n x) whole

pub equal_rows : {X : Type 0} (n k : ℕ) (rows : List (List X)) (x : X) → rows ≡ replicate k (replicate 32 x) → n ≤ 32 * k → AreRows n rows × (take n (rows_joined rows) ≡ replicate n x)
equal_rows {X} n k rows x are enough = (
  subst (AreRows n) (sym are) (record {
    full = All-replicate (λ (row : List X). length row ≡ 32) k (replicate 32 x) (length-replicate 32 x);
    enough = omega (arith, enough, length-replicate k (replicate 32 x));
  }),
  ap (λ (z : List (List X)). take n (rows_joined z)) are ∙ ap (take n) (joined-replicate k x) ∙ take-replicate n (32 * k) x enough,
)
