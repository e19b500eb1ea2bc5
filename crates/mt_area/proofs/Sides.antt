-- What the lines of an area say, and how great the numbers on the way to them are.
use Rattle.std.proofs.Common.{◌≡◌, ◌≢◌, List, length, negsuc, ℕ, ◌+◌, ◌*◌, ◌<◌, ◌≤◌, ℤ, pos, neg_ℤ, ◌+ℤ◌, ◌-ℤ◌, ◌*ℤ◌, ◌<ℤ◌, ◌↔◌, ◌^◌, ◌∙◌, ap₂, refl, FitsSigned, unsigned_abs, to_z, of_z, w64, arith, lit<}
use Rattle.std.proofs.lemmas.Int.{ints, to_z-of_z}
use Rattle.std.specs.Prelude.{slice_index_or}
use mir.Syntax.{w128}
use Rattle.mt_ring.proofs.Ring.{lin, spread}
use Rattle.mt_ring.proofs.Sizes.{Abs, abs_add, abs_mul, abs_sub, abs_to, fits_64, fits_128}
use Rattle.mt_base.specs.declared.area.Area.{Area}
use Rattle.mt_base.specs.Area.{IsBoundedArea, LiesLeft, corner, cross, place_after}
use Rattle.mt_base.specs.Bounds.{IsBoundedRow, IsInPlane, IsWithin}
use Rattle.mt_base.specs.Instant.{value_at}
use Rattle.mt_base.specs.declared.row.Row.{Row}
use Rattle.mt_frac.specs.declared.linear.Linear.{Linear}
use Rattle.mt_frac.specs.Meeting.{IsBoundedSide}
use Rattle.mt_frac.specs.Polynomials.{line_value}
use Rattle.mt_area.specs.Private.Lines.{IsLineOf, line_to_ceiling, floor_of, side_of}

-- what lies from a corner to the position, across the way from that corner to the next
side_value : (x vx i y vy j e f n d : ℤ) → line_value (vx *ℤ f -ℤ vy *ℤ e) ((x -ℤ i) *ℤ f -ℤ (y -ℤ j) *ℤ e) n d
    ≡ neg_ℤ (e *ℤ ((y *ℤ d +ℤ vy *ℤ n) -ℤ d *ℤ j) -ℤ f *ℤ ((x *ℤ d +ℤ vx *ℤ n) -ℤ d *ℤ i))
side_value x vx i y vy j e f n d = simp spread (omega (arith, lin))

below_neg : (l z : ℤ) → l ≡ neg_ℤ z → (l <ℤ pos 0) ↔ (pos 0 <ℤ z)
below_neg l z e = ((λ h. omega (arith, lin)), (λ h. omega (arith, lin)))

pub side_below : (row : Row) (i j : ℤ × ℤ) (n d : ℤ) → (line_value (side_of row i j).b (side_of row i j).c n d <ℤ pos 0)
    ↔ LiesLeft i j (value_at row.x row.vx n d) (value_at row.y row.vy n d) d
side_below row i j n d = below_neg _ _ (side_value row.x row.vx i.0 row.y row.vy i.1 (j.0 -ℤ i.0) (j.1 -ℤ i.1) n d)

floor_value : (z v k n d : ℤ) → line_value (neg_ℤ v) (k -ℤ z) n d ≡ k *ℤ d -ℤ (z *ℤ d +ℤ v *ℤ n)
floor_value z v k n d = simp spread (omega (arith, lin))

ceiling_value : (z v k n d : ℤ) → line_value v (z -ℤ k) n d ≡ (z *ℤ d +ℤ v *ℤ n) -ℤ k *ℤ d
ceiling_value z v k n d = simp spread (omega (arith, lin))

below_is : (l p q : ℤ) → l ≡ p -ℤ q → (l <ℤ pos 0) ↔ (p <ℤ q)
below_is l p q e = ((λ h. omega (arith, lin)), (λ h. omega (arith, lin)))

pub floor_below : (row : Row) (level : ℕ) (n d : ℤ) → (line_value (floor_of row level).b (floor_of row level).c n d <ℤ pos 0)
    ↔ ((pos (6000 * level) *ℤ d) <ℤ value_at row.z row.vz n d)
floor_below row level n d = below_is _ _ _ (floor_value row.z row.vz (pos (6000 * level)) n d)

pub ceiling_below : (row : Row) (level : ℕ) (n d : ℤ) → (line_value (line_to_ceiling row level).b (line_to_ceiling row level).c n d <ℤ pos 0)
    ↔ (value_at row.z row.vz n d <ℤ (pos (6000 * level) *ℤ d))
ceiling_below row level n d = below_is _ _ _ (ceiling_value row.z row.vz (pos (6000 * level)) n d)

-- the parts of a cross product fit 64 bits
abbrev pub IsPlain : ℤ → Type 0
IsPlain z = IsWithin (neg_ℤ (pos 7372800)) (pos 7372800) z

size_of : (z : ℤ) → IsPlain z → Abs 7372800 z
size_of z kept = record { low = kept.least; high = kept.most }

pub record CrossFits (x y u v : ℤ) : Type 0 where
  pub fits_x : FitsSigned w128 x
  pub fits_y : FitsSigned w128 y
  pub fits_u : FitsSigned w128 u
  pub fits_v : FitsSigned w128 v
  pub small_x : FitsSigned w64 x
  pub small_y : FitsSigned w64 y
  pub small_u : FitsSigned w64 u
  pub small_v : FitsSigned w64 v
  pub fits_xv : FitsSigned w64 (x *ℤ v)
  pub fits_yu : FitsSigned w64 (y *ℤ u)
  pub fits_all : FitsSigned w64 (x *ℤ v -ℤ y *ℤ u)

pub cross_fits : (x y u v : ℤ) → IsPlain x → IsPlain y → IsPlain u → IsPlain v → CrossFits x y u v
cross_fits x y u v hx hy hu hv =
    let kx = size_of x hx in
    let ky = size_of y hy in
    let ku = size_of u hu in
    let kv = size_of v hv in
    record {
      fits_x = fits_128 kx (lit< tt);
      fits_y = fits_128 ky (lit< tt);
      fits_u = fits_128 ku (lit< tt);
      fits_v = fits_128 kv (lit< tt);
      small_x = fits_64 kx (lit< tt);
      small_y = fits_64 ky (lit< tt);
      small_u = fits_64 ku (lit< tt);
      small_v = fits_64 kv (lit< tt);
      fits_xv = fits_64 (abs_mul kx kv) (lit< tt);
      fits_yu = fits_64 (abs_mul ky ku) (lit< tt);
      fits_all = fits_64 (abs_sub (abs_mul kx kv) (abs_mul ky ku)) (lit< tt);
    }

-- numbers by their bits
abbrev pub in_64 : ℤ → ℤ
in_64 z = to_z w64 (of_z w64 z)

abbrev pub in_128 : ℤ → ℤ
in_128 z = to_z w128 (of_z w128 z)

pub read_64 : {m : ℕ} (z : ℤ) → Abs m z → m < 2 ^ 63 → in_64 z ≡ z
read_64 {m} z size small = to_z-of_z w64 z (fits_64 size small)

-- the term v of the code is read as the number z, at most m in size
record IsRead (m : ℕ) (v z : ℤ) : Type 0 where
  is : in_128 v ≡ z
  size : Abs m z

read_128 : {m : ℕ} (v z : ℤ) → v ≡ z → Abs m z → m < 2 ^ 127 → IsRead m v z
read_128 {m} v z e size small = record { is = rw e (to_z-of_z w128 z (fits_128 size small)); size = size }

abbrev pub IsInside64 : ℤ → Type 0
IsInside64 z = IsWithin (neg_ℤ (pos 3686400)) (pos 3686400) z

pub plane_size : (z : ℤ) → IsInside64 z → Abs 3686400 z
plane_size z kept = record { low = kept.least; high = kept.most }

difference : (v a b : ℤ) → IsInside64 a → IsInside64 b → v ≡ in_64 b -ℤ in_64 a → IsRead 7372800 v (b -ℤ a)
difference v a b a_kept b_kept e =
    let ka = plane_size a a_kept in
    let kb = plane_size b b_kept in
    read_128 v (b -ℤ a) (e ∙ ap₂ (λ (p q : ℤ). p -ℤ q) (read_64 b kb (lit< tt)) (read_64 a ka (lit< tt))) (abs_sub kb ka) (lit< tt)

speed : (v a : ℤ) → IsWithin (neg_ℤ (pos 1000)) (pos 1000) a → v ≡ in_64 a → IsRead 1000 v a
speed v a kept e =
    let k : Abs 1000 a = record { low = kept.least; high = kept.most } in
    read_128 v a (e ∙ read_64 a k (lit< tt)) k (lit< tt)

-- what is in the plane, or a difference of such, is so by its bits
pub inside_64 : (z : ℤ) → IsInside64 z → IsInside64 (in_64 z)
inside_64 z kept = rw (read_64 z (plane_size z kept) (lit< tt)) kept

pub plain_128 : (z : ℤ) → IsPlain z → IsPlain (in_128 z)
plain_128 z kept = rw (to_z-of_z w128 z (fits_128 (size_of z kept) (lit< tt))) kept

pub plain_speed : (v a : ℤ) → IsWithin (neg_ℤ (pos 1000)) (pos 1000) a → v ≡ in_64 a → IsPlain (in_128 v)
plain_speed v a kept e =
    let low = kept.least in
    let high = kept.most in
    rw (speed v a kept e).is (record { least = omega (arith, ints); most = omega (arith, ints) })

cross_size : {m n : ℕ} (x y u v : ℤ) → Abs m x → Abs m y → Abs n u → Abs n v → Abs (m * n + m * n) (cross x y u v)
cross_size {m} {n} x y u v kx ky ku kv = abs_sub (abs_mul kx kv) (abs_mul ky ku)

crossed : {m n : ℕ} (b p q r s x y u v : ℤ) → b ≡ cross (in_128 p) (in_128 q) (in_128 r) (in_128 s) → IsRead m p x → IsRead m q y → IsRead n r u → IsRead n s v
    → m * n + m * n < 2 ^ 127 → IsRead (m * n + m * n) b (cross x y u v)
crossed {m} {n} b p q r s x y u v e hp hq hr hs small =
    read_128 b (cross x y u v) (rw (e, hp.is, hq.is, hr.is, hs.is) refl) (cross_size x y u v hp.size hq.size hr.size hs.size) small

below_bound : {m : ℕ} {z : ℤ} (n : ℕ) → Abs m z → m < n → unsigned_abs z < n
below_bound {m} {z} n size small = let h = abs_to m z size in omega arith

-- the line of a side, as the code makes it
pub record SideReads (row : Row) (i j : ℤ × ℤ) (b c : ℤ) : Type 0 where
  pub is : record { b = in_128 b; c = in_128 c } ≡ side_of row i j
  pub bounded : IsBoundedSide (side_of row i j)

pub side_reads : (row : Row) (i j : ℤ × ℤ) (e f v w p q b c : ℤ) → IsBoundedRow row → IsInPlane i.0 i.1 → IsInPlane j.0 j.1
    → e ≡ in_64 j.0 -ℤ in_64 i.0 → f ≡ in_64 j.1 -ℤ in_64 i.1 → v ≡ in_64 row.vx → w ≡ in_64 row.vy
    → p ≡ in_64 row.x -ℤ in_64 i.0 → q ≡ in_64 row.y -ℤ in_64 i.1
    → b ≡ cross (in_128 v) (in_128 w) (in_128 e) (in_128 f) → c ≡ cross (in_128 p) (in_128 q) (in_128 e) (in_128 f) → SideReads row i j b c
side_reads row i j e f v w p q b c kept i_kept j_kept e_is f_is v_is w_is p_is q_is b_is c_is =
    let east = difference e i.0 j.0 i_kept.0 j_kept.0 e_is in
    let north = difference f i.1 j.1 i_kept.1 j_kept.1 f_is in
    let x = difference p i.0 row.x i_kept.0 kept.x.value p_is in
    let y = difference q i.1 row.y i_kept.1 kept.y.value q_is in
    let vx = speed v row.vx kept.x.growth v_is in
    let vy = speed w row.vy kept.y.growth w_is in
    let turn = crossed b v w e f _ _ _ _ b_is vx vy east north (lit< tt) in
    let start = crossed c p q e f _ _ _ _ c_is x y east north (lit< tt) in
    record {
      is = λ k. record { b = turn.is k; c = start.is k };
      bounded = record { b_bounded = below_bound _ turn.size (lit< tt); c_bounded = below_bound _ start.size (lit< tt) };
    }

-- what the lines at the places of an area say
pub corner_kept : (area : Area) (cs : List (ℤ × ℤ)) (i : ℕ) → cs ≡ area.corners → IsBoundedArea area → i < length cs
    → IsInPlane (slice_index_or cs i (pos 0, pos 0)).0 (slice_index_or cs i (pos 0, pos 0)).1
corner_kept area cs i same kept below = rw same (kept.each i (pos 0, pos 0) (rw same at below))

pub side_says : (area : Area) (row : Row) (cs : List (ℤ × ℤ)) (i next : ℕ) → cs ≡ area.corners → IsBoundedArea area → i < length cs → next ≡ place_after cs i
    → IsLineOf area row i (side_of row (slice_index_or cs i (pos 0, pos 0)) (slice_index_or cs next (pos 0, pos 0)))
side_says area row cs i next same kept below is = rw (is, same) (λ n d d+.
    let few : i < 16 = let all = rw same at below in omega (arith, kept.few) in
    let side = side_below row (corner area.corners i) (corner area.corners (place_after area.corners i)) n d in (
      (λ low. record { left = λ place. side.0 low; above = λ e. absurd (omega arith); below = λ e. absurd (omega arith) }),
      (λ says. side.1 (says.left (rw same at below))),
    ))

pub floor_says : (area : Area) (row : Row) (cs : List (ℤ × ℤ)) (i : ℕ) → cs ≡ area.corners → length cs ≤ i → i ≡ 16 → IsLineOf area row i (floor_of row area.bottom)
floor_says area row cs i same past is = λ n d d+.
    let floor = floor_below row area.bottom n d in
    let behind : length area.corners ≤ i = rw same at past in (
      (λ low. record { left = λ place. absurd (omega arith); above = λ e. floor.0 low; below = λ e. absurd (omega arith) }),
      (λ says. floor.1 (says.above is)),
    )

pub ceiling_says : (area : Area) (row : Row) (cs : List (ℤ × ℤ)) (i : ℕ) → cs ≡ area.corners → length cs ≤ i → i ≡ 17 → IsLineOf area row i (line_to_ceiling row area.top)
ceiling_says area row cs i same past is = λ n d d+.
    let ceiling = ceiling_below row area.top n d in
    let behind : length area.corners ≤ i = rw same at past in (
      (λ low. record { left = λ place. absurd (omega arith); above = λ e. absurd (omega arith); below = λ e. ceiling.0 low }),
      (λ says. ceiling.1 (says.below is)),
    )

always_below : (n d : ℤ) → pos 0 <ℤ d → line_value (pos 0) (negsuc 0) n d <ℤ pos 0
always_below n d d+ = omega (arith, ints)

pub nothing_says : (area : Area) (row : Row) (cs : List (ℤ × ℤ)) (i : ℕ) → cs ≡ area.corners → length cs ≤ i → i ≢ 16 → i ≢ 17
    → IsLineOf area row i (record { b = pos 0; c = negsuc 0 })
nothing_says area row cs i same past not_floor not_ceiling = λ n d d+.
    let behind : length area.corners ≤ i = rw same at past in (
      (λ low. record { left = λ place. absurd (omega arith); above = λ e. absurd (not_floor e); below = λ e. absurd (not_ceiling e) }),
      (λ says. always_below n d d+),
    )

-- the value of a line after some seconds fits 64 bits
pub record AfterFits (b c : ℤ) (seconds : ℕ) : Type 0 where
  pub fits_b : FitsSigned w128 b
  pub fits_c : FitsSigned w128 c
  pub small_b : FitsSigned w64 b
  pub small_c : FitsSigned w64 c
  pub fits_seconds : FitsSigned w64 (pos seconds)
  pub fits_product : FitsSigned w64 (b *ℤ pos seconds)
  pub fits_all : FitsSigned w64 (b *ℤ pos seconds +ℤ c)

at_most : {m : ℕ} (z : ℤ) → unsigned_abs z < m → Abs m z
at_most {m} (pos n) below = record { low = omega (arith, ints); high = omega (arith, ints) }
at_most {m} (negsuc n) below = record { low = omega (arith, ints); high = omega (arith, ints) }

pub after_fits : (line : Linear) (seconds : ℕ) → IsBoundedSide line → seconds ≤ 14400 → AfterFits line.b line.c seconds
after_fits line seconds bounded short =
    let kb : Abs (2 ^ 40) line.b = at_most line.b bounded.b_bounded in
    let kc : Abs (2 ^ 50) line.c = at_most line.c bounded.c_bounded in
    let ks : Abs 14400 (pos seconds) = record { low = omega (arith, ints); high = omega (arith, ints) } in
    record {
      fits_b = fits_128 kb (lit< tt);
      fits_c = fits_128 kc (lit< tt);
      small_b = fits_64 kb (lit< tt);
      small_c = fits_64 kc (lit< tt);
      fits_seconds = fits_64 ks (lit< tt);
      fits_product = fits_64 (abs_mul kb ks) (lit< tt);
      fits_all = fits_64 (abs_add (abs_mul kb ks) kc) (lit< tt);
    }

-- the test of a corner, as the code makes it
one_times : (a : ℤ) → pos 1 *ℤ a ≡ a
one_times a = omega (arith, ints)

pub left_reads : (i j k : ℤ × ℤ) (e f p q b : ℤ) → IsInPlane i.0 i.1 → IsInPlane j.0 j.1 → IsInPlane k.0 k.1 → e ≡ in_64 j.0 -ℤ in_64 i.0 → f ≡ in_64 j.1 -ℤ in_64 i.1
    → p ≡ in_64 k.0 -ℤ in_64 i.0 → q ≡ in_64 k.1 -ℤ in_64 i.1 → b ≡ cross (in_128 e) (in_128 f) (in_128 p) (in_128 q)
    → in_128 b ≡ cross (j.0 -ℤ i.0) (j.1 -ℤ i.1) (k.0 -ℤ pos 1 *ℤ i.0) (k.1 -ℤ pos 1 *ℤ i.1)
left_reads i j k e f p q b i_kept j_kept k_kept e_is f_is p_is q_is b_is =
    let east = difference e i.0 j.0 i_kept.0 j_kept.0 e_is in
    let north = difference f i.1 j.1 i_kept.1 j_kept.1 f_is in
    let x = difference p i.0 k.0 i_kept.0 k_kept.0 p_is in
    let y = difference q i.1 k.1 i_kept.1 k_kept.1 q_is in
    let turn = crossed b e f p q _ _ _ _ b_is east north x y (lit< tt) in
    rw (one_times i.0, one_times i.1) turn.is
