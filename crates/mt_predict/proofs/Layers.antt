-- Heights that the same band holds, and for how long a climb stays in them.
use Rattle.std.proofs.Common.{◌≡◌, ℕ, ◌+◌, ◌*◌, ◌<◌, ◌≤◌, ℤ, pos, ◌+ℤ◌, ◌-ℤ◌, ◌*ℤ◌, ◌<ℤ◌, ◌≤ℤ◌, neg_ℤ, List, [], ◌∷◌, length, get_or, take, All, true, false, int_le, int_lt, sym, unsigned_abs, if◌then◌else◌, ap, ◌∙◌, arith, refl, w64, FitsSigned}
use Rattle.std.specs.Int.{int_max, int_min}
use Rattle.std.proofs.lemmas.Int.{clamps, ints, to_z-of_z}
use Rattle.std.proofs.lemmas.List.{take_all}
use Rattle.std.proofs.lemmas.List.Elements.{All-head, All-more, All-tail}
use Rattle.mt_base.specs.declared.band.Band.{Band}
use Rattle.mt_base.specs.Bounds.{IsHeight, IsWithin}
use Rattle.mt_base.specs.Predictor.{band_at}
use Rattle.mt_predict.proofs.Casts.{as_is}
use Rattle.mt_predict.proofs.Reading.{read}

-- two heights lie on the same side of a band's top
abbrev pub IsOnOneSide : ℤ → ℤ → Band → Type 0
IsOnOneSide z h b = int_le h (pos (6000 * b.top)) ≡ int_le z (pos (6000 * b.top))

band_same : (bands : List Band) (z h : ℤ) → All (IsOnOneSide z h) bands → band_at bands h ≡ band_at bands z
band_same [] z h all = refl
band_same (b ∷ []) z h all = refl
band_same (b ∷ c ∷ bands) z h all =
    rw (All-head (IsOnOneSide z h) b (c ∷ bands) all)
    (ap (λ (held : Band). if int_le z (pos (6000 * b.top)) then b else held) (band_same (c ∷ bands) z h (All-tail (IsOnOneSide z h) b (c ∷ bands) all)))

pub same_band : (bands : List Band) (z h : ℤ) (i : ℕ) → FitsSigned w64 z → length bands ≤ i → All (IsOnOneSide (read z) h) (take i bands)
    → band_at bands h ≡ band_at bands z
same_band bands z h i fits past all = band_same bands z h (rw (take_all i bands past, to_z-of_z w64 z fits) at all)

-- one more top
pub one_more : (bands : List Band) (i : ℕ) (d : Band) (z h from : ℤ) → i < length bands → (get_or bands i d).top ≤ 600 → from ≡ pos (get_or bands i d).top
    → All (IsOnOneSide z h) (take i bands) → int_le h (read (pos 6000 *ℤ read from)) ≡ int_le z (read (pos 6000 *ℤ read from))
    → All (IsOnOneSide z h) (take (i + 1) bands)
one_more bands i d z h from below low from_is all same =
    let top : read (pos 6000 *ℤ read from) ≡ pos (6000 * (get_or bands i d).top) = rw from_is (omega (arith, ints, low)) in
    All-more (IsOnOneSide z h) bands i d below all (rw top at same)

-- heights of a layer on the same side of a top as one of them
pub record IsParted (low high new_low new_high top z : ℤ) : Type 0 where
  pub lowest : IsWithin (pos 0) z new_low
  pub highest : IsWithin z (pos 3600000) new_high
  pub inside : (h : ℤ) → IsWithin new_low new_high h → IsWithin low high h
  pub side : (h : ℤ) → IsWithin new_low new_high h → int_le h top ≡ int_le z top

parted_above : (low high top z : ℤ) → IsWithin (pos 0) z low → IsWithin z (pos 3600000) high → IsHeight top → top <ℤ z
    → IsParted low high (int_max low (top +ℤ pos 1)) high top z
parted_above low high top z l h t above = record {
  lowest = omega (arith, ints, clamps, l, t, above);
  highest = h;
  inside = λ y within. omega (arith, ints, clamps, within);
  side = λ y within. is_above y top (omega (arith, ints, clamps, within)) ∙ sym (is_above z top above);
}
  where
    is_above : (y top : ℤ) → top <ℤ y → int_le y top ≡ false
    is_above y top above = grind (arith, ints, above)

parted_below : (low high top z : ℤ) → IsWithin (pos 0) z low → IsWithin z (pos 3600000) high → IsHeight top → z ≤ℤ top
    → IsParted low high low (int_min high top) top z
parted_below low high top z l h t below = record {
  lowest = l;
  highest = omega (arith, ints, clamps, h, t, below);
  inside = λ y within. omega (arith, ints, clamps, within);
  side = λ y within. is_below y top (omega (arith, ints, clamps, within)) ∙ sym (is_below z top below);
}
  where
    is_below : (y top : ℤ) → y ≤ℤ top → int_le y top ≡ true
    is_below y top below = grind (arith, ints, below)

-- the code's
pub is_parted_above : (low high top z m : ℤ) → IsWithin (pos 0) z low → IsWithin z (pos 3600000) high → IsHeight top → int_lt (read top) (read z) ≡ true
    → m ≡ int_max (read low) (read (read top +ℤ pos 1)) → IsParted low high (read m) (read high) top z
is_parted_above low high top z m l h t above is =
    let lowest : read m ≡ int_max low (top +ℤ pos 1) = omega (arith, ints, clamps, l, h, t, is) in
    let highest : read high ≡ high = as_is high (omega (arith, ints, l, h)) (omega (arith, ints, l, h)) in
    let e : top <ℤ z = omega (arith, ints, l, h, t, above) in
    rw (lowest, highest) (parted_above low high top z l h t e)

pub is_parted_below : (low high top z m : ℤ) → IsWithin (pos 0) z low → IsWithin z (pos 3600000) high → IsHeight top → int_lt (read top) (read z) ≡ false
    → m ≡ int_min (read high) (read top) → IsParted low high (read low) (read m) top z
is_parted_below low high top z m l h t below is =
    let highest : read m ≡ int_min high top = omega (arith, ints, clamps, l, h, t, is) in
    let lowest : read low ≡ low = as_is low (omega (arith, ints, l, h)) (omega (arith, ints, l, h)) in
    let e : z ≤ℤ top = omega (arith, ints, l, h, t, below) in
    rw (highest, lowest) (parted_below low high top z l h t e)

-- how far the code's climb goes on, and its descent
up_kept : (to z highest climb : ℤ) → IsHeight to → IsHeight z → IsWithin z (pos 3600000) highest → pos 0 <ℤ climb → (z +ℤ climb) ≤ℤ to
    → IsHeight (int_min to (highest +ℤ climb) -ℤ z)
up_kept to z highest climb t h m climbs ahead = omega (arith, ints, clamps, t, h, m, climbs, ahead)

up_value : (to z highest climb end : ℤ) → IsHeight to → IsHeight z → IsWithin z (pos 3600000) highest → IsWithin (neg_ℤ (pos 10000)) (pos 10000) climb
    → end ≡ int_min (read to) (read (read highest +ℤ read climb)) → read (read end -ℤ read z) ≡ int_min to (highest +ℤ climb) -ℤ z
up_value to z highest climb end t h m rate is = omega (arith, ints, clamps, t, h, m, rate, is)

pub up_is : (to z highest climb end n : ℤ) → IsHeight to → IsHeight z → IsWithin z (pos 3600000) highest → IsWithin (neg_ℤ (pos 10000)) (pos 10000) climb
    → pos 0 <ℤ climb → (z +ℤ climb) ≤ℤ to → end ≡ int_min (read to) (read (read highest +ℤ read climb)) → n ≡ read (read end -ℤ read z)
    → IsHeight n × (n ≡ int_min to (highest +ℤ climb) -ℤ z)
up_is to z highest climb end n t h m rate climbs ahead end_is n_is =
    let e = n_is ∙ up_value to z highest climb end t h m rate end_is in
    (rw e (up_kept to z highest climb t h m climbs ahead), e)

down_kept : (to z lowest climb : ℤ) → IsHeight to → IsHeight z → IsWithin (pos 0) z lowest → climb ≤ℤ pos 0 → to ≤ℤ (z +ℤ climb)
    → IsHeight (z -ℤ int_max to (lowest +ℤ climb))
down_kept to z lowest climb t h l descends ahead = omega (arith, ints, clamps, t, h, l, descends, ahead)

down_value : (to z lowest climb end : ℤ) → IsHeight to → IsHeight z → IsWithin (pos 0) z lowest → IsWithin (neg_ℤ (pos 10000)) (pos 10000) climb
    → end ≡ int_max (read to) (read (read lowest +ℤ read climb)) → read (read z -ℤ read end) ≡ z -ℤ int_max to (lowest +ℤ climb)
down_value to z lowest climb end t h l rate is = omega (arith, ints, clamps, t, h, l, rate, is)

pub down_is : (to z lowest climb end n : ℤ) → IsHeight to → IsHeight z → IsWithin (pos 0) z lowest → IsWithin (neg_ℤ (pos 10000)) (pos 10000) climb
    → climb ≤ℤ pos 0 → to ≤ℤ (z +ℤ climb) → end ≡ int_max (read to) (read (read lowest +ℤ read climb)) → n ≡ read (read z -ℤ read end)
    → IsHeight n × (n ≡ z -ℤ int_max to (lowest +ℤ climb))
down_is to z lowest climb end n t h l rate descends ahead end_is n_is =
    let e = n_is ∙ down_value to z lowest climb end t h l rate end_is in
    (rw e (down_kept to z lowest climb t h l descends ahead), e)

-- a height without its sign
pub natural_height : (z : ℤ) → IsHeight z → pos (unsigned_abs z) ≡ z
natural_height z kept = omega (arith, ints, kept)
