-- Words with a space after each: which is the first, and which stand after it.
use Rattle.std.proofs.Common.{◌≡◌, ℕ, ◌+◌, ◌<◌, ◌≤◌, ◌==◌, nat_lt, not, ◌&&◌, ◌||◌, cond, List, [], ◌∷◌, length, get_or, take, Bool, true, false, Some, None, bytes_eq, refl, sym, ap, ◌∙◌, subst, arith}
use Rattle.std.proofs.lemmas.List.{same_lists, take_all, drop_all, length-drop, length-take-le, get_or-take, get_or_default}
use Rattle.std.proofs.lemmas.List.Splits.{slice_split_first, slice_split_none}
use Rattle.std.proofs.lemmas.List.Sums.{prefix_len-le-length, position_or_len_is, fails_before_first, passes_at_first}
use Rattle.std.proofs.lemmas.Slice.Eq.{bytes_eq-Decides}
use Rattle.std.specs.List.{position_or_len, slice_split, list_any}
use Rattle.mt_json.specs.Keys.{is_allowed}
use Rattle.mt_json.specs.Private.Keys.{first_word, later_words, AreAmong}

abbrev pub is_space : ℕ → Bool
is_space b = b == 32

-- the key stands at the front, without a space, and a space or nothing after it
pub record IsFirst (words key : List ℕ) : Type 0 where
  pub fits : length key ≤ length words
  pub same : (i : ℕ) → i < length key → (get_or words i 0 ≡ get_or key i 0) × ((get_or words i 0 == 32) ≡ false)
  pub ends : length key < length words → (get_or words (length key) 0 == 32) ≡ true

pub first_place : (words key : List ℕ) → IsFirst words key → position_or_len is_space words ≡ length key
first_place words key h = position_or_len_is is_space words (length key) 0 h.fits (λ k l. (h.same k l).1) h.ends

equal_front : (words key : List ℕ) → IsFirst words key → take (length key) words ≡ key
equal_front words key h =
    let long : length (take (length key) words) ≡ length key = length-take-le (length key) words h.fits in
    same_lists (take (length key) words) key long
    (λ k d l.
    let l' : k < length key = subst (λ n. k < n) long l in
    get_or-take (length key) words k d l' ∙ get_or_default words k d 0 (omega (arith, h.fits)) ∙ (h.same k l').0 ∙ get_or_default key k 0 d l')

pub is_first : (words key : List ℕ) → IsFirst words key → bytes_eq (first_word words) key ≡ true
is_first words key h = (bytes_eq-Decides (first_word words) key).1 (ap (λ n. take n words) (first_place words key h) ∙ equal_front words key h)

at_most : (words : List ℕ) → position_or_len is_space words ≤ length words
at_most words = prefix_len-le-length (λ b. not (is_space b)) words

first_of : (words key : List ℕ) → first_word words ≡ key → IsFirst words key
first_of words key e =
    let n = position_or_len is_space words in
    let long : n ≡ length key = sym (length-take-le n words (at_most words)) ∙ ap length e in
    record {
      fits = subst (λ k. k ≤ length words) long (at_most words);
      same = λ i l.
          let l' : i < n = subst (λ k. i < k) (sym long) l in
          (sym (get_or-take n words i 0 l') ∙ ap (λ ks. get_or ks i 0) e, fails_before_first is_space words i 0 l');
      ends = λ l. subst (λ k. (get_or words k 0 == 32) ≡ true) long (passes_at_first is_space words 0 (subst (λ k. k < length words) (sym long) l));
    }

decided : (b : Bool) → (b ≡ true → ⊥) → b ≡ false
decided true h = absurd (h refl)
decided false _ = refl

pub not_first : (words key : List ℕ) → (IsFirst words key → ⊥) → bytes_eq (first_word words) key ≡ false
not_first words key h = decided (bytes_eq (first_word words) key) (λ yes. h (first_of words key ((bytes_eq-Decides (first_word words) key).0 yes)))

-- ---- the words after the first

pub fewer : (words : List ℕ) → 0 < length words → length (later_words words) < length words
fewer words l = omega (arith, length-drop (position_or_len is_space words + 1) words)

and_false : (b : Bool) → (b && false) ≡ false
and_false true = refl
and_false false = refl

pub no_more : (key : List ℕ) → is_allowed [] key ≡ false
no_more [] = refl
no_more (b ∷ bs) = and_false (not (length (b ∷ bs) == 0))

merged : (n a b : Bool) → (n && (a || b)) ≡ (n && (a || (n && b)))
merged true a b = refl
merged false a b = refl

split_at : (words key : List ℕ) (b : Bool) → nat_lt (position_or_len is_space words) (length words) ≡ b
    → is_allowed words key ≡ (not (length key == 0) && (bytes_eq (first_word words) key || is_allowed (later_words words) key))
split_at words key true e =
    let few : position_or_len is_space words < length words = grind arith in
    ap (λ parts. not (length key == 0) && list_any (λ word. bytes_eq word key) parts) (slice_split_first is_space words 0 few)
    ∙ merged (not (length key == 0)) (bytes_eq (first_word words) key) (list_any (λ word. bytes_eq word key) (slice_split is_space (later_words words)))
split_at words key false e =
    let n = position_or_len is_space words in
    let over : length words ≤ n = grind arith in
    let none : slice_split is_space words ≡ words ∷ [] = slice_split_none is_space words (λ k d l. fails_before_first is_space words k d (omega arith)) in
    let whole : first_word words ≡ words = take_all n words over in
    let later : later_words words ≡ [] = drop_all (n + 1) words (omega arith) in
    ap (λ parts. not (length key == 0) && list_any (λ word. bytes_eq word key) parts) none
    ∙ sym (ap (λ word. not (length key == 0) && (bytes_eq word key || is_allowed (later_words words) key)) whole
    ∙ ap (λ b. not (length key == 0) && (bytes_eq words key || b)) (ap (λ left. is_allowed left key) later ∙ no_more key))

-- a key is the first word or one of the later
pub one_more : (words key : List ℕ) → is_allowed words key ≡ (not (length key == 0) && (bytes_eq (first_word words) key || is_allowed (later_words words) key))
one_more words key = split_at words key _ refl

both : (n a b : Bool) → (n && b) ≡ true → (n && (a || (n && b))) ≡ true
both true true b e = refl
both true false b e = e
both false a b e = e

pub later_among : (words : List ℕ) → AreAmong (later_words words) words
later_among words key e =
    one_more words key ∙ both (not (length key == 0)) (bytes_eq (first_word words) key) (list_any (λ word. bytes_eq word key) (slice_split is_space (later_words words))) e

hit : (n a b : Bool) → n ≡ true → a ≡ true → (n && (a || b)) ≡ true
hit n a b e h = rw (e, h) refl

miss : (n a b : Bool) → a ≡ false → (n && (a || (n && b))) ≡ (n && b)
miss true a b h = rw h refl
miss false a b h = refl

pub among_first : (words key : List ℕ) → not (length key == 0) ≡ true → bytes_eq (first_word words) key ≡ true → is_allowed words key ≡ true
among_first words key some e = one_more words key ∙ hit _ _ _ some e

pub among_later : (words key : List ℕ) → bytes_eq (first_word words) key ≡ false → is_allowed words key ≡ is_allowed (later_words words) key
among_later words key e = one_more words key ∙ miss (not (length key == 0)) _ (list_any (λ word. bytes_eq word key) (slice_split is_space (later_words words))) e

-- what is met as the first of the words that are left
met_at : (words left key after : List ℕ) (b : Bool) → not (length key == 0) ≡ true → is_allowed words key ≡ is_allowed left key → AreAmong left words → bytes_eq (first_word left) key ≡ b
    → Some after ≡ cond b (Some (later_words left)) None → (is_allowed words key ≡ true) × AreAmong after words
met_at words left key after true some alike among is e =
    let same : after ≡ later_words left = cc in
    (alike ∙ among_first left key some is, λ k h. among k (later_among left k (subst (λ ws. is_allowed ws k ≡ true) same h)))
met_at words left key after false some alike among is e = absurd (cc)

pub first_met : (words left key after : List ℕ) → not (length key == 0) ≡ true → is_allowed words key ≡ is_allowed left key → AreAmong left words
    → Some after ≡ cond (bytes_eq (first_word left) key) (Some (later_words left)) None → (is_allowed words key ≡ true) × AreAmong after words
first_met words left key after some alike among e = met_at words left key after (bytes_eq (first_word left) key) some alike among refl e

missed_at : (b : Bool) (words : List ℕ) → None ≡ cond b (Some words) None → b ≡ false
missed_at true words e = absurd (cc)
missed_at false words e = refl

-- and what stands after a first word that is another
pub first_missed : (words left key : List ℕ) → is_allowed words key ≡ is_allowed left key → AreAmong left words → None ≡ cond (bytes_eq (first_word left) key) (Some (later_words left)) None
    → (is_allowed words key ≡ is_allowed (later_words left) key) × AreAmong (later_words left) words
first_missed words left key alike among e =
    (alike ∙ among_later left key (missed_at (bytes_eq (first_word left) key) (later_words left) e), λ k h. among k (later_among left k h))
