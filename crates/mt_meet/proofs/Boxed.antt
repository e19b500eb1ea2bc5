-- Items between their bounds, page by page.
use Rattle.std.proofs.Common.{◌≡◌, ◌≢◌, ◌<◌, ◌+◌, ◌*◌, ◌/◌, ◌%◌, ◌^◌, ⊎_elim, Bool, Bor, false, true≢false, ℕ, List, Option, Some, None, get_or, length, replicate, refl, sym, subst, ap, ◌∙◌, length-set, arith}
use Rattle.std.proofs.Math.ListN.{set}
use Rattle.std.proofs.lemmas.Bool.{cases_eq}
use Rattle.std.proofs.lemmas.Int.{ints}
use Rattle.std.proofs.lemmas.List.{get_or-set_other, get_or-set_same, length-replicate, set-get_or}
use Rattle.std.proofs.lemmas.List.Elements.{All-replicate, All-set}
use Rattle.std.specs.Option.{is_some, option_copied}
use Rattle.std.specs.Int.{bit_at, div_ceil}
use Rattle.mt_base.specs.Bounds.{AreWithinBounds}
use Rattle.mt_base.specs.declared.rules.Rules.{Rules}
use Rattle.mt_cover.specs.Sliced.{Sliced, slice_at}
use Rattle.mt_cover.specs.declared.sliced.Slice.{Slice}
use Rattle.mt_meet.specs.Meeting.{Asked, MeetAt}
use Rattle.mt_meet.specs.Searching.{MeetsOnlyIn, part_at}
use Rattle.mt_meet.specs.declared.marked_parts.MarkedParts.{MarkedParts}
use Rattle.mt_meet.specs.Private.Boxing.{AreBoxesKept, AreGuarded, AreSlicesIn, CrossesIn, HasAllWindows, HasNoSecond, IsBoxed, IsCrossedIn, bounds_at, bounds_in, boxes_in, no_window, page_of, place_of, IsPartMarked}
use Rattle.mt_meet.specs.Private.Stepping.{IsBoxedBy, IsGuardedBy, nowhere}
use Rattle.mt_meet.specs.declared.boxes.Boxes.{Boxes}
use Rattle.mt_meet.specs.declared.steps.Bounds.{Bounds}
use Rattle.mt_meet.specs.declared.subject.Window.{Window}
use Rattle.mt_meet.proofs.Crossing.{crossing}
use Rattle.mt_meet.proofs.Same.{always}

none_boxed : (place : ℕ) (boxes : ℕ → Option Boxes) → IsBoxed None boxes place
none_boxed place boxes = λ theirs k is have. absurd (cc)

pub kept_empty : (n k : ℕ) → n < 2 ^ 32 → k ≡ 2 * div_ceil n 128 → AreBoxesKept n (replicate n None) (replicate k None)
kept_empty n k few enough = record {
  count_is = sym (length-replicate n None);
  few = few;
  each = All-replicate AreSlicesIn n None tt;
  pages_are = length-replicate k None ∙ enough;
  full = All-replicate HasAllWindows k None tt;
  boxed = λ item. subst (λ (x : Option Sliced). IsBoxed x (boxes_in (get_or (replicate k None) (page_of item) None)) (place_of item)) (sym (always n item None))
      (none_boxed (place_of item) (boxes_in (get_or (replicate k None) (page_of item) None)));
}

-- where an item has no slices, and gets none, all stays
pub unchanged : (table : List (Option Sliced)) (i : ℕ) (x : Option Sliced) (entry : Option (Bor Sliced)) → is_some x ≡ false → is_some entry ≡ false
    → option_copied entry ≡ get_or table i None → set table i x ≡ table
unchanged table i None None own none is = subst (λ (y : Option Sliced). set table i y ≡ table) (sym is) (set-get_or table i None)
unchanged table i None (Some it) own none is = absurd (true≢false none)
unchanged table i (Some s) entry own none is = absurd (true≢false own)

-- two items at one place of one page are the same
same_item : (i j : ℕ) → page_of j ≡ page_of i → place_of j ≡ place_of i → j ≡ i
same_item i j page place = omega (arith, page, place)

module _ (n : ℕ) (table : List (Option Sliced)) (pages : List (Option (List (Option Boxes)))) (kept : AreBoxesKept n table pages) (i : ℕ) (x : Option Sliced)
    (page : List (Option Boxes)) (inside : i < length table) (full : length page ≡ 64)
    (own : IsBoxed x (λ remainder. get_or page remainder None) (place_of i))
    (beside : (remainder other : ℕ) → remainder < 64 → other < 64 → other ≢ place_of i
    → bounds_in (get_or page remainder None) other ≡ bounds_in (boxes_in (get_or pages (page_of i) None) remainder) other) where
  number : page_of i < length pages
  number = omega (arith, inside, kept.count_is, kept.pages_are)

  abbrev after : List (Option (List (Option Boxes)))
  after = set pages (page_of i) (Some page)

  here : get_or after (page_of i) None ≡ Some page
  here = get_or-set_same pages (page_of i) (Some page) None number

  boxed_here : IsBoxed (get_or (set table i x) i None) (boxes_in (get_or after (page_of i) None)) (place_of i)
  boxed_here = rw (here, get_or-set_same table i x None inside) own

  -- another item of the page, and one of another page
  boxed_beside : (j : ℕ) → j ≢ i → page_of j ≡ page_of i → IsBoxed (get_or table j None) (boxes_in (get_or after (page_of i) None)) (place_of j)
  boxed_beside j apart same_page = rw here (λ theirs k is have.
      subst (λ (b : Bounds). IsBoxedBy b theirs.rvsm (slice_at theirs k))
      (ap (λ (m : ℕ). bounds_in (boxes_in (get_or pages m None) (k / 256 % 64)) (place_of j)) same_page
      ∙ sym (beside (k / 256 % 64) (place_of j) (omega arith) (omega arith) (λ same. apart (same_item i j same_page same))))
      (kept.boxed j theirs k is have))

  boxed_at : (j : ℕ) → IsBoxed (get_or (set table i x) j None) (boxes_in (get_or after (page_of j) None)) (place_of j)
  boxed_at j = ⊎_elim
      (λ it. subst (λ (m : ℕ). IsBoxed (get_or (set table i x) m None) (boxes_in (get_or after (page_of m) None)) (place_of m)) (sym it) boxed_here)
      (λ it. subst (λ (y : Option Sliced). IsBoxed y (boxes_in (get_or after (page_of j) None)) (place_of j)) (sym (get_or-set_other table i j x None it))
      (⊎_elim
      (λ same_page. subst (λ (m : ℕ). IsBoxed (get_or table j None) (boxes_in (get_or after m None)) (place_of j)) (sym same_page) (boxed_beside j it same_page))
      (λ other_page. subst (λ (p : Option (List (Option Boxes))). IsBoxed (get_or table j None) (boxes_in p) (place_of j))
      (sym (get_or-set_other pages (page_of i) (page_of j) (Some page) None other_page)) (kept.boxed j))
      (cases_eq (page_of j) (page_of i))))
      (cases_eq j i)

  pub kept_with : AreSlicesIn x → AreBoxesKept n (set table i x) after
  kept_with slices = record {
    count_is = kept.count_is ∙ sym (length-set table i x);
    few = kept.few;
    each = All-set AreSlicesIn table i x slices kept.each;
    pages_are = length-set pages (page_of i) (Some page) ∙ kept.pages_are;
    full = All-set HasAllWindows pages (page_of i) (Some page) full kept.full;
    boxed = boxed_at;
  }

-- nothing has a step in common with what is nowhere
not_nowhere : (approved : Bool) (s : Slice) → ¬ IsBoxedBy nowhere approved s
not_nowhere approved s by = omega (arith, ints, by.enclose.east)

-- what meets crosses in its window
crosses_at : (rules : Rules) (mine theirs : Sliced) (k : ℕ) (own : Bounds) (boxes : Option Boxes) (place : ℕ) → AreWithinBounds rules
    → IsBoxedBy (bounds_in boxes place) theirs.rvsm (slice_at theirs k) → IsGuardedBy rules own mine.rvsm (slice_at mine k) → MeetAt rules mine theirs k
    → CrossesIn own boxes place
crosses_at rules mine theirs k own None place rules_kept theirs_in own_in meet = not_nowhere theirs.rvsm (slice_at theirs k) theirs_in
crosses_at rules mine theirs k own (Some b) place rules_kept theirs_in own_in meet =
    crossing rules mine.rvsm theirs.rvsm (slice_at mine k) (slice_at theirs k) own (bounds_at b place) rules_kept meet.meet own_in theirs_in

module _ (n : ℕ) (table : List (Option Sliced)) (pages : List (Option (List (Option Boxes)))) (kept : AreBoxesKept n table pages) where
  boxed : (item page_no place : ℕ) → page_of item ≡ page_no → place_of item ≡ place → (page : Option (List (Option Boxes))) → get_or pages page_no None ≡ page
      → IsBoxed (get_or table item None) (boxes_in page) place
  boxed item page_no place page_is place_is page at =
      subst (λ (p : Option (List (Option Boxes))). IsBoxed (get_or table item None) (boxes_in p) place) at
      (subst (λ (m : ℕ). IsBoxed (get_or table item None) (boxes_in (get_or pages m None)) place) page_is
      (subst (IsBoxed (get_or table item None) (boxes_in (get_or pages (page_of item) None))) place_is (kept.boxed item)))

  -- an item of a page that is absent has no second
  pub none_on_page : (item page_no place : ℕ) → page_of item ≡ page_no → place_of item ≡ place → get_or pages page_no None ≡ None → HasNoSecond (get_or table item None)
  none_on_page item page_no place page_is place_is at theirs k there have =
      not_nowhere theirs.rvsm (slice_at theirs k) (boxed item page_no place page_is place_is None at theirs k there have)

  pub none_in_block : (block : ℕ) → get_or pages (2 * block) None ≡ None → get_or pages (2 * block + 1) None ≡ None → (item : ℕ) → item / 128 ≡ block
      → HasNoSecond (get_or table item None)
  none_in_block block even odd item at = ⊎_elim
      (λ is_even. none_on_page item (2 * block) (place_of item) (omega (arith, at, is_even)) refl even)
      (λ is_odd. none_on_page item (2 * block + 1) (place_of item) (omega (arith, at, is_odd)) refl odd)
      (cases_eq (item % 2) 0)

  -- where what crosses in a window is marked, items meet in marked parts alone
  pub met_in_marked : (asked : Asked) (item page_no place : ℕ) → page_of item ≡ page_no → place_of item ≡ place → AreWithinBounds asked.rules → (windows : List Window)
      → AreGuarded asked.rules asked.sliced windows → (page : List (Option Boxes)) → get_or pages page_no None ≡ Some page → (marks : MarkedParts)
      → ((w part : ℕ) → w < length windows → IsCrossedIn page (get_or windows w no_window) place → bit_at (Window.part (get_or windows w no_window)) part ≡ 1
      → IsPartMarked marks place part) → MeetsOnlyIn asked table item (get_or marks.parts place 0)
  met_in_marked asked item page_no place page_is place_is rules_kept windows guarded page at marks marked theirs k there meet =
      let mine_at = guarded.each k meet.left in
      let own = Window.bounds (get_or windows mine_at.place no_window) in
      marked mine_at.place (part_at asked.sliced k) mine_at.within
      (subst (λ (r : ℕ). CrossesIn own (get_or page r None) place) (sym mine_at.remainder_is)
      (crosses_at asked.rules asked.sliced theirs k own (get_or page (k / 256 % 64) None) place rules_kept
      (boxed item page_no place page_is place_is (Some page) at theirs k there meet.right) mine_at.guarded meet))
      mine_at.part_is
