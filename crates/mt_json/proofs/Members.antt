-- Members that are put in one after another: their keys ascend, and of those with one key the last is found.
use Rattle.std.proofs.Common.{◌≡◌, ℕ, List, [], ◌∷◌, ◌++◌, map, Bool, true, false, cond, Some, Ordering, Less, Equal, Greater, nat_cmp, bytes_eq, true≢false, Bor, refl, sym, ap, ◌∙◌, subst}
use Rattle.std.proofs.lemmas.Cmp.{nat_list_cmp_total}
use Rattle.std.proofs.lemmas.Slice.Eq.{bytes_eq-Decides}
use Rattle.std.specs.Cmp.Lexicographic.{slice_cmp}
use Rattle.std.specs.List.{AllByRecursion}
use Rattle.std.specs.List.Sorted.{IsStrictlySortedBy}
use Rattle.std.specs.Ordering.{match_ordering, ordering_reverse}
use Rattle.serde_json.specs.Data.{Data, Members, no_members, member, put}
use Rattle.serde_json.specs.Find.{get_member}
use Rattle.serde_json.proofs.Views.{get_member-put, get_member-put_other}
use Rattle.mt_json.specs.Keys.{keys}
use Rattle.mt_json.specs.View.{puts, view, members_view}
use Rattle.mt_json.specs.declared.value.Value.{Value}

abbrev pub Entry : Type 0
Entry = Bor (List ℕ) × Value

puts_more : (ms : List Entry) (m : Entry) (found : Members) → puts (map (λ (e : Entry). (e.0, view e.1)) (ms ++ m ∷ [])) found ≡ put m.0.now (view m.1) (puts (map (λ (e : Entry). (e.0, view e.1)) ms) found)
puts_more [] m found = refl
puts_more (e ∷ ms) m found = puts_more ms m (put e.0.now (view e.1) found)

-- one member more at the end is put in last
pub members_more : (ms : List Entry) (m : Entry) → members_view (ms ++ m ∷ []) ≡ put m.0.now (view m.1) (members_view ms)
members_more ms m = puts_more ms m no_members

-- ---- look-ups

found_or : (b : Bool) (q k : List ℕ) (d : Data) (ms : Members) → bytes_eq k q ≡ b → get_member q (put k d ms) ≡ cond b (Some d) (get_member q ms)
found_or true q k d ms e = let same = (bytes_eq-Decides k q).0 e in subst (λ x. get_member x (put k d ms) ≡ Some d) same (get_member-put k d ms)
found_or false q k d ms e = get_member-put_other q k d ms (λ h. true≢false (sym ((bytes_eq-Decides k q).1 (sym h)) ∙ e))

-- of the members the last of a key is found
pub get_member-more : (q : List ℕ) (ms : List Entry) (m : Entry) → get_member q (members_view (ms ++ m ∷ [])) ≡ cond (bytes_eq m.0.now q) (Some (view m.1)) (get_member q (members_view ms))
get_member-more q ms m = ap (get_member q) (members_more ms m) ∙ found_or _ q m.0.now (view m.1) (members_view ms) refl

-- ---- order

abbrev pub IsBelow : List ℕ → List (List ℕ) → Type 0
IsBelow k ks = AllByRecursion (λ l. slice_cmp nat_cmp k l ≡ Less) ks

abbrev Ascend : Members → Type 0
Ascend ms = IsStrictlySortedBy (slice_cmp nat_cmp) (keys ms)

below_put_at : (o : Ordering) (q k l : List ℕ) (d e : Data) (ms : Members) → slice_cmp nat_cmp q k ≡ Less → IsBelow q (keys (member l e ms)) → IsBelow q (keys (put k d ms))
    → IsBelow q (keys (match_ordering o (member k d (member l e ms)) (member l d ms) (member l e (put k d ms))))
below_put_at Less q k l d e ms less h later = (less, h)
below_put_at Equal q k l d e ms less h later = h
below_put_at Greater q k l d e ms less h later = (h.0, later)

below_put : (q k : List ℕ) (d : Data) (ms : Members) → slice_cmp nat_cmp q k ≡ Less → IsBelow q (keys ms) → IsBelow q (keys (put k d ms))
below_put q k d no_members less h = (less, tt)
below_put q k d (member l e ms) less h = below_put_at (slice_cmp nat_cmp k l) q k l d e ms less h (below_put q k d ms less h.1)

-- what is below a key is below all that are above it
pub below_all : (k l : List ℕ) (ks : List (List ℕ)) → slice_cmp nat_cmp k l ≡ Less → IsBelow l ks → IsBelow k ks
below_all k l [] less h = tt
below_all k l (x ∷ ks) less h = (nat_list_cmp_total.trans k l x less h.0, below_all k l ks less h.1)

put_at : (o : Ordering) (k l : List ℕ) (d e : Data) (ms : Members) → slice_cmp nat_cmp k l ≡ o → Ascend (member l e ms) → Ascend (put k d ms)
    → Ascend (match_ordering o (member k d (member l e ms)) (member l d ms) (member l e (put k d ms)))
unfolding IsStrictlySortedBy
put_at Less k l d e ms is h later = ((is, below_all k l (keys ms) is h.0), h)
put_at Equal k l d e ms is h later = h
put_at Greater k l d e ms is h later =
    (below_put l k d ms (nat_list_cmp_total.antisymm l k ∙ ap ordering_reverse is) h.0, later)

-- what is put in keeps the order
pub ascend_put : (k : List ℕ) (d : Data) (ms : Members) → Ascend ms → Ascend (put k d ms)
unfolding IsStrictlySortedBy
ascend_put k d no_members h = (tt, tt)
ascend_put k d (member l e ms) h = put_at (slice_cmp nat_cmp k l) k l d e ms refl h (ascend_put k d ms h.1)

ascend_puts : (ms : List (Bor (List ℕ) × Data)) (found : Members) → Ascend found → Ascend (puts ms found)
ascend_puts [] found h = h
ascend_puts (m ∷ ms) found h = ascend_puts ms (put m.0.now m.1 found) (ascend_put m.0.now m.1 found h)

-- the keys of what was read ascend
pub ascending : (ms : List Entry) → IsStrictlySortedBy (slice_cmp nat_cmp) (keys (members_view ms))
unfolding IsStrictlySortedBy
ascending ms = ascend_puts (map (λ (e : Entry). (e.0, view e.1)) ms) no_members tt
