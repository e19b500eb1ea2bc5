-- A list read item by item: what is read of its front, joined to what the rest is read as, is what all of it is read as.
use Rattle.std.proofs.Common.{◌≡◌, ℕ, ◌+◌, ◌<◌, ◌≤◌, List, [], ◌∷◌, ◌++◌, length, drop, get_or, Option, Some, None, option_map, sym, refl, ap, ◌∙◌, append_assoc, append-nil}
use Rattle.std.proofs.lemmas.List.{at_drop_all, at_drop_more}
use Rattle.std.specs.Prelude.{option_and_then}
use Rattle.serde_json.specs.Data.{Data}
use Rattle.mt_json.specs.View.{items_view, view}
use Rattle.mt_json.specs.declared.value.Value.{Value}
use Rattle.mt_read.specs.Field.{each_of}

-- what the rest is read as, after a front
abbrev pub joined : {A : Type 0} → List A → Option (List A) → Option (List A)
joined front rest = option_map (λ xs. front ++ xs) rest

unread : {A : Type 0} (kind : Data → Option A) (front : List A) (vs : List Value) (i : ℕ) (v : Value) → i < length vs → v ≡ get_or vs i v
    → joined front (each_of kind (items_view (drop i vs)))
    ≡ joined front (option_and_then (λ x. option_map (λ xs. x ∷ xs) (each_of kind (items_view (drop (i + 1) vs)))) (kind (view v)))
unread kind front vs i v h e =
    at_drop_more (λ l. joined front (each_of kind (items_view l))) vs i v h ∙ ap (λ w. joined front (each_of kind (items_view (w ∷ drop (i + 1) vs)))) (sym e)

onward : {A : Type 0} (front : List A) (x : A) (rest : Option (List A)) → joined (front ++ x ∷ []) rest ≡ joined front (option_map (λ xs. x ∷ xs) rest)
onward front x None = refl
onward front x (Some xs) = ap Some (append_assoc front (x ∷ []) xs)

-- one more is read
pub item_read : {A : Type 0} (kind : Data → Option A) (front more : List A) (vs : List Value) (i : ℕ) (v : Value) (x : A) (r : Option (List A))
    → i < length vs → v ≡ get_or vs i v → kind (view v) ≡ Some x → more ≡ front ++ x ∷ [] → joined front (each_of kind (items_view (drop i vs))) ≡ r
    → joined more (each_of kind (items_view (drop (i + 1) vs))) ≡ r
item_read kind front more vs i v x r h e k m was =
    let rest = each_of kind (items_view (drop (i + 1) vs)) in
    ap (λ l. joined l rest) m ∙ onward front x rest ∙ ap (λ o. joined front (option_and_then (λ y. option_map (λ xs. y ∷ xs) rest) o)) (sym k)
    ∙ sym (unread kind front vs i v h e) ∙ was

-- one isn't of its kind
pub item_refused : {A : Type 0} (kind : Data → Option A) (front : List A) (vs : List Value) (i : ℕ) (v : Value) (r : Option (List A))
    → i < length vs → v ≡ get_or vs i v → kind (view v) ≡ None → joined front (each_of kind (items_view (drop i vs))) ≡ r → None ≡ r
item_refused kind front vs i v r h e k was =
    let rest = each_of kind (items_view (drop (i + 1) vs)) in
    ap (λ o. joined front (option_and_then (λ y. option_map (λ xs. y ∷ xs) rest) o)) (sym k) ∙ sym (unread kind front vs i v h e) ∙ was

-- all are read
pub all_read : {A : Type 0} (kind : Data → Option A) (front : List A) (vs : List Value) (i : ℕ) (r : Option (List A))
    → length vs ≤ i → joined front (each_of kind (items_view (drop i vs))) ≡ r → Some front ≡ r
all_read kind front vs i r h was = ap Some (sym (append-nil front)) ∙ sym (at_drop_all (λ l. joined front (each_of kind (items_view l))) vs i h) ∙ was
