-- What is found, one trajectory more at a time.
use Rattle.std.proofs.Common.{◌≡◌, ℕ, ◌+◌, ◌<◌, ◌⊎◌, inl, inr, ⊎_elim, ◌↔◌, List, [], ◌∷◌, ◌++◌, None, Contains, length, map, take, get_or, refl, sym, ◌∙◌, ap, subst, arith}
use Rattle.std.proofs.lemmas.List.{map_more}
use Rattle.std.proofs.lemmas.List.Elements.{Contains-append_left, Contains-push, Contains-push_cases}
use Rattle.std.specs.Cmp.Lexicographic.{slice_cmp}
use Rattle.std.specs.List.Sorted.{IsStrictlySortedBy}
use Rattle.std.specs.Ordering.{nat_cmp}
use Rattle.std.specs.declared.cmp.Ordering.TheVariants.{Less}
use Rattle.mt_base.specs.declared.conflict.Conflict.{Conflict}
use Rattle.mt_base.specs.declared.rules.Rules.{Rules}
use Rattle.mt_base.specs.Conflict.{IsConflict, IsSpanOfLoss}
use Rattle.mt_base.specs.Picture.{IsConflictOf, IsConflictAmong, IsPublishedOf, NamedTrajectory, conflict_cmp, window_end}
use Rattle.mt_base.proofs.OneConflict.{one_conflict}
use Rattle.mt_plain.specs.Private.Added.{AddsConflicts, IsOfRight}

-- nothing, one more, and one step after another
pub Adds-none : (P : Conflict → Type 0) (cs : List Conflict) → ((c : Conflict) → ¬ P c) → AddsConflicts P cs cs
Adds-none P cs none = λ c. ((λ held. inl held), (λ either. ⊎_elim (λ held. held) (λ is. absurd (none c is)) either))

pub Adds-one : (P : Conflict → Type 0) (cs : List Conflict) (one : Conflict) → P one → ((c : Conflict) → P c → one ≡ c) → AddsConflicts P cs (cs ++ one ∷ [])
Adds-one P cs one is only = λ c. (
  (λ held. ⊎_elim (λ before. inl before) (λ e. inr (subst P e is)) (Contains-push_cases cs one c held)),
  (λ either. ⊎_elim (λ before. Contains-append_left cs (one ∷ []) c before) (λ is_c. subst (Contains (cs ++ one ∷ [])) (only c is_c) (Contains-push cs one)) either),
)

pub Adds-more : (P Q R : Conflict → Type 0) (old mid new : List Conflict) → ((c : Conflict) → R c ↔ (P c ⊎ Q c)) → AddsConflicts P old mid → AddsConflicts Q mid new → AddsConflicts R old new
Adds-more P Q R old mid new parts first second = λ c. (
  (λ held. ⊎_elim
      (λ before. ⊎_elim (λ was. inl was) (λ p. inr ((parts c).1 (inl p))) ((first c).0 before))
      (λ q. inr ((parts c).1 (inr q))) ((second c).0 held)),
  (λ either. ⊎_elim
      (λ was. (second c).1 (inl ((first c).1 (inl was))))
      (λ r. ⊎_elim (λ p. (second c).1 (inl ((first c).1 (inr p)))) (λ q. (second c).1 (inr q)) ((parts c).0 r)) either),
)

-- the pair test found nothing, or this conflict and no other
pub none_found : (rules : Rules) (now : ℕ) (left right : NamedTrajectory) → IsConflict rules left.path right.path now (window_end now) None
    → (c : Conflict) → ¬ IsConflictOf rules now left right c
none_found rules now left right none c is =
    none c.first is.span.inside.0 (omega (arith, is.span.inside.1, is.span.inside.2)) is.span.first_is

abbrev conflict_of : NamedTrajectory → NamedTrajectory → ℕ → ℕ → Conflict
conflict_of left right first last = record { first = first; a = left.call; b = right.call; ka = left.kind; kb = right.kind; last = last }

pub Adds-found : (rules : Rules) (now : ℕ) (left right : NamedTrajectory) (first last : ℕ) (old new : List Conflict)
    → slice_cmp nat_cmp left.call right.call ≡ Less → IsSpanOfLoss rules left.path right.path now (window_end now) first last
    → new ≡ old ++ conflict_of left right first last ∷ [] → AddsConflicts (IsConflictOf rules now left right) old new
Adds-found rules now left right first last old new before span pushed =
    let is : IsConflictOf rules now left right (conflict_of left right first last) =
    record { calls = (refl, refl); kinds = (refl, refl); apart = before; span = span } in
    rw pushed (Adds-one (IsConflictOf rules now left right) old _ is (λ d other. one_conflict rules now left right _ d is other))

-- with one right trajectory more
pub IsOfRight-push : (rules : Rules) (now : ℕ) (left : NamedTrajectory) (rights : List NamedTrajectory) (right : NamedTrajectory) (c : Conflict)
    → IsOfRight rules now left (rights ++ right ∷ []) c ↔ (IsOfRight rules now left rights c ⊎ IsConflictOf rules now left right c)
IsOfRight-push rules now left rights right c = (
  (λ some. ⊎_elim
      (λ before. inl (record { right = some.right; right_in = before; is = some.is }))
      (λ e. inr (subst (λ (t : NamedTrajectory). IsConflictOf rules now left t c) (sym e) some.is)) (Contains-push_cases rights right some.right some.right_in)),
  (λ either. ⊎_elim
      (λ some. record { right = some.right; right_in = Contains-append_left rights (right ∷ []) some.right some.right_in; is = some.is })
      (λ is. record { right = right; right_in = Contains-push rights right; is = is }) either),
)

-- a left and a right one of these have this conflict
pub record IsOfTwo (rules : Rules) (now : ℕ) (lefts rights : List NamedTrajectory) (c : Conflict) : Type 0 where
  pub left : NamedTrajectory
  pub left_in : Contains lefts left
  pub with_right : IsOfRight rules now left rights c

pub IsOfTwo-push : (rules : Rules) (now : ℕ) (lefts rights : List NamedTrajectory) (left : NamedTrajectory) (c : Conflict)
    → IsOfTwo rules now (lefts ++ left ∷ []) rights c ↔ (IsOfTwo rules now lefts rights c ⊎ IsOfRight rules now left rights c)
IsOfTwo-push rules now lefts rights left c = (
  (λ some. ⊎_elim
      (λ before. inl (record { left = some.left; left_in = before; with_right = some.with_right }))
      (λ e. inr (subst (λ (t : NamedTrajectory). IsOfRight rules now t rights c) (sym e) some.with_right)) (Contains-push_cases lefts left some.left some.left_in)),
  (λ either. ⊎_elim
      (λ some. record { left = some.left; left_in = Contains-append_left lefts (left ∷ []) some.left some.left_in; with_right = some.with_right })
      (λ is. record { left = left; left_in = Contains-push lefts left; with_right = is }) either),
)

pub IsConflictAmong-two : (rules : Rules) (now : ℕ) (all : List NamedTrajectory) (c : Conflict) → IsOfTwo rules now all all c ↔ IsConflictAmong rules now all c
IsConflictAmong-two rules now all c = (
  (λ two. record { left = two.left; right = two.with_right.right; left_in = two.left_in; right_in = two.with_right.right_in; is = two.with_right.is }),
  (λ some. record { left = some.left; left_in = some.left_in; with_right = record { right = some.right; right_in = some.right_in; is = some.is } }),
)

-- the whole list, after its order was made
pub IsPublishedOf-all : (rules : Rules) (now : ℕ) (all : List NamedTrajectory) (found ordered : List Conflict) → AddsConflicts (IsOfTwo rules now all all) [] found
    → ((c : Conflict) → Contains ordered c ↔ Contains found c) → IsStrictlySortedBy conflict_cmp ordered → IsPublishedOf rules now all ordered
IsPublishedOf-all rules now all found ordered adds same sorted = record {
  exact = λ c. (
    (λ held. ⊎_elim (λ none. absurd (omega (arith, none.1))) (λ two. (IsConflictAmong-two rules now all c).0 two) ((adds c).0 ((same c).0 held))),
    (λ some. (same c).1 ((adds c).1 (inr ((IsConflictAmong-two rules now all c).1 some)))),
  );
  sorted = sorted;
}

-- what stands on the list of trajectories of items, with one item more
pub map_take_push : {X Y : Type 0} (f : X → Y) (xs : List X) (i : ℕ) (x : X) → i < length xs → x ≡ get_or xs i x
    → map f (take (i + 1) xs) ≡ map f (take i xs) ++ f x ∷ []
map_take_push f xs i x below is = map_more f xs i x below ∙ ap (λ y. map f (take i xs) ++ f y ∷ []) (sym is)
