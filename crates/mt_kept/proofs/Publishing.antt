-- What is published of the open pairs.
use Rattle.std.proofs.Common.{◌≡◌, ◌≢◌, ℕ, zero, suc, ◌<◌, ◌≤◌, ◌⊎◌, inl, inr, ⊎_elim, ◌↔◌, false, true≢false, List, [], ◌∷◌, ◌++◌, map, get_or, length, Contains, Option, Some, None, refl, sym, ◌∙◌, ap, subst, arith}
use Rattle.std.proofs.lemmas.Bool.{cases_order}
use Rattle.std.proofs.lemmas.Cmp.{nat_list_cmp_total}
use Rattle.std.specs.FinMap.{slice_cmp-IsAntisymmetric, nat_cmp-IsAntisymmetric}
use Rattle.std.specs.Cmp.Lexicographic.{slice_cmp}
use Rattle.std.specs.List.Sorted.{IsStrictlySortedBy}
use Rattle.std.specs.Ordering.{nat_cmp, is_lt, ordering_reverse}
use Rattle.std.specs.Option.{option_to_list}
use Rattle.std.proofs.lemmas.List.{append-nil}
use Rattle.std.proofs.lemmas.List.Elements.{Contains-append_left, Contains-push, Contains-push_cases}
use Rattle.mt_track.specs.declared.roster.Item.{Item}
use Rattle.mt_track.specs.Named.{named}
use Rattle.std.specs.declared.cmp.Ordering.{Ordering}
use Rattle.std.specs.declared.cmp.Ordering.TheVariants.{Less, Equal, Greater}
use Rattle.mt_base.specs.declared.conflict.Conflict.{Conflict}
use Rattle.mt_base.specs.declared.rules.Rules.{Rules}
use Rattle.mt_base.specs.Conflict.{IsLossSecond, IsSpanOfLoss}
use Rattle.mt_base.specs.Picture.{IsConflictOf, IsConflictAmong, IsPublishedOf, NamedTrajectory, conflict_cmp, window_end}
use Rattle.mt_edges.specs.declared.edge.Edge.{Edge}
use Rattle.mt_base.proofs.OneConflict.{one_conflict}
use Rattle.mt_kept.specs.declared.open_pair.OpenPair.{OpenPair}
use Rattle.mt_kept.specs.Places.{at, held, seen}
use Rattle.mt_base.specs.Trajectory.{horizon}
use Rattle.mt_kept.specs.Losing.{IsPair, IsSolidAsSaid, LoseSeparation}
use Rattle.mt_kept.specs.Private.Losing.{AreKept}
use Rattle.mt_kept.specs.Window.{IsFoundOf, IsOpen, ShowsInWindow, edge_of}
use Rattle.mt_kept.specs.Private.Window.{AreOpen, Shows, ShowsWithin}
use Rattle.mt_kept.specs.Private.Made.{IsInOrder, is_tested, span_within}
use Rattle.mt_base.proofs.Members.{Contains-cases, Contains-head, Contains-later, Contains-map_cases, Contains-none, IsSeen}
use Rattle.mt_kept.proofs.Windows.{IsLossSecond-sym, IsSpanOfLoss-sym, is_open_at, span_shown}

-- a trajectory that stands in some place
pub record Stands (places : List (Option NamedTrajectory)) (t : NamedTrajectory) : Type 0 where
  pub place : ℕ
  pub is : at places place ≡ Some t

pub stands : (places : List (Option NamedTrajectory)) (t : NamedTrajectory) → Contains (held places) t → Stands places t
stands [] t is_held = absurd (Contains-none t is_held)
stands (None ∷ ps) t is_held = let h = stands ps t is_held in record { place = suc h.place; is = h.is }
stands (Some s ∷ ps) t is_held = ⊎_elim
    (λ same. record { place = 0; is = ap Some same })
    (λ later. let h = stands ps t later in record { place = suc h.place; is = h.is }) (Contains-cases s (held ps) t is_held)

pub held_at : (places : List (Option NamedTrajectory)) (i : ℕ) (t : NamedTrajectory) → at places i ≡ Some t → Contains (held places) t
held_at [] i t is = cc
held_at (None ∷ ps) zero t is = cc
held_at (None ∷ ps) (suc i) t is = held_at ps i t is
held_at (Some s ∷ ps) zero t is = let same : s ≡ t = cc in subst (Contains (s ∷ held ps)) same (Contains-head s (held ps))
held_at (Some s ∷ ps) (suc i) t is = Contains-later s (held ps) t (held_at ps i t is)

-- one of two texts that differ comes first
pub not_both : (s t : List ℕ) → slice_cmp nat_cmp s t ≡ Less → slice_cmp nat_cmp t s ≡ Less → ⊥
not_both s t e f = let flip = nat_list_cmp_total.antisymm s t in let g : ordering_reverse Less ≡ Less = rw (e, f) at (sym flip) in cc

pub differ : (s t : List ℕ) → slice_cmp nat_cmp s t ≡ Less → s ≢ t
differ s t e = λ same. not_both s t e (let f : slice_cmp nat_cmp t s ≡ Less = subst (λ (u : List ℕ). slice_cmp nat_cmp u s ≡ Less) same (subst (λ (u : List ℕ). slice_cmp nat_cmp s u ≡ Less) (sym same) e) in f)

one_before : (s t : List ℕ) (o : Ordering) → slice_cmp nat_cmp s t ≡ o → s ≢ t → (slice_cmp nat_cmp s t ≡ Less) ⊎ (slice_cmp nat_cmp t s ≡ Less)
one_before s t Less e apart = inl e
one_before s t Equal e apart = absurd (apart (slice_cmp-IsAntisymmetric nat_cmp-IsAntisymmetric s t e))
one_before s t Greater e apart = inr (let flip = nat_list_cmp_total.antisymm t s in let g : slice_cmp nat_cmp t s ≡ ordering_reverse Greater = rw e at flip in g)

pub before_or_after : (s t : List ℕ) → s ≢ t → (slice_cmp nat_cmp s t ≡ Less) ⊎ (slice_cmp nat_cmp t s ≡ Less)
before_or_after s t apart = one_before s t (slice_cmp nat_cmp s t) refl apart

-- what is found of two trajectories, whichever comes first, is the conflict that they have
pub found_is : (rules : Rules) (now : ℕ) (left right : NamedTrajectory) (c : Conflict) (shown : Option Conflict) → IsConflictOf rules now left right c
    → IsFoundOf rules now left right shown ⊎ IsFoundOf rules now right left shown → shown ≡ Some c
found_is rules now left right c None is either =
    let low = is.span.inside.0 in
    let high : c.first < window_end now = omega (arith, is.span.inside.1, is.span.inside.2) in
    ⊎_elim (λ none. absurd (none c.first low high is.span.first_is))
    (λ none. absurd (none c.first low high (IsLossSecond-sym rules left.path right.path c.first is.span.first_is))) either
found_is rules now left right c (Some d) is either =
    let same : IsConflictOf rules now left right d → Some d ≡ Some c = λ other. ap Some (one_conflict rules now left right d c other is) in
    let swapped : IsConflictOf rules now right left d → Some d ≡ Some c = λ other. absurd (not_both left.call right.call is.apart other.apart) in
    ⊎_elim (λ found. ⊎_elim same swapped found) (λ found. ⊎_elim swapped same found) either

-- an open pair of two places, one of whose trajectories is the left one and one the right one, shows their conflict
record IsBetween (places : List (Option NamedTrajectory)) (e : Edge) (left right : NamedTrajectory) : Type 0 where
  is : ((at places e.a ≡ Some left) × (at places e.b ≡ Some right)) ⊎ ((at places e.a ≡ Some right) × (at places e.b ≡ Some left))

found_between : (rules : Rules) (places : List (Option NamedTrajectory)) (now : ℕ) (e : Edge) (left right : NamedTrajectory) (shown : Option Conflict)
    → ShowsInWindow rules places now e shown → IsBetween places e left right → IsFoundOf rules now left right shown ⊎ IsFoundOf rules now right left shown
found_between rules places now e left right shown h between = ⊎_elim
    (λ b. let l : h.left ≡ left = let p = h.left_is in let q = b.0 in cc in
    let r : h.right ≡ right = let p = h.right_is in let q = b.1 in cc in
    inl (subst (λ (y : NamedTrajectory). IsFoundOf rules now left y shown) r (subst (λ (x : NamedTrajectory). IsFoundOf rules now x h.right shown) l h.found)))
    (λ b. let l : h.left ≡ right = let p = h.left_is in let q = b.0 in cc in
    let r : h.right ≡ left = let p = h.right_is in let q = b.1 in cc in
    inr (subst (λ (y : NamedTrajectory). IsFoundOf rules now right y shown) r (subst (λ (x : NamedTrajectory). IsFoundOf rules now x h.right shown) l h.found)))
    between.is

-- what a pair shows is one thing
pub one_shown : (rules : Rules) (places : List (Option NamedTrajectory)) (now : ℕ) (e : Edge) (x : Option Conflict) (c : Conflict)
    → ShowsInWindow rules places now e x → ShowsInWindow rules places now e (Some c) → x ≡ Some c
one_shown rules places now e x c any is =
    let found : IsFoundOf rules now is.left is.right x ⊎ IsFoundOf rules now is.right is.left x =
    found_between rules places now e is.left is.right x any (record { is = inl (is.left_is, is.right_is) }) in
    ⊎_elim
    (λ of. found_is rules now is.left is.right c x of found)
    (λ of. found_is rules now is.right is.left c x of (⊎_elim (λ f. inr f) (λ f. inl f) found)) is.found

-- two trajectories in places, one of which is the lesser: their pair is open, and shows their conflict
shows_between : (rules : Rules) (places : List (Option NamedTrajectory)) (now : ℕ) (edges : List Edge) (open_pairs : List OpenPair) (c : Conflict)
    (left right : NamedTrajectory) (a b : ℕ) (first second : NamedTrajectory) → now ≤ 10000000 → AreKept rules places edges
    → AreOpen rules places now edges open_pairs → a < b → at places a ≡ Some first → at places b ≡ Some second → first.call ≢ second.call
    → IsLossSecond rules first.path second.path c.first → now ≤ c.first → c.first < window_end now → IsConflictOf rules now left right c
    → ((first ≡ left) × (second ≡ right)) ⊎ ((first ≡ right) × (second ≡ left)) → Shows open_pairs c
shows_between rules places now edges open_pairs c left right a b first second early kept opened before first_at second_at apart loss low high is names =
    let loses : LoseSeparation rules places a b c.first = record {
      left = first;
      right = second;
      left_is = first_at;
      right_is = second_at;
      apart = apart;
      loss = loss;
      early = omega arith;
    } in
    let joined = kept.complete a b c.first before loses in
    let e = joined.edge in
    let e_a : at places e.a ≡ Some first = rw joined.ends.0 first_at in
    let e_b : at places e.b ≡ Some second = rw joined.ends.1 second_at in
    let pair = kept.sound e joined.held in
    let l : first ≡ pair.left = let p = pair.left_is in cc in
    let r : second ≡ pair.right = let p = pair.right_is in cc in
    let loss_here : IsLossSecond rules pair.left.path pair.right.path c.first =
    subst (λ (y : NamedTrajectory). IsLossSecond rules pair.left.path y.path c.first) r
    (subst (λ (x : NamedTrajectory). IsLossSecond rules x.path second.path c.first) l loss) in
    let meets : IsOpen now e = is_open_at rules pair.left.path pair.right.path now c.first e early pair.span low high loss_here in
    let there : IsSeen edge_of open_pairs e = Contains-map_cases edge_of open_pairs e (opened.complete e joined.held meets) in
    let shown = (opened.sound there.of there.held).2 in
    let shown_e : ShowsInWindow rules places now e there.of.conflict =
    subst (λ (f : Edge). ShowsInWindow rules places now f there.of.conflict) there.is shown in
    let between : IsBetween places e left right = record {
      is = ⊎_elim
          (λ n. inl (e_a ∙ ap Some n.0, e_b ∙ ap Some n.1))
          (λ n. inr (e_a ∙ ap Some n.0, e_b ∙ ap Some n.1)) names;
    } in
    record {
      pair = there.of;
      held = there.held;
      shown = found_is rules now left right c there.of.conflict is (found_between rules places now e left right there.of.conflict shown_e between);
    }

pub shows : (rules : Rules) (places : List (Option NamedTrajectory)) (now : ℕ) (edges : List Edge) (open_pairs : List OpenPair) (c : Conflict)
    → now ≤ 10000000 → AreKept rules places edges → AreOpen rules places now edges open_pairs → IsConflictAmong rules now (held places) c → Shows open_pairs c
shows rules places now edges open_pairs c early kept opened some =
    let is = some.is in
    let l = stands places some.left some.left_in in
    let r = stands places some.right some.right_in in
    let apart = differ some.left.call some.right.call is.apart in
    let low = is.span.inside.0 in
    let high : c.first < window_end now = omega (arith, is.span.inside.1, is.span.inside.2) in
    ⊎_elim
    (λ same. absurd (apart (ap (λ (t : NamedTrajectory). t.call) (let e : some.left ≡ some.right = let p = l.is in let q = rw (← same) at r.is in cc in e))))
    (λ order. ⊎_elim
    (λ before. shows_between rules places now edges open_pairs c some.left some.right l.place r.place some.left some.right early kept opened before l.is r.is
    apart is.span.first_is low high is (inl (refl, refl)))
    (λ after. shows_between rules places now edges open_pairs c some.left some.right r.place l.place some.right some.left early kept opened after r.is l.is
    (λ e. apart (sym e)) (IsLossSecond-sym rules some.left.path some.right.path c.first is.span.first_is) low high is (inr (refl, refl))) order)
    (cases_order l.place r.place)

-- what an open pair shows is a conflict of two of the trajectories
pub shown_is : (rules : Rules) (places : List (Option NamedTrajectory)) (now : ℕ) (e : Edge) (c : Conflict) → ShowsInWindow rules places now e (Some c)
    → IsConflictAmong rules now (held places) c
shown_is rules places now e c shown =
    let l = held_at places e.a shown.left shown.left_is in
    let r = held_at places e.b shown.right shown.right_is in
    ⊎_elim
    (λ is. record { left = shown.left; right = shown.right; left_in = l; right_in = r; is = is })
    (λ is. record { left = shown.right; right = shown.left; left_in = r; right_in = l; is = is }) shown.found

pub published_of : (rules : Rules) (places : List (Option NamedTrajectory)) (now : ℕ) (edges : List Edge) (open_pairs : List OpenPair) (cs : List Conflict)
    → now ≤ 10000000 → AreKept rules places edges → AreOpen rules places now edges open_pairs → ((c : Conflict) → Contains cs c ↔ Shows open_pairs c)
    → IsStrictlySortedBy conflict_cmp cs → IsPublishedOf rules now (held places) cs
published_of rules places now edges open_pairs cs early kept opened exact sorted = record {
  exact = λ c. (
    (λ in_list. let h = (exact c).0 in_list in
        let shown = (opened.sound h.pair h.held).2 in
        shown_is rules places now h.pair.edge c (subst (λ (o : Option Conflict). ShowsInWindow rules places now h.pair.edge o) h.shown shown)),
    (λ some. (exact c).1 (shows rules places now edges open_pairs c early kept opened some)),
  );
  sorted = sorted;
}

pub after_of : (s t : List ℕ) → is_lt (slice_cmp nat_cmp s t) ≡ false → s ≢ t → slice_cmp nat_cmp t s ≡ Less
after_of s t e apart = ⊎_elim (λ less. absurd (true≢false (ap is_lt (sym less) ∙ e))) (λ after. after) (before_or_after s t apart)

-- what stands in a place that was read
pub at_seen : (places : List (Option Item)) (i : ℕ) (r : Option Item) (item : Item) (t : NamedTrajectory) → at (map seen places) i ≡ Some t
    → r ≡ get_or places i r → r ≡ Some item → t ≡ named item
at_seen [] i r item t e is some = cc
at_seen (x ∷ xs) zero r item t e is some = let f : seen x ≡ Some (named item) = ap seen (sym is ∙ some) in cc
at_seen (x ∷ xs) (suc i) r item t e is some = at_seen xs i r item t e is some

-- it is a place of theirs, and isn't empty
pub seen_inside : (places : List (Option Item)) (i : ℕ) (t : NamedTrajectory) → at (map seen places) i ≡ Some t → i < length places
seen_inside [] i t e = absurd (cc)
seen_inside (x ∷ xs) zero t e = omega arith
seen_inside (x ∷ xs) (suc i) t e = let below = seen_inside xs i t e in omega arith

pub not_beyond : (places : List (Option Item)) (i : ℕ) (t : NamedTrajectory) → at (map seen places) i ≡ Some t → length places ≤ i → ⊥
not_beyond places i t e all = let below = seen_inside places i t e in omega arith

pub none_seen : (places : List (Option Item)) (i : ℕ) (r : Option Item) (t : NamedTrajectory) → at (map seen places) i ≡ Some t → r ≡ get_or places i r → r ≡ None → ⊥
none_seen [] i r t e is none = cc
none_seen (x ∷ xs) zero r t e is none = let f : seen x ≡ None = ap seen (sym is ∙ none) in cc
none_seen (x ∷ xs) (suc i) r t e is none = none_seen xs i r t e is none

-- a conflict in order, of the span in the window
pub found_pair : (rules : Rules) (now : ℕ) (left right : NamedTrajectory) (span : ℕ × ℕ) (c : Conflict)
    → IsSpanOfLoss rules left.path right.path now (window_end now) span.0 span.1 → IsInOrder left right span c ⊎ IsInOrder right left span c
    → IsFoundOf rules now left right (Some c)
found_pair rules now left right span c is order = ⊎_elim
    (λ o. inl (subst (IsConflictOf rules now left right) (sym o.1) (record { calls = (refl, refl); kinds = (refl, refl); apart = o.0; span = is })))
    (λ o. inr (subst (IsConflictOf rules now right left) (sym o.1)
    (record { calls = (refl, refl); kinds = (refl, refl); apart = o.0; span = IsSpanOfLoss-sym rules left.path right.path now (window_end now) span.0 span.1 is })))
    order

-- one trajectory stands in a place
pub one_there : (places : List (Option NamedTrajectory)) (i : ℕ) (s t : NamedTrajectory) → at places i ≡ Some s → at places i ≡ Some t → s ≡ t
one_there places i s t s_is t_is = let e : Some s ≡ Some t = sym s_is ∙ t_is in cc

-- an open pair that needs no test shows what of its span lies in the window
pub within_shown : (rules : Rules) (places : List (Option NamedTrajectory)) (now : ℕ) (e : Edge) (shown : Option Conflict) → now ≤ 10000000
    → IsPair rules places e → IsOpen now e → is_tested now e ≡ false → ShowsWithin places now e shown → ShowsInWindow rules places now e shown
within_shown rules places now e shown early pair meets none within =
    let span = span_within now e in
    let l : within.left ≡ pair.left = let p = pair.left_is in let q = within.left_is in cc in
    let r : within.right ≡ pair.right = let p = pair.right_is in let q = within.right_is in cc in
    let order : IsInOrder pair.left pair.right span within.conflict ⊎ IsInOrder pair.right pair.left span within.conflict =
    subst (λ (y : NamedTrajectory). IsInOrder pair.left y span within.conflict ⊎ IsInOrder y pair.left span within.conflict) r
    (subst (λ (x : NamedTrajectory). IsInOrder x within.right span within.conflict ⊎ IsInOrder within.right x span within.conflict) l within.order) in
    let found : IsFoundOf rules now pair.left pair.right (Some within.conflict) =
    found_pair rules now pair.left pair.right span within.conflict
    (span_shown rules pair.left.path pair.right.path now e early meets none pair.span pair.solid) order in
    record {
      left = pair.left;
      right = pair.right;
      left_is = pair.left_is;
      right_is = pair.right_is;
      found = subst (IsFoundOf rules now pair.left pair.right) (sym within.is) found;
    }

pub shown_of : (rules : Rules) (places : List (Option NamedTrajectory)) (now : ℕ) (e : Edge) (pair : IsPair rules places e) (left right : NamedTrajectory)
    (shown : Option Conflict) → pair.left ≡ left → pair.right ≡ right → IsFoundOf rules now left right shown → ShowsInWindow rules places now e shown
shown_of rules places now e pair left right shown l r found =
    record { left = left; right = right; left_is = pair.left_is ∙ ap Some l; right_is = pair.right_is ∙ ap Some r; found = found }

-- the pair's span, at these trajectories
pub span_of : (rules : Rules) (places : List (Option NamedTrajectory)) (e : Edge) (pair : IsPair rules places e) (left right : NamedTrajectory)
    → pair.left ≡ left → pair.right ≡ right → IsSpanOfLoss rules left.path right.path 0 horizon e.first e.last
span_of rules places e pair left right l r =
    subst (λ (y : NamedTrajectory). IsSpanOfLoss rules left.path y.path 0 horizon e.first e.last) r
    (subst (λ (x : NamedTrajectory). IsSpanOfLoss rules x.path pair.right.path 0 horizon e.first e.last) l pair.span)

-- and what it says of its being solid
pub said_of : (rules : Rules) (places : List (Option NamedTrajectory)) (e : Edge) (pair : IsPair rules places e) (left right : NamedTrajectory)
    → pair.left ≡ left → pair.right ≡ right → IsSolidAsSaid rules left.path right.path e
said_of rules places e pair left right l r =
    subst (λ (y : NamedTrajectory). IsSolidAsSaid rules left.path y.path e) r
    (subst (λ (x : NamedTrajectory). IsSolidAsSaid rules x.path pair.right.path e) l pair.solid)

-- of some open pairs, one more
Shows-none : (pairs : List OpenPair) (o : OpenPair) → o.conflict ≡ None → (c : Conflict) → Shows (pairs ++ o ∷ []) c ↔ Shows pairs c
Shows-none pairs o none c = (
  (λ h. ⊎_elim (λ old. record { pair = h.pair; held = old; shown = h.shown })
      (λ same. absurd (let e : o.conflict ≡ Some c = ap (λ (p : OpenPair). p.conflict) same ∙ h.shown in cc)) (Contains-push_cases pairs o h.pair h.held)),
  (λ h. record { pair = h.pair; held = Contains-append_left pairs (o ∷ []) h.pair h.held; shown = h.shown }),
)

Shows-some : (pairs : List OpenPair) (o : OpenPair) (d : Conflict) → o.conflict ≡ Some d → (c : Conflict)
    → Shows (pairs ++ o ∷ []) c ↔ (Shows pairs c ⊎ (d ≡ c))
Shows-some pairs o d some c = (
  (λ h. ⊎_elim (λ old. inl (record { pair = h.pair; held = old; shown = h.shown }))
      (λ same. inr (let e : o.conflict ≡ Some c = ap (λ (p : OpenPair). p.conflict) same ∙ h.shown in cc)) (Contains-push_cases pairs o h.pair h.held)),
  (λ either. ⊎_elim
      (λ h. record { pair = h.pair; held = Contains-append_left pairs (o ∷ []) h.pair h.held; shown = h.shown })
      (λ same. record { pair = o; held = Contains-push pairs o; shown = some ∙ ap Some same }) either),
)

list_more : (pairs : List OpenPair) (o : OpenPair) (list list' : List Conflict) (d : Conflict) → ((c : Conflict) → Contains list c ↔ Shows pairs c)
    → o.conflict ≡ Some d → list' ≡ list ++ d ∷ [] → (c : Conflict) → Contains list' c ↔ Shows (pairs ++ o ∷ []) c
list_more pairs o list list' d so_far some pushed = rw pushed (λ c. (
  (λ held. (Shows-some pairs o d some c).1 (⊎_elim (λ old. inl ((so_far c).0 old)) (λ same. inr same) (Contains-push_cases list d c held))),
  (λ h. ⊎_elim (λ old. Contains-append_left list (d ∷ []) c ((so_far c).1 old)) (λ same. subst (Contains (list ++ d ∷ [])) same (Contains-push list d))
      ((Shows-some pairs o d some c).0 h)),
))

list_same : (pairs : List OpenPair) (o : OpenPair) (list list' : List Conflict) → ((c : Conflict) → Contains list c ↔ Shows pairs c)
    → o.conflict ≡ None → list' ≡ list → (c : Conflict) → Contains list' c ↔ Shows (pairs ++ o ∷ []) c
list_same pairs o list list' so_far none same = rw same (λ c. (
  (λ held. (Shows-none pairs o none c).1 ((so_far c).0 held)),
  (λ h. (so_far c).1 ((Shows-none pairs o none c).0 h)),
))

pub shows_more : (pairs : List OpenPair) (o : OpenPair) (list : List Conflict) → ((c : Conflict) → Contains list c ↔ Shows pairs c)
    → (c : Conflict) → Contains (list ++ option_to_list o.conflict) c ↔ Shows (pairs ++ o ∷ []) c
shows_more pairs o list so_far = step o.conflict refl where
  step : (x : Option Conflict) → o.conflict ≡ x → (c : Conflict) → Contains (list ++ option_to_list x) c ↔ Shows (pairs ++ o ∷ []) c
  step None none = list_same pairs o list (list ++ []) so_far none (append-nil list)
  step (Some d) some = list_more pairs o list (list ++ d ∷ []) d so_far some refl
