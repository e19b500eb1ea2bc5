-- How many tests finds cost.
use Rattle.std.proofs.Common.{◌≡◌, ◌≢◌, ℕ, ◌+◌, ◌*◌, ◌<◌, ◌≤◌, Bool, true, false, cond, not, ◌==◌, ◌&&◌, List, [], ◌∷◌, length, take, get_or, Option, Some, None, refl, sym, ◌∙◌, ap, subst, arith}
use Rattle.std.specs.List.{filter, sum_by}
use Rattle.std.specs.Str.{bytes_eq}
use Rattle.std.proofs.lemmas.Bool.{and_from, ne_eqb}
use Rattle.std.proofs.lemmas.Slice.Eq.{bytes_eq-Decides}
use Rattle.std.proofs.lemmas.List.Sums.{sum_by-cons, sum_by-take-le}
use Rattle.mt_base.specs.Picture.{NamedTrajectory}
use Rattle.mt_edges.specs.declared.edge.Edge.{Edge}
use Rattle.mt_base.proofs.Tallies.{raised_by-add, sum_by-push}
use Rattle.mt_kept.specs.declared.finds.Candidate.{Candidate}
use Rattle.mt_kept.specs.declared.finds.Knowledge.{Knowledge}
use Rattle.mt_kept.specs.declared.finds.Knowledge.TheVariants.{Known, Within}
use Rattle.mt_kept.specs.Places.{at}
use Rattle.mt_kept.specs.Window.{straddles}
use Rattle.mt_kept.specs.Private.Made.{IsKnownAs, is_tested, tests_if_unknown}
use Rattle.mt_kept.specs.Finds.{IsOfOtherFlight, asks_one, asks_two, cost, cost_known, cost_of, is_crossing, is_listed, is_other, is_unknown}
use Rattle.mt_base.specs.Tally.{RoseUpTo, raised_by}
use Rattle.mt_base.proofs.Members.{take_push}

-- no test was made
pub none_rose : (most old new : ℕ) → new ≡ old → RoseUpTo most old new
none_rose most old new same = record { more = 0; within = omega arith; is = same }

at_most_one : (b : Bool) → cond b 1 0 ≤ 1
at_most_one true = omega arith
at_most_one false = omega arith

pub cost_both : (now : ℕ) (v : Knowledge) (span : ℕ × ℕ) (e : Edge) (old mid new : ℕ) → e.first ≡ span.0 → e.last ≡ span.1 → IsKnownAs v (Some span)
    → mid ≡ raised_by (tests_if_unknown v) old → RoseUpTo (cond (straddles now e) 1 0) mid new → RoseUpTo (cost_of now v) old new
cost_both now (Within from to) span e old mid new first last known before after = record {
  more = 1 + after.more;
  within = let one = at_most_one (straddles now e) in let w = after.within in omega arith;
  is = after.is ∙ ap (raised_by after.more) before ∙ raised_by-add 1 after.more old;
}
cost_both now (Known None solid) span e old mid new first last known before after = absurd (let e : Some span ≡ None = known in cc)
cost_both now (Known (Some s) solid) span e old mid new first last known before after =
    let same : span ≡ s = let e : Some span ≡ Some s = known in cc in
    record {
      more = after.more;
      within = subst (λ (p : ℕ × ℕ). after.more ≤ cost_known now (Some p)) same (rw (← first, ← last) after.within);
      is = after.is ∙ ap (raised_by after.more) before;
    }

-- a pair is tested only where it straddles an edge of the window
at_most : (p q : Bool) → cond (p && q) 1 0 ≤ cond p 1 0
at_most true q = at_most_one q
at_most false q = omega arith

pub tested_rose : (now : ℕ) (e : Edge) (old new : ℕ) → new ≡ raised_by (cond (is_tested now e) 1 0) old → RoseUpTo (cond (straddles now e) 1 0) old new
tested_rose now e old new is = record { more = cond (is_tested now e) 1 0; within = at_most (straddles now e) (not e.solid); is = is }

-- a candidate that is passed over costs nothing; another one what it asks for
is_other_is : (o : Option NamedTrajectory) (call : List ℕ) (t : NamedTrajectory) → o ≡ Some t → call ≢ t.call → is_other o call ≡ true
is_other_is None call t e apart = cc
is_other_is (Some s) call t e apart = step (bytes_eq s.call call) refl where
  step : (b : Bool) → bytes_eq s.call call ≡ b → not b ≡ true
  step true eq = absurd (apart (let same : s ≡ t = cc in sym ((bytes_eq-Decides s.call call).0 eq) ∙ ap (λ (u : NamedTrajectory). u.call) same))
  step false eq = refl

pub listed_cost : (places : List (Option NamedTrajectory)) (place : ℕ) (mine other : NamedTrajectory) (now : ℕ) (x : Candidate) (old new : ℕ)
    → IsOfOtherFlight places place mine x.place other → RoseUpTo (cost_of now x.knowledge) old new → RoseUpTo (cost places place mine.call now x) old new
listed_cost places place mine other now x old new is rose =
    let listed : is_listed places place mine.call x ≡ true =
    and_from (not (x.place == place)) (is_other (at places x.place) mine.call) (ap not (ne_eqb x.place place is.elsewhere))
    (is_other_is (at places x.place) mine.call other is.is is.apart) in
    rw listed rose

pub RoseUpTo-add : (m n old mid new : ℕ) → RoseUpTo m old mid → RoseUpTo n mid new → RoseUpTo (m + n) old new
RoseUpTo-add m n old mid new first second = record {
  more = first.more + second.more;
  within = let a = first.within in let b = second.within in omega arith;
  is = second.is ∙ ap (raised_by second.more) first.is ∙ raised_by-add first.more second.more old;
}

-- one candidate more, and some of them
pub cost_more : (f : Candidate → ℕ) (xs : List Candidate) (i : ℕ) (x : Candidate) (old mid new : ℕ) → i < length xs → x ≡ get_or xs i x
    → RoseUpTo (sum_by f (take i xs)) old mid → RoseUpTo (f x) mid new → RoseUpTo (sum_by f (take (i + 1) xs)) old new
cost_more f xs i x old mid new below is first second =
    let more : sum_by f (take (i + 1) xs) ≡ sum_by f (take i xs) + f x = ap (sum_by f) (take_push xs i x below is) ∙ sum_by-push f (take i xs) x in
    rw more (RoseUpTo-add (sum_by f (take i xs)) (f x) old mid new first second)

pub cost_part : (f : Candidate → ℕ) (xs : List Candidate) (i old new : ℕ) → RoseUpTo (sum_by f (take i xs)) old new → RoseUpTo (sum_by f xs) old new
cost_part f xs i old new h = record { more = h.more; within = let part = sum_by-take-le f xs i in let w = h.within in omega arith; is = h.is }

-- the cost of all candidates
cost_one_is : (now : ℕ) (v : Knowledge) → cost_of now v ≡ 2 * cond (is_unknown v) 1 0 + cond (is_crossing now v) 1 0
cost_one_is now (Within from to) = refl
cost_one_is now (Known None solid) = refl
cost_one_is now (Known (Some span) solid) = let none : 2 * 0 ≡ 0 = omega arith in omega arith

cost_if : (listed : Bool) (now : ℕ) (v : Knowledge) → cond listed (cost_of now v) 0 ≡ 2 * cond (listed && is_unknown v) 1 0 + cond (listed && is_crossing now v) 1 0
cost_if true now v = cost_one_is now v
cost_if false now v = refl

counted : {X : Type 0} (p : X → Bool) (x : X) (xs : List X) → length (filter p (x ∷ xs)) ≡ cond (p x) 1 0 + length (filter p xs)
counted p x xs = step (p x) where
  step : (b : Bool) → length (cond b (x ∷ filter p xs) (filter p xs)) ≡ cond b 1 0 + length (filter p xs)
  step true = omega arith
  step false = omega arith

pub cost_sum : (places : List (Option NamedTrajectory)) (place : ℕ) (call : List ℕ) (now : ℕ) (xs : List Candidate)
    → sum_by (cost places place call now) xs ≡ 2 * length (filter (asks_two places place call) xs) + length (filter (asks_one places place call now) xs)
cost_sum places place call now [] = refl
cost_sum places place call now (x ∷ xs) =
    let rest = cost_sum places place call now xs in
    let first = sum_by-cons (cost places place call now) x xs in
    let one = cost_if (is_listed places place call x) now x.knowledge in
    let all = counted (asks_two places place call) x xs in
    let some = counted (asks_one places place call now) x xs in
    omega arith
