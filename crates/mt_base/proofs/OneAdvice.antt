-- A clearance is found free or not, and there is one advice.
use Rattle.std.proofs.Common.{◌≡◌, Bool, true, false, ℕ, List, [], ◌∷◌, Option, Some, None, Ok, map, refl, sym, ◌∙◌, subst, if◌then◌else◌}
use Rattle.std.proofs.lemmas.List.Elements.{recursion_from_All}
use Rattle.std.specs.List.{AllByRecursion, filter}
use Rattle.std.specs.Prelude.{is_some, unwrap_or, IfSome}
use Rattle.mt_base.specs.declared.clearance.Clearance.{Clearance}
use Rattle.mt_base.specs.declared.flight.Course.{Course}
use Rattle.mt_base.specs.declared.hit.Hit.{Hit}
use Rattle.mt_base.specs.Picture.{State, flight_of}
use Rattle.mt_base.specs.Tables.{Setup}
use Rattle.mt_base.specs.Trajectory.{Trajectory}
use Rattle.mt_base.specs.WhatIf.{AreHitsOf, HasHit, IsConflicting, IsWhatIf, course_in, trajectory_cleared, what_if_checks}
use Rattle.mt_base.proofs.CheckLemmas.{all_passed}
use Rattle.mt_base.proofs.Members.{Contains-head, Contains-none}
use Rattle.mt_base.specs.Advice.{AreAdvised, Tried, WasFound, free_of}

-- whether there are no hits
abbrev pub has_none : List Hit → Bool
has_none [] = true
has_none (h ∷ hs) = false

module _ (setup : Setup) (s : State) (call : List ℕ) where
  abbrev cleared_by : Clearance → Option ℕ → Course → Trajectory
  cleared_by c eff course = trajectory_cleared setup course c (unwrap_or eff s.now)

  -- a clearance whose checks pass is one of a planned flight
  planned : (c : Clearance) (eff : Option ℕ) (hits : List Hit) → IsWhatIf setup s call c eff (Ok hits) → is_some (course_in (flight_of s.records call)) ≡ true
  planned c eff hits follows =
      (all_passed (what_if_checks setup s.now (flight_of s.records call) call c (unwrap_or eff s.now)) (tt {0}) (rw follows.0 refl)).1.0

  -- where nothing hits the trajectory that it leaves, nothing follows from it
  no_hits : (t : Trajectory) (hits : List Hit) → AreHitsOf setup s call t hits → ¬ HasHit setup s call t → hits ≡ []
  no_hits t [] are clear = refl
  no_hits t (h ∷ hs) are clear = absurd (clear (record { hit = h; is = (are.exact h).0 (Contains-head h hs) }))

  pub follows_none : (c : Clearance) (eff : Option ℕ) (hits : List Hit) → IsWhatIf setup s call c eff (Ok hits)
      → IfSome (course_in (flight_of s.records call)) (λ course. ¬ HasHit setup s call (cleared_by c eff course)) → hits ≡ []
  follows_none c eff hits follows clear = by_course (course_in (flight_of s.records call)) (planned c eff hits follows) follows.1 clear where
    by_course : (at : Option Course) → is_some at ≡ true → IfSome at (λ course. AreHitsOf setup s call (cleared_by c eff course) hits)
        → IfSome at (λ course. ¬ HasHit setup s call (cleared_by c eff course)) → hits ≡ []
    by_course None some are clear = cc
    by_course (Some course) some are clear = no_hits (cleared_by c eff course) hits are clear

  -- what was found of a clearance whose hits are known
  pub found_by : (c : Clearance) (hits : List Hit) → IsWhatIf setup s call c None (Ok hits) → WasFound setup s call c (has_none hits)
  found_by c [] follows = follows
  found_by c (h ∷ hs) follows = (follows.0, by_course (course_in (flight_of s.records call)) follows.1) where
    by_course : (at : Option Course) → IfSome at (λ course. AreHitsOf setup s call (cleared_by c None course) (h ∷ hs))
        → IfSome at (λ course. HasHit setup s call (cleared_by c None course))
    by_course None are = tt
    by_course (Some course) are = record { hit = h; is = (are.exact h).0 (Contains-head h hs) }

  -- something follows from it or nothing does
  not_both : (c : Clearance) → IsWhatIf setup s call c None (Ok []) → IsConflicting setup s call c None → ⊥
  not_both c follows conflicts = by_course (course_in (flight_of s.records call)) (planned c None [] follows) follows.1 conflicts.1 where
    by_course : (at : Option Course) → is_some at ≡ true → IfSome at (λ course. AreHitsOf setup s call (cleared_by c None course) [])
        → IfSome at (λ course. HasHit setup s call (cleared_by c None course)) → ⊥
    by_course None some are has = cc
    by_course (Some course) some are has = Contains-none has.hit ((are.exact has.hit).1 has.is)

  one_found : (c : Clearance) (a b : Bool) → WasFound setup s call c a → WasFound setup s call c b → a ≡ b
  one_found c true true left right = refl
  one_found c true false left right = absurd (not_both c left right)
  one_found c false true left right = absurd (not_both c right left)
  one_found c false false left right = refl

  abbrev IsFound : Tried → Type 0
  IsFound t = WasFound setup s call t.clearance t.free

  same_free : (ts us : List Tried) → map (λ (t : Tried). t.clearance) ts ≡ map (λ (t : Tried). t.clearance) us → AllByRecursion IsFound ts
      → AllByRecursion IsFound us → free_of ts ≡ free_of us
  same_free [] [] same left right = refl
  same_free [] (u ∷ us) same left right = cc
  same_free (t ∷ ts) [] same left right = cc
  same_free (t ∷ ts) (u ∷ us) same left right =
      let c : t.clearance ≡ u.clearance = cc in
      let rest : map (λ (v : Tried). v.clearance) ts ≡ map (λ (v : Tried). v.clearance) us = cc in
      let free : t.free ≡ u.free = one_found t.clearance t.free u.free left.0 (subst (λ (x : Clearance). WasFound setup s call x u.free) (sym c) right.0) in
      by_test t.free u.free free c (same_free ts us rest left.1 right.1) where
        by_test : (a b : Bool) → a ≡ b → t.clearance ≡ u.clearance → free_of ts ≡ free_of us
            → map (λ (v : Tried). v.clearance) (if a then t ∷ filter (λ v. v.free) ts else filter (λ v. v.free) ts)
            ≡ map (λ (v : Tried). v.clearance) (if b then u ∷ filter (λ v. v.free) us else filter (λ v. v.free) us)
        by_test true true e c rest = rw (c, rest) refl
        by_test false false e c rest = rest
        by_test true false e c rest = cc
        by_test false true e c rest = cc

  pub one_advice : (cs ds : List Clearance) → AreAdvised setup s call cs → AreAdvised setup s call ds → cs ≡ ds
  one_advice cs ds left right =
      left.free ∙ same_free left.tried right.tried (left.all ∙ sym right.all) (recursion_from_All IsFound left.tried left.each)
      (recursion_from_All IsFound right.tried right.each) ∙ sym right.free
