-- The span of what has P in a range of numbers, from that in an earlier range and in those that are new; and the tests that were to spare.
use Rattle.std.proofs.Common.{◌≡◌, ℕ, ◌+◌, ◌<◌, ◌≤◌, ⊎_elim, inl, inr, Bool, true, false, List, Option, Some, ◌∙◌, ap, subst, arith}
use Rattle.std.proofs.lemmas.Bool.{cases_lt}
use Rattle.mt_base.specs.declared.conflict.Conflict.{Conflict}
use Rattle.mt_base.specs.declared.rules.Rules.{Rules}
use Rattle.mt_base.specs.Conflict.{IsLossSecond, IsSpanOfLoss}
use Rattle.mt_base.specs.Picture.{NamedTrajectory, window_end}
use Rattle.mt_base.specs.Span.{IsSpanOf}
use Rattle.mt_base.specs.Tally.{raised}
use Rattle.mt_base.specs.Trajectory.{horizon}
use Rattle.mt_base.specs.StrikeOut.{one_if}
use Rattle.mt_kept.specs.Private.Made.{IsFirstFrom, WereTestedOf, is_tested, over_span, span_within}
use Rattle.mt_kept.specs.Losing.{IsPair}
use Rattle.mt_kept.specs.Window.{IsFoundOf, IsOpen, ShowsInWindow}
use Rattle.mt_edges.specs.declared.edge.Edge.{Edge}
use Rattle.mt_kept.proofs.Publishing.{one_there, said_of, span_of}
use Rattle.mt_kept.proofs.Windows.{IsSpanOfLoss-sym, span_shown}

-- a whole span ends in a range from `from` to `to`, before which it begins
module _ (P : ℕ → Type 0) (from to all begin end : ℕ) (whole : IsSpanOf P 0 all begin end) (lasting : from ≤ end) (ends : end < to) (within : to ≤ all) where
  -- where in an earlier range the first one is at `from` or later, it is so here
  pub first_stays : (past over first last : ℕ) → past ≤ from → over ≤ to → from ≤ first → IsSpanOf P past over first last → IsSpanOf P from to first end
  first_stays past over first last later longer late was = record {
    inside = (late, (whole.none_outside first (omega arith) (omega arith) was.first_is).1, ends);
    first_is = was.first_is;
    last_is = whole.last_is;
    none_outside = λ k low high some.
        let i = was.inside in (
          (⊎_elim (λ inner. (was.none_outside k (omega arith) inner some).0) (λ outer. omega arith) (cases_lt k over)),
          (whole.none_outside k (omega arith) (omega arith) some).1,
        );
  }

  -- and where `from` has P, it is that
  pub first_there : (first last : ℕ) → IsSpanOf P from (from + 1) first last → IsSpanOf P from to first end
  first_there first last is =
      let i = is.inside in
      record {
        inside = (i.0, omega arith, ends);
        first_is = is.first_is;
        last_is = whole.last_is;
        none_outside = λ k low high some. (omega arith, (whole.none_outside k (omega arith) (omega arith) some).1);
      }

-- a whole span begins in a range, and in an earlier one from `past` to `over`
module _ (P : ℕ → Type 0) (from to past over all begin end : ℕ) (whole : IsSpanOf P 0 all begin end) (late : from ≤ begin) (ahead : begin < over)
    (later : past ≤ from) (longer : over ≤ to) (within : to ≤ all) where
  -- the last one is that of the new numbers
  pub last_new : (first last : ℕ) → IsSpanOf P over to first last → IsSpanOf P from to begin last
  last_new first last is =
      let i = is.inside in
      record {
        inside = (late, omega arith, i.2);
        first_is = whole.first_is;
        last_is = is.last_is;
        none_outside = λ k low high some. (
          (whole.none_outside k (omega arith) (omega arith) some).0,
          ⊎_elim (λ inner. omega arith) (λ outer. (is.none_outside k outer high some).1) (cases_lt k over),
        );
      }

  -- or, where none of these has P, that of the earlier range
  pub last_stays : (first last : ℕ) → IsSpanOf P past over first last → ((k : ℕ) → over ≤ k → k < to → ¬ P k) → IsSpanOf P from to begin last
  last_stays first last was none =
      let i = was.inside in
      let b = was.none_outside begin (omega arith) ahead whole.first_is in
      record {
        inside = (late, b.1, omega arith);
        first_is = whole.first_is;
        last_is = was.last_is;
        none_outside = λ k low high some. (
          (whole.none_outside k (omega arith) (omega arith) some).0,
          ⊎_elim (λ inner. (was.none_outside k (omega arith) inner some).1) (λ outer. absurd (none k outer high some)) (cases_lt k over),
        );
      }

-- what was found of two trajectories is their span of loss, whichever stands first
pub found_span : (rules : Rules) (now : ℕ) (left right : NamedTrajectory) (c : Conflict) → IsFoundOf rules now left right (Some c)
    → IsSpanOfLoss rules left.path right.path now (window_end now) c.first c.last
found_span rules now left right c found = ⊎_elim
    (λ is. is.span)
    (λ is. IsSpanOfLoss-sym rules right.path left.path now (window_end now) c.first c.last is.span) found

-- so a pair's first second stays that was shown, where it isn't before the moment
pub begun_shown : (rules : Rules) (left right : NamedTrajectory) (now begin end : ℕ) (shown : Option Conflict) (first : ℕ) → now ≤ 10000000
    → IsSpanOfLoss rules left.path right.path 0 horizon begin end → now ≤ end → end < window_end now
    → (moment : ℕ) × (moment ≤ now) × IsFoundOf rules moment left right shown → IsFirstFrom shown now (Some first)
    → IsSpanOfLoss rules left.path right.path now (window_end now) first end
begun_shown rules left right now begin end shown first early whole lasting ends (moment, later, found) (c, is, same, late) =
    let was : IsSpanOfLoss rules left.path right.path moment (window_end moment) c.first c.last =
    found_span rules moment left right c (subst (λ (x : Option Conflict). IsFoundOf rules moment left right x) is found) in
    subst (λ (k : ℕ). IsSpanOfLoss rules left.path right.path now (window_end now) k end) same
    (first_stays (IsLossSecond rules left.path right.path) now (window_end now) horizon begin end whole lasting ends (omega arith) moment (window_end moment)
    c.first c.last later (omega arith) (omega arith) was)

-- a conflict that was found, over what is the span now
found_over : (rules : Rules) (moment now : ℕ) (left right : NamedTrajectory) (c : Conflict) (span : ℕ × ℕ) → IsFoundOf rules moment left right (Some c)
    → IsSpanOfLoss rules left.path right.path now (window_end now) span.0 span.1 → IsFoundOf rules now left right (Some (over_span c span))
found_over rules moment now left right c span found is = ⊎_elim
    (λ o. inl (record { calls = o.calls; kinds = o.kinds; apart = o.apart; span = is }))
    (λ o. inr (record {
      calls = o.calls;
      kinds = o.kinds;
      apart = o.apart;
      span = IsSpanOfLoss-sym rules left.path right.path now (window_end now) span.0 span.1 is;
    })) found

-- so a pair that showed one and needs no test shows what of its span lies within the look-ahead
pub shows_over : (rules : Rules) (places : List (Option NamedTrajectory)) (moment now : ℕ) (e : Edge) (shown : Option Conflict) (c : Conflict) → now ≤ 10000000
    → IsPair rules places e → IsOpen now e → is_tested now e ≡ false → shown ≡ Some c → ShowsInWindow rules places moment e shown
    → ShowsInWindow rules places now e (Some (over_span c (span_within now e)))
shows_over rules places moment now e shown c early pair meets none is was =
    let l = one_there places e.a pair.left was.left pair.left_is was.left_is in
    let r = one_there places e.b pair.right was.right pair.right_is was.right_is in
    record {
      left = was.left;
      right = was.right;
      left_is = was.left_is;
      right_is = was.right_is;
      found = found_over rules moment now was.left was.right c (span_within now e) (subst (IsFoundOf rules moment was.left was.right) is was.found)
          (span_shown rules was.left.path was.right.path now e early meets none (span_of rules places e pair was.left was.right l r)
          (said_of rules places e pair was.left was.right l r));
    }

-- one test, and two where one is to spare
pub one_test : (spare old new : ℕ) → new ≡ raised old → WereTestedOf (1 + spare) spare old new
one_test spare old new is = record { more = 1; within = omega arith; is = is }

pub two_tests : (spare : Bool) (old mid new : ℕ) → spare ≡ true → mid ≡ raised old → new ≡ raised mid → WereTestedOf (1 + one_if spare) 0 old new
two_tests spare old mid new some one two = record { more = 2; within = rw some (omega arith); is = two ∙ ap raised one }
