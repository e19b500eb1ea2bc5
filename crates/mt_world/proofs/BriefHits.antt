-- The hits that a reply carries are brief.
use Rattle.std.proofs.Common.{◌≡◌, ℕ, ◌<◌, ◌≤◌, true, List, length, get_or, Option, Some, None, Ok, arith}
use Rattle.std.proofs.lemmas.List.Elements.{Contains-get_or}
use Rattle.std.specs.Prelude.{IfSome, is_some, unwrap_or}
use Rattle.mt_base.specs.declared.clearance.Clearance.{Clearance}
use Rattle.mt_base.specs.declared.flight.Course.{Course}
use Rattle.mt_base.specs.declared.hit.Hit.{Hit}
use Rattle.mt_base.specs.Picture.{State, flight_of}
use Rattle.mt_base.specs.Tables.{Setup}
use Rattle.mt_base.specs.Trajectory.{Trajectory}
use Rattle.mt_base.specs.WhatIf.{AreHitsOf, IsWhatIf, course_in, trajectory_cleared}
use Rattle.mt_board.specs.Short.{AreShortHits}
use Rattle.mt_write.specs.Short.{IsShortHit}
use Rattle.mt_lines.specs.Fit.{AreBrief}
use Rattle.mt_base.proofs.OneSolution.{planned_if}

-- the seconds of a hit lie in the window
short_hit : (setup : Setup) (s : State) (call : List ℕ) (t : Trajectory) (hits : List Hit) (k : ℕ) (d : Hit) → AreHitsOf setup s call t hits
    → AreShortHits hits → s.now ≤ 10000000 → k < length hits → IsShortHit (get_or hits k d)
short_hit setup s call t hits k d are short early below =
    let hit = (are.exact (get_or hits k d)).0 (Contains-get_or hits k d below) in
    record {
      first = omega (arith, hit.span.inside.1, hit.span.inside.2);
      with_is = short.named k d below;
      last = omega (arith, hit.span.inside.2);
    }

pub brief_hits : (setup : Setup) (s : State) (call : List ℕ) (clearance : Clearance) (eff : Option ℕ) (hits : List Hit)
    → IsWhatIf setup s call clearance eff (Ok hits) → AreShortHits hits → s.now ≤ 10000000 → AreBrief hits
brief_hits setup s call clearance eff hits follows short early =
    by_course (course_in (flight_of s.records call)) (planned_if setup s call clearance (unwrap_or eff s.now) follows.0) follows.1 where
      by_course : (course : Option Course) → is_some course ≡ true
          → IfSome course (λ c. AreHitsOf setup s call (trajectory_cleared setup c clearance (unwrap_or eff s.now)) hits) → AreBrief hits
      by_course (Some c) there are = record {
        few = short.few;
        each = λ k d below. short_hit setup s call (trajectory_cleared setup c clearance (unwrap_or eff s.now)) hits k d are short early below;
      }
      by_course None there are = cc
