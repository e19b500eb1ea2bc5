-- The hits of a clearance are the same without the tentative clearances of a callsign, and at any version.
use Rattle.std.proofs.Common.{◌≡◌, ◌≢◌, ◌↔◌, Bool, true, false, ℕ, List, [], map, Option, Some, None, Ok, Err, refl, sym, ◌∙◌, ap, subst, if◌then◌else◌}
use Rattle.std.specs.Prelude.{option_map, unwrap_or, IfSome, Result}
use Rattle.std.specs.Str.{bytes_eq}
use Rattle.mt_base.specs.declared.clearance.Clearance.{Clearance}
use Rattle.mt_base.specs.declared.clearance.Clearance.TheVariants.{Level, Direct}
use Rattle.mt_base.specs.declared.command.Command.{Command}
use Rattle.mt_base.specs.declared.command.Command.TheVariants.{Accept}
use Rattle.mt_base.specs.declared.command.Entry.{Entry}
use Rattle.mt_base.specs.declared.command.Refusal.{Refusal}
use Rattle.mt_base.specs.declared.flight.Path.{Path}
use Rattle.mt_base.specs.declared.flight.Path.TheVariants.{Planned, Outer}
use Rattle.mt_base.specs.declared.flight.Record.{Record}
use Rattle.mt_base.specs.declared.hit.Hit.{Hit}
use Rattle.mt_base.specs.Checks.{judged}
use Rattle.mt_base.specs.Conflict.{IsSpanOfLoss}
use Rattle.mt_base.specs.Decision.{HasHits, IsDecided}
use Rattle.mt_base.specs.Effect.{bare_path, changed}
use Rattle.mt_base.specs.Picture.{State, flight_of, trajectory_of, window_end}
use Rattle.mt_base.specs.StrikeOut.{handled_by, without}
use Rattle.mt_base.specs.Tables.{Setup}
use Rattle.mt_base.specs.Trajectory.{Trajectory}
use Rattle.mt_base.specs.WhatIf.{AreHits, AreHitsOf, IsHit, IsWhatIf, course_in, course_on, trajectory_cleared, what_if_checks}
use Rattle.mt_law.proofs.Bare.{judge_bare, what_if_bare}
use Rattle.mt_law.proofs.Flights.{found_changed}
use Rattle.mt_base.proofs.Members.{Contains-map, Contains-map_cases}

-- a state without the tentative clearance of a callsign, at some version
abbrev pub bare_at : List ℕ → State → ℕ → State
bare_at call s v = record { now = s.now; records = map (changed call bare_path) s.records; version = v }

pub flown_bare : (setup : Setup) (b : Bool) (p : Path) → trajectory_of setup (if b then bare_path p else p) ≡ trajectory_of setup p
flown_bare setup false p = refl
flown_bare setup true (Planned course) = refl
flown_bare setup true (Outer stretch) = refl

module _ (setup : Setup) (call : List ℕ) (s : State) (v : ℕ) where
  hit_bare : (own : List ℕ) (t : Trajectory) (hit : Hit) → IsHit setup s own t hit ↔ IsHit setup (bare_at call s v) own t hit
  hit_bare own t hit = (
    (λ h. record {
      flight = changed call bare_path h.flight;
      flies = Contains-map (changed call bare_path) s.records h.flight h.flies;
      other = h.other;
      with_is = h.with_is;
      span = subst (λ (path : Trajectory). IsSpanOfLoss setup.rules t path s.now (window_end s.now) hit.first hit.last)
          (sym (flown_bare setup (bytes_eq h.flight.call call) h.flight.path)) h.span;
    }),
    (λ h. let seen = Contains-map_cases (changed call bare_path) s.records h.flight h.flies in record {
      flight = seen.of;
      flies = seen.held;
      other = λ e. h.other (sym (ap (λ (r : Record). r.call) seen.is) ∙ e);
      with_is = h.with_is ∙ sym (ap (λ (r : Record). r.call) seen.is);
      span = subst (λ (path : Trajectory). IsSpanOfLoss setup.rules t path s.now (window_end s.now) hit.first hit.last)
          (ap (λ (r : Record). trajectory_of setup r.path) (sym seen.is) ∙ flown_bare setup (bytes_eq seen.of.call call) seen.of.path) h.span;
    }),
  )

  hits_of_bare : (own : List ℕ) (t : Trajectory) (hits : List Hit) → AreHitsOf setup s own t hits ↔ AreHitsOf setup (bare_at call s v) own t hits
  hits_of_bare own t hits = (
    (λ h. record {
      exact = λ hit. ((λ held. (hit_bare own t hit).0 ((h.exact hit).0 held)), (λ is. (h.exact hit).1 ((hit_bare own t hit).1 is)));
      sorted = h.sorted;
    }),
    (λ h. record {
      exact = λ hit. ((λ held. (hit_bare own t hit).1 ((h.exact hit).0 held)), (λ is. (h.exact hit).1 ((hit_bare own t hit).0 is)));
      sorted = h.sorted;
    }),
  )

  pub hits_bare : (own : List ℕ) (clearance : Clearance) (eff : ℕ) (hits : List Hit)
      → AreHits setup s own clearance eff hits ↔ AreHits setup (bare_at call s v) own clearance eff hits
  hits_bare own clearance eff hits =
      subst (λ (flight : Option Record). AreHits setup s own clearance eff hits
      ↔ IfSome (course_in flight) (λ course. AreHitsOf setup (bare_at call s v) own (trajectory_cleared setup course clearance eff) hits))
      (sym (found_changed own call bare_path s.records)) (by_flight (flight_of s.records own)) where
        by_path : (b : Bool) (p : Path) (clearance : Clearance)
            → IfSome (course_on p) (λ course. AreHitsOf setup s own (trajectory_cleared setup course clearance eff) hits)
            ↔ IfSome (course_on (if b then bare_path p else p))
            (λ course. AreHitsOf setup (bare_at call s v) own (trajectory_cleared setup course clearance eff) hits)
        by_path true (Outer stretch) clearance = ((λ h. tt), (λ h. tt))
        by_path false (Outer stretch) clearance = ((λ h. tt), (λ h. tt))
        by_path false (Planned course) clearance = hits_of_bare own (trajectory_cleared setup course clearance eff) hits
        by_path true (Planned course) (Level level) = hits_of_bare own (trajectory_cleared setup course (Level level) eff) hits
        by_path true (Planned course) (Direct fix) = hits_of_bare own (trajectory_cleared setup course (Direct fix) eff) hits

        by_flight : (flight : Option Record)
            → IfSome (course_in flight) (λ course. AreHitsOf setup s own (trajectory_cleared setup course clearance eff) hits)
            ↔ IfSome (course_in (option_map (changed call bare_path) flight))
            (λ course. AreHitsOf setup (bare_at call s v) own (trajectory_cleared setup course clearance eff) hits)
        by_flight None = ((λ h. tt), (λ h. tt))
        by_flight (Some r) = by_path (bytes_eq r.call call) r.path clearance

  -- what is answered of a what-if
  pub what_if_same : (own : List ℕ) (clearance : Clearance) (eff : Option ℕ) (r : Result (List Hit) Refusal)
      → IsWhatIf setup s own clearance eff r ↔ IsWhatIf setup (bare_at call s v) own clearance eff r
  what_if_same own clearance eff r = by_answer r where
    checked : judged (what_if_checks setup s.now (flight_of (map (changed call bare_path) s.records) own) own clearance (unwrap_or eff s.now)) (tt {0})
        ≡ judged (what_if_checks setup s.now (flight_of s.records own) own clearance (unwrap_or eff s.now)) (tt {0})
    checked = ap (λ (cs : List (Refusal × Bool)). judged cs (tt {0}))
        (ap (λ (flight : Option Record). what_if_checks setup s.now flight own clearance (unwrap_or eff s.now)) (found_changed own call bare_path s.records)
        ∙ what_if_bare setup s.now call own clearance (unwrap_or eff s.now) (flight_of s.records own))

    by_answer : (r : Result (List Hit) Refusal) → IsWhatIf setup s own clearance eff r ↔ IsWhatIf setup (bare_at call s v) own clearance eff r
    by_answer (Ok hits) = (
      (λ h. (checked ∙ h.0, (hits_bare own clearance (unwrap_or eff s.now) hits).0 h.1)),
      (λ h. (sym checked ∙ h.0, (hits_bare own clearance (unwrap_or eff s.now) hits).1 h.1)),
    )
    by_answer (Err refusal) = ((λ h. checked ∙ h), (λ h. sym checked ∙ h))

-- the hits of a command
pub has_hits_bare : (setup : Setup) (call : List ℕ) (s : State) (c : Command) → HasHits setup s c [] → HasHits setup (without call s) c []
has_hits_bare setup call s (Accept own clearance eff probed) h = (hits_bare setup call s s.version own clearance eff []).0 h
has_hits_bare setup call s c h = h

-- what is decided without the tentative clearance
pub decided_bare : (setup : Setup) (call : List ℕ) (s : State) (e : Entry) → handled_by e.command ≢ Some call
    → IsDecided setup s e.who e.command (Ok e) → IsDecided setup (without call s) e.who e.command (Ok e)
decided_bare setup call s e apart decided = (judge_bare setup call s e.who e.command apart ∙ decided.0, has_hits_bare setup call s e.command decided.1)
