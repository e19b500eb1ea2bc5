-- What is answered, flown and published in states that are alike.
use Rattle.std.proofs.Common.{◌≡◌, ◌↔◌, ℕ, List, [], ◌∷◌, map, Option, refl, sym, ◌∙◌, ap, subst}
use Rattle.std.specs.Prelude.{Result}
use Rattle.std.specs.Str.{bytes_eq}
use Rattle.mt_base.specs.declared.clearance.Clearance.{Clearance}
use Rattle.mt_base.specs.declared.command.Refusal.{Refusal}
use Rattle.mt_base.specs.declared.conflict.Conflict.{Conflict}
use Rattle.mt_base.specs.declared.flight.Record.{Record}
use Rattle.mt_base.specs.declared.hit.Hit.{Hit}
use Rattle.mt_base.specs.Effect.{bare_path, changed}
use Rattle.mt_base.specs.Picture.{IsPublished, IsPublishedOf, NamedTrajectory, State}
use Rattle.mt_base.specs.StrikeOut.{AreAlike, AreConflictsFlown, AreSameButVersions, all_flown, flown_by, without}
use Rattle.mt_base.specs.Tables.{Setup}
use Rattle.mt_base.specs.Trajectory.{Trajectory}
use Rattle.mt_base.specs.WhatIf.{IsWhatIf}
use Rattle.mt_law.proofs.Hits.{flown_bare, what_if_same}

-- the same states but for their versions, at one version
pub at_one_version : (s t : State) (v : ℕ) → AreSameButVersions s t → record s { version = v } ≡ record t { version = v }
at_one_version s t v same = ap (λ (now : ℕ). record s { now = now; version = v }) same.now
    ∙ ap (λ (rs : List Record). record t { records = rs; version = v }) same.records

same_back : (s t : State) → AreSameButVersions s t → AreSameButVersions t s
same_back s t same = record { now = sym same.now; records = sym same.records }

-- what is answered in a state is answered in one that is alike
what_if_over : (setup : Setup) (call : List ℕ) (s t : State) (own : List ℕ) (clearance : Clearance) (eff : Option ℕ)
    (r : Result (List Hit) Refusal) → AreAlike call s t → IsWhatIf setup s own clearance eff r → IsWhatIf setup t own clearance eff r
what_if_over setup call s t own clearance eff r alike answered = (what_if_same setup call t 0 own clearance eff r).1
    (subst (λ (u : State). IsWhatIf setup u own clearance eff r) (at_one_version (without call s) (without call t) 0 alike)
    ((what_if_same setup call s 0 own clearance eff r).0 answered))

pub what_if_alike : (setup : Setup) (call : List ℕ) (s t : State) (own : List ℕ) (clearance : Clearance) (eff : Option ℕ)
    (r : Result (List Hit) Refusal) → AreAlike call s t → IsWhatIf setup s own clearance eff r ↔ IsWhatIf setup t own clearance eff r
what_if_alike setup call s t own clearance eff r alike =
    (what_if_over setup call s t own clearance eff r alike, what_if_over setup call t s own clearance eff r (same_back (without call s) (without call t) alike))

-- the trajectories that are flown
flown_of_bare : (setup : Setup) (call : List ℕ) (rs : List Record) → map (flown_by setup) (map (changed call bare_path) rs) ≡ map (flown_by setup) rs
flown_of_bare setup call [] = refl
flown_of_bare setup call (r ∷ rs) =
    let here : flown_by setup (changed call bare_path r) ≡ flown_by setup r =
    ap (λ (path : Trajectory). record (flown_by setup r) { path = path }) (flown_bare setup (bytes_eq r.call call) r.path) in
    let rest = flown_of_bare setup call rs in
    cc

pub flown_alike : (setup : Setup) (call : List ℕ) (s t : State) → AreAlike call s t → all_flown setup s ≡ all_flown setup t
flown_alike setup call s t alike =
    sym (flown_of_bare setup call s.records) ∙ ap (map (flown_by setup)) alike.records ∙ flown_of_bare setup call t.records

-- what is published, and the conflicts of the trajectories that are flown
published_over : (setup : Setup) (s t : State) (cs : List Conflict) → AreSameButVersions s t → IsPublished setup s cs → IsPublished setup t cs
published_over setup s t cs same published = subst (λ (u : State). IsPublished setup u cs) (at_one_version s t t.version same) (of_version published) where
  of_version : IsPublished setup s cs → IsPublished setup (record s { version = t.version }) cs
  of_version h = h

pub published_same : (setup : Setup) (s t : State) (cs : List Conflict) → AreSameButVersions s t → IsPublished setup s cs ↔ IsPublished setup t cs
published_same setup s t cs same = (published_over setup s t cs same, published_over setup t s cs (same_back s t same))

conflicts_over : (setup : Setup) (call : List ℕ) (s t : State) (cs : List Conflict) → AreAlike call s t → AreConflictsFlown setup s cs
    → AreConflictsFlown setup t cs
conflicts_over setup call s t cs alike flown = subst (λ (now : ℕ). IsPublishedOf setup.rules now (all_flown setup t) cs) alike.now
    (subst (λ (all : List NamedTrajectory). IsPublishedOf setup.rules s.now all cs) (flown_alike setup call s t alike) flown)

pub conflicts_alike : (setup : Setup) (call : List ℕ) (s t : State) (cs : List Conflict) → AreAlike call s t
    → AreConflictsFlown setup s cs ↔ AreConflictsFlown setup t cs
conflicts_alike setup call s t cs alike =
    (conflicts_over setup call s t cs alike, conflicts_over setup call t s cs (same_back (without call s) (without call t) alike))
