use Rattle.std.proofs.Common.{◌≡◌, ◌≢◌, ℕ, ◌<◌, List, [], ◌∷◌, length, take, get_or, Option, Some, None, ◌∙◌, ap, arith}
use Rattle.std.proofs.lemmas.List.{get_or-take, get_or_default, length-take}
use Rattle.std.proofs.lemmas.List.Elements.{All-from_recursion, recursion_from_All}
use Rattle.std.specs.List.{AllByRecursion, flat_map}
use Rattle.mt_base.specs.declared.flight.Mark.{Mark}
use Rattle.mt_base.specs.declared.flight.Path.{Path}
use Rattle.mt_base.specs.declared.flight.Path.TheVariants.{Planned, Outer}
use Rattle.mt_base.specs.declared.flight.Record.{Record}
use Rattle.mt_base.specs.Picture.{HaveOwnCalls, tentative_of, trajectories_of}
use Rattle.mt_base.specs.Tables.{Setup}
use Rattle.mt_base.specs.Others.{AreOfOthers}
use Rattle.mt_base.proofs.Members.{both_all}

-- a flight's tentative trajectory has its callsign
tentative : (setup : Setup) (call own : List ℕ) (path : Path) → own ≢ call → AllByRecursion (λ t. t.call ≢ call) (tentative_of setup own path)
tentative setup call own (Outer stretch) other = tt
tentative setup call own (Planned course) other = by_mark course.mark where
  by_mark : (mark : Option Mark) → AllByRecursion (λ t. t.call ≢ call) (tentative_of setup own (Planned (record course { mark = mark })))
  by_mark None = tt
  by_mark (Some mark) = (other, tt)

-- flights of other callsigns have trajectories of other callsigns
others : (setup : Setup) (call : List ℕ) (flights : List Record) → AllByRecursion (λ f. f.call ≢ call) flights
    → AllByRecursion (λ t. t.call ≢ call) (flat_map (trajectories_of setup) flights)
others setup call [] all = tt
others setup call (f ∷ fs) all =
    both_all (λ t. t.call ≢ call) (trajectories_of setup f) (flat_map (trajectories_of setup) fs) (all.0, tentative setup call f.call f.path all.0)
    (others setup call fs all.1)

-- the flights before one have other callsigns
pub others_before : (setup : Setup) (flights : List Record) (i : ℕ) (f : Record) → HaveOwnCalls flights → i < length flights → f ≡ get_or flights i f
    → AreOfOthers f.call (flat_map (trajectories_of setup) (take i flights))
others_before setup flights i f own below is =
    All-from_recursion (λ t. t.call ≢ f.call) (flat_map (trajectories_of setup) (take i flights))
    (others setup f.call (take i flights) (recursion_from_All (λ g. g.call ≢ f.call) (take i flights) before)) where
      before : (k : ℕ) (d : Record) → k < length (take i flights) → (get_or (take i flights) k d).call ≢ f.call
      before k d k_below =
          let earlier : k < i = omega (arith, length-take i flights) in
          rw (get_or-take i flights k d earlier, is) (λ same. own k i d earlier below (same ∙ ap (λ (g : Record). g.call) (get_or_default flights i f d below)))
