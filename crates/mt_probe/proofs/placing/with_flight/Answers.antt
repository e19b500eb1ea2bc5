use Rattle.std.proofs.Common.{[], Option, Some, None, Contains, IfSome, option_map, ⊎_elim, subst}
use Rattle.std.proofs.lemmas.Result.{IfOk-weaker}
use Rattle.std.specs.Arc.{arc_value}
use Rattle.mt_base.specs.declared.conflict.Kind.TheVariants.{Actual, Tentative}
use Rattle.mt_base.specs.Picture.{NamedTrajectory}
use Rattle.mt_base.proofs.Members.{Contains-cases, Contains-none}
use Rattle.mt_track.specs.Laid.{IsStrand}
use Rattle.mt_probe.specs.declared.flight.Flight.{Flight}
use Rattle.mt_probe.specs.declared.flight.Made.{Made}
use Rattle.mt_probe.specs.Private.Boxed.{AreLaid}
use Rattle.mt_probe.specs.Shot.{made_named}
use Rattle.mt_probe.proofs.Boxes.{given_of}
use Rattle.mt_probe.proofs.placing.with_flight.Goals as goal

-- the trajectories that are kept of a flight are the one that it flies and its tentative one
laid_both : (f : Flight) → IsStrand (arc_value f.actual.strand) → IfSome f.mark (λ m. IsStrand (arc_value m.strand)) → AreLaid f
laid_both f flown marked t held = ⊎_elim
    (λ same. subst (λ (o : NamedTrajectory). IsStrand o.path) same flown) (λ rest. by_mark f.mark marked rest)
    (Contains-cases (record { call = f.card.call; kind = Actual; path = arc_value f.actual.strand })
    (made_named f.card.call Tentative (option_map (λ m. arc_value m.strand) f.mark)) t held) where
      by_mark : (mark : Option Made) → IfSome mark (λ m. IsStrand (arc_value m.strand))
          → Contains (made_named f.card.call Tentative (option_map (λ m. arc_value m.strand) mark)) t → IsStrand t.path
      by_mark None laid held = absurd (Contains-none t held)
      by_mark (Some m) laid held = ⊎_elim
          (λ same. subst (λ (o : NamedTrajectory). IsStrand o.path) same laid) (λ none. absurd (Contains-none t none))
          (Contains-cases (record { call = f.card.call; kind = Tentative; path = arc_value m.strand }) [] t held)

pub returns-clause-laid : goal.returns-clause-laid
returns-clause-laid c =
    IfOk-weaker c.with_made-2.result _ _ (λ after laid. laid_both c.args.flight.now c.in_ok-after.ensures.laid (rw c.as_ref.ensures.value at laid)) c.with_made-2.ensures.laid

pub with_made-requires-clause-given : goal.with_made-requires-clause-given
with_made-requires-clause-given c = given_of arc_value c.args.rules.now c.args.stays Actual (Some c.args.flight.now) c.args.slices _ c.requires.made
    c.shared_out-flown.ensures.flown

pub with_made-requires-2-clause-given : goal.with_made-requires-2-clause-given
with_made-requires-2-clause-given c = rw c.as_ref.ensures.value
    (given_of arc_value c.args.rules.now c.args.stays Tentative (Some c.args.flight.now) c.args.slices _ c.requires.made c.shared_out-flown.ensures.marked)
