use Rattle.std.proofs.Common.{◌+◌, ◌∙◌, Some, refl, inl, sym, ap, subst}
use Rattle.std.specs.Arc.{arc_value}
use Rattle.mt_base.specs.declared.flight.Record.{Record}
use Rattle.mt_probe.specs.Shot.{flight_at}
use Rattle.mt_probe.specs.Shot.{state_in_shot as state_in}
use Rattle.mt_probe.specs.Prepared.{IsLeftByEntry}
use Rattle.mt_picture.proofs.Bounding.{made_known}
use Rattle.mt_picture.proofs.Entered.{there}
use Rattle.mt_picture.proofs.FirstHit.{both_ok, enters_or_stops, first_of_put}
use Rattle.mt_picture.proofs.Remade.{new_stands, other_there, put_remade, remaking_alters}
use Rattle.mt_picture.proofs.entering.remake.Goals as goal

pub put_made-requires-clause-put : goal.put_made-requires-clause-put
put_made-requires-clause-put c =
    let shot = c.args.held.now.snapshot in
    rw c.in_ok-entry.ensures.entry
    (put_remade shot c.args.slot c.in_ok-flight.flight c.args.entering.now.who c.args.entering.now.command.now c.args.card (arc_value c.in_ok-strand.strand) c.keeps.ensures.sound
    c.requires.there c.requires.remaking c.requires.enterable.prepared.left c.in_ok-strand.ensures.made c.in_ok-flight.ensures)

pub put_made-requires-clause-new : goal.put_made-requires-clause-new
put_made-requires-clause-new c =
    let shot = c.args.held.now.snapshot in
    let put = put_remade shot c.args.slot c.in_ok-flight.flight c.args.entering.now.who c.args.entering.now.command.now c.args.card (arc_value c.in_ok-strand.strand) c.keeps.ensures.sound
    c.requires.there c.requires.remaking c.requires.enterable.prepared.left c.in_ok-strand.ensures.made c.in_ok-flight.ensures in
    record {
      inside = put.inside;
      was = put.was;
      setup_is = c.requires.enterable.prepared.setup_is;
      call_is = ap (λ (r : Record). r.call) c.in_ok-flight.ensures.card_is ∙ sym c.requires.enterable.prepared.call_is;
      new = rw (new_stands (flight_at shot c.args.slot) (shot.version + 1) c.args.entering.now.command.now c.args.card (arc_value c.in_ok-strand.strand)
          c.in_ok-flight.flight _ refl c.in_ok-flight.ensures) c.in_ok-strand.ensures.known;
      other = λ m is. other_there (flight_at shot c.args.slot) (shot.version + 1) c.args.entering.now.command.now c.args.card (arc_value c.in_ok-strand.strand)
          c.in_ok-flight.flight _ m refl c.in_ok-flight.ensures is;
      stood = c.requires.enterable.prepared.stood;
    }

pub returns-clause-entered : goal.returns-clause-entered
returns-clause-entered c =
    let shot = c.args.held.now.snapshot in
    let f = c.in_ok-flight.flight in
    let it = there (flight_at shot c.args.slot) c.args.card.call c.requires.there in
    let card_is = c.in_ok-flight.ensures.card_is in
    let put = put_remade shot c.args.slot f c.args.entering.now.who c.args.entering.now.command.now c.args.card (arc_value c.in_ok-strand.strand) c.keeps.ensures.sound
    c.requires.there c.requires.remaking c.requires.enterable.prepared.left c.in_ok-strand.ensures.made c.in_ok-flight.ensures in
    let left = subst (IsLeftByEntry shot.setup (state_in shot) c.args.entering.now.who c.args.entering.now.command.now) (sym card_is) c.requires.enterable.prepared.left in
    enters_or_stops c.args.held.now c.put_made.new.held c.args.entering.now.who c.args.entering.now.command.now c.in_ok-entry.entry c.put_made.result c.in_ok-entry.ensures.entry
    c.put_made.ensures.entered (both_ok c.put_made.result _ _ _ (λ first here none.
    first_of_put shot c.args.slot c.args.entering.now.who it.flight f c.args.entering.now.command.now first c.keeps.ensures.sound it.at_is
    (it.own ∙ ap (λ (r : Record). r.call) (sym card_is)) (remaking_alters c.args.entering.now.command.now c.requires.remaking) left put.fits.entry
    here none)
    c.put_made.ensures.hits c.put_made.ensures.free)

pub returns-in_err-strand-clause-counted : goal.returns-in_err-strand-clause-counted
returns-in_err-strand-clause-counted c = λ mine made. record { place = 0; was = inl refl }

pub returns-in_err-entry-clause-counted : goal.returns-in_err-entry-clause-counted
returns-in_err-entry-clause-counted c = λ mine made. record { place = 0; was = inl refl }

pub returns-in_err-flight-clause-counted : goal.returns-in_err-flight-clause-counted
returns-in_err-flight-clause-counted c = λ mine made. record { place = 0; was = inl refl }

pub returns-clause-counted : goal.returns-clause-counted
returns-clause-counted c = λ mine made.
    let shot = c.args.held.now.snapshot in
    let t = arc_value c.in_ok-strand.strand in
    let one = made_known shot.setup (state_in shot) c.args.entering.now.who c.args.entering.now.command.now c.args.card t mine c.requires.enterable.prepared.left
    c.in_ok-strand.ensures.made made in
    c.put_made.ensures.counted mine
    (new_stands (flight_at shot c.args.slot) (shot.version + 1) c.args.entering.now.command.now c.args.card t c.in_ok-flight.flight _ refl c.in_ok-flight.ensures ∙ ap Some one)

pub strand_for-requires : goal.strand_for-requires
strand_for-requires c = record { prepared = c.requires.enterable.prepared }
