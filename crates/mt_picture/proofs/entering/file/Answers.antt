use Rattle.std.proofs.Common.{◌+◌, ◌∙◌, Some, None, refl, inl, sym, ap}
use Rattle.std.proofs.lemmas.Result.{IfOk-weaker}
use Rattle.mt_base.specs.declared.conflict.Kind.{Kind}
use Rattle.mt_probe.specs.declared.flight.Flight.{Flight}
use Rattle.mt_probe.specs.Shot.{state_in_shot as state_in}
use Rattle.mt_picture.proofs.Entered.{put_filed}
use Rattle.std.specs.Arc.{arc_value}
use Rattle.mt_probe.specs.Prepared.{named_trajectory}
use Rattle.mt_picture.proofs.Bounding.{made_known}
use Rattle.mt_picture.proofs.FirstHit.{enters_or_stops, filing_unprobed, no_first}
use Rattle.mt_picture.proofs.Making.{filing_kind}
use Rattle.mt_picture.proofs.Standing.{filed_early}
use Rattle.std.proofs.lemmas.Option.{none-some}
use Rattle.mt_picture.proofs.entering.file.Goals as goal

pub put_made-requires-clause-put : goal.put_made-requires-clause-put
put_made-requires-clause-put c =
    let shot = c.args.held.now.snapshot in
    let v = rw c.snapshot.ensures.value at c.version-version.ensures.version in
    let f : Flight = record {
      card = c.args.card;
      filed = c.version-version.result + 1;
      named = c.version-version.result + 1;
      actual = record { strand = c.in_ok-strand.strand; stamp = c.version-version.result + 1 };
      mark = None;
    } in
    let made = rw (filing_kind c.args.entering.now.command.now c.requires.filing) at c.in_ok-strand.ensures.made in
    rw c.in_ok-entry.ensures.entry
    (put_filed shot c.args.slot f c.args.entering.now.who c.args.entering.now.command.now c.keeps.ensures.sound c.requires.slot c.requires.free c.requires.filing c.requires.enterable.prepared.left refl
    made (ap (λ n. n + 1) v) (ap (λ n. n + 1) v) (ap (λ n. n + 1) v) (filed_early shot c.args.held.now.history c.args.held.now.kept c.keeps.ensures.picture))

pub put_made-requires-clause-new : goal.put_made-requires-clause-new
put_made-requires-clause-new c =
    let kind = filing_kind c.args.entering.now.command.now c.requires.filing in
    rw kind (record {
      inside = c.requires.slot;
      was = λ g is. absurd (none-some g (sym c.requires.free ∙ is));
      setup_is = c.requires.enterable.prepared.setup_is;
      call_is = sym c.requires.enterable.prepared.call_is;
      new = c.in_ok-strand.ensures.known;
      other = λ m is. absurd (none-some m is);
      stood = c.requires.enterable.prepared.stood;
    })

pub returns-clause-entered : goal.returns-clause-entered
returns-clause-entered c =
    let shot = c.args.held.now.snapshot in
    enters_or_stops c.args.held.now c.put_made.new.held c.args.entering.now.who c.args.entering.now.command.now c.in_ok-entry.entry c.put_made.result c.in_ok-entry.ensures.entry
    c.put_made.ensures.entered (IfOk-weaker c.put_made.result _ _ (λ first none. no_first shot.setup (state_in shot) c.args.entering.now.command.now first
    (filing_unprobed c.args.entering.now.command.now c.requires.filing) (none (filing_unprobed c.args.entering.now.command.now c.requires.filing))) c.put_made.ensures.free)

pub returns-in_err-strand-clause-counted : goal.returns-in_err-strand-clause-counted
returns-in_err-strand-clause-counted c = λ mine made. record { place = 0; was = inl refl }

pub returns-in_err-entry-clause-counted : goal.returns-in_err-entry-clause-counted
returns-in_err-entry-clause-counted c = λ mine made. record { place = 0; was = inl refl }

pub returns-clause-counted : goal.returns-clause-counted
returns-clause-counted c = λ mine made.
    let shot = c.args.held.now.snapshot in
    let kind = filing_kind c.args.entering.now.command.now c.requires.filing in
    let t = arc_value c.in_ok-strand.strand in
    let one = made_known shot.setup (state_in shot) c.args.entering.now.who c.args.entering.now.command.now c.args.card t mine c.requires.enterable.prepared.left
    c.in_ok-strand.ensures.made made in
    rw kind at c.put_made.ensures.counted mine (ap (λ (k : Kind). Some (named_trajectory c.args.card k t)) (sym kind) ∙ ap Some one)

pub entry_of-requires : goal.entry_of-requires
entry_of-requires c = c.requires.enterable.bounded

pub put_made-requires-clause-counted : goal.put_made-requires-clause-counted
put_made-requires-clause-counted c = c.requires.enterable.counted

pub put_made-requires-clause-complete : goal.put_made-requires-clause-complete
put_made-requires-clause-complete c = c.in_ok-entry.ensures.complete

pub strand_for-requires : goal.strand_for-requires
strand_for-requires c = record { prepared = c.requires.enterable.prepared }
