use Rattle.std.proofs.Common.{◌≡◌, ◌++◌, ◌∷◌, [], ap, length}
use Rattle.std.proofs.lemmas.Result.{err_from_is_err_and}
use Rattle.std.proofs.lemmas.List.Elements.{All-append, All-cons, All-nil}
use Rattle.mt_base.specs.declared.command.Entry.{Entry}
use Rattle.mt_history.specs.Rebuilt.{IsReadyToDecide}
use Rattle.mt_history.proofs.LinesRead.{bad_is, up_to_more, up_to_none}
use Rattle.mt_history.proofs.reading.read_all.Goals as goal

pub loop-rest-init : goal.loop-rest-init
loop-rest-init c =
    let none : c.in_ok-entries.entries ≡ [] = cc c.in_ok-entries.ensures in
    rw none (record { up_to = up_to_none c.args.bytes.now; ready = All-nil IsReadyToDecide })

pub loop-rest-preserved : goal.loop-rest-preserved
loop-rest-preserved c =
    let e : Entry = c.in_ok-entry.entry in
    let read = c.in_ok-entry.ensures in
    let grown : c.push.new.self ≡ c.loop-rest.entries ++ e ∷ [] = c.in_ok-push.ensures.ok in
    rw grown (record {
      up_to = up_to_more c.args.bytes.now c.loop-rest.rest.now c.first_line.result.0.now c.first_line.result.1.now c.loop-rest.entries e
          c.loop-rest.invariant.up_to c.first_line.ensures.lines read.read;
      ready = All-append IsReadyToDecide c.loop-rest.entries (e ∷ []) c.loop-rest.invariant.ready (All-cons IsReadyToDecide e [] read.ready (All-nil IsReadyToDecide));
    })

pub returns-in_err-entry-clause-bad : goal.returns-in_err-entry-clause-bad
returns-in_err-entry-clause-bad c =
    let p = err_from_is_err_and c.from_residual-in_err-entry.result c.from_residual-in_err-entry.ensures.1 in
    rw (p.1, p.2) (bad_is c.args.bytes.now c.loop-rest.rest.now c.first_line.result.0.now c.first_line.result.1.now c.loop-rest.entries _ c.in_err-entry.field-0.0
    c.loop-rest.invariant.up_to c.first_line.ensures.lines (ap length c.items.ensures) c.in_err-entry.ensures.bad)
