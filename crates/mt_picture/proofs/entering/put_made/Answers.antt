use Rattle.std.proofs.Common.{◌≡◌, ◌∙◌, None, refl}
use Rattle.std.proofs.lemmas.Result.{IfOk-from_err, MatchResult-from_err}
use Rattle.mt_picture.proofs.FirstHit.{first_here, none_is, probed_actual}
use Rattle.mt_picture.proofs.entering.put_made.Goals as goal

pub returns-then-is_some-clause-hits : goal.returns-then-is_some-clause-hits
returns-then-is_some-clause-hits c = λ probed.
    let finds = rw (probed_actual c.args.entering.now.command.now probed) at c.in_ok-change.ensures.finds in
    first_here c.args.held.now.snapshot c.args.slot c.args.flight c.in_ok-change.change.finds.items c.in_ok-first.first c.keeps.ensures.sound
    c.requires.put.inside finds c.requires.put.was
    (rw (c.deref.ensures.value, c.now-now.ensures.now, c.snapshot.ensures.value, c.callsign-call.ensures) at (c.in_ok-first.ensures.probed (c.is_probed-probed.ensures ∙ probed)))

pub returns-clause-hits : goal.returns-clause-hits
returns-clause-hits c = λ probed.
    let none : c.in_ok-first.first ≡ None = none_is c.in_ok-first.first (let t = c.if-is_some.false in let e = c.is_some.ensures in cc) in
    let finds = rw (probed_actual c.args.entering.now.command.now probed) at c.in_ok-change.ensures.finds in
    first_here c.args.held.now.snapshot c.args.slot c.args.flight c.in_ok-change.change.finds.items None c.keeps.ensures.sound c.requires.put.inside finds
    c.requires.put.was
    (rw (c.deref.ensures.value, c.now-now.ensures.now, c.snapshot.ensures.value, none, c.callsign-call.ensures) at (c.in_ok-first.ensures.probed (c.is_probed-probed.ensures ∙ probed)))

pub returns-then-is_some-clause-free : goal.returns-then-is_some-clause-free
returns-then-is_some-clause-free c = λ unprobed. c.in_ok-first.ensures.free (c.is_probed-probed.ensures ∙ unprobed)

pub change_for-requires : goal.change_for-requires
change_for-requires c = c.requires.new

pub put-requires-clause-counted : goal.put-requires-clause-counted
put-requires-clause-counted c = c.requires.counted

pub put-requires-clause-put : goal.put-requires-clause-put
put-requires-clause-put c = c.requires.put

pub put-requires-clause-complete : goal.put-requires-clause-complete
put-requires-clause-complete c = c.requires.complete

pub put-requires-clause-change : goal.put-requires-clause-change
put-requires-clause-change c = c.in_ok-change.ensures.change

pub returns-in_err-change-clause-entered : goal.returns-in_err-change-clause-entered
returns-in_err-change-clause-entered c = MatchResult-from_err c.from_residual.result _ _ c.from_residual.ensures.0 (λ err. refl)

pub returns-in_err-change-clause-counted : goal.returns-in_err-change-clause-counted
returns-in_err-change-clause-counted c = c.in_err-change.ensures.counted

pub returns-in_err-first-clause-entered : goal.returns-in_err-first-clause-entered
returns-in_err-first-clause-entered c =
    MatchResult-from_err c.from_residual-in_err-first.result _ _ c.from_residual-in_err-first.ensures.0
    (λ err. refl)

pub returns-in_err-first-clause-counted : goal.returns-in_err-first-clause-counted
returns-in_err-first-clause-counted c = c.in_ok-change.ensures.counted

pub returns-in_err-put-clause-entered : goal.returns-in_err-put-clause-entered
returns-in_err-put-clause-entered c =
    MatchResult-from_err c.from_residual-in_err-put.result _ _ c.from_residual-in_err-put.ensures.0
    (λ err. c.in_err-put.ensures)

pub returns-in_err-put-clause-counted : goal.returns-in_err-put-clause-counted
returns-in_err-put-clause-counted c = c.in_ok-change.ensures.counted

pub returns-then-is_some-clause-counted : goal.returns-then-is_some-clause-counted
returns-then-is_some-clause-counted c = c.in_ok-change.ensures.counted

pub returns-clause-entered : goal.returns-clause-entered
returns-clause-entered c = c.in_ok-put.ensures

pub returns-clause-free : goal.returns-clause-free
returns-clause-free c = λ unprobed. refl

pub returns-clause-counted : goal.returns-clause-counted
returns-clause-counted c = c.in_ok-change.ensures.counted

pub returns-in_err-change-clause-hits : goal.returns-in_err-change-clause-hits
returns-in_err-change-clause-hits c = IfOk-from_err c.from_residual.result _ c.from_residual.ensures.0

pub returns-in_err-change-clause-free : goal.returns-in_err-change-clause-free
returns-in_err-change-clause-free c = IfOk-from_err c.from_residual.result _ c.from_residual.ensures.0

pub returns-in_err-first-clause-hits : goal.returns-in_err-first-clause-hits
returns-in_err-first-clause-hits c = IfOk-from_err c.from_residual-in_err-first.result _ c.from_residual-in_err-first.ensures.0

pub returns-in_err-first-clause-free : goal.returns-in_err-first-clause-free
returns-in_err-first-clause-free c = IfOk-from_err c.from_residual-in_err-first.result _ c.from_residual-in_err-first.ensures.0

pub returns-in_err-put-clause-hits : goal.returns-in_err-put-clause-hits
returns-in_err-put-clause-hits c = IfOk-from_err c.from_residual-in_err-put.result _ c.from_residual-in_err-put.ensures.0

pub returns-in_err-put-clause-free : goal.returns-in_err-put-clause-free
returns-in_err-put-clause-free c = IfOk-from_err c.from_residual-in_err-put.result _ c.from_residual-in_err-put.ensures.0
