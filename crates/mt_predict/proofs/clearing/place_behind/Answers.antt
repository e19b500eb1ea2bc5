use Rattle.std.proofs.Common.{◌∙◌}
use Rattle.mt_predict.proofs.Ahead.{behind_is, none_ahead, place_is}
use Rattle.mt_predict.proofs.clearing.place_behind.Goals as goal

pub returns-in_err-further : goal.returns-in_err-further
returns-in_err-further c =
    let ahead = rw c.items.ensures at (behind_is c.items.result.now c.in_ok-behind.behind.now c.args.place c.in_ok-behind.ensures.lookup.0.2) in
    c.from_residual-in_err-further.ensures ∙ none_ahead c.args.route.now c.in_ok-behind.behind.now c.args.fix c.args.place ahead c.in_err-further.ensures.place

pub returns : goal.returns
returns c =
    let ahead = rw c.items.ensures at (behind_is c.items.result.now c.in_ok-behind.behind.now c.args.place c.in_ok-behind.ensures.lookup.0.2) in
    place_is c.args.route.now c.in_ok-behind.behind.now c.args.fix c.args.place c.in_ok-further.further ahead c.in_ok-further.ensures.place
