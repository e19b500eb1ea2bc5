use Rattle.std.proofs.Common.{◌-◌, drop, rules, take}
use Rattle.std.proofs.lemmas.List.Elements.{All-drop, All-take}
use Rattle.mt_base.specs.Complete.{IsComplete}
use Rattle.mt_history.proofs.LinesPrinted.{bytes_read}
use Rattle.mt_history.proofs.printing.print.Goals as goal

pub returns-clause-text : goal.returns-clause-text
returns-clause-text c = search rules

pub returns-clause-read_back : goal.returns-clause-read_back
returns-clause-read_back c =
    let history = c.args.picture.now.history in
    bytes_read c.text_of.result (take (c.args.to - c.args.from) (drop c.args.from history))
    (All-take IsComplete (c.args.to - c.args.from) (drop c.args.from history) (All-drop IsComplete c.args.from history c.entries-entries.ensures.complete))
    (returns-clause-text c)
