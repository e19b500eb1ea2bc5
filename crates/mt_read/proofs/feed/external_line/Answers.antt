use Rattle.std.proofs.Common.{pos, [], ◌∷◌, ◌+◌, ◌-◌}
use Rattle.mt_base.specs.declared.command.Command.TheVariants as command
use Rattle.mt_read.specs.declared.key.Key.TheVariants as key
use Rattle.mt_read.specs.Field.{bound, number}
use Rattle.mt_read.specs.Table.{ends}
use Rattle.mt_read.proofs.ReadingLemmas.{asked, bounded_as, by, ◌▹◌}
use Rattle.mt_read.proofs.feed.external_line.Goals as goal

pub returns : goal.returns
returns c =
    let stretch = by (λ from ms. bound key.To (pos (from + 1)) (pos (from + 14400)) (number key.To ms) ∷ []) c.count-from.ensures.reads
    c.count-to.ensures.reads in
    let read = c.callsign-call.ensures ▹ stretch ▹ c.first_row-first.ensures ▹ c.approval-rvsm.ensures in
    let ended = bounded_as c.row_at_end.ensures (λ ms i. ends c.first_row-first.result (c.saturating_sub.ensures i)) in
    asked (by (λ v ms. ends v.1.1.0 (v.1.0.1 - v.1.0.0)) read ended) (λ ms e i. command.External (e i).0.0 (record {
      from = (e i).0.1.0.0;
      to = (e i).0.1.0.1;
      first = (e i).0.1.1.0;
      rvsm = (e i).0.1.1.1;
    }))
