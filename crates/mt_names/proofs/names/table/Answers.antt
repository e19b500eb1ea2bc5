use Rattle.std.proofs.Common.{◌∙◌, ap, sym, [], get_or, List}
use Rattle.mt_names.specs.declared.names.Named.{Named}
use Rattle.mt_names.proofs.Sharing.{copied, none_in, no_rows}
use Rattle.mt_names.proofs.names.table.Goals as goal

pub returns-then-is_empty-clause-same : goal.returns-then-is_empty-clause-same
returns-then-is_empty-clause-same c = λ i.
    none_in c.in_ok-empty.empty (c.in_ok-empty.ensures.ok ∙ c.make.ensures) c.in_ok-vec.field-0.items c.in_ok-vec.ensures.items i
    ∙ sym (no_rows c.args.rows.now (sym c.is_empty.ensures ∙ c.if-is_empty.true) i)

pub returns-clause-same : goal.returns-clause-same
returns-clause-same c = λ i.
    ap (λ (rows : List (List Named)). get_or rows i []) (copied c.args.rows.now c.in_ok-from_clones.field-0.items c.in_ok-from_clones.ensures.items)
