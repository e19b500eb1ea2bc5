use Rattle.std.proofs.Common.{sym, subst, List}
use Rattle.std.specs.Arc.{arc_value}
use Rattle.mt_names.specs.declared.names.Named.{Named}
use Rattle.mt_names.specs.Naming.{IsRenaming}
use Rattle.mt_names.proofs.Placing.{come, gone}
use Rattle.mt_names.proofs.renaming.renamed.Goals as goal
use Rattle.mt_names.proofs.renaming.renamed.Goals.{in-Some-Some+in_ok-after-in-Some-Some, in-Some-None+in_ok-after-in-Some-None, in-None-Some+in_ok-after-in-None-Some}

pub returns : goal.returns
returns c =
    let names = arc_value c.args.names.now in
    let after : List Named = c.match-old.after in
    let known : IsRenaming names c.args.slot c.args.old c.args.new after = elim c.match-old.branch [
      | in-Some-Some+in_ok-after-in-Some-Some w ↦ rw (w.after-is, w.in-Some-Some.is-0, w.in-Some-Some.is-1) (rw w.deref.ensures at w.in_ok-after-in-Some-Some.ensures)
      | in-Some-None+in_ok-after-in-Some-None w ↦ rw (w.after-is, w.in-Some-None.is-0, w.in-Some-None.is-1) (gone names _ c.args.slot w.in-Some-None.old (rw w.deref-in-Some-None.ensures at w.in_ok-after-in-Some-None.ensures))
      | in-None-Some+in_ok-after-in-None-Some w ↦ rw (w.after-is, w.in-None-Some.is-0, w.in-None-Some.is-1) (come names _ c.args.slot w.in-None-Some.new (rw w.deref-in-None-Some.ensures at w.in_ok-after-in-None-Some.ensures))
    ] in
    subst (λ (s : List Named). IsRenaming names c.args.slot c.args.old c.args.new s) (sym c.in_ok-new.ensures.ok) known
