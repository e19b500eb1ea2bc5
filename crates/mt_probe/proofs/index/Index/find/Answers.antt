use Rattle.std.proofs.Common.{List, subst}
use Rattle.mt_names.specs.declared.names.Named.{Named}
use Rattle.mt_names.specs.Naming.{IsPlaceOf}
use Rattle.mt_probe.specs.Private.Indexed.{Indexed}
use Rattle.mt_probe.proofs.index.Index.find.Goals as goal

pub returns : goal.returns
returns c = subst (λ (s : Indexed). IsPlaceOf s.names c.args.call c.find.result) c.self.view_is
    (subst (λ (names : List Named). IsPlaceOf names c.args.call c.find.result) c.deref.ensures c.find.ensures)
