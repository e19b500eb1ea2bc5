use Rattle.std.proofs.Common.{◌≡◌, true, arith}
use Rattle.std.proofs.lemmas.Bool.Decides.{nat_tests}
use Rattle.mt_base.specs.Name.{is_name}
use Rattle.mt_base.proofs.NameLemmas.{written_is}
use Rattle.mt_base.proofs.name.Name.of.Goals as goal

pub invariant_of-result : goal.invariant_of-result
invariant_of-result c =
    let named : is_name c.args.low c.args.high c.args.text.now ≡ true = grind (arith, nat_tests) in
    rw c.copy_from_slice.ensures.after (written_is _ _ _ c.requires.shortest c.requires.longest named)
