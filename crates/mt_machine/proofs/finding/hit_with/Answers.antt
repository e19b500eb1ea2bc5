use Rattle.std.proofs.Common.{◌≡◌, ap, subst, Some, refl}
use Rattle.mt_base.specs.declared.hit.Hit.{Hit}
use Rattle.mt_base.specs.Tables.{Setup, setup_with}
use Rattle.mt_machine.specs.Private.Hits.{IsHitWith}
use Rattle.mt_machine.proofs.Struck.{no_hit, one_hit}
use Rattle.mt_machine.proofs.finding.hit_with.Goals as goal

pub returns-in_default-clause-exact : goal.returns-in_default-clause-exact
returns-in_default-clause-exact c =
    let setup : Setup = setup_with c.args.rules.now c.args.tables.now in
    let none = rw c.in_ok-flown.ensures at c.in_default.ensures.conflict in
    λ hit. ((λ e. cc), (λ is. absurd (no_hit setup c.args.now c.args.strand.now c.args.other.now none hit is)))

pub returns-clause-exact : goal.returns-clause-exact
returns-clause-exact c =
    let setup : Setup = setup_with c.args.rules.now c.args.tables.now in
    let span = rw c.in_ok-flown.ensures at c.in-Some.ensures.conflict in
    let found : Hit = record { first = c.in-Some.first; with = c.args.other.now.call; last = c.in-Some.last } in
    let is : IsHitWith setup c.args.now c.args.strand.now c.args.other.now found = record { with_is = refl; span = span } in
    λ hit. (
      (λ e. let same : found ≡ hit = cc in subst (IsHitWith setup c.args.now c.args.strand.now c.args.other.now) same is),
      (λ also. ap Some (one_hit setup c.args.now c.args.strand.now c.args.other.now found hit is also)),
    )

pub returns-in_default-clause-named : goal.returns-in_default-clause-named
returns-in_default-clause-named c = c.keeps.ensures

pub returns-clause-named : goal.returns-clause-named
returns-clause-named c = c.keeps.ensures
