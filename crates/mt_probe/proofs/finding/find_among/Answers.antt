use Rattle.std.proofs.Common.{◌≡◌, ◌∙◌, ◌+◌, List, [], Ok, Result, ap, get_or, length, length-append, refl, subst, sym, take, arith}
use Rattle.std.proofs.lemmas.List.{get_or_default, take_all}
use Rattle.std.proofs.lemmas.List.Elements.{Contains-get_or}
use Rattle.mt_base.specs.Picture.{NamedTrajectory}
use Rattle.mt_meet.specs.declared.table.Met.{Met}
use Rattle.mt_probe.specs.Private.Finds.{FindsMore}
use Rattle.mt_probe.specs.Items.{other_at}
use Rattle.mt_probe.proofs.Gathered.{both_more, none_more}
use Rattle.mt_probe.proofs.Candidates.{few_met, fewer, one_met_more, others_met}
use Rattle.mt_probe.proofs.Once.{found_met}
use Rattle.mt_probe.proofs.finding.find_among.Goals as goal

ok_alike : {X E : Type 0} (x y : X) (one other : Result X E) → one ≡ Ok x → other ≡ Ok y → one ≡ other → x ≡ y
ok_alike x y one other x_is y_is same = let both = sym x_is ∙ same ∙ y_is in cc

pub loop-met-init : goal.loop-met-init
loop-met-init c =
    let shot = c.args.snapshot.now in
    let empty = ok_alike c.in_ok-finds.finds [] _ _ refl refl c.in_ok-finds.ensures in
    record { found = rw empty (none_more shot.setup.rules shot.now c.args.strand.now []); counted = omega arith }

abbrev none_met : Met
none_met = record { item = 0; first = 0; last = 0 }

pub find_met-requires : goal.find_met-requires
find_met-requires c =
    let shot = c.args.snapshot.now in
    let xs = c.args.list.now in
    c.requires.exact (get_or xs c.loop-met.met-index none_met) (Contains-get_or xs c.loop-met.met-index none_met c.loop-met-test.true)

pub loop-met-preserved : goal.loop-met-preserved
loop-met-preserved c =
    let shot = c.args.snapshot.now in
    let xs = c.args.list.now in
    let i = c.loop-met.met-index in
    let met = get_or xs i none_met in
    let more = one_met_more c.args.call shot.slots xs i met c.loop-met-test.true (get_or_default xs i none_met met c.loop-met-test.true) in
    record {
      found = subst (λ (others : List NamedTrajectory). FindsMore shot.setup.rules shot.now c.args.strand.now others [] c.find_met.new.finds) (sym more)
          (both_more shot.setup.rules shot.now c.args.strand.now (others_met c.args.call shot.slots (take i xs)) (other_at c.args.call shot.slots met.item) []
          c.loop-met.finds c.find_met.new.finds c.loop-met.invariant.found c.in_ok-find_met.ensures.found);
      counted = omega (
        arith,
        c.loop-met.invariant.counted,
        c.find_met.ensures.counted,
        ap length more,
        length-append (others_met c.args.call shot.slots (take i xs)) (other_at c.args.call shot.slots met.item),
      );
    }

pub returns-in_err-find_met-clause-counted : goal.returns-in_err-find_met-clause-counted
returns-in_err-find_met-clause-counted c = λ items all.
    let shot = c.args.snapshot.now in
    let xs = c.args.list.now in
    let i = c.loop-met.met-index in
    let met = get_or xs i none_met in
    let few = few_met shot c.args.call c.args.strand.now xs items c.keeps.ensures.sound c.keeps-2.ensures c.requires all in
    let more = one_met_more c.args.call shot.slots xs i met c.loop-met-test.true (get_or_default xs i none_met met c.loop-met-test.true) in
    let front = fewer (λ (m : Met). other_at c.args.call shot.slots m.item) (i + 1) xs in
    omega (
      arith,
      c.loop-met.invariant.counted,
      c.find_met.ensures.counted,
      ap length more,
      front,
      few,
      length-append (others_met c.args.call shot.slots (take i xs)) (other_at c.args.call shot.slots met.item),
    )

pub returns-clause-finds : goal.returns-clause-finds
returns-clause-finds c =
    let shot = c.args.snapshot.now in
    let xs = c.args.list.now in
    found_met shot c.args.call c.args.strand.now xs c.loop-met.finds c.keeps.ensures.sound c.keeps-2.ensures c.requires
    (subst (λ (ys : List Met). FindsMore shot.setup.rules shot.now c.args.strand.now (others_met c.args.call shot.slots ys) [] c.loop-met.finds)
    (take_all c.loop-met.met-index xs c.loop-met-test.false) c.loop-met.invariant.found)

pub returns-clause-counted : goal.returns-clause-counted
returns-clause-counted c = λ items all.
    let shot = c.args.snapshot.now in
    let xs = c.args.list.now in
    let few = few_met shot c.args.call c.args.strand.now xs items c.keeps.ensures.sound c.keeps-2.ensures c.requires all in
    let whole = ap (λ (ys : List Met). length (others_met c.args.call shot.slots ys)) (take_all c.loop-met.met-index xs c.loop-met-test.false) in
    omega (arith, c.loop-met.invariant.counted, few, whole)
