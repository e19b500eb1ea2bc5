use Rattle.std.proofs.Common.{◌≡◌, ◌∙◌, ◌+◌, [], length, Ok, Result, true, refl, sym, arith}
use Rattle.std.proofs.lemmas.List.Elements.{All-push}
use Rattle.mt_base.specs.declared.hit.Hit.{Hit}
use Rattle.mt_base.specs.Name.{is_name}
use Rattle.mt_base.proofs.Members.{all_among}
use Rattle.mt_probe.proofs.Ahead.{tried_all, tried_more}
use Rattle.mt_probe.proofs.Candidates.{met_inside}
use Rattle.mt_probe.proofs.Clearing.{own_place}
use Rattle.mt_probe.proofs.Least.{fewer_least, more_least, none_least, same_least}
use Rattle.mt_probe.proofs.HitPlaces.{all_hits, hit_more, hit_no_more, none_below}
use Rattle.mt_probe.proofs.hitting.hits_among.Goals as goal

ok_alike : {X E : Type 0} (x y : X) (one other : Result X E) → one ≡ Ok x → other ≡ Ok y → one ≡ other → x ≡ y
ok_alike x y one other x_is y_is same = let both = sym x_is ∙ same ∙ y_is in cc

pub hit_with-requires : goal.hit_with-requires
hit_with-requires c = record { mine = c.args.mine.now.sliced; ahead = c.requires.ahead.ahead; is = c.in-Some.ensures.next.is }

pub loop-met-smaller : goal.loop-met-smaller
loop-met-smaller c =
    let inside = met_inside c.args.snapshot.now c.args.mine.now.sliced c.in-Some.met c.in-Some.ensures.next.is in
    omega (arith, inside, c.in-Some.ensures.next.begun, c.in-Some.ensures.on)

pub loop-met-init : goal.loop-met-init
loop-met-init c =
    let empty = ok_alike c.in_ok-list.list [] _ _ refl refl c.in_ok-list.ensures in
    rw empty (record {
      searched = rw c.begin-search.ensures.unmarked tt;
      members = rw c.begin-search.ensures.from (none_below c.args.snapshot.now c.args.call c.args.strand.now);
      named = λ k d below. absurd (omega (arith, below));
      counted = λ items near. omega arith;
      tested = none_least c.args.tests.now;
    })

pub loop-met-preserved-in-Continue-branch-2 : goal.loop-met-preserved-in-Continue-branch-2
loop-met-preserved-in-Continue-branch-2 c =
    let shot = c.args.snapshot.now in
    let t = c.args.strand.now in
    let sound = c.keeps.ensures.sound in
    let own = own_place c.args.snapshot.now c.args.call _ c.keeps.ensures.sound c.find-own.ensures.flight in
    rw (c.in_ok-push.ensures.ok, c.in-Some.ensures.on) (record {
      searched = c.next_meeting.ensures.searched;
      members = hit_more shot c.args.call t c.args.mine.now.sliced c.requires.ahead.ahead sound c.keeps-2.ensures c.loop-met.search.from c.in-Some.met c.loop-met.list
          c.in-Some-hit_with.hit c.in-Some.ensures.next (c.in-Some-hit_with.ensures.flown).0 (c.in-Some-hit_with.ensures.hit c.args.call own) c.loop-met.invariant.members;
      named = All-push (λ (hit : Hit). is_name 1 7 hit.with ≡ true) c.loop-met.list c.in-Some-hit_with.hit c.loop-met.invariant.named
          (c.in-Some-hit_with.ensures.flown).1;
      counted = tried_more shot c.args.call t sound c.keeps-2.ensures c.args.mine.now.sliced c.loop-met.search.from c.in-Some.met c.args.tests.now _ _
          c.requires.ahead.ahead c.in-Some.ensures.next c.loop-met.invariant.counted (c.hit_with.ensures.counted c.args.call own);
      tested = more_least c.args.tests.now _ _ c.loop-met.list c.in-Some-hit_with.hit c.loop-met.invariant.tested c.in-Some-hit_with.ensures.tested;
    })

pub loop-met-preserved : goal.loop-met-preserved
loop-met-preserved c =
    let shot = c.args.snapshot.now in
    let t = c.args.strand.now in
    let sound = c.keeps.ensures.sound in
    let own = own_place c.args.snapshot.now c.args.call _ c.keeps.ensures.sound c.find-own.ensures.flight in
    rw c.in-Some.ensures.on (record {
      searched = c.next_meeting.ensures.searched;
      members = hit_no_more shot c.args.call t c.args.mine.now.sliced c.requires.ahead.ahead sound c.keeps-2.ensures c.loop-met.search.from c.in-Some.met c.loop-met.list
          c.in-Some.ensures.next (c.hit_with.ensures.clear c.args.call own c.in_default-hit_with.is) c.loop-met.invariant.members;
      named = c.loop-met.invariant.named;
      counted = tried_more shot c.args.call t sound c.keeps-2.ensures c.args.mine.now.sliced c.loop-met.search.from c.in-Some.met c.args.tests.now _ _
          c.requires.ahead.ahead c.in-Some.ensures.next c.loop-met.invariant.counted (c.hit_with.ensures.counted c.args.call own);
      tested = same_least (length c.loop-met.list) c.args.tests.now _ _ c.loop-met.invariant.tested (rw c.in_default-hit_with.is at c.hit_with.ensures.tested);
    })

pub returns-in_err-push-clause-counted : goal.returns-in_err-push-clause-counted
returns-in_err-push-clause-counted c =
    let shot = c.args.snapshot.now in
    let t = c.args.strand.now in
    let sound = c.keeps.ensures.sound in
    let own = own_place c.args.snapshot.now c.args.call _ c.keeps.ensures.sound c.find-own.ensures.flight in
    tried_all shot c.args.call t sound c.keeps-2.ensures (c.in-Some.met.item + 1) c.args.tests.now _
    (tried_more shot c.args.call t sound c.keeps-2.ensures c.args.mine.now.sliced c.loop-met.search.from c.in-Some.met c.args.tests.now _ _ c.requires.ahead.ahead c.in-Some.ensures.next
    c.loop-met.invariant.counted (c.hit_with.ensures.counted c.args.call own))

pub returns-clause-hits : goal.returns-clause-hits
returns-clause-hits c = all_hits c.args.snapshot.now c.args.call c.args.strand.now c.args.mine.now.sliced c.requires.ahead.ahead c.keeps.ensures.sound c.keeps-2.ensures
    c.loop-met.search.from c.loop-met.list _ c.in_default.ensures.next c.loop-met.invariant.members c.order.ensures.same c.order.ensures.sorted

pub returns-clause-named : goal.returns-clause-named
returns-clause-named c = all_among (λ (hit : Hit). is_name 1 7 hit.with ≡ true) c.loop-met.list c.order.new.self c.loop-met.invariant.named
    (λ hit held. (c.order.ensures.same hit).0 held)

pub returns-clause-counted : goal.returns-clause-counted
returns-clause-counted c = tried_all c.args.snapshot.now c.args.call c.args.strand.now c.keeps.ensures.sound c.keeps-2.ensures c.loop-met.search.from c.args.tests.now _
    c.loop-met.invariant.counted

pub returns-clause-tested : goal.returns-clause-tested
returns-clause-tested c = fewer_least (length c.order.new.self) (length c.loop-met.list) c.args.tests.now _ c.order.ensures.fewer c.loop-met.invariant.tested
