use Rattle.std.proofs.Common.{map}
use Rattle.std.specs.Result.{IfOk}
use Rattle.std.specs.Global.{Vec}
use Rattle.mt_base.proofs.Members.{All-from_held}
use Rattle.mt_kept.specs.declared.open_pair.OpenPair.{OpenPair}
use Rattle.mt_kept.specs.Finds.{AreFindsAt}
use Rattle.mt_kept.specs.Losing.{IsPair}
use Rattle.mt_kept.specs.Places.{seen}
use Rattle.mt_kept.specs.Private.Window.{AreShownUntested}
use Rattle.mt_kept.proofs.Again.{finds_untested}
use Rattle.std.proofs.lemmas.Result.{IfOk-weaker}
use Rattle.mt_kept.proofs.kept.Kept.of.Goals as goal

pub shown_pairs-requires-clause-pairs : goal.shown_pairs-requires-clause-pairs
shown_pairs-requires-clause-pairs c =
    let k = c.self.invariant in
    let rules = c.self.inside.rules in
    let near = c.in_ok-own.own.items in
    let each = c.in_ok-own.ensures in (
      rules,
      rw (c.deref-3.ensures.value, c.deref-5.ensures.value) (All-from_held (IsPair rules (map seen c.self.inside.places.items)) near
          (λ e held. k.kept.sound e ((each.exact e).0 held).0)),
    )

pub returns : goal.returns
returns c =
    let k = c.self.invariant in
    let rules = c.self.inside.rules in
    let places = map seen c.self.inside.places.items in
    let now = c.self.inside.moment in
    let bordering = c.self.inside.bordering.items in
    let own = c.in_ok-own.own.items in
    let tested = c.in_ok-tested.tested.items in
    let told : IfOk c.shown_pairs.result (λ (pairs : Vec OpenPair). AreShownUntested places now tested own pairs.items) =
    rw (c.deref-3.ensures.value, c.deref-4.ensures.value, c.deref-5.ensures.value) at c.shown_pairs.ensures in
    IfOk-weaker c.shown_pairs.result _ (λ (finds : Vec OpenPair). AreFindsAt c.args.self.now.rules c.args.self.now.places c.args.self.now.moment c.args.place finds.items)
    (λ finds are. rw (← c.self.view_is) (finds_untested rules places now c.args.place c.self.inside.pairs.edges own k.open_pairs bordering tested finds.items
    k.early k.kept k.opened k.borderers (rw (c.deref.ensures.value, c.deref-2.ensures.value) at c.in_ok-tested.ensures) c.in_ok-own.ensures are)) told
