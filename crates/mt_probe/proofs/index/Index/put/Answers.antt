use Rattle.std.proofs.Common.{◌≡◌, ◌∙◌, ◌+◌, ◌-◌, ℕ, ap, get_or, sym, subst, List, Option, None, arith, is_some, option_copied}
use Rattle.std.proofs.lemmas.Result.{IfOk-from_err}
use Rattle.std.specs.Arc.{arc_value}
use Rattle.mt_names.specs.Naming.{IsRenaming}
use Rattle.mt_probe.specs.declared.flight.Flight.{Flight}
use Rattle.mt_probe.specs.Private.Indexed.{Indexed, call_at_place}
use Rattle.mt_probe.proofs.Indexing.{at_most_one, called_some, few_there, inside_calls, number_of, put_index, some_there}
use Rattle.mt_probe.proofs.index.Index.put.Goals as goal

pub overflow_add-result : goal.overflow_add-result
overflow_add-result c =
    let held = ap (λ (s : Indexed). s.held) c.self.view_is in
    let before = c.requires.indexed.held in
    let few = few_there c.args.slots.now in
    let one = at_most_one c.is_some-comes.result in
    omega (arith, held, before, few, one, c.from.ensures, c.requires.few, c.requires.count)

pub overflow_sub-result : goal.overflow_sub-result
overflow_sub-result c =
    let slots = c.args.slots.now in
    let held = ap (λ (s : Indexed). s.held) c.self.view_is in
    let before = c.requires.indexed.held in
    let was : c.call_of-was.result ≡ call_at_place (get_or slots c.args.slot None) = c.call_of-was.ensures ∙ ap call_at_place c.get.ensures in
    let some = some_there slots c.args.slot (inside_calls slots c.args.slot c.requires.can.inside) in
    let left = c.from-2.ensures ∙ number_of c.is_some-left.result (get_or slots c.args.slot None) (c.is_some-left.ensures ∙ ap is_some was) in
    omega (arith, held, before, some, left)

pub returns : goal.returns
returns c =
    let index : Indexed = c.args.self.now in
    let slots = c.args.slots.now in
    let new : Option Flight = option_copied c.args.new in
    let after : Indexed = record {
      names = arc_value c.in_ok-renamed.field-0;
      held = c.self.inside.held + c.from.result - c.from-2.result;
      filled = c.filled_after.result;
    } in
    let inside = inside_calls slots c.args.slot c.requires.can.inside in
    let was : c.call_of-was.result ≡ call_at_place (get_or slots c.args.slot None) = c.call_of-was.ensures ∙ ap call_at_place c.get.ensures in
    let call : c.call_of-call.result ≡ call_at_place new = c.call_of-call.ensures in
    let comes : c.is_some-comes.result ≡ is_some (call_at_place new) = c.is_some-comes.ensures ∙ ap is_some call in
    let left = c.from-2.ensures ∙ number_of c.is_some-left.result (get_or slots c.args.slot None) (c.is_some-left.ensures ∙ ap is_some was) in
    let more = c.from.ensures ∙ number_of c.is_some-comes.result new comes in
    let some = some_there slots c.args.slot inside in
    let held = ap (λ (s : Indexed). s.held) c.self.view_is in
    let before = c.requires.indexed.held in
    let renamed = subst (λ (x : Option (List ℕ)). IsRenaming index.names c.args.slot (call_at_place (get_or slots c.args.slot None)) x after.names) call
    (subst (λ (x : Option (List ℕ)). IsRenaming index.names c.args.slot x c.call_of-call.result after.names) was
    (subst (λ (s : Indexed). IsRenaming s.names c.args.slot c.call_of-was.result c.call_of-call.result after.names) c.self.view_is c.in_ok-renamed.ensures)) in
    put_index slots index after c.args.slot new inside c.requires.indexed c.requires.can renamed (omega (arith, held, before, left, more, some))
    (c.filled_after.ensures new (called_some new ∙ sym comes))

pub returns-in_err-renamed : goal.returns-in_err-renamed
returns-in_err-renamed c = IfOk-from_err _ _ c.from_residual.ensures.0

pub filled_after-requires-clause-filled : goal.filled_after-requires-clause-filled
filled_after-requires-clause-filled c = c.requires.indexed.filled

pub filled_after-requires-clause-count : goal.filled_after-requires-clause-count
filled_after-requires-clause-count c = c.requires.count

pub filled_after-requires-clause-place : goal.filled_after-requires-clause-place
filled_after-requires-clause-place c = inside_calls c.args.slots.now c.args.slot c.requires.can.inside
