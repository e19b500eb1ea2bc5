use Rattle.std.proofs.Common.{◌≡◌, ◌*◌, arith, map, replicate, None, ℕ, List, Option, ◌∙◌, ap}
use Rattle.std.proofs.lemmas.Result.{IfOk-from_err}
use Rattle.mt_base.specs.declared.conflict.Conflict.{Conflict}
use Rattle.mt_base.specs.Picture.{NamedTrajectory}
use Rattle.mt_edges.specs.Pairs.{Pairs}
use Rattle.mt_kept.specs.Places.{seen}
use Rattle.mt_kept.proofs.Keeping.{ended, kept_made, seen_none}
use Rattle.mt_kept.proofs.Exits.{doubled_fits}
use Rattle.mt_kept.proofs.kept.Kept.make.Goals as goal

pub invariant_of-result : goal.invariant_of-result
invariant_of-result c =
    let n = ended c.loop.counter (2 * c.args.slots) c.loop.auto.counter-end c.loop-test.false in
    let places : map seen c.loop.places.items ≡ replicate (2 * c.args.slots) None = ap (map seen) (c.loop.invariant ∙ ap (λ (k : ℕ). replicate k None) n) ∙ seen_none (2 * c.args.slots) in
    kept_made c.args.rules.now (map seen c.loop.places.items) (2 * c.args.slots) c.in_ok-make.field-0.edges c.in_ok-make.field-0.ends c.new.result.items
    c.make-2.result.conflicts c.requires.bounds (let few = c.requires.few in omega arith) places (ap (λ (p : Pairs). p.edges) c.in_ok-make.ensures)
    (ap (λ (p : Pairs). p.ends) c.in_ok-make.ensures) c.new.ensures.items c.make-2.ensures

pub returns : goal.returns
returns c =
    let n = ended c.loop.counter (2 * c.args.slots) c.loop.auto.counter-end c.loop-test.false in
    let places : map seen c.loop.places.items ≡ replicate (2 * c.args.slots) None = ap (map seen) (c.loop.invariant ∙ ap (λ (k : ℕ). replicate k None) n) ∙ seen_none (2 * c.args.slots) in
    ap (λ (p : List (Option NamedTrajectory)). record { rules = c.args.rules.now; moment = 0; places = p; published = c.make-2.result.conflicts }) places
    ∙ ap (λ (cs : List Conflict). record { rules = c.args.rules.now; moment = 0; places = replicate (2 * c.args.slots) None; published = cs }) c.make-2.ensures

pub loop-init : goal.loop-init
loop-init c = c.new-places.ensures.items

pub returns-in_err-push : goal.returns-in_err-push
returns-in_err-push c = IfOk-from_err c.from_residual.result _ c.from_residual.ensures.0

pub overflow_mul-count : goal.overflow_mul-count
overflow_mul-count c = doubled_fits c.args.slots c.requires.few
