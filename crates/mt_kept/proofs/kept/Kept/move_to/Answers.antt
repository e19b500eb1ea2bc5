use Rattle.std.proofs.Common.{◌↔◌, ◌⊎◌, ◌≡◌, [], Contains, ap, map, refl, ◌∙◌, ◌≤◌, true}
use Rattle.std.proofs.lemmas.Result.{MatchResult-from_err}
use Rattle.mt_base.specs.declared.conflict.Conflict.{Conflict}
use Rattle.mt_kept.specs.Kept.{Watched}
use Rattle.mt_kept.specs.Places.{seen}
use Rattle.mt_kept.specs.Private.Stale.{AreDue, AreStale, stays}
use Rattle.mt_kept.specs.Private.Window.{AreAdded, AreListed, AreLookedAt}
use Rattle.mt_kept.proofs.Exits.{none_tested}
use Rattle.mt_kept.proofs.Looking.{looked}
use Rattle.mt_kept.proofs.Renewed.{border_moved, border_pairs, both_tested, due_pairs, first_tested, open_after, open_moved, published_moved}
use Rattle.mt_kept.proofs.kept.Kept.move_to.Goals as goal

pub renew_bordering-requires-clause-pairs : goal.renew_bordering-requires-clause-pairs
renew_bordering-requires-clause-pairs c =
    let k = c.self.invariant in
    let later : c.self.inside.moment ≤ c.args.now = rw (← c.self.view_is) at c.requires.later in
    rw (c.deref.ensures.value, c.deref-2.ensures.value)
    (border_pairs c.self.inside.rules (map seen c.self.inside.places.items) c.self.inside.moment c.args.now c.self.inside.pairs.edges k.open_pairs
    c.self.inside.bordering.items later k.kept k.opened k.borderers)

pub renew_bordering-requires-clause-rules_kept : goal.renew_bordering-requires-clause-rules_kept
renew_bordering-requires-clause-rules_kept c = c.self.invariant.bounds

pub renew-requires-clause-rules_kept : goal.renew-requires-clause-rules_kept
renew-requires-clause-rules_kept c = c.self.invariant.bounds

pub due_pairs-requires-clause-stale : goal.due_pairs-requires-clause-stale
due_pairs-requires-clause-stale c = c.renew_bordering.ensures.stale c.self.inside.moment c.in_ok-stale.ensures

pub due_pairs-requires-clause-distinct : goal.due_pairs-requires-clause-distinct
due_pairs-requires-clause-distinct c = c.self.invariant.kept.once

pub renew-requires-clause-pairs : goal.renew-requires-clause-pairs
renew-requires-clause-pairs c =
    let k = c.self.invariant in
    let later : c.self.inside.moment ≤ c.args.now = rw (← c.self.view_is) at c.requires.later in
    rw (c.deref-3.ensures.value, c.deref-4.ensures.value)
    (due_pairs c.self.inside.rules (map seen c.self.inside.places.items) c.self.inside.moment c.args.now c.self.inside.pairs.edges k.open_pairs
    c.self.inside.bordering.items later k.kept k.opened k.borderers c.renew_bordering.new.stale c.in_ok-due.due.items c.requires.early
    (c.renew_bordering.ensures.stale c.self.inside.moment c.in_ok-stale.ensures) c.in_ok-due.ensures)

pub returns-in_err-renew_bordering-clause-counted : goal.returns-in_err-renew_bordering-clause-counted
returns-in_err-renew_bordering-clause-counted c =
    let k = c.self.invariant in
    let later : c.self.inside.moment ≤ c.args.now = rw (← c.self.view_is) at c.requires.later in
    rw (← c.self.view_is) (first_tested c.self.inside.rules (map seen c.self.inside.places.items) c.self.inside.moment c.args.now c.self.inside.pairs.edges
    k.open_pairs c.self.inside.bordering.items later k.kept k.opened k.borderers c.args.tests.now c.renew_bordering.new.tests
    (rw c.deref-2.ensures.value at c.renew_bordering.ensures.counted))

pub returns-in_err-due-clause-counted : goal.returns-in_err-due-clause-counted
returns-in_err-due-clause-counted c =
    let k = c.self.invariant in
    let later : c.self.inside.moment ≤ c.args.now = rw (← c.self.view_is) at c.requires.later in
    rw (← c.self.view_is) (first_tested c.self.inside.rules (map seen c.self.inside.places.items) c.self.inside.moment c.args.now c.self.inside.pairs.edges
    k.open_pairs c.self.inside.bordering.items later k.kept k.opened k.borderers c.args.tests.now c.renew_bordering.new.tests
    (rw c.deref-2.ensures.value at c.renew_bordering.ensures.counted))

pub returns-in_err-renew-clause-counted : goal.returns-in_err-renew-clause-counted
returns-in_err-renew-clause-counted c =
    let k = c.self.invariant in
    let later : c.self.inside.moment ≤ c.args.now = rw (← c.self.view_is) at c.requires.later in
    rw (← c.self.view_is) (both_tested c.self.inside.rules (map seen c.self.inside.places.items) c.self.inside.moment c.args.now c.self.inside.pairs.edges
    k.open_pairs c.self.inside.bordering.items later k.kept k.opened k.borderers c.renew_bordering.new.stale c.in_ok-due.due.items c.requires.early
    (c.renew_bordering.ensures.stale c.self.inside.moment c.in_ok-stale.ensures) c.in_ok-due.ensures c.args.tests.now c.renew_bordering.new.tests
    c.renew.new.tests (rw c.deref-2.ensures.value at c.renew_bordering.ensures.counted) (rw c.deref-4.ensures.value at c.renew.ensures.counted))

pub returns-in_err-reserve-clause-counted : goal.returns-in_err-reserve-clause-counted
returns-in_err-reserve-clause-counted c =
    let k = c.self.invariant in
    let later : c.self.inside.moment ≤ c.args.now = rw (← c.self.view_is) at c.requires.later in
    rw (← c.self.view_is) (both_tested c.self.inside.rules (map seen c.self.inside.places.items) c.self.inside.moment c.args.now c.self.inside.pairs.edges
    k.open_pairs c.self.inside.bordering.items later k.kept k.opened k.borderers c.renew_bordering.new.stale c.in_ok-due.due.items c.requires.early
    (c.renew_bordering.ensures.stale c.self.inside.moment c.in_ok-stale.ensures) c.in_ok-due.ensures c.args.tests.now c.renew_bordering.new.tests
    c.renew.new.tests (rw c.deref-2.ensures.value at c.renew_bordering.ensures.counted) (rw c.deref-4.ensures.value at c.renew.ensures.counted))

pub returns-in_err-bordering-clause-counted : goal.returns-in_err-bordering-clause-counted
returns-in_err-bordering-clause-counted c =
    let k = c.self.invariant in
    let later : c.self.inside.moment ≤ c.args.now = rw (← c.self.view_is) at c.requires.later in
    rw (← c.self.view_is) (both_tested c.self.inside.rules (map seen c.self.inside.places.items) c.self.inside.moment c.args.now c.self.inside.pairs.edges
    k.open_pairs c.self.inside.bordering.items later k.kept k.opened k.borderers c.renew_bordering.new.stale c.in_ok-due.due.items c.requires.early
    (c.renew_bordering.ensures.stale c.self.inside.moment c.in_ok-stale.ensures) c.in_ok-due.ensures c.args.tests.now c.renew_bordering.new.tests
    c.renew.new.tests (rw c.deref-2.ensures.value at c.renew_bordering.ensures.counted) (rw c.deref-4.ensures.value at c.renew.ensures.counted))

pub returns-clause-counted : goal.returns-clause-counted
returns-clause-counted c =
    let k = c.self.invariant in
    let later : c.self.inside.moment ≤ c.args.now = rw (← c.self.view_is) at c.requires.later in
    rw (← c.self.view_is) (both_tested c.self.inside.rules (map seen c.self.inside.places.items) c.self.inside.moment c.args.now c.self.inside.pairs.edges
    k.open_pairs c.self.inside.bordering.items later k.kept k.opened k.borderers c.renew_bordering.new.stale c.in_ok-due.due.items c.requires.early
    (c.renew_bordering.ensures.stale c.self.inside.moment c.in_ok-stale.ensures) c.in_ok-due.ensures c.args.tests.now c.renew_bordering.new.tests
    c.renew.new.tests (rw c.deref-2.ensures.value at c.renew_bordering.ensures.counted) (rw c.deref-4.ensures.value at c.renew.ensures.counted))

pub invariant_of-self-2 : goal.invariant_of-self-2
invariant_of-self-2 c =
    let k = c.self.invariant in
    let rules = c.self.inside.rules in
    let places = map seen c.self.inside.places.items in
    let old = c.self.inside.moment in
    let now = c.args.now in
    let edges = c.self.inside.pairs.edges in
    let bordering = c.self.inside.bordering.items in
    let stale = c.renew_bordering.new.stale in
    let due = c.in_ok-due.due.items in
    let later : old ≤ now = rw (← c.self.view_is) at c.requires.later in
    let are_stale : AreStale old now stale = c.renew_bordering.ensures.stale old c.in_ok-stale.ensures in
    let are_due : AreDue old now stale edges due = c.in_ok-due.ensures in
    let one : AreLookedAt rules places now bordering stale [] c.renew_bordering.new.renewed.items =
    rw (c.deref.ensures.value, c.deref-2.ensures.value, c.new-renewed.ensures.items) at c.in_ok-renew_bordering.ensures.renewed in
    let two : AreAdded rules places now due c.renew_bordering.new.renewed.items c.renew.new.renewed.items =
    rw (c.deref-3.ensures.value, c.deref-4.ensures.value) at c.in_ok-renew.ensures.added in
    let listed : AreListed now c.renew.new.renewed.items c.in_ok-bordering.bordering.items c.in_ok-bordering.come.conflicts = c.in_ok-bordering.ensures in
    let it = looked rules places now bordering due stale c.renew_bordering.new.renewed.items c.renew.new.renewed.items listed.pairs one two listed.order in
    let list = c.self.inside.published.conflicts in
    let come = c.in_ok-bordering.come.conflicts in
    let new = c.renew-2.new.self.conflicts in
    let replaced : (d : Conflict) → Contains new d ↔ ((Contains list d × (stays stale d ≡ true)) ⊎ Contains come d) =
    rw c.in_ok-reserve.ensures.same at c.renew-2.ensures in
    record {
      bounds = k.bounds;
      few = k.few;
      all = k.all;
      early = c.requires.early;
      kept = k.kept;
      open_pairs = open_after stale listed.pairs k.open_pairs;
      opened = open_moved rules places old now edges k.open_pairs bordering later k.kept k.opened k.borderers stale due c.requires.early are_stale are_due
          listed.pairs it.exact it.apart it.shown it.stay;
      borderers = listed.at_border ∙ border_moved rules places old now edges k.open_pairs bordering later k.kept k.opened k.borderers stale due c.requires.early
          are_stale are_due listed.pairs it.exact it.apart it.shown it.stay;
      exact = published_moved rules places old now edges k.open_pairs bordering later k.kept k.opened k.borderers stale due c.requires.early are_stale are_due
          listed.pairs it.exact it.apart it.shown it.stay list come new k.exact listed.exact replaced;
      own = k.own;
    }

pub invariant_of-self : goal.invariant_of-self
invariant_of-self c = rw c.in_err-reserve.ensures.same c.self.invariant

pub returns-in_err-stale-clause-counted : goal.returns-in_err-stale-clause-counted
returns-in_err-stale-clause-counted c = none_tested _ _ _ _

pub returns-in_err-stale-clause-err : goal.returns-in_err-stale-clause-err
returns-in_err-stale-clause-err c = MatchResult-from_err c.from_residual.result _ _ c.from_residual.ensures.0 (λ err. refl)

pub returns-in_err-renew_bordering-clause-err : goal.returns-in_err-renew_bordering-clause-err
returns-in_err-renew_bordering-clause-err c =
    MatchResult-from_err c.from_residual-in_err-renew_bordering.result _ _ c.from_residual-in_err-renew_bordering.ensures.0 (λ err. refl)

pub returns-in_err-due-clause-err : goal.returns-in_err-due-clause-err
returns-in_err-due-clause-err c = MatchResult-from_err c.from_residual-in_err-due.result _ _ c.from_residual-in_err-due.ensures.0 (λ err. refl)

pub returns-in_err-renew-clause-err : goal.returns-in_err-renew-clause-err
returns-in_err-renew-clause-err c = MatchResult-from_err c.from_residual-in_err-renew.result _ _ c.from_residual-in_err-renew.ensures.0 (λ err. refl)

pub returns-in_err-bordering-clause-err : goal.returns-in_err-bordering-clause-err
returns-in_err-bordering-clause-err c =
    MatchResult-from_err c.from_residual-in_err-bordering.result _ _ c.from_residual-in_err-bordering.ensures.0 (λ err. refl)

pub returns-in_err-reserve-clause-err : goal.returns-in_err-reserve-clause-err
returns-in_err-reserve-clause-err c = MatchResult-from_err c.from_residual-in_err-reserve.result _ _ c.from_residual-in_err-reserve.ensures.0 (λ err. rw c.in_err-reserve.ensures.same c.self.view_is)

pub returns-clause-rules : goal.returns-clause-rules
returns-clause-rules c = ap (λ (k : Watched). k.rules) c.self.view_is

pub returns-clause-places : goal.returns-clause-places
returns-clause-places c = ap (λ (k : Watched). k.places) c.self.view_is

pub returns-in_err-reserve-clause-rules : goal.returns-in_err-reserve-clause-rules
returns-in_err-reserve-clause-rules c = ap (λ (k : Watched). k.rules) c.self.view_is

pub returns-in_err-reserve-clause-places : goal.returns-in_err-reserve-clause-places
returns-in_err-reserve-clause-places c = ap (λ (k : Watched). k.places) c.self.view_is
