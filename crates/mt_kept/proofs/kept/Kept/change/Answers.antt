use Rattle.std.proofs.Common.{◌≡◌, ◌↔◌, ◌⊎◌, ◌++◌, Contains, length, true, ap, arith, map, refl, sym, ◌∙◌}
use Rattle.std.specs.List.{filter}
use Rattle.std.specs.Result.{is_ok}
use Rattle.std.specs.Vec.{with_items}
use Rattle.std.proofs.lemmas.List.{with_items_is}
use Rattle.mt_base.specs.declared.conflict.Conflict.{Conflict}
use Rattle.mt_kept.specs.Finds.{AreFindsOfPlaces}
use Rattle.mt_kept.specs.Private.Made.{AreReplaced, WereDropped, avoids, is_at_border, opens}
use Rattle.mt_kept.specs.Places.{HaveOwnPlaces, change_place, seen, with_changes}
use Rattle.mt_kept.specs.Private.Window.{AreOwnPairs, Shows}
use Rattle.mt_kept.proofs.Keeping.{borderers_put, kept_put, length_changes, open_put}
use Rattle.mt_kept.proofs.Replacing.{finds_sound, were_steps}
use Rattle.mt_kept.proofs.Shown.{shown_put}
use Rattle.mt_kept.proofs.Owned.{own_borders, shown_own}
use Rattle.std.proofs.lemmas.Result.{MatchResult-from_err}
use Rattle.mt_base.proofs.Members.{All-from_held}
use Rattle.mt_kept.specs.declared.open_pair.OpenPair.{OpenPair}
use Rattle.mt_kept.specs.Kept.{Watched}
use Rattle.mt_kept.specs.Losing.{TouchesOne}
use Rattle.mt_kept.proofs.Exits.{inside_all, none_dropped}
use Rattle.mt_kept.proofs.kept.Kept.change.Goals as goal

pub replace_pairs-requires-clause-sound : goal.replace_pairs-requires-clause-sound
replace_pairs-requires-clause-sound c =
    let places = map seen c.self.inside.places.items in
    let now = c.self.inside.moment in
    let changes = c.args.changes.items in
    let finds : AreFindsOfPlaces c.self.inside.rules (with_changes places changes) now (map change_place changes) c.args.finds.now = rw (← c.self.view_is) at c.requires.finds in
    rw c.in_ok-reserve.ensures.ends (finds_sound c.self.inside.rules places now c.self.inside.pairs.ends changes c.args.finds.now c.self.invariant.all finds)

pub invariant_of-self-2 : goal.invariant_of-self-2
invariant_of-self-2 c =
    let k = c.self.invariant in
    let rules = c.self.inside.rules in
    let now = c.self.inside.moment in
    let changes = c.args.changes.items in
    let changed = map change_place changes in
    let finds_now = c.args.finds.now in
    let places = map seen c.self.inside.places.items in
    let edges = c.self.inside.pairs.edges in
    let list = c.self.inside.published.conflicts in
    let own_pairs = c.in_ok-own.own.items in
    let hidden = c.in_ok-hidden.hidden.conflicts in
    let own : HaveOwnPlaces (with_changes places changes) = rw (← c.self.view_is) at c.requires.own in
    let finds : AreFindsOfPlaces rules (with_changes places changes) now changed finds_now = rw (← c.self.view_is) at c.requires.finds in
    let replaced : AreReplaced changed finds_now edges c.replace_pairs.new.pairs.edges =
    rw (c.in_ok-reserve.ensures.edges, c.deref-3.ensures.value) at c.replace_pairs.ensures.replaced in
    let own_are : AreOwnPairs rules places now changed own_pairs = rw (← c.self.view_is, c.deref.ensures.value) at c.in_ok-own.ensures in
    let shown_at : (d : Conflict) → Contains hidden d ↔ Shows (filter (opens now) own_pairs) d = rw (← c.self.view_is, c.deref-2.ensures.value) at c.in_ok-hidden.ensures.hidden in
    let gone = shown_own rules places now changed edges k.open_pairs own_pairs hidden k.early k.own k.kept k.opened own_are shown_at in
    let fresh : (d : Conflict) → Contains c.in_ok-hidden.shown.conflicts d ↔ Shows (filter (opens now) finds_now) d = rw (← c.self.view_is) at c.in_ok-hidden.ensures.shown in
    let published : (d : Conflict) → Contains c.replace.new.self.conflicts d ↔ ((Contains list d × (¬ Contains hidden d)) ⊎ Contains c.in_ok-hidden.shown.conflicts d) =
    rw c.in_ok-reserve-3.ensures.same at c.replace.ensures in
    let listed : c.extend_from_slice.new.self.items ≡ filter (avoids changed) c.self.inside.bordering.items ++ filter (is_at_border now) finds_now =
    let came : c.in_ok-hidden.bordering.items ≡ filter (is_at_border now) finds_now = rw (← c.self.view_is) at c.in_ok-hidden.ensures.bordering in
    let reserved = c.in_ok-reserve-2.ensures.ok in
    let same = c.in_ok-reserve-2.ensures.len in
    let shorter = c.drop_changed.ensures.len in
    let capacity = c.drop_changed.ensures.capacity in
    let count = c.len.ensures in
    let long = c.deref-6.ensures.len in
    let room : is_ok c.extend_from_slice.result ≡ true = c.extend_from_slice.ensures.succeeds (omega arith) in
    rw (room, c.drop_changed.ensures.rest, c.in_ok-reserve-2.ensures.items, c.deref-4.ensures.value, c.deref-6.ensures.value, came) at c.extend_from_slice.ensures.items in
    let put : map seen c.put_items.new.places ≡ with_changes places changes = rw c.deref_mut.ensures.value at c.put_items.ensures in
    let written : (with_items c.self.inside.places c.put_items.new.places).items ≡ c.put_items.new.places =
    with_items_is c.self.inside.places c.put_items.new.places (c.put_items.auto.places ∙ ap length c.deref_mut.ensures.value ∙ sym c.self.inside.places.ok.0) in
    rw (written, put) (record {
      bounds = k.bounds;
      early = k.early;
      few = rw (length_changes places changes) k.few;
      all = c.replace_pairs.ensures.ends ∙ c.in_ok-reserve.ensures.ends ∙ k.all ∙ sym (length_changes places changes);
      kept = kept_put rules places now changes edges c.replace_pairs.new.pairs.edges finds_now k.kept finds replaced c.replace_pairs.ensures.once;
      open_pairs = filter (avoids changed) k.open_pairs ++ filter (opens now) finds_now;
      opened = open_put rules places now changes edges c.replace_pairs.new.pairs.edges finds_now k.open_pairs k.opened finds replaced;
      borderers = borderers_put now changed k.open_pairs finds_now c.self.inside.bordering.items c.extend_from_slice.new.self.items k.borderers listed;
      exact = shown_put rules places now changed edges k.open_pairs finds_now list hidden c.in_ok-hidden.shown.conflicts
          c.replace.new.self.conflicts k.own k.opened k.exact gone fresh published;
      own = own;
    })

pub returns-clause-steps : goal.returns-clause-steps
returns-clause-steps c =
    let changed = map change_place c.args.changes.items in
    let dropped : WereDropped changed c.self.inside.pairs.edges c.args.steps.now c.replace_pairs.new.steps =
    rw (c.in_ok-reserve.ensures.edges, c.deref-3.ensures.value) at c.replace_pairs.ensures.steps in
    rw (← c.self.view_is) (were_steps c.self.inside.rules (map seen c.self.inside.places.items) changed c.self.inside.pairs.edges c.args.steps.now c.replace_pairs.new.steps
    c.self.invariant.kept dropped)

pub returns-in_err-hidden-clause-err : goal.returns-in_err-hidden-clause-err
returns-in_err-hidden-clause-err c = MatchResult-from_err c.from_residual-in_err-hidden.result _ _ c.from_residual-in_err-hidden.ensures.0 (λ err. refl)

pub returns-in_err-own-clause-err : goal.returns-in_err-own-clause-err
returns-in_err-own-clause-err c = MatchResult-from_err c.from_residual.result _ _ c.from_residual.ensures.0 (λ err. refl)

pub returns-in_err-own-clause-steps : goal.returns-in_err-own-clause-steps
returns-in_err-own-clause-steps c = none_dropped _ _ _ _

pub returns-in_err-hidden-clause-steps : goal.returns-in_err-hidden-clause-steps
returns-in_err-hidden-clause-steps c = none_dropped _ _ _ _

pub returns-in_err-reserve-clause-err : goal.returns-in_err-reserve-clause-err
returns-in_err-reserve-clause-err c =
    MatchResult-from_err c.from_residual-in_err-reserve.result _ _ c.from_residual-in_err-reserve.ensures.0
    (λ err. c.self.view_is)

pub returns-in_err-reserve-clause-steps : goal.returns-in_err-reserve-clause-steps
returns-in_err-reserve-clause-steps c = none_dropped _ _ _ _

pub returns-in_err-reserve-clause-rules : goal.returns-in_err-reserve-clause-rules
returns-in_err-reserve-clause-rules c = ap (λ (k : Watched). k.rules) c.self.view_is

pub returns-in_err-reserve-clause-moment : goal.returns-in_err-reserve-clause-moment
returns-in_err-reserve-clause-moment c = ap (λ (k : Watched). k.moment) c.self.view_is

pub returns-in_err-reserve-2-clause-err : goal.returns-in_err-reserve-2-clause-err
returns-in_err-reserve-2-clause-err c =
    MatchResult-from_err c.from_residual-in_err-reserve-2.result _ _ c.from_residual-in_err-reserve-2.ensures.0
    (λ err. c.self.view_is)

pub returns-in_err-reserve-2-clause-steps : goal.returns-in_err-reserve-2-clause-steps
returns-in_err-reserve-2-clause-steps c = none_dropped _ _ _ _

pub returns-in_err-reserve-2-clause-rules : goal.returns-in_err-reserve-2-clause-rules
returns-in_err-reserve-2-clause-rules c = ap (λ (k : Watched). k.rules) c.self.view_is

pub returns-in_err-reserve-2-clause-moment : goal.returns-in_err-reserve-2-clause-moment
returns-in_err-reserve-2-clause-moment c = ap (λ (k : Watched). k.moment) c.self.view_is

pub returns-in_err-reserve-3-clause-err : goal.returns-in_err-reserve-3-clause-err
returns-in_err-reserve-3-clause-err c =
    MatchResult-from_err c.from_residual-in_err-reserve-3.result _ _ c.from_residual-in_err-reserve-3.ensures.0
    (λ err. rw c.in_err-reserve-3.ensures.same c.self.view_is)

pub returns-in_err-reserve-3-clause-steps : goal.returns-in_err-reserve-3-clause-steps
returns-in_err-reserve-3-clause-steps c = none_dropped _ _ _ _

pub returns-in_err-reserve-3-clause-rules : goal.returns-in_err-reserve-3-clause-rules
returns-in_err-reserve-3-clause-rules c = ap (λ (k : Watched). k.rules) c.self.view_is

pub returns-in_err-reserve-3-clause-moment : goal.returns-in_err-reserve-3-clause-moment
returns-in_err-reserve-3-clause-moment c = ap (λ (k : Watched). k.moment) c.self.view_is

pub returns-in_default-clause-steps : goal.returns-in_default-clause-steps
returns-in_default-clause-steps c = none_dropped _ _ _ _

pub returns-clause-rules : goal.returns-clause-rules
returns-clause-rules c = ap (λ (k : Watched). k.rules) c.self.view_is

pub returns-clause-moment : goal.returns-clause-moment
returns-clause-moment c = ap (λ (k : Watched). k.moment) c.self.view_is

pub replace_pairs-requires-clause-touching : goal.replace_pairs-requires-clause-touching
replace_pairs-requires-clause-touching c =
    rw c.deref-3.ensures.value (All-from_held (λ (o : OpenPair). TouchesOne (map change_place c.args.changes.items) o.edge) c.args.finds.now (λ o held. (c.requires.finds.sound o held).0))

pub replace_pairs-requires-clause-distinct : goal.replace_pairs-requires-clause-distinct
replace_pairs-requires-clause-distinct c = c.requires.finds.distinct

pub invariant_of-self : goal.invariant_of-self
invariant_of-self c = rw (c.in_err-reserve.ensures.edges, c.in_err-reserve.ensures.ends) c.self.invariant

pub invariant_of-self-in_err-reserve-2 : goal.invariant_of-self-in_err-reserve-2
invariant_of-self-in_err-reserve-2 c = rw (c.in_ok-reserve.ensures.edges, c.in_ok-reserve.ensures.ends, c.in_err-reserve-2.ensures.items) c.self.invariant

pub invariant_of-self-in_err-reserve-3 : goal.invariant_of-self-in_err-reserve-3
invariant_of-self-in_err-reserve-3 c = rw (c.in_ok-reserve.ensures.edges, c.in_ok-reserve.ensures.ends, c.in_ok-reserve-2.ensures.items, c.in_err-reserve-3.ensures.same) c.self.invariant

pub drop_changed-requires-clause-own : goal.drop_changed-requires-clause-own
drop_changed-requires-clause-own c =
    let k = c.self.invariant in
    let bordering = c.self.inside.bordering.items in
    let own = c.in_ok-own.own.items in
    rw (c.in_ok-reserve-2.ensures.items, c.deref-4.ensures.value, c.deref-5.ensures.value) (own_borders c.self.inside.rules (map seen c.self.inside.places.items) c.self.inside.moment
    (map change_place c.args.changes.items) c.self.inside.pairs.edges k.open_pairs bordering own k.kept k.opened k.borderers
    (rw (← c.self.view_is, c.deref.ensures.value) at c.in_ok-own.ensures))

pub put_items-requires : goal.put_items-requires
put_items-requires c = rw c.deref_mut.ensures.value (inside_all c.self.inside.places.items c.args.changes.items (rw (← c.self.view_is) at c.requires.places))
