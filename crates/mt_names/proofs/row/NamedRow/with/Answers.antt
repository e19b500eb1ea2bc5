use Rattle.std.proofs.Common.{subst, sym, ◌≡◌, ◌-◌, ◌↔◌, ◌⊎◌, ◌++◌, ◌∷◌, [], Contains, List, length, take, drop, refl}
use Rattle.mt_names.specs.declared.names.Named.{Named}
use Rattle.mt_names.specs.Private.Naming.{AreRising, IsOtherName}
use Rattle.mt_names.proofs.Splitting.{joined_with, with_members, with_rising}
use Rattle.mt_names.proofs.row.NamedRow.with.Goals as goal

pub invariant_of-result : goal.invariant_of-result
invariant_of-result c =
    let span = c.split-first.result in
    let x : Named = record { call = c.args.call; slot = c.args.slot } in
    let names = c.args.self.now in
    let whole : c.extend_from_slice-2.new.self.items ≡ (take span.0 c.args.self.now ++ x ∷ []) ++ take (length c.args.self.now - span.1) (drop span.1 c.args.self.now) =
    rw (c.in_ok-extend_from_slice-2.ensures.items, c.in_ok-push.ensures.items, c.in_ok-extend_from_slice.ensures.items, c.in_ok-reserve.ensures.items, c.new-list.ensures.items, c.deref.ensures.value, c.deref-2.ensures.value, c.self.view_is) refl in
    let e = joined_with names c.extend_from_slice-2.new.self.items x span.0 span.1 whole in
    subst AreRising (sym e) (with_rising names c.args.call span c.split-first.ensures (subst AreRising c.self.view_is c.self.invariant) x refl)

pub returns : goal.returns
returns c =
    let span = c.split-first.result in
    let x : Named = record { call = c.args.call; slot = c.args.slot } in
    let names = c.args.self.now in
    let whole : c.extend_from_slice-2.new.self.items ≡ (take span.0 c.args.self.now ++ x ∷ []) ++ take (length c.args.self.now - span.1) (drop span.1 c.args.self.now) =
    rw (c.in_ok-extend_from_slice-2.ensures.items, c.in_ok-push.ensures.items, c.in_ok-extend_from_slice.ensures.items, c.in_ok-reserve.ensures.items, c.new-list.ensures.items, c.deref.ensures.value, c.deref-2.ensures.value, c.self.view_is) refl in
    let e = joined_with names c.extend_from_slice-2.new.self.items x span.0 span.1 whole in
    subst (λ (s : List Named). (n : Named) → Contains s n ↔ ((n ≡ record { call = c.args.call; slot = c.args.slot }) ⊎ IsOtherName c.args.self.now c.args.call n)) (sym e)
    (with_members names c.args.call span c.split-first.ensures x)
