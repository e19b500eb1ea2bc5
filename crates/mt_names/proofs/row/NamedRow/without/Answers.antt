use Rattle.std.proofs.Common.{subst, sym, ◌≡◌, ◌-◌, ◌↔◌, ◌++◌, Contains, List, length, take, drop, refl}
use Rattle.mt_names.specs.declared.names.Named.{Named}
use Rattle.mt_names.specs.Private.Naming.{AreRising, IsOtherName}
use Rattle.mt_names.proofs.Splitting.{joined_without, without_members, without_rising}
use Rattle.mt_names.proofs.row.NamedRow.without.Goals as goal

pub invariant_of-result : goal.invariant_of-result
invariant_of-result c =
    let span = c.split-first.result in
    let names = c.args.self.now in
    let whole : c.extend_from_slice-2.new.self.items ≡ take span.0 c.args.self.now ++ take (length c.args.self.now - span.1) (drop span.1 c.args.self.now) =
    rw (c.in_ok-extend_from_slice-2.ensures.items, c.in_ok-extend_from_slice.ensures.items, c.in_ok-reserve.ensures.items, c.new-list.ensures.items, c.deref.ensures.value, c.deref-2.ensures.value, c.self.view_is) refl in
    let e = joined_without names c.extend_from_slice-2.new.self.items span.0 span.1 whole in
    subst AreRising (sym e) (without_rising names c.args.call span c.split-first.ensures (subst AreRising c.self.view_is c.self.invariant))

pub returns : goal.returns
returns c =
    let span = c.split-first.result in
    let names = c.args.self.now in
    let whole : c.extend_from_slice-2.new.self.items ≡ take span.0 c.args.self.now ++ take (length c.args.self.now - span.1) (drop span.1 c.args.self.now) =
    rw (c.in_ok-extend_from_slice-2.ensures.items, c.in_ok-extend_from_slice.ensures.items, c.in_ok-reserve.ensures.items, c.new-list.ensures.items, c.deref.ensures.value, c.deref-2.ensures.value, c.self.view_is) refl in
    let e = joined_without names c.extend_from_slice-2.new.self.items span.0 span.1 whole in
    subst (λ (s : List Named). (n : Named) → Contains s n ↔ (IsOtherName c.args.self.now c.args.call n)) (sym e)
    (without_members names c.args.call span c.split-first.ensures)
