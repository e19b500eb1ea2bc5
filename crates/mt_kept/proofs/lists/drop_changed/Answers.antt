use Rattle.std.proofs.Common.{rules, sym, ⊎_elim, ◌∙◌, map, not, true≢false, ap}
use Rattle.std.proofs.lemmas.Bool.{cases_Bool}
use Rattle.std.proofs.lemmas.Fn.{filter_same}
use Rattle.mt_kept.specs.Places.{change_place}
use Rattle.mt_kept.specs.Private.Made.{avoids, meets}
use Rattle.mt_kept.proofs.Untested.{filter_all}
use Rattle.mt_kept.proofs.lists.drop_changed.Goals as goal

pub returns-then-has_bordering-clause-rest : goal.returns-then-has_bordering-clause-rest
returns-then-has_bordering-clause-rest c = filter_same _ (avoids (map change_place c.args.changes.now)) _ (λ x b f' h. search rules) _ _ c.retain.ensures.filtered

pub returns-else-has_bordering-clause-rest : goal.returns-else-has_bordering-clause-rest
returns-else-has_bordering-clause-rest c =
    let changed = map change_place c.args.changes.now in
    sym (filter_all (avoids changed) c.args.pairs.now.items (λ o held. ⊎_elim
    (λ here. absurd (true≢false (sym (c.requires.own o held here) ∙ sym c.has_bordering.ensures ∙ c.if-has_bordering.false)))
    (λ away. ap not away) (cases_Bool (meets changed o))))
