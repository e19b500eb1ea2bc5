use Rattle.std.proofs.Common.{sym, ◌∙◌, ◌<◌, length, get_or, arith}
use Rattle.std.proofs.lemmas.Slice.Eq.{bytes_eq-Decides}
use Rattle.mt_names.proofs.Splitting.{other_at, split_here, split_none}
use Rattle.mt_names.proofs.row.parts.Goals as goal
use Rattle.mt_names.proofs.row.parts.Goals.{else-first-list-via-then-first-list+else-eq, else-first-list-via-else-first-list}

pub returns-then-eq : goal.returns-then-eq
returns-then-eq c =
    let names = c.args.list.now in
    let first = c.before-first.result in
    let inside : first < length names = (let t = c.if-first-list.true in omega arith) in
    let own = (bytes_eq-Decides (get_or names first c.index-list-first.result).call c.args.call).0 (sym c.eq.ensures ∙ c.if-eq.true) in
    split_here names c.args.call c.requires.rising first c.index-list-first.result inside c.before-first.ensures.below
    own

pub returns-else-first-list : goal.returns-else-first-list
returns-else-first-list c =
    let names = c.args.list.now in
    let first = c.before-first.result in
    elim c.else-first-list.branch [
      | else-first-list-via-then-first-list+else-eq w ↦
          split_none names c.args.call c.requires.rising first c.before-first.ensures.few c.before-first.ensures.below c.before-first.ensures.rest
          (other_at names c.args.call first w.index-list-first.result (sym w.eq.ensures ∙ w.if-eq.false))
      | else-first-list-via-else-first-list w ↦
          split_none names c.args.call c.requires.rising first c.before-first.ensures.few c.before-first.ensures.below c.before-first.ensures.rest
          (λ d inside. absurd (let t = w.if-first-list.false in omega (arith, inside)))
    ]
