use Rattle.std.proofs.Common.{◌≡◌, false, IsTrue, arith, length, rules, subst}
use Rattle.mt_meet.proofs.Parts.{marks_added, marks_kept}
use Rattle.mt_meet.proofs.marked_parts.MarkedParts.add.Goals as goal
use Rattle.mt_meet.proofs.marked_parts.MarkedParts.add.Goals.{then-marked, else-marked}

not_true : IsTrue false → ⊥
not_true h = search rules

pub returns-clause-kept : goal.returns-clause-kept
returns-clause-kept c =
    let long : length c.args.self.now.parts ≡ 64 = search in
    marks_kept c.args.self.now c.args.place c.if-marked.self (omega (arith, long, c.requires))

pub returns-clause-own : goal.returns-clause-own
returns-clause-own c = λ marked part one. elim c.if-marked.branch [
  | then-marked w ↦
      let long : length c.args.self.now.parts ≡ 64 = search in
      marks_added c.args.self.now c.args.place c.if-marked.self (omega (arith, long, c.requires)) part (rw w.self-is one)
  | else-marked w ↦ absurd (not_true (subst IsTrue w.if-marked.false marked))
]
