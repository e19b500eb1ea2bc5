use Rattle.std.proofs.Common.{◌<◌, ◌∙◌, length, inl, inr, ⊎_elim, refl, ap, arith, length-drop}
use Rattle.std.proofs.Math.Nat.{le_trans}
use Rattle.std.proofs.lemmas.List.{nil_from_length}
use Rattle.mt_io.specs.Calls.{with_failure}
use Rattle.mt_io.proofs.Planned.{failed_cause}
use Rattle.mt_io.proofs.mem_door.MemDoorDoor.next_link.Goals as goal
use Rattle.mt_io.proofs.mem_door.MemDoorDoor.next_link.Goals.{then-not-next_fails+in_default, else-not-next_fails}

pub returns-then-self-clause-fails : goal.returns-then-self-clause-fails
returns-then-self-clause-fails c = (λ is. cc, λ refused. absurd (omega (arith, refused.0, c.if-self.true)))

pub returns-in-Some-clause-fails : goal.returns-in-Some-clause-fails
returns-in-Some-clause-fails c = (
  λ is. cc,
  λ refused. ⊎_elim (λ listed. cc (c.next_fails.ensures.listed.1 listed)) (λ none. cc (c.in-Some.ensures.items)) refused.1,
)

pub returns-clause-gives : goal.returns-clause-gives
returns-clause-gives c =
    let still : c.args.self.now.given < c.args.self.now.sessions = omega (arith, c.args.self.now.most) in
    elim c.if-not-next_fails.branch [
      | then-not-next_fails+in_default w ↦
          let same = rw w.in_default.is at w.pop_front.ensures.items in
          rw w.self-is (still, refl, rw (← same) refl)
      | else-not-next_fails w ↦ rw w.self-is (still, refl, refl)
    ]

pub returns-clause-back : goal.returns-clause-back
returns-clause-back c = elim c.if-not-next_fails.branch [
  | then-not-next_fails+in_default w ↦ rw w.self-is refl
  | else-not-next_fails w ↦ rw w.self-is refl
]

pub returns-clause-fails : goal.returns-clause-fails
returns-clause-fails c =
    let still : c.args.self.now.given < c.args.self.now.sessions = omega (arith, c.args.self.now.most) in
    elim c.if-not-next_fails.branch [
      | then-not-next_fails+in_default w ↦
          let same = rw w.in_default.is at w.pop_front.ensures.items in
          let none = nil_from_length c.args.self.now.links.items
          (omega (arith, length-drop 1 c.args.self.now.links.items, ap length (same ∙ w.pop_front.ensures.rest))) in
          (λ is. (still, inr none), λ refused. refl)
      | else-not-next_fails w ↦ (λ is. (still, inl (c.next_fails.ensures.listed.0 w.if-not-next_fails.false)), λ refused. refl)
    ]

pub returns-clause-counts : goal.returns-clause-counts
returns-clause-counts c = elim c.if-not-next_fails.branch [
  | then-not-next_fails+in_default w ↦
      rw w.self-is (w.fail.ensures.counts ∙ ap with_failure (rw w.if-not-next_fails.true at c.next_fails.ensures.counts))
  | else-not-next_fails w ↦ rw w.self-is (rw w.if-not-next_fails.false at c.next_fails.ensures.counts)
]

pub returns-clause-cause : goal.returns-clause-cause
returns-clause-cause c = elim c.if-not-next_fails.branch [
  | then-not-next_fails+in_default w ↦
      rw w.self-is (failed_cause c.args.self.now.calls w.fail.new.self _ (le_trans c.next_fails.ensures.on.later w.fail.ensures.on.later)
      (w.fail.ensures.counts ∙ ap with_failure (rw w.if-not-next_fails.true at c.next_fails.ensures.counts)))
  | else-not-next_fails w ↦
      rw w.self-is (failed_cause c.args.self.now.calls c.next_fails.new.self _ c.next_fails.ensures.on.later
      (rw w.if-not-next_fails.false at c.next_fails.ensures.counts))
]
