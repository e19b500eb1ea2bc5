use Rattle.std.proofs.Common.{◌-◌, ◌<◌, ap, length, arith, List, [], ◌∷◌, ◌++◌}
use Rattle.std.proofs.lemmas.Bool.Decides.{not_from_Decides}
use Rattle.mt_base.specs.declared.row.Row.{Row}
use Rattle.mt_base.specs.Trajectory.{Trajectory}
use Rattle.mt_track.specs.Laid.{AreSeparateSegments}
use Rattle.mt_track.proofs.Apart.{AreApart-first, AreApart-push}
use Rattle.mt_track.proofs.Strands.{IsLaid-push, all_rows-push}
use Rattle.mt_track.proofs.Joined.{IsBoundedOver-segment, IsLaid-lengthened, all_rows-lengthened, end_of_strand, one_element, some_seconds}
use Rattle.mt_track.proofs.strand.Strand.push.Goals as goal
use Rattle.mt_track.proofs.strand.Strand.push.Goals.{then-count-gt0+then-goes_on, else-count-gt0+in_ok-push, else-count-gt0-via-then-count-gt0+else-goes_on, else-count-gt0-via-else-count-gt0}

pub goes_on-requires-clause-kept : goal.goes_on-requires-clause-kept
goes_on-requires-clause-kept c = IsBoundedOver-segment _ _ _ _ _ c.self.invariant (omega (arith, c.len-count.ensures)) c.index.ensures

pub goes_on-requires-clause-ordered : goal.goes_on-requires-clause-ordered
goes_on-requires-clause-ordered c =
    let some = some_seconds _ _ _ _ _ c.self.invariant (omega (arith, c.len-count.ensures)) c.index.ensures in
    omega (arith, some)

pub invariant_of-self-2 : goal.invariant_of-self-2
invariant_of-self-2 c =
    let follows = rw (← c.self.view_is) at c.requires in
    elim c.if-count-gt0.branch [
      | then-count-gt0+then-goes_on w ↦
          let within : c.len-count.result - 1 < length c.self.inside.segments.items = omega (arith, c.len-count.ensures) in
          let one = one_element c.self.inside.segments.items (c.len-count.result - 1) w.index.result.now w.index_mut.result.now within w.index.ensures
          w.index_mut.ensures.value in
          let same = rw one at (w.goes_on.ensures.0 w.if-goes_on.true) in
          rw w.self-inside-is
          (IsLaid-lengthened _ _ _ _ _ _ c.args.segment c.self.invariant (omega (arith, c.len-count.ensures)) w.index_mut.ensures.value follows same)
      | else-count-gt0+in_ok-push w ↦
          let apart : AreSeparateSegments (c.self.inside.segments.items ++ c.args.segment ∷ []) = elim w.else-count-gt0.branch [
            | else-count-gt0-via-then-count-gt0+else-goes_on x ↦
                AreApart-push c.self.inside.segments.items (c.len-count.result - 1) x.index.result.now c.args.segment c.self.invariant.apart
                (omega (arith, c.len-count.ensures)) x.index.ensures (not_from_Decides _ x.goes_on.ensures x.if-goes_on.false)
            | else-count-gt0-via-else-count-gt0 x ↦ AreApart-first c.self.inside.segments.items c.args.segment (omega (arith, c.len-count.ensures))
          ] in
          rw (w.self-inside-is, w.in_ok-push.ensures.items) (IsLaid-push _ _ _ _ _ c.self.invariant follows apart)
    ]

pub returns-clause-ok : goal.returns-clause-ok
returns-clause-ok c =
    let follows = rw (← c.self.view_is) at c.requires in
    let view : List Row → Trajectory = λ rows. record { start = c.self.inside.start; rows = rows; rvsm = c.self.inside.rvsm } in
    elim c.if-count-gt0.branch [
      | then-count-gt0+then-goes_on w ↦
          let within : c.len-count.result - 1 < length c.self.inside.segments.items = omega (arith, c.len-count.ensures) in
          let one = one_element c.self.inside.segments.items (c.len-count.result - 1) w.index.result.now w.index_mut.result.now within w.index.ensures
          w.index_mut.ensures.value in
          let same = rw one at (w.goes_on.ensures.0 w.if-goes_on.true) in
          rw (w.self-inside-is, ← c.self.view_is) (ap view
          (all_rows-lengthened _ _ _ _ _ c.args.segment c.self.invariant.adjoin (omega (arith, c.len-count.ensures)) w.index_mut.ensures.value
          (end_of_strand _ _ _ _ _ c.self.invariant follows) follows.some same))
      | else-count-gt0+in_ok-push w ↦
          rw (w.self-inside-is, w.in_ok-push.ensures.items, ← c.self.view_is) (ap view (all_rows-push c.self.inside.segments.items c.args.segment))
    ]
