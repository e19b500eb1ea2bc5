use Rattle.std.proofs.Common.{arith, le_refl}
use Rattle.mt_pair.proofs.Solids.{AreTogether-covers}
use Rattle.mt_pair.proofs.Walks.{reads_cover, reads_cover_one}
use Rattle.mt_pair.proofs.overlap.are_together.Goals as goal

pub offset_bounds-left-i : goal.offset_bounds-left-i
offset_bounds-left-i c =
    let at = reads_cover c.args.a.now c.segments-left.result.now c.args.i c.args.from c.args.to c.segments-left.ensures.kept c.segments-left.ensures.are c.requires.a_covers in
    omega (arith, at.few)

pub bounds-left-i : goal.bounds-left-i
bounds-left-i c =
    let at = reads_cover c.args.a.now c.segments-left.result.now c.args.i c.args.from c.args.to c.segments-left.ensures.kept c.segments-left.ensures.are c.requires.a_covers in
    at.below

pub offset_bounds-right-j : goal.offset_bounds-right-j
offset_bounds-right-j c =
    let at = reads_cover c.args.b.now c.segments-right.result.now c.args.j c.args.from c.args.to c.segments-right.ensures.kept c.segments-right.ensures.are c.requires.b_covers in
    omega (arith, at.few)

pub bounds-right-j : goal.bounds-right-j
bounds-right-j c =
    let at = reads_cover c.args.b.now c.segments-right.result.now c.args.j c.args.from c.args.to c.segments-right.ensures.kept c.segments-right.ensures.are c.requires.b_covers in
    at.below

pub overflow_sub-from : goal.overflow_sub-from
overflow_sub-from c =
    let at = reads_cover_one c.args.a.now c.segments-left.result.now c.args.i c.args.from c.args.to c.index-left-i.result c.segments-left.ensures.kept c.segments-left.ensures.are c.requires.a_covers (λ below. c.index-left-i.is) in
    (at.holds c.args.from (le_refl c.args.from) c.requires.some).begun

pub later-one-requires : goal.later-one-requires
later-one-requires c =
    let at = reads_cover_one c.args.a.now c.segments-left.result.now c.args.i c.args.from c.args.to c.index-left-i.result c.segments-left.ensures.kept c.segments-left.ensures.are c.requires.a_covers (λ below. c.index-left-i.is) in
    (at.holds c.args.from (le_refl c.args.from) c.requires.some).kept

pub overflow_sub-from-2 : goal.overflow_sub-from-2
overflow_sub-from-2 c =
    let at = reads_cover_one c.args.b.now c.segments-right.result.now c.args.j c.args.from c.args.to c.index-right-j.result c.segments-right.ensures.kept c.segments-right.ensures.are c.requires.b_covers (λ below. c.index-right-j.is) in
    (at.holds c.args.from (le_refl c.args.from) c.requires.some).begun

pub later-other-requires : goal.later-other-requires
later-other-requires c =
    let at = reads_cover_one c.args.b.now c.segments-right.result.now c.args.j c.args.from c.args.to c.index-right-j.result c.segments-right.ensures.kept c.segments-right.ensures.are c.requires.b_covers (λ below. c.index-right-j.is) in
    (at.holds c.args.from (le_refl c.args.from) c.requires.some).kept

pub are_low-requires-clause-a_kept : goal.are_low-requires-clause-a_kept
are_low-requires-clause-a_kept c =
    let at = reads_cover_one c.args.a.now c.segments-left.result.now c.args.i c.args.from c.args.to c.index-left-i.result c.segments-left.ensures.kept c.segments-left.ensures.are c.requires.a_covers (λ below. c.index-left-i.is) in
    rw c.later-one.ensures (at.holds c.args.from (le_refl c.args.from) c.requires.some).bounded

pub are_low-requires-clause-b_kept : goal.are_low-requires-clause-b_kept
are_low-requires-clause-b_kept c =
    let at = reads_cover_one c.args.b.now c.segments-right.result.now c.args.j c.args.from c.args.to c.index-right-j.result c.segments-right.ensures.kept c.segments-right.ensures.are c.requires.b_covers (λ below. c.index-right-j.is) in
    rw c.later-other.ensures (at.holds c.args.from (le_refl c.args.from) c.requires.some).bounded

pub returns : goal.returns
returns c = λ yes rules rules_kept.
    let left = reads_cover_one c.args.a.now c.segments-left.result.now c.args.i c.args.from c.args.to c.index-left-i.result c.segments-left.ensures.kept c.segments-left.ensures.are c.requires.a_covers (λ below. c.index-left-i.is) in
    let right = reads_cover_one c.args.b.now c.segments-right.result.now c.args.j c.args.from c.args.to c.index-right-j.result c.segments-right.ensures.kept c.segments-right.ensures.are c.requires.b_covers (λ below. c.index-right-j.is) in
    AreTogether-covers rules c.args.a.now c.args.b.now c.args.from c.args.to _ _ rules_kept c.requires.some left.holds right.holds
    (rw (c.both.ensures, c.rvsm.ensures, c.rvsm-2.ensures, c.later-one.ensures, c.later-other.ensures) at (c.are_low.ensures.0 yes))
