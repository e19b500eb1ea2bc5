use Rattle.std.proofs.Common.{arith, le_refl}
use Rattle.mt_pair.proofs.Walks.{StandsAt-covers, overlap_is, reads_cover, reads_cover_one}
use Rattle.mt_pair.proofs.overlap.span_in.Goals as goal

pub offset_bounds-left-i : goal.offset_bounds-left-i
offset_bounds-left-i c =
    let at = reads_cover c.args.a.now c.segments-left.result.now c.args.i c.args.from c.args.to c.segments-left.ensures.kept c.segments-left.ensures.are c.requires.a_covers in
    omega (arith, at.few)

pub bounds-left-i : goal.bounds-left-i
bounds-left-i c =
    let at = reads_cover c.args.a.now c.segments-left.result.now c.args.i c.args.from c.args.to c.segments-left.ensures.kept c.segments-left.ensures.are c.requires.a_covers in
    at.below

pub overlap-requires-clause-s_stands : goal.overlap-requires-clause-s_stands
overlap-requires-clause-s_stands c =
    StandsAt-covers c.args.a.now _ c.args.from ((reads_cover_one c.args.a.now c.segments-left.result.now c.args.i c.args.from c.args.to c.index-left-i.result c.segments-left.ensures.kept c.segments-left.ensures.are c.requires.a_covers (λ below. c.index-left-i.is)).holds c.args.from (le_refl c.args.from) c.requires.some)

pub offset_bounds-right-j : goal.offset_bounds-right-j
offset_bounds-right-j c =
    let at = reads_cover c.args.b.now c.segments-right.result.now c.args.j c.args.from c.args.to c.segments-right.ensures.kept c.segments-right.ensures.are c.requires.b_covers in
    omega (arith, at.few)

pub bounds-right-j : goal.bounds-right-j
bounds-right-j c =
    let at = reads_cover c.args.b.now c.segments-right.result.now c.args.j c.args.from c.args.to c.segments-right.ensures.kept c.segments-right.ensures.are c.requires.b_covers in
    at.below

pub overlap-requires-clause-t_stands : goal.overlap-requires-clause-t_stands
overlap-requires-clause-t_stands c =
    StandsAt-covers c.args.b.now _ c.args.from ((reads_cover_one c.args.b.now c.segments-right.result.now c.args.j c.args.from c.args.to c.index-right-j.result c.segments-right.ensures.kept c.segments-right.ensures.are c.requires.b_covers (λ below. c.index-right-j.is)).holds c.args.from (le_refl c.args.from) c.requires.some)

pub overlap-requires-clause-short : goal.overlap-requires-clause-short
overlap-requires-clause-short c =
    let at = reads_cover_one c.args.a.now c.segments-left.result.now c.args.i c.args.from c.args.to c.index-left-i.result c.segments-left.ensures.kept c.segments-left.ensures.are c.requires.a_covers (λ below. c.index-left-i.is) in
    at.short

pub returns-clause-conflict : goal.returns-clause-conflict
returns-clause-conflict c =
    let left = reads_cover_one c.args.a.now c.segments-left.result.now c.args.i c.args.from c.args.to c.index-left-i.result c.segments-left.ensures.kept c.segments-left.ensures.are c.requires.a_covers (λ below. c.index-left-i.is) in
    let right = reads_cover_one c.args.b.now c.segments-right.result.now c.args.j c.args.from c.args.to c.index-right-j.result c.segments-right.ensures.kept c.segments-right.ensures.are c.requires.b_covers (λ below. c.index-right-j.is) in
    overlap_is c.args.rules.now c.args.a.now c.args.b.now c.args.from c.args.to _ _ c.overlap.result left.holds right.holds (rw (c.rvsm.ensures, c.rvsm-2.ensures) at c.overlap.ensures.span)
