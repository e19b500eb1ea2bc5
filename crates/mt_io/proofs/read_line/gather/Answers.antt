use Rattle.std.proofs.Common.{◌≡◌, ◌<◌, ◌≤◌, ◌∙◌, ℕ, length, arith}
use Rattle.mt_io.proofs.Gathering.{filled, gathers_last, gathers_piece, gathers_whole, stops}
use Rattle.mt_io.proofs.read_line.gather.Goals as goal

pub returns-then-move_piece-clause-gathers : goal.returns-then-move_piece-clause-gathers
returns-then-move_piece-clause-gathers g c =
    let f = filled c.args.ahead.now c.pieces.ahead c.fill.new.self (g.S.Source.left c.args.source.now) (g.S.Source.left c.pieces.source) (g.S.Source.left c.fill.new.source)
    c.pieces.line.bytes.items c.pieces.line.is_long c.in-Ok-true.field-0 _ c.in-Ok-true.field-0-test
    c.pieces.invariant.so_far c.pieces.invariant.going c.fill.ensures.held c.in-Ok-true.ensures.read in
    gathers_whole c.args.ahead.now c.fill.new.self c.move_piece.new.self (g.S.Source.left c.args.source.now) (g.S.Source.left c.fill.new.source)
    c.pieces.line.bytes.items c.pieces.line.is_long _ _ f.0 c.if-move_piece.ensures f.1

pub pieces-preserved : goal.pieces-preserved
pieces-preserved g c =
    let f = filled c.args.ahead.now c.pieces.ahead c.fill.new.self (g.S.Source.left c.args.source.now) (g.S.Source.left c.pieces.source) (g.S.Source.left c.fill.new.source)
    c.pieces.line.bytes.items c.pieces.line.is_long c.in-Ok-true.field-0 _ c.in-Ok-true.field-0-test
    c.pieces.invariant.so_far c.pieces.invariant.going c.fill.ensures.held c.in-Ok-true.ensures.read in
    record {
      so_far = gathers_piece c.args.ahead.now c.fill.new.self c.move_piece.new.self (g.S.Source.left c.args.source.now) (g.S.Source.left c.fill.new.source)
          c.pieces.line.bytes.items c.pieces.line.is_long _ _ f.0 c.if-move_piece.ensures;
      going = c.move_piece.ensures.ended ∙ f.1;
      later = omega (arith, c.pieces.invariant.later, c.fill.ensures.later);
      kept = g.met.S.Source.reads_on _ _ _ c.pieces.invariant.kept c.fill.ensures.kept;
    }

empty : (n : ℕ) → (0 < n → 1 ≤ 0) → n ≡ 0
empty n none = grind arith

pub returns-in-Ok-false-clause-gathers : goal.returns-in-Ok-false-clause-gathers
returns-in-Ok-false-clause-gathers g c =
    let none = empty (length c.pieces.ahead.ahead) (λ some. let e = (c.in-Ok-false.ensures.held some).0 in cc) in
    gathers_last c.args.ahead.now c.fill.new.self (g.S.Source.left c.args.source.now) (g.S.Source.left c.fill.new.source)
    c.pieces.line.bytes.items c.pieces.line.is_long c.pieces.ahead (g.S.Source.left c.pieces.source) none c.pieces.invariant.so_far
    (rw c.in-Ok-false.field-0-test at (c.in-Ok-false.ensures.read none))

pub returns-in-Err-clause-gathers : goal.returns-in-Err-clause-gathers
returns-in-Err-clause-gathers g c =
    let none = empty (length c.pieces.ahead.ahead) (λ some. let e = (c.in-Err.ensures.held some).0 in cc) in
    stops c.args.ahead.now c.pieces.ahead c.fill.new.self (g.S.Source.left c.args.source.now) (g.S.Source.left c.pieces.source) (g.S.Source.left c.fill.new.source)
    c.pieces.line.bytes.items c.pieces.line.is_long c.in-Err.fault none c.pieces.invariant.so_far (c.in-Err.ensures.read none)

pub returns-in-Err-clause-kept : goal.returns-in-Err-clause-kept
returns-in-Err-clause-kept g c = g.met.S.Source.reads_on _ _ _ c.pieces.invariant.kept c.fill.ensures.kept

pub returns-then-move_piece-clause-cause : goal.returns-then-move_piece-clause-cause
returns-then-move_piece-clause-cause g c = λ is. cc

pub returns-then-move_piece-clause-later : goal.returns-then-move_piece-clause-later
returns-then-move_piece-clause-later g c = omega (arith, c.pieces.invariant.later, c.fill.ensures.later)

pub returns-then-move_piece-clause-kept : goal.returns-then-move_piece-clause-kept
returns-then-move_piece-clause-kept g c = g.met.S.Source.reads_on _ _ _ c.pieces.invariant.kept c.fill.ensures.kept

pub returns-in-Ok-false-clause-cause : goal.returns-in-Ok-false-clause-cause
returns-in-Ok-false-clause-cause g c = λ is. cc

pub returns-in-Ok-false-clause-later : goal.returns-in-Ok-false-clause-later
returns-in-Ok-false-clause-later g c = omega (arith, c.pieces.invariant.later, c.fill.ensures.later)

pub returns-in-Ok-false-clause-kept : goal.returns-in-Ok-false-clause-kept
returns-in-Ok-false-clause-kept g c = g.met.S.Source.reads_on _ _ _ c.pieces.invariant.kept c.fill.ensures.kept

pub returns-in-Err-clause-cause : goal.returns-in-Err-clause-cause
returns-in-Err-clause-cause g c = λ is. omega (arith, c.pieces.invariant.later, c.in-Err.ensures.cause is)

pub returns-in-Err-clause-later : goal.returns-in-Err-clause-later
returns-in-Err-clause-later g c = omega (arith, c.pieces.invariant.later, c.fill.ensures.later)
