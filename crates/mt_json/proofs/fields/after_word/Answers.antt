-- The words are gone over one by one until the first of those that are left is the key.
use Rattle.std.proofs.Common.{◌≡◌, ◌<◌, ◌==◌, not, length, [], arith, refl, sym, ap, ◌∙◌, subst, false, true}
use Rattle.std.proofs.lemmas.List.{nil_from_length}
use Rattle.mt_json.specs.Keys.{is_allowed}
use Rattle.mt_json.specs.Private.Keys.{AreAmong}
use Rattle.mt_json.proofs.Words.{fewer, no_more, first_met, first_missed}
use Rattle.mt_json.proofs.fields.after_word.Goals as goal

pub loop-left-init : goal.loop-left-init
loop-left-init c = (refl, λ key h. h)

pub returns-in-Some : goal.returns-in-Some
returns-in-Some c = first_met c.args.words.now c.loop-left.left.now c.args.key.now c.in-Some.after.now (ap not (sym c.if-is_empty.ensures)) c.loop-left.invariant.0 c.loop-left.invariant.1 c.in-Some.ensures

pub loop-left-smaller : goal.loop-left-smaller
loop-left-smaller c = subst (λ ws. length ws < length c.loop-left.left.now) (sym c.next_word-left.ensures) (fewer c.loop-left.left.now (let some : (length c.loop-left.left.now == 0) ≡ false = sym c.loop-left-test.ensures in grind arith))

pub loop-left-preserved : goal.loop-left-preserved
loop-left-preserved c =
    let words = c.args.words.now in
    let key = c.args.key.now in
    subst (λ ws. (is_allowed words key ≡ is_allowed ws key) × AreAmong ws words) (sym c.next_word-left.ensures) (first_missed words c.loop-left.left.now key c.loop-left.invariant.0 c.loop-left.invariant.1 c.in_default.ensures)

pub returns : goal.returns
returns c =
    let over : (length c.loop-left.left.now == 0) ≡ true = sym c.loop-left-test.ensures in
    let none : c.loop-left.left.now ≡ [] = nil_from_length c.loop-left.left.now (grind arith) in
    c.loop-left.invariant.0 ∙ ap (λ ws. is_allowed ws c.args.key.now) none ∙ no_more c.args.key.now
