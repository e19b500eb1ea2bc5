use borrow.Author.Count.{below_more, below_none}
use Rattle.std.proofs.Common.{◌≢◌, ℕ, ◌<◌, ◌≤◌, ◌∙◌, pos, true≢false, refl, sym, arith}
use Rattle.std.proofs.lemmas.Bool.{false≢true}
use Rattle.mt_base.specs.Area.{LiesLeft, corner, place_after}
use Rattle.mt_area.proofs.shape.has_all_left.Goals as goal

before : (m n k : ℕ) → m < n → n ≤ k → m < k
before m n k below all = omega arith

pub loop-k-preserved : goal.loop-k-preserved
loop-k-preserved c =
    let corners = c.args.corners.now in
    let i = c.args.i in
    below_more (λ (m : ℕ). m ≢ i → m ≢ place_after corners i → LiesLeft (corner corners i) (corner corners (place_after corners i)) (corner corners m).0 (corner corners m).1 (pos 1))
    c.loop-k.k c.loop-k.invariant (λ not_i not_next. rw c.place_after-j.ensures.is at (c.is_left.ensures.0 c.if-not-is_left.false))

pub loop-k-init : goal.loop-k-init
loop-k-init c =
    let corners = c.args.corners.now in
    let i = c.args.i in
    below_none (λ (m : ℕ). m ≢ i → m ≢ place_after corners i → LiesLeft (corner corners i) (corner corners (place_after corners i)) (corner corners m).0 (corner corners m).1 (pos 1))

pub loop-k-preserved-then-k-i : goal.loop-k-preserved-then-k-i
loop-k-preserved-then-k-i c =
    let corners = c.args.corners.now in
    let i = c.args.i in
    below_more (λ (m : ℕ). m ≢ i → m ≢ place_after corners i → LiesLeft (corner corners i) (corner corners (place_after corners i)) (corner corners m).0 (corner corners m).1 (pos 1))
    c.loop-k.k c.loop-k.invariant (λ not_i not_next. absurd (not_i c.if-k-i.true))

pub loop-k-preserved-then-k-j : goal.loop-k-preserved-then-k-j
loop-k-preserved-then-k-j c =
    let corners = c.args.corners.now in
    let i = c.args.i in
    below_more (λ (m : ℕ). m ≢ i → m ≢ place_after corners i → LiesLeft (corner corners i) (corner corners (place_after corners i)) (corner corners m).0 (corner corners m).1 (pos 1))
    c.loop-k.k c.loop-k.invariant (λ not_i not_next. absurd (not_next (c.if-k-j.true ∙ c.place_after-j.ensures.is)))

pub returns : goal.returns
returns c = (
  (λ told m below not_i not_next. c.loop-k.invariant m (before m _ _ below c.loop-k-test.false) not_i not_next),
  (λ all. refl),
)

pub returns-then-not-is_left : goal.returns-then-not-is_left
returns-then-not-is_left c =
    let left = rw c.place_after-j.ensures.is at c.is_left.ensures.1 in (
      (λ told. absurd (false≢true told)),
      (λ all. absurd (true≢false (sym (left (all c.loop-k.k c.loop-k-test.true c.if-k-i.false (λ next. c.if-k-j.false (next ∙ sym c.place_after-j.ensures.is)))) ∙ c.if-not-is_left.true))),
    )

pub is_left-requires-clause-i_kept : goal.is_left-requires-clause-i_kept
is_left-requires-clause-i_kept c = c.requires.each c.args.i (pos 0, pos 0) c.requires.inside

pub is_left-requires-clause-j_kept : goal.is_left-requires-clause-j_kept
is_left-requires-clause-j_kept c = c.requires.each c.place_after-j.result (pos 0, pos 0) c.place_after-j.ensures.inside

pub is_left-requires-clause-k_kept : goal.is_left-requires-clause-k_kept
is_left-requires-clause-k_kept c = c.requires.each c.loop-k.k (pos 0, pos 0) c.loop-k-test.true
