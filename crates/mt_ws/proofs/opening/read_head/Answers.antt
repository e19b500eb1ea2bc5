use Rattle.std.proofs.Common.{◌≤◌, ◌<◌, ◌-◌, ◌∙◌, ◌++◌, length, arith, length-append}
use Rattle.std.proofs.lemmas.List.{take-append-le}
use borrow.Rule.Slice.PartMut.{post_of, same_len_mid}
use Rattle.mt_ws.proofs.Heads.{no_start, none_read, not_open, read_within, rest_is_some, some_start, still_open, told, told_at_end}
use Rattle.mt_ws.proofs.opening.read_head.Goals as goal

pub loop-count-init : goal.loop-count-init
loop-count-init g c = (none_read (g.S.Read.remaining c.args.stream.now) c.args.head.now, omega arith, c.told-head)

pub returns-then-more-eq0-clause-head : goal.returns-then-more-eq0-clause-head
returns-then-more-eq0-clause-head g c =
    let head = c.loop-count.head in
    let count = c.loop-count.count in
    let buf = c.read_on.new.buf in
    let rest = post_of count (8192 - count) head in
    let none = rw c.if-more-eq0.true at c.in_ok-more.ensures.bytes.0 in
    let room : 0 < length buf = rw (c.read_on.auto.buf) (rest_is_some head count 8192 c.loop-count.invariant.2 c.loop-count-test.true) in
    told_at_end _ _ _ head (buf ++ rest) count c.start_of.result c.loop-count.invariant.0 (omega arith) none
    (c.in_ok-more.ensures.bytes.1 c.if-more-eq0.true room) c.start_of.ensures

pub returns-then-is_some-clause-head : goal.returns-then-is_some-clause-head
returns-then-is_some-clause-head g c =
    let head = c.loop-count.head in
    let count = c.loop-count.count in
    let buf = c.read_on.new.buf in
    let rest = post_of count (8192 - count) head in
    let more = c.in_ok-more.more in
    let few : more ≤ length buf = c.in_ok-more.ensures.bound.0 in
    let enough : more ≤ length (buf ++ rest) = omega (arith, length-append buf rest) in
    told _ _ _ head (buf ++ rest) count more c.start_of-start.result c.loop-count.invariant.0 (omega arith) (omega arith) enough
    (rw (take-append-le more buf rest few) c.in_ok-more.ensures.bytes.0) (some_start c.start_of-start.result _ c.is_some.ensures c.if-is_some.true) c.start_of-start.ensures

pub loop-count-preserved : goal.loop-count-preserved
loop-count-preserved g c =
    let head = c.loop-count.head in
    let count = c.loop-count.count in
    let buf = c.read_on.new.buf in
    let rest = post_of count (8192 - count) head in
    let more = c.in_ok-more.more in
    let few : more ≤ length buf = c.in_ok-more.ensures.bound.0 in (
      still_open _ _ _ head (buf ++ rest) count more c.start_of-start.result c.loop-count.invariant.0 (omega arith)
          (rw (take-append-le more buf rest few) c.in_ok-more.ensures.bytes.0) (no_start c.start_of-start.result _ c.is_some.ensures c.if-is_some.false) c.start_of-start.ensures,
      read_within head buf count more 8192 c.loop-count.invariant.2 (omega arith) c.read_on.auto.buf few,
      same_len_mid count (8192 - count) head buf c.read_on.auto.buf ∙ c.loop-count.invariant.2,
    )

pub unreachable-requires : goal.unreachable-requires
unreachable-requires g c = not_open _ _ c.loop-count.head c.loop-count.count c.loop-count.invariant.0 c.loop-count-test.false (omega arith)
