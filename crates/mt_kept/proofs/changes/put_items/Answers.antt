use Rattle.std.proofs.Common.{map}
use Rattle.mt_kept.specs.Places.{seen}
use Rattle.mt_kept.proofs.Replacing.{inside_next, left_next}
use Rattle.mt_kept.proofs.changes.put_items.Goals as goal

pub loop-change-preserved : goal.loop-change-preserved
loop-change-preserved c =
    let rest = c.loop-change.change-iterator.rest.items in
    let more = c.next.new.self.rest.items in
    let step = c.in-Some.ensures.steps.0 in record {
      left = left_next (map seen c.loop-change.places) (map seen c.put_item.new.places) c.in-Some.change rest more _ step c.put_item.ensures.put
          c.loop-change.invariant.left;
      inside = inside_next _ _ c.in-Some.change rest more step c.put_item.ensures.len c.loop-change.invariant.inside;
    }
