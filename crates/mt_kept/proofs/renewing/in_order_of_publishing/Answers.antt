use Rattle.mt_kept.proofs.renewing.in_order_of_publishing.Goals as goal

pub returns : goal.returns
returns c = record {
  pairs = c.sort_by_key.new.self.items;
  order = c.sort_by_key.ensures.permutation;
  at_border = rw c.deref.ensures.value at c.in_ok-bordering.ensures;
  exact = rw c.deref-2.ensures.value at c.in_ok-come.ensures;
}
