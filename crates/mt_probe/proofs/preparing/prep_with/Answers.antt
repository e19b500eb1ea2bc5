use Rattle.mt_probe.proofs.Gathered.{one_each}
use Rattle.mt_probe.proofs.Whole.{few_flights, own_calls}
use Rattle.mt_probe.proofs.preparing.prep_with.Goals as goal

pub invariant_of-result : goal.invariant_of-result
invariant_of-result c = rw c.in_ok-share.ensures (record {
  right = record {
    passed = c.requires.left.passed;
    card_is = c.requires.left.card_is;
    call_is = c.requires.left.call_is;
    sound = c.requires.left.sound;
    strand_is = c.requires.made;
    laid = let laid = rw c.deref.ensures at c.keeps-2.ensures in laid;
    finds_are = c.requires.found;
    rules = c.keeps.ensures.sound.rules;
    early = c.keeps.ensures.sound.early;
    own_calls = own_calls c.args.snapshot.now c.keeps.ensures.sound;
    few = few_flights c.args.snapshot.now c.keeps.ensures.sound;
    one_each = one_each c.args.snapshot.now c.keeps.ensures.sound;
  };
  sliced = c.requires.sliced;
})
