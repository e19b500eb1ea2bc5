use Rattle.mt_probe.proofs.trying.probe_with.Goals as goal

pub invariant_of-result : goal.invariant_of-result
invariant_of-result c = rw c.in_ok-share.ensures (record {
  clearance = c.requires.clearance;
  early = c.requires.early;
  rules = c.keeps.ensures.sound.rules;
  moment = c.keeps.ensures.sound.early;
  follows = c.requires.follows;
  short = c.requires.short;
})
