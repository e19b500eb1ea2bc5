use Rattle.std.proofs.Common.{ℕ, subst}
use Rattle.mt_base.specs.History.{IsInTime}
use Rattle.mt_history.proofs.EntriesPut.{followed_is}
use Rattle.mt_history.proofs.following.follow_entry.Goals as goal

pub returns-in-Ok-clause-followed : goal.returns-in-Ok-clause-followed
returns-in-Ok-clause-followed c =
    let in_time = subst (λ (n : ℕ). IsInTime n c.args.entry.now.command) c.version-version.ensures (c.is_in_time.ensures.0 c.if-not-is_in_time.false) in
    followed_is c.args.picture.now c.enter.new.picture c.args.entry.now c.in-Ok.entered c.requires.timed in_time c.in-Ok.ensures.entered
