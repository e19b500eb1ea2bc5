-- What is found among the keys, as they ascend.
use Rattle.std.proofs.Common.{subst, sym}
use Rattle.std.specs.Prelude.{All, MatchOption, true}
use Rattle.std.proofs.Common.{◌≡◌}
use Rattle.mt_json.specs.Keys.{is_allowed, keys, IsLeastOther}
use Rattle.mt_json.specs.View.{members_view}
use Rattle.mt_json.proofs.LeastOther.{found_other}
use Rattle.mt_json.proofs.Members.{ascending}
use Rattle.mt_json.proofs.fields.Fields.only.Goals as goal

pub returns-in-Some-clause-least : goal.returns-in-Some-clause-least
returns-in-Some-clause-least c =
    let ks = keys (members_view c.args.self.now.list.now) in
    subst (λ r. MatchOption r (All (λ k. is_allowed c.args.keys.now k ≡ true) ks) (IsLeastOther c.args.keys.now ks)) (sym c.in-Some.ensures) (found_other c.args.keys.now c.args.self.now.list.now)

pub returns-in-Some-clause-ordered : goal.returns-in-Some-clause-ordered
returns-in-Some-clause-ordered c = ascending c.args.self.now.list.now

pub returns-in-None-clause-allowed : goal.returns-in-None-clause-allowed
returns-in-None-clause-allowed c =
    let ks = keys (members_view c.args.self.now.list.now) in
    subst (λ r. MatchOption r (All (λ k. is_allowed c.args.keys.now k ≡ true) ks) (IsLeastOther c.args.keys.now ks)) (sym c.in-None.ensures) (found_other c.args.keys.now c.args.self.now.list.now)

pub returns-in-None-clause-ordered : goal.returns-in-None-clause-ordered
returns-in-None-clause-ordered c = ascending c.args.self.now.list.now
