-- The rules that a line sets.
use Rattle.std.specs.Prelude.{pos, neg_ℤ, ◌-◌, ◌^◌, Bool, List, [], ◌∷◌, map, unwrap_or}
use Rattle.serde_json.specs.Data.{Members}
use Rattle.mt_base.specs.declared.rules.RuleName.{RuleName}
use Rattle.mt_base.specs.declared.rules.RuleName.TheVariants.{Sh, Sv, R0, Gh, Rmax, W0, Gv, Wmax, Tc, Ta, Tv, Flights, History, Sv2}
use Rattle.mt_base.specs.declared.rules.Rules.{Rules}
use Rattle.mt_base.specs.Rules.{rule_checks}
use Rattle.mt_json.specs.Field.{as_whole}
use Rattle.mt_read.specs.declared.key.Fault.{Fault}
use Rattle.mt_read.specs.declared.key.Fault.TheVariants.{Range}
use Rattle.mt_read.specs.declared.key.Key.TheVariants as key
use Rattle.mt_read.specs.declared.request.RuleSet.{RuleSet}
use Rattle.mt_read.specs.Field.{bound, number, read_at}

-- `rule_names`, `rule_bound`: the rules, each any number of 64 bits
abbrev pub rule_names : List RuleName
rule_names = Sh ∷ Sv ∷ R0 ∷ Gh ∷ Rmax ∷ W0 ∷ Gv ∷ Wmax ∷ Tc ∷ Ta ∷ Tv ∷ Flights ∷ History ∷ Sv2 ∷ []

abbrev pub rule_bound : Members → RuleName → Fault × Bool
rule_bound ms name = bound (key.Rule name) (neg_ℤ (pos (2 ^ 63))) (pos (2 ^ 63 - 1)) (number (key.Rule name) ms)

-- the rules that a line sets
abbrev pub set_in : Members → RuleSet
set_in ms = record {
  sh = read_at (key.Rule Sh) as_whole ms;
  sv = read_at (key.Rule Sv) as_whole ms;
  r0 = read_at (key.Rule R0) as_whole ms;
  gh = read_at (key.Rule Gh) as_whole ms;
  rmax = read_at (key.Rule Rmax) as_whole ms;
  w0 = read_at (key.Rule W0) as_whole ms;
  gv = read_at (key.Rule Gv) as_whole ms;
  wmax = read_at (key.Rule Wmax) as_whole ms;
  tc = read_at (key.Rule Tc) as_whole ms;
  ta = read_at (key.Rule Ta) as_whole ms;
  tv = read_at (key.Rule Tv) as_whole ms;
  flights = read_at (key.Rule Flights) as_whole ms;
  history = read_at (key.Rule History) as_whole ms;
  sv2 = read_at (key.Rule Sv2) as_whole ms;
}

-- the rules once these are set
abbrev pub rules_with : RuleSet → Rules → Rules
rules_with set rules = record {
  sh = unwrap_or set.sh rules.sh;
  sv = unwrap_or set.sv rules.sv;
  r0 = unwrap_or set.r0 rules.r0;
  gh = unwrap_or set.gh rules.gh;
  rmax = unwrap_or set.rmax rules.rmax;
  w0 = unwrap_or set.w0 rules.w0;
  gv = unwrap_or set.gv rules.gv;
  wmax = unwrap_or set.wmax rules.wmax;
  tc = unwrap_or set.tc rules.tc;
  ta = unwrap_or set.ta rules.ta;
  tv = unwrap_or set.tv rules.tv;
  flights = unwrap_or set.flights rules.flights;
  history = unwrap_or set.history rules.history;
  sv2 = unwrap_or set.sv2 rules.sv2;
}

-- each rule within its bounds. It is opaque, so that a proof goes by the answer.
unfoldable pub rule_bounds : Rules → List (Fault × Bool)
rule_bounds rules = map (λ c. (Range (key.Rule c.0), c.1)) (rule_checks rules)
