use Rattle.std.specs.Prelude.{ℤ, pos, ◌&&◌, int_le, Bool, List, [], ◌∷◌}
use Rattle.mt_base.specs.declared.rules.Rules.{Rules}
use Rattle.mt_base.specs.declared.rules.RuleName.{RuleName}
use Rattle.mt_base.specs.declared.rules.RuleName.TheVariants.{Sh, Sv, R0, Gh, Rmax, W0, Gv, Wmax, Tc, Ta, Tv, Flights, History, Sv2}

-- the rules where none was set
abbrev pub usual_rules : Rules
usual_rules = record {
  sh = pos 18000;
  sv = pos 60000;
  r0 = pos 0;
  gh = pos 15;
  rmax = pos 9000;
  w0 = pos 0;
  gv = pos 100;
  wmax = pos 30000;
  tc = pos 7200;
  ta = pos 10800;
  tv = pos 18000;
  flights = pos 1024;
  history = pos 4194304;
  sv2 = pos 120000;
}

-- a number is from low to high
abbrev pub is_within : ℤ → ℤ → ℤ → Bool
is_within low high z = int_le low z && int_le z high

-- each rule, and whether it is within bounds
abbrev pub rule_checks : Rules → List (RuleName × Bool)
rule_checks rules =
    (Sh, is_within (pos 1) (pos 72000) rules.sh) ∷
    (Sv, is_within (pos 1) (pos 600000) rules.sv) ∷
    (R0, is_within (pos 0) rules.rmax rules.r0) ∷
    (Gh, is_within (pos 0) (pos 1000) rules.gh) ∷
    (Rmax, is_within (pos 0) (pos 72000) rules.rmax) ∷
    (W0, is_within (pos 0) rules.wmax rules.w0) ∷
    (Gv, is_within (pos 0) (pos 10000) rules.gv) ∷
    (Wmax, is_within (pos 0) (pos 600000) rules.wmax) ∷
    (Tc, is_within (pos 0) (pos 360000) rules.tc) ∷
    (Ta, is_within (pos 0) (pos 360000) rules.ta) ∷
    (Tv, is_within (pos 0) (pos 600000) rules.tv) ∷
    (Flights, is_within (pos 1) (pos 1024) rules.flights) ∷
    (History, is_within (pos 1) (pos 4194304) rules.history) ∷
    (Sv2, is_within rules.sv (pos 600000) rules.sv2) ∷ []
