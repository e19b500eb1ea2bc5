-- The keys of lines.
use Rattle.std.specs.Prelude.{ℕ, List, codes}
use Rattle.mt_base.specs.declared.rules.RuleName.{RuleName}
use Rattle.mt_base.specs.declared.rules.RuleName.TheVariants as rule
use Rattle.mt_read.specs.declared.key.Key.{Key}
use Rattle.mt_read.specs.declared.key.Key.TheVariants as key

-- the key of a rule
abbrev pub rule_text : RuleName → List ℕ
rule_text rule.Sh = codes "sh"
rule_text rule.Sv = codes "sv"
rule_text rule.R0 = codes "r0"
rule_text rule.Gh = codes "gh"
rule_text rule.Rmax = codes "rmax"
rule_text rule.W0 = codes "w0"
rule_text rule.Gv = codes "gv"
rule_text rule.Wmax = codes "wmax"
rule_text rule.Tc = codes "tc"
rule_text rule.Ta = codes "ta"
rule_text rule.Tv = codes "tv"
rule_text rule.Flights = codes "flights"
rule_text rule.History = codes "history"
rule_text rule.Sv2 = codes "sv2"

-- the text of a key
abbrev pub key_text : Key → List ℕ
key_text key.Do = codes "do"
key_text key.Who = codes "who"
key_text key.Call = codes "call"
key_text key.From = codes "from"
key_text key.To = codes "to"
key_text key.X = codes "x"
key_text key.Y = codes "y"
key_text key.Z = codes "z"
key_text key.Vx = codes "vx"
key_text key.Vy = codes "vy"
key_text key.Vz = codes "vz"
key_text key.R = codes "r"
key_text key.Gr = codes "gr"
key_text key.W = codes "w"
key_text key.Gw = codes "gw"
key_text key.Now = codes "now"
key_text key.Role = codes "role"
key_text key.Name = codes "name"
key_text key.Bands = codes "bands"
key_text key.Corners = codes "corners"
key_text key.Bottom = codes "bottom"
key_text key.Top = codes "top"
key_text key.Kind = codes "type"
key_text key.Route = codes "route"
key_text key.At = codes "at"
key_text key.Level = codes "level"
key_text key.Direct = codes "direct"
key_text key.Eff = codes "eff"
key_text key.Probe = codes "probe"
key_text key.Force = codes "force"
key_text key.Probed = codes "v"
key_text key.Sec = codes "sec"
key_text key.Rvsm = codes "rvsm"
key_text (key.Rule name) = rule_text name
