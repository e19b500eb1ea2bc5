-- No public contract names these: they are of private steps and of proofs.
-- Commands by what they do to the flight that they name.
use Rattle.std.specs.Prelude.{Bool, true, false, ⊤}
use Rattle.mt_base.specs.declared.command.Command.{Command}
use Rattle.mt_base.specs.declared.command.Command.TheVariants.{Renew, Clear, Accept, Tentative, Withdraw, Commit}
use Rattle.mt_base.specs.declared.command.Command.TheVariants as commands

-- a command makes a trajectory of a flight that is there
abbrev pub IsRemaking : Command → Type 0
IsRemaking (Renew call) = ⊤
IsRemaking (Clear call clearance eff) = ⊤
IsRemaking (Accept call clearance eff probed) = ⊤
IsRemaking (Tentative call clearance eff) = ⊤
IsRemaking (Commit call) = ⊤
IsRemaking command = ⊥

-- `IsReport`, `IsWithdrawal`, `is_probed`: a report; a withdrawal of a tentative clearance; an acceptance of what was probed
abbrev pub IsReport : Command → Type 0
IsReport (commands.Report call report) = ⊤
IsReport command = ⊥

abbrev pub IsWithdrawal : Command → Type 0
IsWithdrawal (Withdraw call force) = ⊤
IsWithdrawal command = ⊥

abbrev pub is_probed : Command → Bool
is_probed (Accept call clearance eff probed) = true
is_probed command = false
