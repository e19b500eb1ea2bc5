-- Which commands make a trajectory, and of which kind.
use Rattle.std.proofs.Common.{◌≡◌, ℕ, refl}
use Rattle.mt_base.specs.declared.command.Command.{Command}
use Rattle.mt_base.specs.declared.command.Command.TheVariants.{Clear, Drop, External, Plan, Tentative, Tick, Withdraw}
use Rattle.mt_base.specs.declared.command.Command.TheVariants as commands
use Rattle.mt_base.specs.declared.conflict.Kind.TheVariants.{Actual}
use Rattle.mt_base.specs.Decision.{filled}
use Rattle.mt_probe.specs.Prepared.{MakesStrand, kind_made}
use Rattle.mt_picture.specs.Private.Entries.{IsRemaking}
use Rattle.mt_picture.specs.Stamps.{IsFiling}

pub filing_kind : (c : Command) → IsFiling c → kind_made c ≡ Actual
filing_kind (Plan call kind route at from level rvsm) filing = refl
filing_kind (External call straight) filing = refl
filing_kind c filing = absurd filing

pub filing_makes : (c : Command) → IsFiling c → MakesStrand c
filing_makes (Plan call kind route at from level rvsm) filing = tt
filing_makes (External call straight) filing = tt
filing_makes c filing = absurd filing

pub remaking_makes : (c : Command) → IsRemaking c → MakesStrand c
remaking_makes (Plan call kind route at from level rvsm) remaking = absurd remaking
remaking_makes (External call straight) remaking = absurd remaking
remaking_makes (Drop call) remaking = absurd remaking
remaking_makes (commands.Report call report) remaking = absurd remaking
remaking_makes (Tick next) remaking = absurd remaking
remaking_makes (Withdraw call force) remaking = absurd remaking
remaking_makes c remaking = tt

-- with its second filled it makes the same
pub filled_makes : (now : ℕ) (c : Command) → MakesStrand c → MakesStrand (filled now c)
filled_makes now (Clear call clearance eff) makes = makes
filled_makes now (Tentative call clearance eff) makes = makes
filled_makes now c makes = makes

pub filled_kind : (now : ℕ) (c : Command) → kind_made (filled now c) ≡ kind_made c
filled_kind now (Clear call clearance eff) = refl
filled_kind now (Tentative call clearance eff) = refl
filled_kind now c = refl

pub filled_files : (now : ℕ) (c : Command) → IsFiling c → IsFiling (filled now c)
filled_files now (Plan call kind route at from level rvsm) filing = tt
filled_files now (External call straight) filing = tt
filled_files now c filing = absurd filing
