-- What a load run writes, and what its status says.
use Rattle.std.specs.Prelude.{◌≡◌, ℕ, List, [], ◌++◌}
use Rattle.mt_load.specs.declared.summary.Summary.{Summary}
use Rattle.mt_load.specs.Summary.{IsLoaded, summary_text}
use Rattle.mt_top.specs.declared.status.Status.{Status}
use Rattle.mt_top.specs.declared.status.Status.TheVariants.{Done, WriteFault, Memory}

-- the summary line of a load run
pub record IsSummaryLine (flights number : ℕ) (line : List ℕ) : Type 0 where
  pub summary : Summary
  pub loaded : IsLoaded flights number summary
  pub line_is : line ≡ summary_text summary

-- what a load run's status says: the summary line was written, or a front of it. Nothing was read. A front only where the output failed. Where memory
-- was wanted nothing was written.
abbrev pub LoadMeans : ℕ → ℕ → Status → List ℕ → List ℕ → List ℕ → Type 0
LoadMeans flights number Done input left written = (left ≡ input) × IsSummaryLine flights number written
LoadMeans flights number WriteFault input left written = (left ≡ input) × ((unwritten : List ℕ) × IsSummaryLine flights number (written ++ unwritten))
LoadMeans flights number Memory input left written = (left ≡ input) × (written ≡ [])
LoadMeans flights number status input left written = ⊥
