-- No public contract names these: they are of private steps and of proofs.
-- The items of a page by a bit each.
use Rattle.std.specs.Prelude.{◌≡◌, ◌≢◌, ℕ, get_or}
use Rattle.std.specs.Int.{bit_at}
use Rattle.mt_meet.specs.declared.marked_parts.MarkedParts.{MarkedParts}

-- each item that has a marked part has its bit
abbrev pub HaveBits : MarkedParts → ℕ → Type 0
HaveBits marks items = (place : ℕ) → get_or marks.parts place 0 ≢ 0 → bit_at items place ≡ 1
