-- No public contract names this.
-- What waits to be written.
use Rattle.std.specs.Prelude.{ℕ, List}
use Rattle.mt_lines.specs.declared.waiting.Waiting.{Waiting}

-- the bytes waiting, in order
abbrev pub waits : Waiting → List ℕ
waits waiting = waiting.bytes.items
