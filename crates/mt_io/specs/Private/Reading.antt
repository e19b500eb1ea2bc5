-- No public contract names these: they are of private steps and of proofs.
use Rattle.std.specs.Prelude.{◌≡◌, ◌<◌, ◌≤◌, ℕ, ◌+◌, ◌^◌, true, false, [], length, IfSome}
use Rattle.std.specs.declared.option.Option.{Option}
use Rattle.mt_io.specs.declared.line.LineFault.{LineFault}
use Rattle.mt_io.specs.Reading.{IsFaultAt, Store}

-- each line given took a byte; at the end, and after a fault, none is ahead
pub record IsReaderSound (store : Store) (given : ℕ) (stop : Option LineFault) : Type 0 where
  pub counted : given + length store.ahead ≤ store.taken
  pub limit : store.taken ≤ 2 ^ 32
  pub over : store.ended ≡ true → (store.ahead ≡ []) × (store.taken < 2 ^ 32)
  pub stopped : IfSome stop (λ fault. IsFaultAt fault store.taken × (store.ahead ≡ []) × (store.ended ≡ false))
