-- Of entries that can be replayed nothing is wrong.
use Rattle.std.proofs.Common.{◌≡◌, ℕ, List, Ok, Err, refl, take}
use Rattle.mt_base.specs.declared.command.Entry.{Entry}
use Rattle.mt_base.specs.declared.command.Refusal.{Refusal}
use Rattle.mt_base.specs.Effect.{state_of}
use Rattle.mt_base.specs.History.{IsReplayable}
use Rattle.mt_base.specs.Tables.{Setup}
use Rattle.mt_base.proofs.OneSolution.{one_decision}
use Rattle.mt_history.specs.declared.rebuilding.Wrong.{Wrong}
use Rattle.mt_history.specs.declared.rebuilding.Wrong.TheVariants as wrongs
use Rattle.mt_history.specs.Rebuilt.{IsIllegalAt, IsLateAt, IsWrong}

not_illegal : (setup : Setup) (entries : List Entry) (at : ℕ) (refusal : Refusal) → IsReplayable setup entries → IsIllegalAt setup entries at refusal → ⊥
not_illegal setup entries at refusal replayable wrong =
    let decided = (replayable at wrong.entry wrong.is).0 in
    let both = one_decision setup (state_of setup (take at entries)) wrong.entry.who wrong.entry.command (Ok wrong.entry) (Err refusal) decided wrong.refused in
    cc

not_late : (setup : Setup) (entries : List Entry) (at : ℕ) → IsReplayable setup entries → IsLateAt setup entries at → ⊥
not_late setup entries at replayable wrong = wrong.late (replayable at wrong.entry wrong.is).1

pub never_wrong : (setup : Setup) (entries : List Entry) (wrong : Wrong) → IsReplayable setup entries → IsWrong setup entries wrong → wrong ≡ wrongs.Memory
never_wrong setup entries (wrongs.Illegal at refusal) replayable is = absurd (not_illegal setup entries at refusal replayable is)
never_wrong setup entries (wrongs.Late at) replayable is = absurd (not_late setup entries at replayable is)
never_wrong setup entries wrongs.Memory replayable is = refl
