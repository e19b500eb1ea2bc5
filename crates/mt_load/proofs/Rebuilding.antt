-- A history that is printed, read back and rebuilt.
use Rattle.std.proofs.Common.{◌≡◌, List, subst}
use Rattle.mt_base.specs.declared.command.Entry.{Entry}
use Rattle.mt_base.specs.declared.rules.Rules.{Rules}
use Rattle.mt_base.specs.History.{IsReplayable}
use Rattle.mt_base.specs.Tables.{Setup, Tables, setup_with}
use Rattle.mt_io.specs.Lines.{lines_of}
use Rattle.mt_history.specs.declared.rebuilding.Wrong.{Wrong}
use Rattle.mt_history.specs.declared.rebuilding.Wrong.TheVariants as wrongs
use Rattle.mt_history.specs.Printed.{AreReadAsEntries, printed}
use Rattle.mt_history.specs.Rebuilt.{IsWrong}
use Rattle.mt_history.proofs.LinesRead.{one_reading}
use Rattle.mt_history.proofs.NeverWrong.{never_wrong}

-- The entries as which a printed history is read are this history, so they can be replayed where it can.
pub replayed_again : (setup : Setup) (history entries : List Entry) → AreReadAsEntries (lines_of (printed history)) history
    → AreReadAsEntries (lines_of (printed history)) entries → IsReplayable setup history → IsReplayable setup entries
replayed_again setup history entries back read replayable =
    subst (λ (h : List Entry). IsReplayable setup h) (one_reading (lines_of (printed history)) history entries back read) replayable

-- So nothing is wrong with them, under the rules and tables as they were read, but that memory is wanted.
pub wants_memory : (setup : Setup) (entries : List Entry) (rules : Rules) (tables : Tables) (wrong : Wrong) → IsReplayable setup entries
    → rules ≡ setup.rules → tables ≡ setup.tables → IsWrong (setup_with rules tables) entries wrong → wrong ≡ wrongs.Memory
wants_memory setup entries rules tables wrong replayable same_rules same_tables is =
    let same : setup_with rules tables ≡ setup = λ i. record { rules = same_rules i; tables = same_tables i } in
    never_wrong setup entries wrong replayable (subst (λ (s : Setup). IsWrong s entries wrong) same is)
