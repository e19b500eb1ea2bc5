use Rattle.std.proofs.Common.{◌≡◌, ◌∙◌, ◌-◌, ℕ, List, ap, arith, subst, sym, take, take_all}
use Rattle.mt_base.specs.declared.command.Entry.{Entry}
use Rattle.mt_history.proofs.LinesRead.{never_bad}
use Rattle.mt_history.specs.Printed.{AreReadAsEntries, printed}
use Rattle.mt_io.specs.Lines.{lines_of}
use Rattle.mt_load.proofs.Rebuilding.{replayed_again}
use Rattle.mt_load.proofs.again.read_back.Goals as goal

pub unreachable-requires : goal.unreachable-requires
unreachable-requires c =
    let read = subst (λ (bytes : List ℕ). AreReadAsEntries (lines_of bytes) (take (c.version.result - 0) c.args.picture.now.history)) (sym c.deref.ensures.value)
    c.in_ok-text.ensures.read_back in
    let both = sym c.in-Err-Line.field-0-is ∙ never_bad c.deref.result.now (take (c.version.result - 0) c.args.picture.now.history) c.in-Err-Line.field-0 read c.in-Err-Line.ensures.bad in
    cc

pub returns-in-Ok-clause-replayable : goal.returns-in-Ok-clause-replayable
returns-in-Ok-clause-replayable c =
    let history : List Entry = c.args.picture.now.history in
    let whole : take (c.version.result - 0) history ≡ history = take_all (c.version.result - 0) history (let n = c.version.ensures in omega arith) in
    let text : c.in_ok-text.text.items ≡ printed history = c.in_ok-text.ensures.text ∙ ap printed whole in
    let back : AreReadAsEntries (lines_of (printed history)) history =
    subst (λ (entries : List Entry). AreReadAsEntries (lines_of (printed history)) entries) whole
    (subst (λ (bytes : List ℕ). AreReadAsEntries (lines_of bytes) (take (c.version.result - 0) history)) text c.in_ok-text.ensures.read_back) in
    let read : AreReadAsEntries (lines_of (printed history)) c.in-Ok.entries =
    subst (λ (bytes : List ℕ). AreReadAsEntries (lines_of bytes) c.in-Ok.entries) (c.deref.ensures.value ∙ text) c.in-Ok.ensures.read in
    replayed_again c.args.picture.now.setup history c.in-Ok.entries back read
