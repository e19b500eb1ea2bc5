use Rattle.std.proofs.Common.{◌≡◌, List, [], ℕ, ◌++◌, Result, Ok, Err, OnOk}
use Rattle.mt_picture.specs.Story.{Story}
use Rattle.mt_serve.specs.Closing.{IsClosing, closing_text}
use Rattle.mt_serve.specs.declared.closing.Closing.{Closing}
use Rattle.mt_serve.specs.declared.counts.Counts.{Counts}
use Rattle.mt_top.specs.Serve.{IsClosingLine}
use Rattle.mt_top.proofs.serving.sum_up_in.Goals as goal

no_error : {T E : Type 0} (error : E) (done : T) → ◌≡◌ {A = Result T E} (Err error) (Ok done) → ⊥
no_error error done same = cc

line_of : {T E : Type 0} (result : Result T E) (done : T) (closed : Story) (counts : Counts) (closing : Closing) (empty line : List ℕ) → result ≡ Ok done
    → empty ≡ [] → IsClosing closed counts closing → OnOk result (line ≡ empty ++ closing_text closing) → IsClosingLine closed counts line
line_of (Ok _) done closed counts closing empty line ok none summed is = record { closing = closing; summed = summed; line_is = rw none at is }
line_of (Err error) done closed counts closing empty line ok none summed is = absurd (no_error error done ok)

pub returns : goal.returns
returns c =
    line_of c.put_closing.result c.in-Ok.field-0 c.args.served.now.picture c.args.served.now.counts c.sum_up.result c.clear.new.self.items
    c.put_closing.new.line.items c.in-Ok.is c.clear.ensures.items c.sum_up.ensures c.put_closing.ensures.put
