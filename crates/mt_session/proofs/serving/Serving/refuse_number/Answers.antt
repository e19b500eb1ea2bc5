use Rattle.std.proofs.Common.{◌≡◌, ℕ, Some, inl, inr, refl, sym, ◌∙◌, Result, Ok, Err}
use Rattle.mt_board.specs.declared.ask.Answer.{Answer}
use Rattle.mt_board.specs.declared.ask.Answer.TheVariants as answers
use Rattle.mt_board.specs.declared.ask.Ask.{Ask}
use Rattle.mt_board.specs.declared.ask.Ask.TheVariants.{History}
use Rattle.mt_board.specs.declared.no.No.{No}
use Rattle.mt_board.specs.declared.no.No.TheVariants.{Memory, Refused}
use Rattle.mt_board.specs.Asking.{IsRead}
use Rattle.mt_board.specs.BoardSeat.{BoardSeat, HasLooked, HasSeen}
use Rattle.mt_session.specs.Private.Served.{told_version}
use Rattle.mt_session.proofs.serving.Serving.refuse_number.Goals as goal

-- a read is a look
looked_by : (s t : BoardSeat) (ask : Ask) (result : Result Answer No) → IsRead s ask result t → HasLooked s t
looked_by s t ask (Ok answer) read = read.0.looked
looked_by s t ask (Err (Refused refusal version)) read = read.0.looked
looked_by s t ask (Err Memory) read = read

-- and one that tells entries has seen its version
seen_by : (s t : BoardSeat) (ask : Ask) (result : Result Answer No) (version : ℕ) → IsRead s ask result t → told_version result ≡ Some version → HasSeen s t version
seen_by s t ask (Ok (answers.History entries told)) version read is =
    let same : told ≡ version = cc in
    rw (← same) read.0
seen_by s t ask (Ok (answers.List conflicts told)) version read is = cc
seen_by s t ask (Ok (answers.Check conflicts told)) version read is = cc
seen_by s t ask (Ok (answers.Due calls told)) version read is = cc
seen_by s t ask (Ok (answers.Flight view)) version read is = cc
seen_by s t ask (Err denied) version read is = cc

pub returns-in-Some-clause-refused : goal.returns-in-Some-clause-refused
returns-in-Some-clause-refused g c =
    let (seat, read, is) = c.read.ensures.read in
    inl (record {
      seat = seat;
      version = c.in-Some.version;
      seen = seen_by _ _ (History 0 0) c.read.result c.in-Some.version read (sym c.told_version.ensures ∙ c.in-Some.is);
      given = record { reply_is = refl; next_is = is };
    })

pub returns-in-None-clause-refused : goal.returns-in-None-clause-refused
returns-in-None-clause-refused g c =
    let (seat, read, is) = c.read.ensures.read in
    inr (record { seat = seat; left = looked_by _ _ (History 0 0) c.read.result read; given = record { reply_is = refl; next_is = is } })

pub returns-in-Some-clause-on : goal.returns-in-Some-clause-on
returns-in-Some-clause-on g c = c.read.ensures.on

pub returns-in-None-clause-on : goal.returns-in-None-clause-on
returns-in-None-clause-on g c = c.read.ensures.on
