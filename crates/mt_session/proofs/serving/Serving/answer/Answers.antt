use Rattle.std.proofs.Common.{◌≡◌, ◌≤◌, ℕ, List, length, Ok, Err, ap, inl, inr, ⊎_elim, false, refl, arith}
use Rattle.std.proofs.lemmas.Bool.Decides.{nat_tests}
use Rattle.std.specs.Prelude.{nat_lt}
use Rattle.mt_base.specs.Rules.{usual_rules}
use Rattle.mt_read.specs.Line.{line as read_as}
use Rattle.mt_read.specs.declared.request.Request.{Request}
use Rattle.mt_session.specs.Session.{Session, asked_in_role, role_sender}
use Rattle.mt_session.proofs.Replying.{unread_replied}
use Rattle.mt_session.proofs.Stays.{stays_itself}
use Rattle.mt_session.proofs.serving.Serving.answer.Goals as goal

-- what a line that isn't too long was read as
asked_as : (s : Session) (line : List ℕ) (x : ℕ × Request) → length line ≤ 65536 → Ok x ≡ read_as (role_sender s.role) usual_rules line → asked_in_role s.role line ≡ Ok x
asked_as s line x short is =
    let fits : nat_lt 65536 (length line) ≡ false = grind (arith, nat_tests) in
    rw (fits, ← is) refl

pub returns-in-Ok-clause-replied : goal.returns-in-Ok-clause-replied
returns-in-Ok-clause-replied g c =
    let short = c.requires.short in
    let is = asked_as c.args.self.now.session c.args.line.now (c.in-Ok.field-0-0, c.in-Ok.request) short (rw (c.sender.ensures, c.usual.ensures.value) at c.in-Ok.ensures.exact) in
    rw is (⊎_elim (λ served. inl served) (λ starved. inr (short, starved)) c.serve.ensures.served)

pub returns-in-Ok-clause-job : goal.returns-in-Ok-clause-job
returns-in-Ok-clause-job g c =
    let is = asked_as c.args.self.now.session c.args.line.now (c.in-Ok.field-0-0, c.in-Ok.request) c.requires.short (rw (c.sender.ensures, c.usual.ensures.value) at c.in-Ok.ensures.exact) in
    rw is c.serve.ensures.job

pub returns-in-Err-clause-replied : goal.returns-in-Err-clause-replied
returns-in-Err-clause-replied g c = unread_replied c.args.self.now.session c.args.line.now c.in-Err.no _ c.requires.short (rw (c.sender.ensures, c.usual.ensures.value) at c.in-Err.ensures.exact) (ap Err c.unread.ensures.reply)

pub returns-in-Ok-clause-on : goal.returns-in-Ok-clause-on
returns-in-Ok-clause-on g c = c.serve.ensures.on

pub returns-in-Ok-clause-fit : goal.returns-in-Ok-clause-fit
returns-in-Ok-clause-fit g c = c.serve.ensures.fit

pub returns-in-Err-clause-on : goal.returns-in-Err-clause-on
returns-in-Err-clause-on g c = stays_itself _

pub returns-in-Err-clause-fit : goal.returns-in-Err-clause-fit
returns-in-Err-clause-fit g c = c.unread.ensures.fit
