use Rattle.std.proofs.Common.{ℕ, List, ◌++◌, arith, refl, sym, ap, ◌∙◌}
use Rattle.json.proofs.OnLiterals.{json_on_literals}
use Rattle.serde_json.specs.Data.{array, object, string}
use Rattle.serde_json.specs.Written.{compact_text}
use Rattle.mt_base.specs.declared.command.Command.{Command}
use Rattle.mt_base.specs.declared.command.Command.TheVariants.{Plan}
use Rattle.mt_write.specs.Entry.{entry_members, values}
use Rattle.mt_write.specs.Private.Plan.{plan_back, plan_front}
use Rattle.mt_write.proofs.PlanTexts.{plan_text}
use Rattle.mt_write.proofs.Putting.{piece_refused, puts_is, puts_then}
use Rattle.mt_write.proofs.entry.EntryWritten.put.Goals as goal

abbrev text_of : ℕ → Command → List ℕ
text_of who command = compact_text (object (entry_members who command))

pub returns-in_err-put_plan_front-in-Plan : goal.returns-in_err-put_plan_front-in-Plan
returns-in_err-put_plan_front-in-Plan c =
    let p = c.in-Plan in
    let who = c.args.self.now.who in
    piece_refused c.from_residual.result c.in_err-put_plan_front-in-Plan.field-0.0 c.args.out.now c.args.out.now c.put_plan_front.new.out
    (text_of who c.args.self.now.command) (text_of who c.args.self.now.command)
    (plan_front p.at p.call p.from p.level) (compact_text (array (values string p.route)) ++ plan_back p.rvsm p.kind who) c.from_residual.ensures.0
    (sym (plan_text who p.call p.kind p.route p.at p.from p.level p.rvsm ∙ ap (text_of who) (sym p.is))) c.in_err-put_plan_front-in-Plan.ensures refl (omega arith)

pub returns-in_ok-put_plan_front-in-Plan : goal.returns-in_ok-put_plan_front-in-Plan
returns-in_ok-put_plan_front-in-Plan c =
    let p = c.in-Plan in
    let who = c.args.self.now.who in
    puts_is c.put_route_on.result c.args.out.now c.put_route_on.new.out _ _
    (plan_text who p.call p.kind c.items.result.now p.at p.from p.level p.rvsm
    ∙ ap (λ route. text_of who (Plan p.call p.kind route p.at p.from p.level p.rvsm)) c.items.ensures ∙ ap (text_of who) (sym p.is))
    (puts_then c.put_route_on.result c.args.out.now c.put_plan_front.new.out c.put_route_on.new.out _ _ c.in_ok-put_plan_front-in-Plan.ensures c.put_route_on.ensures)

pub returns-in-External : goal.returns-in-External
unfolding json_on_literals
returns-in-External c = puts_is c.put_external.result c.args.out.now c.put_external.new.out _ _ (ap (text_of c.args.self.now.who) (sym c.in-External.is)) c.put_external.ensures

pub returns-in-Drop : goal.returns-in-Drop
unfolding json_on_literals
returns-in-Drop c = puts_is c.put_call.result c.args.out.now c.put_call.new.out _ _ (ap (text_of c.args.self.now.who) (sym c.in-Drop.is)) c.put_call.ensures

pub returns-in-Report : goal.returns-in-Report
unfolding json_on_literals
returns-in-Report c = puts_is c.put_report.result c.args.out.now c.put_report.new.out _ _ (ap (text_of c.args.self.now.who) (sym c.in-Report.is)) c.put_report.ensures

pub returns-in-Tick : goal.returns-in-Tick
unfolding json_on_literals
returns-in-Tick c = puts_is c.put_tick.result c.args.out.now c.put_tick.new.out _ _ (ap (text_of c.args.self.now.who) (sym c.in-Tick.is)) c.put_tick.ensures

pub returns-in-Renew : goal.returns-in-Renew
unfolding json_on_literals
returns-in-Renew c = puts_is c.put_call-in-Renew.result c.args.out.now c.put_call-in-Renew.new.out _ _ (ap (text_of c.args.self.now.who) (sym c.in-Renew.is)) c.put_call-in-Renew.ensures

pub returns-in-Clear : goal.returns-in-Clear
unfolding json_on_literals
returns-in-Clear c =
    let p = c.in-Clear in
    puts_is c.put_clear.result c.args.out.now c.put_clear.new.out _ _
    (ap (text_of c.args.self.now.who) (sym p.is)) c.put_clear.ensures

pub returns-in-Accept : goal.returns-in-Accept
unfolding json_on_literals
returns-in-Accept c = puts_is c.put_accept.result c.args.out.now c.put_accept.new.out _ _ (ap (text_of c.args.self.now.who) (sym c.in-Accept.is)) c.put_accept.ensures

pub returns-in-Tentative : goal.returns-in-Tentative
unfolding json_on_literals
returns-in-Tentative c =
    let p = c.in-Tentative in
    puts_is c.put_clear-in-Tentative.result c.args.out.now c.put_clear-in-Tentative.new.out _ _
    (ap (text_of c.args.self.now.who) (sym p.is)) c.put_clear-in-Tentative.ensures

pub returns-in-Withdraw : goal.returns-in-Withdraw
unfolding json_on_literals
returns-in-Withdraw c = puts_is c.put_withdraw.result c.args.out.now c.put_withdraw.new.out _ _ (ap (text_of c.args.self.now.who) (sym c.in-Withdraw.is)) c.put_withdraw.ensures

pub returns-in-Commit : goal.returns-in-Commit
unfolding json_on_literals
returns-in-Commit c = puts_is c.put_call-in-Commit.result c.args.out.now c.put_call-in-Commit.new.out _ _ (ap (text_of c.args.self.now.who) (sym c.in-Commit.is)) c.put_call-in-Commit.ensures
