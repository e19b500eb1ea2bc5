use Rattle.std.proofs.Common.{ℕ, List, sym, ap, ◌∙◌, codes, pos, unwrap_or}
use Rattle.json.proofs.OnLiterals.{json_on_literals}
use Rattle.serde_json.specs.Data.{member, no_members, object}
use Rattle.serde_json.specs.Written.{compact_text}
use Rattle.mt_base.specs.declared.clearance.Clearance.{Clearance}
use Rattle.mt_base.specs.declared.clearance.Clearance.TheVariants.{Level, Direct}
use Rattle.mt_write.specs.Entry.{clearance_members, whole}
use Rattle.mt_write.proofs.Putting.{puts_is}
use Rattle.mt_write.proofs.entry.put_clear.Goals as goal

abbrev cleared : List ℕ → List ℕ → ℕ → Clearance → ℕ → List ℕ
cleared word call who clearance eff = compact_text (object (clearance_members word call clearance eff (member (codes "who") (whole (pos who)) no_members)))

pub returns-in-Level : goal.returns-in-Level
unfolding json_on_literals
returns-in-Level c =
    let text = cleared c.args.word.now c.args.call.now c.args.who in
    puts_is c.put_object.result c.args.out.now c.put_object.new.out _ _
    (ap (text (Level c.in-Level.level)) c.unwrap_or-eff.ensures ∙ ap (λ clearance. text clearance (unwrap_or c.args.eff 0)) (sym c.in-Level.is)) c.put_object.ensures

pub returns-in-Direct : goal.returns-in-Direct
unfolding json_on_literals
returns-in-Direct c =
    let text = cleared c.args.word.now c.args.call.now c.args.who in
    puts_is c.put_object-in-Direct.result c.args.out.now c.put_object-in-Direct.new.out _ _
    (ap (text (Direct c.in-Direct.fix)) c.unwrap_or-eff.ensures ∙ ap (λ clearance. text clearance (unwrap_or c.args.eff 0)) (sym c.in-Direct.is)) c.put_object-in-Direct.ensures
