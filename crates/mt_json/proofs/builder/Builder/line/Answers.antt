-- Where the values are plain the text is determined and is read back.
use Rattle.std.proofs.Common.{◌≡◌, ◌≤◌, [], ◌∷◌, ◌++◌, Some, ap, sym, subst, ◌∙◌}
use Rattle.serde_json.specs.Data.{object, depth}
use Rattle.serde_json.specs.Read.{read, max_depth}
use Rattle.serde_json.specs.View.{members_view}
use Rattle.serde_json.specs.Written.{has_float, compact_text}
use Rattle.serde_json.proofs.Views.{view-Object}
use Rattle.mt_json.proofs.OneLine.{one_line}
use Rattle.mt_json.proofs.Plain.{plain_has_float, plain_depth}
use Rattle.mt_json.proofs.builder.Builder.line.Goals as goal

pub returns-clause-plain : goal.returns-clause-plain
returns-clause-plain c h =
    let ms = members_view c.args.self.map.entries in
    let shown = view-Object c.args.self.map in
    let text : c.in_ok-bytes.bytes.items ≡ compact_text (object ms) =
    c.in_ok-bytes.ensures.text (ap has_float shown ∙ plain_has_float ms h) ∙ ap compact_text shown in
    record {
      exact = c.in_ok-push.ensures.items ∙ ap (λ t. t ++ 10 ∷ []) text;
      one_line = one_line (object ms);
      reads_back = ap read (sym text) ∙ c.in_ok-bytes.ensures.reads_back (subst (λ d. depth d ≤ max_depth) (sym shown) (plain_depth ms h)) ∙ ap Some shown;
    }

pub returns-in_err-bytes-clause-ordered : goal.returns-in_err-bytes-clause-ordered
returns-in_err-bytes-clause-ordered c = c.keeps.ensures

pub returns-in_err-push-clause-ordered : goal.returns-in_err-push-clause-ordered
returns-in_err-push-clause-ordered c = c.keeps.ensures

pub returns-clause-ordered : goal.returns-clause-ordered
returns-clause-ordered c = c.keeps.ensures
