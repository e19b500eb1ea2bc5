-- A member more, and the least key so far or its own.
use Rattle.std.proofs.Common.{◌≡◌, ◌+◌, [], ◌∷◌, ◌++◌, take, Bool, cond, option_map, Some, subst, sym, ap, ◌∙◌, arith}
use Rattle.std.proofs.lemmas.List.{take_more}
use Rattle.mt_json.specs.Keys.{is_allowed, other_key}
use Rattle.mt_json.specs.Private.Keys.{lesser, AreAmong}
use Rattle.mt_json.specs.View.{members_view}
use Rattle.mt_json.proofs.LeastOther.{other_key-more}
use Rattle.mt_json.proofs.fields.Fields.least_other.Goals as goal
use Rattle.mt_json.proofs.fields.Fields.least_other.Goals.{in-Some, in-None}

pub loop-member-preserved : goal.loop-member-preserved
loop-member-preserved c =
    let xs = c.args.self.now.list.now in
    let keys = c.args.keys.now in
    let i = c.loop-member.member-index in
    let m = c.member-item.result in
    let front : take (i + 1) xs ≡ take i xs ++ m ∷ [] = take_more xs i m (omega arith) ∙ ap (λ y. take i xs ++ y ∷ []) (sym c.member-item.is) in
    let old = other_key keys (members_view (take i xs)) in
    let step = ap (λ ys. other_key keys (members_view ys)) front ∙ other_key-more keys (take i xs) m in
    let pick = λ (b : Bool). cond b old (Some (lesser m.0.now old)) in
    let met : is_allowed c.as_bytes-words.result.now c.as_bytes.result.now ≡ is_allowed keys m.0.now =
    ap (λ k. is_allowed c.as_bytes-words.result.now k) c.as_bytes.ensures.value ∙ ap (λ ws. is_allowed ws m.0.now) c.as_bytes-words.ensures.value in
    elim c.match-met.branch [
      | in-Some w ↦ (
        ap (option_map (λ s. s.now)) w.least-is ∙ c.loop-member.invariant.0 ∙ sym (step ∙ ap pick (sym met ∙ w.in-Some.ensures.0)),
        subst (λ r. AreAmong r.now c.as_bytes-words.result.now) (sym w.rest-is) w.in-Some.ensures.1,
      )
      | in-None w ↦ (
        ap (option_map (λ s. s.now)) w.least-is ∙ ap Some (w.lesser.ensures ∙ ap (lesser m.0.now) c.loop-member.invariant.0) ∙ sym (step ∙ ap pick (sym met ∙ w.in-None.ensures)),
        subst (λ r. AreAmong r.now c.as_bytes-words.result.now) (sym w.rest-is) c.loop-member.invariant.1,
      )
    ]
