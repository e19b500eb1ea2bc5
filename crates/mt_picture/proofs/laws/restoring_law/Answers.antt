use Rattle.std.proofs.Common.{◌≡◌, ◌∙◌, List, [], ◌∷◌, ◌++◌, length, sym, ap, subst, arith, length-append}
use Rattle.mt_base.specs.declared.command.Command.TheVariants.{Withdraw}
use Rattle.mt_base.specs.declared.command.Entry.{Entry}
use Rattle.mt_base.specs.Decision.{checks, look_at}
use Rattle.mt_base.specs.Effect.{state_of}
use Rattle.mt_base.specs.History.{IsLegal}
use Rattle.mt_base.specs.Picture.{IsPublished, State}
use Rattle.mt_base.specs.StrikeOut.{withdrawal}
use Rattle.mt_base.proofs.CheckLemmas.{answer_is}
use Rattle.mt_picture.proofs.laws.restoring_law.Goals as goal

pub returns : goal.returns
returns c = λ before after who call force entered conflicts is legal published.
    let s : State = state_of before.setup before.history in
    let e : Entry = withdrawal who call force in
    let same : e ≡ is.entry = answer_is (checks before.setup (look_at s (Withdraw call force)) who (Withdraw call force)) e is.entry is.decided.0 in
    let longer : after.history ≡ before.history ++ e ∷ [] = is.longer ∙ ap (λ (x : Entry). before.history ++ x ∷ []) (sym same) in
    let legal_here = subst (IsLegal after.setup) longer legal in
    let w = c.withdrawal_law.ensures after.setup before.history [] who call force legal_here.replayable in
    let legal_there = subst (IsLegal after.setup) (sym w.1) legal_here in
    let history_is = w.1 ∙ sym longer in
    record {
      withdrawn = w.0;
      history_is = history_is;
      last = let n = ap length longer in let m = length-append before.history (e ∷ []) in let k = w.2 in omega (arith, n, m, k);
      legal = c.strike_out_law.ensures.legal after.setup w.0 legal_there;
      published = (c.strike_out_law.ensures.published after.setup w.0 conflicts legal_there).0
          (subst (λ (h : List Entry). IsPublished after.setup (state_of after.setup h) conflicts) (sym history_is) published);
    }
