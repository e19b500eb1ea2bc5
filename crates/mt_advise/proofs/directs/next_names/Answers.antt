use Rattle.std.proofs.Common.{◌≡◌, ◌∙◌, ℕ, suc, ◌+◌, ◌-◌, ap, arith, drop, take, length, refl}
use Rattle.std.proofs.lemmas.List.{drop_min, take_min, take_rest}
use Rattle.mt_advise.proofs.directs.next_names.Goals as goal

pub returns : goal.returns
returns c =
    let names = c.items-names.result.now in
    let next : c.args.place + 1 ≡ suc c.args.place = omega arith in
    let ahead : take (length names - c.min-first.result) (drop c.min-first.result names) ≡ drop (suc c.args.place) names =
    take_rest names c.min-first.result ∙ (rw c.min-first.ensures (drop_min (c.args.place + 1) names) ∙ ap (λ (k : ℕ). drop k names) next) in
    rw (c.min.ensures, ahead) (take_min 8 (drop (suc c.args.place) names) ∙ rw c.items-names.ensures refl)
