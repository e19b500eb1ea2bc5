use Rattle.std.proofs.Common.{◌≡◌, ◌+◌, ◌++◌, ◌∷◌, [], ℕ, Bool, List, ap, cond, filter, get_or, map, refl, sym, take, ◌∙◌}
use Rattle.std.proofs.lemmas.List.{append-nil, append_assoc, map-append, take_all}
use Rattle.std.proofs.lemmas.List.Elements.{filter_more}
use Rattle.mt_kept.specs.declared.finds.Candidate.{Candidate}
use Rattle.mt_meet.specs.declared.table.Met.{Met}
use Rattle.mt_picture.specs.Private.Candidates.{candidate_met, is_made_since}
use Rattle.mt_picture.proofs.candidates.add_met.Goals as goal
use Rattle.mt_picture.proofs.candidates.add_met.Goals.{then-is_made_since+in_ok-push, else-is_made_since}

pub loop-met-init : goal.loop-met-init
loop-met-init c = sym (append-nil c.args.list.now.items)

-- one more that counts, or that doesn't
one_more : (p : Met → Bool) (xs : List Met) (i : ℕ) (met : Met) (old mid new : List Candidate) → filter p (take (i + 1) xs) ≡ filter p (take i xs) ++ cond (p met) (met ∷ []) []
    → mid ≡ old ++ map candidate_met (filter p (take i xs)) → new ≡ mid ++ map candidate_met (cond (p met) (met ∷ []) [])
    → new ≡ old ++ map candidate_met (filter p (take (i + 1) xs))
one_more p xs i met old mid new more so_far is =
    is ∙ ap (λ (cs : List Candidate). cs ++ map candidate_met (cond (p met) (met ∷ []) [])) so_far
    ∙ append_assoc old (map candidate_met (filter p (take i xs))) (map candidate_met (cond (p met) (met ∷ []) []))
    ∙ ap (λ (cs : List Candidate). old ++ cs) (sym (map-append candidate_met (filter p (take i xs)) (cond (p met) (met ∷ []) [])))
    ∙ ap (λ (ms : List Met). old ++ map candidate_met ms) (sym more)

abbrev none_met : Met
none_met = record { item = 0; first = 0; last = 0 }

pub loop-met-preserved : goal.loop-met-preserved
loop-met-preserved c =
    let xs = c.deref-met-items.result.now in
    let i = c.loop-met.met-index in
    let met = get_or xs i none_met in
    let p : Met → Bool = λ m. is_made_since c.args.snapshot.now.slots c.args.version m.item in
    let more = filter_more p xs i none_met c.loop-met-test.true in
    elim c.if-is_made_since.branch [
      | then-is_made_since+in_ok-push w ↦ one_more p xs i met c.args.list.now.items c.loop-met.list.items _ more c.loop-met.invariant
          (rw (w.list-is, w.in_ok-push.ensures.items, w.candidate_met.ensures, sym c.is_made_since.ensures ∙ w.if-is_made_since.true) refl)
      | else-is_made_since w ↦ one_more p xs i met c.args.list.now.items c.loop-met.list.items _ more c.loop-met.invariant
          (rw (w.list-is, sym c.is_made_since.ensures ∙ w.if-is_made_since.false) (sym (append-nil c.loop-met.list.items)))
    ]

pub returns : goal.returns
returns c =
    let xs = c.deref-met-items.result.now in
    let p : Met → Bool = λ m. is_made_since c.args.snapshot.now.slots c.args.version m.item in
    record {
      more = map candidate_met (filter p xs);
      met = record { list = xs; met = rw (← c.deref-met-items.ensures.value) at c.in_ok-all.ensures; is = refl };
      is = c.loop-met.invariant ∙ ap (λ (ms : List Met). c.args.list.now.items ++ map candidate_met (filter p ms))
          (take_all c.loop-met.met-index xs c.loop-met-test.false);
    }
