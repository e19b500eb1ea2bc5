-- The pairs that are due, put together from those of some seconds.
use Rattle.std.proofs.Common.{◌≡◌, ℕ, ◌<◌, ◌≤◌, ◌⊎◌, inl, inr, ⊎_elim, ◌↔◌, true, false, Bool, Result, Ok, Err, OnOk, true≢false, List, ◌++◌, max, sym, ◌∙◌, subst, arith}
use Rattle.std.specs.List.{filter}
use Rattle.std.proofs.lemmas.Bool.{cases_lt}
use Rattle.std.proofs.lemmas.List.Elements.{Contains-append_cases, Contains-append_left, Contains-append_right}
use Rattle.std.proofs.lemmas.List.Kept.{AllPairs-filter}
use Rattle.mt_base.specs.Picture.{window_end}
use Rattle.mt_base.proofs.Members.{Contains-filter, distinct_append}
use Rattle.mt_edges.specs.declared.edge.Edge.{Edge}
use Rattle.mt_edges.specs.Pairs.{AreDistinctPairs, HaveSameEnds, IsEach}
use Rattle.mt_kept.specs.declared.stale.Stale.{Stale}
use Rattle.mt_kept.specs.Private.Stale.{AreDue, AreDueAdded, AreStale, comes_due}
use Rattle.mt_kept.proofs.Moving.{one_kept}
use Rattle.mt_kept.proofs.Renewed.{due_is}

-- those of the pairs of some seconds that are due
pub due_of : (p : Edge → Bool) (edges found : List Edge) (from to : ℕ) → IsEach (λ e. (from ≤ e.first) × (e.first < to)) edges found
    → IsEach (λ e. (from ≤ e.first) × (e.first < to) × (p e ≡ true)) edges (filter p found)
due_of p edges found from to each = record {
  exact = λ e. (
    (λ held. let h = (Contains-filter p found e).0 held in let x = (each.exact e).0 h.0 in (x.0, (x.1.0, x.1.1, h.1))),
    (λ h. (Contains-filter p found e).1 ((each.exact e).1 (h.0, (h.1.0, h.1.1)), h.1.2)),
  );
  apart = AllPairs-filter (λ e f. ¬ HaveSameEnds e f) p found each.apart;
}

-- they were put after others
pub due_added : {E : Type 0} (r : Result (Unit {0}) E) (p : Edge → Bool) (edges found old new : List Edge) (from to : ℕ)
    → IsEach (λ e. (from ≤ e.first) × (e.first < to)) edges found → OnOk r (new ≡ old ++ filter p found) → OnOk r (AreDueAdded edges from to p old new)
due_added (Ok x) p edges found old new from to each done = record { added = filter p found; is = done; each = due_of p edges found from to each }
due_added (Err x) p edges found old new from to each done = done

-- pairs of which some pass one test and others another, where none passes both
each_join : (P Q : Edge → Type 0) (edges a b : List Edge) → AreDistinctPairs edges → ((e : Edge) → P e → Q e → ⊥) → IsEach P edges a → IsEach Q edges b
    → IsEach (λ e. P e ⊎ Q e) edges (a ++ b)
each_join P Q edges a b once apart one two = record {
  exact = λ e. (
    (λ held. ⊎_elim
        (λ first. let h = (one.exact e).0 first in (h.0, inl h.1))
        (λ second. let h = (two.exact e).0 second in (h.0, inr h.1)) (Contains-append_cases a b e held)),
    (λ h. ⊎_elim
        (λ p. Contains-append_left a b e ((one.exact e).1 (h.0, p)))
        (λ q. Contains-append_right a b e ((two.exact e).1 (h.0, q))) h.1),
  );
  apart = distinct_append (λ e f. ¬ HaveSameEnds e f) a b one.apart two.apart (λ e f e_in f_in. λ ends.
      let p = (one.exact e).0 e_in in
      let q = (two.exact f).0 f_in in
      apart e p.1 (subst Q (sym (one_kept edges e f once p.0 q.0 ends)) q.1));
}

each_as : (P Q : Edge → Type 0) (edges found : List Edge) → ((e : Edge) → P e ↔ Q e) → IsEach P edges found → IsEach Q edges found
each_as P Q edges found same each = record {
  exact = λ e. (
    (λ held. let h = (each.exact e).0 held in (h.0, (same e).0 h.1)),
    (λ h. (each.exact e).1 (h.0, (same e).1 h.1)),
  );
  apart = each.apart;
}

-- the due pairs that begin in some seconds
abbrev DueFrom : ℕ → ℕ → Stale → ℕ → ℕ → Edge → Type 0
DueFrom old now stale from to e = (from ≤ e.first) × (e.first < to) × (comes_due old now stale e ≡ true)

-- those that begin between the moments, or between the ends of the look-aheads, and where some second of both is marked those that begin there
module _ (old now : ℕ) (stale : Stale) (edges : List Edge) (later : old ≤ now) (are : AreStale old now stale) (once : AreDistinctPairs edges) (a b : List Edge)
    (one : IsEach (DueFrom old now stale old now) edges a)
    (two : IsEach (DueFrom old now stale (max (window_end old) now) (window_end now)) edges b) where
  outer : IsEach (λ e. DueFrom old now stale old now e ⊎ DueFrom old now stale (max (window_end old) now) (window_end now) e) edges (a ++ b)
  outer = each_join (DueFrom old now stale old now) (DueFrom old now stale (max (window_end old) now) (window_end now)) edges a b once
      (λ e p q. absurd (let x = p.1 in let y = q.0 in omega arith)) one two

  pub due_bare : stale.marked ≡ false → AreDue old now stale edges (a ++ b)
  due_bare none =
      each_as (λ e. DueFrom old now stale old now e ⊎ DueFrom old now stale (max (window_end old) now) (window_end now) e)
      (λ e. (old ≤ e.first) × (e.first < window_end now) × (comes_due old now stale e ≡ true)) edges (a ++ b)
      (λ e. (
        (λ either. ⊎_elim (λ p. (p.0, (let x = p.1 in omega arith), p.2)) (λ q. ((let x = q.0 in omega arith), q.1, q.2)) either),
        (λ h. let low = h.0 in let high = h.1 in ⊎_elim
            (λ begun. inl (low, begun, h.2))
            (λ ahead. ⊎_elim
            (λ both. absurd (true≢false (sym (due_is old now stale e h.2).some ∙ are.bare none e.first ahead both)))
            (λ past. inr (omega arith, high, h.2)) (cases_lt e.first (window_end old))) (cases_lt e.first now)),
      )) outer

  pub due_marked : (c : List Edge) → IsEach (DueFrom old now stale now (window_end old)) edges c → AreDue old now stale edges ((a ++ b) ++ c)
  due_marked c three =
      each_as (λ e. (DueFrom old now stale old now e ⊎ DueFrom old now stale (max (window_end old) now) (window_end now) e)
      ⊎ DueFrom old now stale now (window_end old) e)
      (λ e. (old ≤ e.first) × (e.first < window_end now) × (comes_due old now stale e ≡ true)) edges ((a ++ b) ++ c)
      (λ e. (
        (λ either. ⊎_elim
            (λ some. ⊎_elim (λ p. (p.0, (let x = p.1 in omega arith), p.2)) (λ q. ((let x = q.0 in omega arith), q.1, q.2)) some)
            (λ r. ((let x = r.0 in omega arith), (let x = r.1 in omega arith), r.2)) either),
        (λ h. let low = h.0 in let high = h.1 in ⊎_elim
            (λ begun. inl (inl (low, begun, h.2)))
            (λ ahead. ⊎_elim
            (λ both. inr (ahead, both, h.2))
            (λ past. inl (inr (omega arith, high, h.2))) (cases_lt e.first (window_end old))) (cases_lt e.first now)),
      ))
      (each_join (λ e. DueFrom old now stale old now e ⊎ DueFrom old now stale (max (window_end old) now) (window_end now) e)
      (DueFrom old now stale now (window_end old)) edges (a ++ b) c once
      (λ e some r. ⊎_elim (λ p. absurd (let x = p.1 in let y = r.0 in omega arith)) (λ q. absurd (let x = q.0 in let y = r.1 in omega arith)) some)
      outer three)
