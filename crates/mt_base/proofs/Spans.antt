-- Spans of seconds: the same seconds said otherwise, counted from another one, and one part after another.
use Rattle.std.proofs.Common.{◌≡◌, ℕ, ◌+◌, ◌-◌, ◌<◌, ◌≤◌, ◌↔◌, Option, Some, None, subst, arith, ⊎_elim}
use Rattle.std.proofs.lemmas.Bool.{cases_lt}
use Rattle.mt_base.specs.Span.{IsGreatest, IsLeast, IsSpan, IsSpanOf, joined}

-- the same seconds, said otherwise
pub IsSpan-same : (P Q : ℕ → Type 0) (from to : ℕ) (span : Option (ℕ × ℕ)) → ((k : ℕ) → from ≤ k → k < to → P k ↔ Q k) → IsSpan P from to span → IsSpan Q from to span
IsSpan-same P Q from to None same none = λ k begun ahead q. none k begun ahead ((same k begun ahead).1 q)
IsSpan-same P Q from to (Some span) same is = record {
  inside = is.inside;
  first_is = (same span.0 is.inside.0 (omega (arith, is.inside.1, is.inside.2))).0 is.first_is;
  last_is = (same span.1 (omega (arith, is.inside.0, is.inside.1)) is.inside.2).0 is.last_is;
  none_outside = λ k begun ahead q. is.none_outside k begun ahead ((same k begun ahead).1 q);
}

-- seconds counted from another one, and a span of them
abbrev pub shifted : ℕ → Option (ℕ × ℕ) → Option (ℕ × ℕ)
shifted n None = None
shifted n (Some span) = Some (n + span.0, n + span.1)

pub IsSpan-later : (P Q : ℕ → Type 0) (from n to : ℕ) (span : Option (ℕ × ℕ)) → from + n ≡ to → ((k : ℕ) → from ≤ k → Q k ↔ P (k - from)) → IsSpan P 0 n span
    → IsSpan Q from to (shifted from span)
IsSpan-later P Q from n to None long same none = λ k begun ahead q. none (k - from) (omega arith) (omega arith) ((same k begun).0 q)
IsSpan-later P Q from n to (Some span) long same is = record {
  inside = (omega arith, omega (arith, is.inside.1), omega (arith, is.inside.2));
  first_is = (same (from + span.0) (omega arith)).1 (subst P (omega arith) is.first_is);
  last_is = (same (from + span.1) (omega arith)).1 (subst P (omega arith) is.last_is);
  none_outside = λ k begun ahead q.
      let h = is.none_outside (k - from) (omega arith) (omega arith) ((same k begun).0 q) in
      (omega (arith, h.0), omega (arith, h.1));
}

-- one part after another
split_at : (middle k : ℕ) {X : Type 0} → (k < middle → X) → (middle ≤ k → X) → X
split_at middle k early late = ⊎_elim early late (cases_lt k middle)

pub IsSpan-joined : (P : ℕ → Type 0) (from middle to : ℕ) (span more : Option (ℕ × ℕ)) → from ≤ middle → middle ≤ to → IsSpan P from middle span → IsSpan P middle to more
    → IsSpan P from to (joined span more)
IsSpan-joined P from middle to None None ordered longer is next = λ k begun ahead. split_at middle k (λ early. is k begun early) (λ late. next k late ahead)
IsSpan-joined P from middle to None (Some later) ordered longer is next = record {
  inside = (omega (arith, next.inside.0), next.inside.1, next.inside.2);
  first_is = next.first_is;
  last_is = next.last_is;
  none_outside = λ k begun ahead p. split_at middle k (λ early. absurd (is k begun early p)) (λ late. next.none_outside k late ahead p);
}
IsSpan-joined P from middle to (Some span) None ordered longer is next = record {
  inside = (is.inside.0, is.inside.1, omega (arith, is.inside.2));
  first_is = is.first_is;
  last_is = is.last_is;
  none_outside = λ k begun ahead p. split_at middle k (λ early. is.none_outside k begun early p) (λ late. absurd (next k late ahead p));
}
IsSpan-joined P from middle to (Some span) (Some later) ordered longer is next = record {
  inside = (is.inside.0, omega (arith, is.inside.1, is.inside.2, next.inside.0, next.inside.1), next.inside.2);
  first_is = is.first_is;
  last_is = next.last_is;
  none_outside = λ k begun ahead p. split_at middle k
      (λ early. let h = is.none_outside k begun early p in (h.0, omega (arith, h.1, is.inside.2, next.inside.0, next.inside.1)))
      (λ late. let h = next.none_outside k late ahead p in (omega (arith, h.0, is.inside.1, is.inside.2, next.inside.0), h.1));
}

-- the least and the greatest are the span
pub IsSpan-of : (P : ℕ → Type 0) (low high first last : ℕ) → IsLeast P low high first → IsGreatest P first high last → IsSpanOf P low high first last
IsSpan-of P low high first last least greatest = record {
  inside = (least.begun, greatest.begun, greatest.ahead);
  first_is = least.is;
  last_is = greatest.is;
  none_outside = λ k begun ahead at. (
    ⊎_elim (λ less. absurd (least.none_before k begun less at)) (λ more. more) (cases_lt k first),
    ⊎_elim (λ more. absurd (greatest.none_after k more ahead at)) (λ less. less) (cases_lt last k),
  );
}
