-- The flights that are due, one place after the other.
use Rattle.std.proofs.Common.{◌≡◌, true, false, ℕ, ◌<◌, ◌+◌, List, [], ◌∷◌, ◌++◌, filter, length, map, take, get_or, refl, sym, ◌∙◌, ap}
use Rattle.std.proofs.lemmas.List.{append-nil, map-append, take_more}
use Rattle.std.proofs.lemmas.List.Elements.{filter-append}
use Rattle.mt_base.specs.declared.flight.Record.{Record}
use Rattle.mt_base.specs.Settled.{due_calls, is_due}

abbrev call_of : Record → List ℕ
call_of r = r.call

-- of some flights and one more
pushed : (rs : List Record) (r : Record) → due_calls (rs ++ r ∷ []) ≡ due_calls rs ++ due_calls (r ∷ [])
pushed rs r = ap (map call_of) (filter-append is_due rs (r ∷ [])) ∙ map-append call_of (filter is_due rs) (filter is_due (r ∷ []))

more : (rs : List Record) (i : ℕ) (r : Record) → r ≡ get_or rs i r → i < length rs → due_calls (take (i + 1) rs) ≡ due_calls (take i rs) ++ due_calls (r ∷ [])
more rs i r is below =
    ap due_calls (take_more rs i r below ∙ ap (λ (q : Record). take i rs ++ q ∷ []) (sym is)) ∙ pushed (take i rs) r

pub due_more : (rs : List Record) (i : ℕ) (r : Record) → r ≡ get_or rs i r → i < length rs → is_due r ≡ true
    → due_calls (take i rs) ++ r.call ∷ [] ≡ due_calls (take (i + 1) rs)
due_more rs i r is below due = sym (more rs i r is below ∙ (rw due refl))

pub due_same : (rs : List Record) (i : ℕ) (r : Record) → r ≡ get_or rs i r → i < length rs → is_due r ≡ false
    → due_calls (take i rs) ≡ due_calls (take (i + 1) rs)
due_same rs i r is below due = sym (more rs i r is below ∙ (rw due (append-nil (due_calls (take i rs)))))
