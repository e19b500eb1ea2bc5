-- Writes of one piece after another.
use Rattle.std.proofs.Common.{◌≡◌, ℕ, ◌-◌, List, ◌++◌, length, take, drop, sym, ◌∙◌, ap, append_assoc, take-append-drop}
use Rattle.std.proofs.lemmas.List.{take_rest}
use Rattle.std.specs.declared.option.Option.{Option}
use Rattle.std.specs.Io.KnownBytes.{Appends}
use Rattle.mt_io.proofs.Known.{appends_on}

-- n bytes more were taken
pub front_more : (before mid after : Option (List ℕ)) (bytes rest : List ℕ) (n : ℕ)
    → ((front : List ℕ) × (bytes ≡ front ++ rest) × Appends before mid front) → Appends mid after (take n rest)
    → (front : List ℕ) × (bytes ≡ front ++ take (length rest - n) (drop n rest)) × Appends before after front
front_more before mid after bytes rest n so_far more = (
  so_far.0 ++ take n rest,
  rw take_rest (so_far.1 ∙ ap (λ xs. so_far.0 ++ xs) (sym (take-append-drop n rest)) ∙ sym (append_assoc so_far.0 (take n rest) (drop n rest))),
  appends_on before mid after so_far.0 (take n rest) so_far.2 more,
)
