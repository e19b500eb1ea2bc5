-- While a tentative clearance stands: a state with it, and one without.
use Rattle.std.proofs.Common.{◌≡◌, ◌≢◌, ℕ, Bool, true, false, List, [], ◌∷◌, map, Some, Ok, is_some, refl, sym, ◌∙◌, ap, subst, if◌then◌else◌}
use Rattle.std.specs.Str.{bytes_eq}
use Rattle.mt_base.specs.declared.command.Entry.{Entry}
use Rattle.mt_base.specs.declared.flight.Path.{Path}
use Rattle.mt_base.specs.declared.flight.Path.TheVariants.{Planned, Outer}
use Rattle.mt_base.specs.declared.flight.Record.{Record}
use Rattle.mt_base.specs.Decision.{IsDecided}
use Rattle.mt_base.specs.Effect.{bare_path, changed, effect}
use Rattle.mt_base.specs.Picture.{State}
use Rattle.mt_base.specs.StrikeOut.{AreAlike, ended_by, entry_renumbered, handled_by, renumbered, without}
use Rattle.mt_base.specs.Tables.{Setup}
use Rattle.mt_law.proofs.Bare.{effect_bare}
use Rattle.mt_law.proofs.Behind.{IsBehind, decided_behind, effect_behind}
use Rattle.mt_law.proofs.Flights.{HasMark}
use Rattle.mt_law.proofs.Hits.{decided_bare}
use Rattle.mt_law.proofs.Marks.{mark_kept, not_handled}

-- without the tentative clearance twice
bare_twice : (call : List ℕ) (rs : List Record) → map (changed call bare_path) (map (changed call bare_path) rs) ≡ map (changed call bare_path) rs
bare_twice call [] = refl
bare_twice call (r ∷ rs) =
    let here : changed call bare_path (changed call bare_path r) ≡ changed call bare_path r =
    ap (λ (p : Path). record r { path = p }) (by_path (bytes_eq r.call call) r.path) in
    let rest = bare_twice call rs in
    cc where
      by_path : (b : Bool) (p : Path) → (if b then bare_path (if b then bare_path p else p) else (if b then bare_path p else p)) ≡ (if b then bare_path p else p)
      by_path true (Planned course) = refl
      by_path true (Outer stretch) = refl
      by_path false p = refl

pub behind_alike : (call : List ℕ) (s t : State) → IsBehind s t → AreAlike call s t
behind_alike call s t behind = record { now = behind.same.now; records = ap (map (changed call bare_path)) behind.same.records }

-- The flight has a tentative clearance in the first state, and the second is the first without it, but that it may have fewer entries.
pub record IsMarked (call : List ℕ) (s t : State) : Type 0 where
  pub behind : IsBehind (without call s) t
  pub marked : HasMark call s.records

pub marked_alike : (call : List ℕ) (s t : State) → IsMarked call s t → AreAlike call s t
marked_alike call s t is = record {
  now = is.behind.same.now;
  records = sym (bare_twice call s.records) ∙ ap (map (changed call bare_path)) is.behind.same.records;
}

pub marked_step : (setup : Setup) (call : List ℕ) (lower : ℕ → ℕ) (s t : State) (e : Entry) → IsMarked call s t → ended_by e.command ≢ Some call
    → IsDecided setup s e.who e.command (Ok e)
    → IsDecided setup t e.who (renumbered lower e.command) (Ok (entry_renumbered lower e)) × IsMarked call (effect setup s e) (effect setup t (entry_renumbered lower e))
marked_step setup call lower s t e is going_on decided = (
  decided_behind setup lower (without call s) t e is.behind (decided_bare setup call s e apart decided),
  record {
    behind = subst (λ (u : State). IsBehind u (effect setup t (entry_renumbered lower e))) (effect_bare setup call s e apart)
        (effect_behind setup lower (without call s) t e is.behind);
    marked = ap is_some (mark_kept setup call e.who e.command s.records going_on apart) ∙ is.marked;
  },
) where
  apart : handled_by e.command ≢ Some call
  apart = not_handled setup s call e.who e.command e is.marked decided.0 going_on
