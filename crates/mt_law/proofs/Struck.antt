-- The strike-out of a legal history.
use Rattle.std.proofs.Common.{◌≡◌, ◌≢◌, ◌↔◌, ℕ, ◌+◌, ◌<◌, ◌≤◌, List, Option, [], ◌∷◌, ◌++◌, length, map, Some, Ok, refl, sym, ◌∙◌, ap, subst, arith}
use Rattle.std.proofs.lemmas.List.{append_assoc, length-append, length-map, map-append}
use Rattle.std.proofs.lemmas.List.Elements.{recursion_from_All}
use Rattle.std.specs.List.{AllByRecursion}
use Rattle.std.specs.Prelude.{Result}
use Rattle.mt_base.specs.declared.clearance.Clearance.{Clearance}
use Rattle.mt_base.specs.declared.command.Command.TheVariants.{Tentative}
use Rattle.mt_base.specs.declared.command.Entry.{Entry}
use Rattle.mt_base.specs.declared.command.Refusal.{Refusal}
use Rattle.mt_base.specs.declared.conflict.Conflict.{Conflict}
use Rattle.mt_base.specs.declared.hit.Hit.{Hit}
use Rattle.mt_base.specs.Decision.{IsDecided}
use Rattle.mt_base.specs.Effect.{effect, state_of}
use Rattle.mt_base.specs.History.{IsLegal}
use Rattle.mt_base.specs.Picture.{IsPublished, State}
use Rattle.mt_base.specs.StrikeOut.{AreAlike, AreConflictsFlown, AreSameButVersions, Withdrawn, all_flown, ended, ended_at, ended_by, entry_renumbered, history_of, lowered_in, made, made_at, renumbered, state_at, strike_out, struck_state_at}
use Rattle.mt_base.specs.Tables.{Setup}
use Rattle.mt_base.specs.WhatIf.{IsWhatIf}
use Rattle.mt_base.proofs.HistoryLemmas.{legal_prefix, state_of-push}
use Rattle.mt_law.proofs.Alike.{conflicts_alike, flown_alike, published_same, what_if_alike}
use Rattle.mt_law.proofs.Behind.{IsBehind, decided_behind, effect_behind}
use Rattle.mt_law.proofs.Counts.{one_flight}
use Rattle.mt_law.proofs.Left.{IsLeft, all_kept, none_left, struck}
use Rattle.mt_law.proofs.Lowered.{lowered_after, lowered_before, lowered_between}
use Rattle.mt_law.proofs.Marks.{is_marked, marked_back}
use Rattle.mt_law.proofs.Seam.{decided_at}
use Rattle.mt_law.proofs.Standing.{IsMarked, behind_alike, marked_alike, marked_step}

all_any : (es : List Entry) → AllByRecursion (λ e. Unit {0}) es
all_any [] = tt
all_any (e ∷ es) = (tt, all_any es)

module _ (setup : Setup) (w : Withdrawn) (legal : IsLegal setup (history_of w)) where
  abbrev lower : ℕ → ℕ
  lower = lowered_in w

  -- the history so far: with the tentative clearance, with what is between, with its withdrawal
  abbrev with_made : List Entry
  with_made = w.before ++ made w ∷ []

  abbrev with_between : List Entry
  with_between = with_made ++ w.between

  abbrev with_ended : List Entry
  with_ended = with_between ++ ended w ∷ []

  -- and what is left
  abbrev left_before : List Entry
  left_before = map (entry_renumbered lower) w.before

  abbrev left_between : List Entry
  left_between = left_before ++ map (entry_renumbered lower) w.between

  whole : with_ended ++ w.after ≡ history_of w
  whole = append_assoc with_between (ended w ∷ []) w.after ∙ append_assoc with_made w.between (ended w ∷ w.after)
      ∙ append_assoc w.before (made w ∷ []) (w.between ++ ended w ∷ w.after)

  legal_all : IsLegal setup (with_ended ++ w.after)
  legal_all = rw whole legal

  legal_ended : IsLegal setup with_ended
  legal_ended = legal_prefix setup with_ended w.after legal_all

  legal_between : IsLegal setup with_between
  legal_between = legal_prefix setup with_between (ended w ∷ []) legal_ended

  legal_made : IsLegal setup with_made
  legal_made = legal_prefix setup with_made w.between legal_between

  legal_before : IsLegal setup w.before
  legal_before = legal_prefix setup w.before (made w ∷ []) legal_made

  -- entries before and after
  behind_step : (s t : State) (e : Entry) → IsBehind s t → Unit {0} → IsDecided setup s e.who e.command (Ok e)
      → IsDecided setup t e.who (renumbered lower e.command) (Ok (entry_renumbered lower e)) × IsBehind (effect setup s e) (effect setup t (entry_renumbered lower e))
  behind_step s t e behind u decided = (decided_behind setup lower s t e behind decided, effect_behind setup lower s t e behind)

  abbrev Left : List Entry → List Entry → Type 0
  Left h g = IsLeft setup w.call lower h g

  before_kept : Left w.before left_before × IsBehind (state_of setup w.before) (state_of setup left_before)
  before_kept = all_kept setup w.call lower IsBehind (λ e. Unit {0}) behind_step (behind_alike w.call) [] [] w.before
      (none_left setup w.call lower (lowered_before (made_at w) (ended_at w) 0 (omega arith) (omega arith)))
      (record { same = record { now = refl; records = refl }; fewer = omega arith }) (all_any w.before)
      (λ k least most. omega (
        arith,
        lowered_before (made_at w) (ended_at w) k (omega arith) (omega arith),
        lowered_before (made_at w) (ended_at w) (k + 1) (omega arith) (omega arith),
      )) legal_before

  -- the tentative clearance
  decided_made : IsDecided setup (state_of setup w.before) w.owner (Tentative w.call w.clearance w.eff) (Ok (made w))
  decided_made = decided_at setup w.before (made w) [] legal_made.replayable

  made_marked : IsMarked w.call (state_of setup with_made) (state_of setup left_before)
  made_marked = subst (λ (s : State). IsMarked w.call s (state_of setup left_before)) (sym (state_of-push setup w.before (made w))) (record {
    behind = record {
      same = record {
        now = before_kept.1.same.now;
        records = marked_back setup (state_of setup w.before) w.owner w.call w.clearance w.eff (made w) decided_made.0
            (one_flight setup w.call [] w.before (omega arith) legal_before.replayable) ∙ before_kept.1.same.records;
      };
      fewer = let fewer = before_kept.1.fewer in omega arith;
    };
    marked = is_marked setup (state_of setup w.before) w.owner w.call w.clearance w.eff (made w) decided_made.0;
  })

  made_struck : Left with_made left_before
  made_struck = struck setup w.call lower w.before left_before (made w) before_kept.0
      (omega (arith, length-map w.before (entry_renumbered lower), lowered_between (made_at w) (ended_at w) (length w.before + 1) (omega arith) (omega arith)))
      (marked_alike w.call (state_of setup with_made) (state_of setup left_before) made_marked)

  -- what is between
  between_kept : Left with_between left_between × IsMarked w.call (state_of setup with_between) (state_of setup left_between)
  between_kept = all_kept setup w.call lower (IsMarked w.call) (λ e. ended_by e.command ≢ Some w.call) (marked_step setup w.call lower) (marked_alike w.call)
      with_made left_before w.between made_struck made_marked (recursion_from_All (λ e. ended_by e.command ≢ Some w.call) w.between w.lasts)
      (λ k least most. omega (
        arith,
        lowered_between (made_at w) (ended_at w) k (omega (arith, length-append w.before (made w ∷ []))) (omega (arith, length-append w.before (made w ∷ []))),
        lowered_between (made_at w) (ended_at w) (k + 1) (omega (arith, length-append w.before (made w ∷ []))) (omega (arith, length-append w.before (made w ∷ []))),
      ))
      legal_between

  -- its withdrawal
  length_between : length with_between ≡ ended_at w
  length_between = omega (arith, length-append with_made w.between, length-append w.before (made w ∷ []))

  length_left : length left_between ≡ length w.before + length w.between
  length_left = omega (arith, length-append left_before (map (entry_renumbered lower) w.between), length-map w.before (entry_renumbered lower), length-map w.between (entry_renumbered lower))

  ended_behind : IsBehind (state_of setup with_ended) (state_of setup left_between)
  ended_behind = subst (λ (s : State). IsBehind s (state_of setup left_between)) (sym (state_of-push setup with_between (ended w))) (record {
    same = record { now = between_kept.1.behind.same.now; records = between_kept.1.behind.same.records };
    fewer = let fewer = between_kept.1.behind.fewer in omega arith;
  })

  ended_struck : Left with_ended left_between
  ended_struck = struck setup w.call lower with_between left_between (ended w) between_kept.0
      (rw length_between (omega (arith, length_left, lowered_after (made_at w) (ended_at w) (ended_at w + 1) (omega arith) (omega arith))))
      (behind_alike w.call (state_of setup with_ended) (state_of setup left_between) ended_behind)

  -- what is after
  all_left : Left (with_ended ++ w.after) (left_between ++ map (entry_renumbered lower) w.after)
      × IsBehind (state_of setup (with_ended ++ w.after)) (state_of setup (left_between ++ map (entry_renumbered lower) w.after))
  all_left = all_kept setup w.call lower IsBehind (λ e. Unit {0}) behind_step (behind_alike w.call) with_ended left_between w.after
      ended_struck ended_behind (all_any w.after)
      (λ k least most. let below : ended_at w < k = omega (arith, length-append with_between (ended w ∷ []), length_between) in
      omega (arith, lowered_after (made_at w) (ended_at w) k (omega arith) (omega arith), lowered_after (made_at w) (ended_at w) (k + 1) (omega arith) (omega arith)))
      legal_all

  left_is : left_between ++ map (entry_renumbered lower) w.after ≡ strike_out w
  left_is = append_assoc left_before (map (entry_renumbered lower) w.between) (map (entry_renumbered lower) w.after)
      ∙ ap (λ (es : List Entry). left_before ++ es) (sym (map-append (entry_renumbered lower) w.between w.after))
      ∙ sym (map-append (entry_renumbered lower) w.before (w.between ++ w.after))

  kept : Left (history_of w) (strike_out w) × IsBehind (state_of setup (history_of w)) (state_of setup (strike_out w))
  kept = rw (whole, left_is) at all_left

  pub legal_left : IsLegal setup (strike_out w)
  legal_left = kept.0.legal

  pub same_state : AreSameButVersions (state_of setup (history_of w)) (state_of setup (strike_out w))
  same_state = kept.1.same

  pub published_left : (cs : List Conflict) → IsPublished setup (state_of setup (history_of w)) cs ↔ IsPublished setup (state_of setup (strike_out w)) cs
  published_left cs = published_same setup (state_of setup (history_of w)) (state_of setup (strike_out w)) cs same_state

  pub alike_at : (v : ℕ) → v ≤ length (history_of w) → AreAlike w.call (state_at setup w v) (struck_state_at setup w v)
  alike_at = kept.0.alike

  pub flown_at : (v : ℕ) → v ≤ length (history_of w) → all_flown setup (state_at setup w v) ≡ all_flown setup (struck_state_at setup w v)
  flown_at v within = flown_alike setup w.call (state_at setup w v) (struck_state_at setup w v) (alike_at v within)

  pub conflicts_at : (v : ℕ) (cs : List Conflict) → v ≤ length (history_of w)
      → AreConflictsFlown setup (state_at setup w v) cs ↔ AreConflictsFlown setup (struck_state_at setup w v) cs
  conflicts_at v cs within = conflicts_alike setup w.call (state_at setup w v) (struck_state_at setup w v) cs (alike_at v within)

  pub what_if_at : (v : ℕ) (call : List ℕ) (clearance : Clearance) (eff : Option ℕ) (r : Result (List Hit) Refusal) → v ≤ length (history_of w)
      → IsWhatIf setup (state_at setup w v) call clearance eff r ↔ IsWhatIf setup (struck_state_at setup w v) call clearance eff r
  what_if_at v call clearance eff r within =
      what_if_alike setup w.call (state_at setup w v) (struck_state_at setup w v) call clearance eff r (alike_at v within)
