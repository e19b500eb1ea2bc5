-- A history and the one that is left where some of its entries are struck out, entry by entry.
use Rattle.std.proofs.Common.{◌≡◌, ℕ, ◌+◌, ◌<◌, ◌≤◌, ⊎_elim, List, [], ◌∷◌, ◌++◌, length, map, take, Some, Ok, refl, sym, ◌∙◌, ap, subst, arith}
use Rattle.std.proofs.Math.Nat.{eq-or-lt_of_le}
use Rattle.std.proofs.lemmas.List.{append-nil, append_assoc, length-append, take-append-le, take_all}
use Rattle.std.specs.List.{AllByRecursion}
use Rattle.mt_base.specs.declared.command.Command.{Command}
use Rattle.mt_base.specs.declared.command.Command.TheVariants.{Accept}
use Rattle.mt_base.specs.declared.command.Entry.{Entry}
use Rattle.mt_base.specs.Decision.{IsDecided}
use Rattle.mt_base.specs.Effect.{effect, state_of}
use Rattle.mt_base.specs.History.{IsInTime, IsLegal, WasFree}
use Rattle.mt_base.specs.Picture.{State}
use Rattle.mt_base.specs.StrikeOut.{AreAlike, entry_renumbered, renumbered}
use Rattle.mt_base.specs.Tables.{Setup}
use Rattle.mt_base.specs.WhatIf.{IsWhatIf}
use Rattle.mt_base.proofs.HistoryLemmas.{legal_prefix, legal_push, state_of-push}
use Rattle.mt_law.proofs.Alike.{what_if_alike}
use Rattle.mt_law.proofs.Seam.{decided_at, slice_get_seam}

-- What is left of a history so far: it is legal, and at each version the two states are alike, where `lower` is the version in what is left.
pub record IsLeft (setup : Setup) (call : List ℕ) (lower : ℕ → ℕ) (h g : List Entry) : Type 0 where
  pub legal : IsLegal setup g
  pub end : lower (length h) ≡ length g
  pub within : (v : ℕ) → v ≤ length h → lower v ≤ length g
  pub alike : (v : ℕ) → v ≤ length h → AreAlike call (state_of setup (take v h)) (state_of setup (take (lower v) g))

module _ (setup : Setup) (call : List ℕ) (lower : ℕ → ℕ) where
  abbrev nothing : List Entry
  nothing = []

  -- nothing of nothing
  pub none_left : lower 0 ≡ 0 → IsLeft setup call lower [] []
  none_left zero_is = record {
    legal = record { replayable = λ i e at. (cc); free = λ i e at. (cc) };
    end = zero_is;
    within = λ v most. let v_is : v ≡ 0 = omega arith in let low_is : lower v ≡ 0 = ap lower v_is ∙ zero_is in omega arith;
    alike = λ v most. rw (take_all v nothing (omega arith), take_all (lower v) nothing (omega arith)) (record { now = refl; records = refl });
  }

  -- at the end of a history with one entry more, or before
  by_end : (h : List Entry) (e : Entry) (v : ℕ) (A : Type 0) → v ≤ length (h ++ e ∷ []) → (v ≤ length h → A) → (v ≡ length h + 1 → A) → A
  by_end h e v A most before at_end =
      let more : v ≤ length h + 1 = omega (arith, length-append h (e ∷ [])) in
      ⊎_elim at_end (λ below. before (omega arith)) (eq-or-lt_of_le more)

  -- one entry more in both
  grown : (h g : List Entry) (e f : Entry) → IsLeft setup call lower h g → lower (length h + 1) ≡ length g + 1 → IsLegal setup (g ++ f ∷ [])
      → AreAlike call (state_of setup (h ++ e ∷ [])) (state_of setup (g ++ f ∷ [])) → IsLeft setup call lower (h ++ e ∷ []) (g ++ f ∷ [])
  grown h g e f left last legal alike = record {
    legal = legal;
    end = rw (length-append h (e ∷ []), length-append g (f ∷ [])) last;
    within = λ v most. by_end h e v (lower v ≤ length (g ++ f ∷ [])) most
        (λ before. let fewer = left.within v before in omega (arith, length-append g (f ∷ [])))
        (λ at_end. let low_is : lower v ≡ length g + 1 = ap lower at_end ∙ last in omega (arith, length-append g (f ∷ [])));
    alike = λ v most. by_end h e v (AreAlike call (state_of setup (take v (h ++ e ∷ []))) (state_of setup (take (lower v) (g ++ f ∷ [])))) most
        (λ before. rw (take-append-le v h (e ∷ []) before, take-append-le (lower v) g (f ∷ []) (left.within v before)) (left.alike v before))
        (λ at_end. let low_is : lower v ≡ length g + 1 = ap lower at_end ∙ last in
        rw (take_all v (h ++ e ∷ []) (omega (arith, length-append h (e ∷ []))), take_all (lower v) (g ++ f ∷ []) (omega (arith, length-append g (f ∷ []))))
        alike);
  }

  -- an entry that is struck out
  pub struck : (h g : List Entry) (e : Entry) → IsLeft setup call lower h g → lower (length h + 1) ≡ length g
      → AreAlike call (state_of setup (h ++ e ∷ [])) (state_of setup g) → IsLeft setup call lower (h ++ e ∷ []) g
  struck h g e left last alike = record {
    legal = left.legal;
    end = rw (length-append h (e ∷ [])) last;
    within = λ v most. by_end h e v (lower v ≤ length g) most (λ before. left.within v before)
        (λ at_end. let low_is : lower v ≡ length g = ap lower at_end ∙ last in omega arith);
    alike = λ v most. by_end h e v (AreAlike call (state_of setup (take v (h ++ e ∷ []))) (state_of setup (take (lower v) g))) most
        (λ before. rw (take-append-le v h (e ∷ []) before) (left.alike v before))
        (λ at_end. let low_is : lower v ≡ length g = ap lower at_end ∙ last in
        rw (take_all v (h ++ e ∷ []) (omega (arith, length-append h (e ∷ []))), take_all (lower v) g (omega arith)) alike);
  }

  -- the version that an acceptance names
  in_time_named : (h g : List Entry) → IsLeft setup call lower h g → (c : Command) → IsInTime (length h) c → IsInTime (length g) (renumbered lower c)
  in_time_named h g left (Accept own clearance eff probed) in_time = left.within probed in_time
  in_time_named h g left c in_time = tt

  free_named : (h g more : List Entry) → IsLeft setup call lower h g → (c : Command) → IsInTime (length h) c → WasFree setup (h ++ more) c
      → WasFree setup g (renumbered lower c)
  free_named h g more left (Accept own clearance eff probed) in_time free =
      (what_if_alike setup call (state_of setup (take probed h)) (state_of setup (take (lower probed) g)) own clearance (Some eff) (Ok [])
      (left.alike probed in_time)).0
      (subst (λ (front : List Entry). IsWhatIf setup (state_of setup front) own clearance (Some eff) (Ok [])) (take-append-le probed h more in_time) free)
  free_named h g more left c in_time free = tt

  -- entries that are kept, where what is decided of each and done by it keeps a relation of the two states
  module _ (R : State → State → Type 0) (P : Entry → Type 0)
      (step : (s t : State) (e : Entry) → R s t → P e → IsDecided setup s e.who e.command (Ok e)
      → IsDecided setup t e.who (renumbered lower e.command) (Ok (entry_renumbered lower e)) × R (effect setup s e) (effect setup t (entry_renumbered lower e)))
      (to_alike : (s t : State) → R s t → AreAlike call s t) where
    one_kept : (h g : List Entry) (e : Entry) → IsLeft setup call lower h g → R (state_of setup h) (state_of setup g) → P e
        → lower (length h + 1) ≡ lower (length h) + 1 → IsLegal setup (h ++ e ∷ [])
        → IsLeft setup call lower (h ++ e ∷ []) (g ++ entry_renumbered lower e ∷ []) × R (state_of setup (h ++ e ∷ [])) (state_of setup (g ++ entry_renumbered lower e ∷ []))
    one_kept h g e left r p climbs legal = (
      grown h g e (entry_renumbered lower e) left (climbs ∙ ap (λ (n : ℕ). n + 1) left.end)
          (legal_push setup g (entry_renumbered lower e) left.legal stepped.0 (in_time_named h g left e.command in_time)
          (free_named h g (e ∷ []) left e.command in_time (legal.free (length h) e (slice_get_seam h e []))))
          (to_alike (state_of setup (h ++ e ∷ [])) (state_of setup (g ++ entry_renumbered lower e ∷ [])) both),
      both,
    ) where
      in_time : IsInTime (length h) e.command
      in_time = (legal.replayable (length h) e (slice_get_seam h e [])).1

      stepped : IsDecided setup (state_of setup g) e.who (renumbered lower e.command) (Ok (entry_renumbered lower e))
          × R (effect setup (state_of setup h) e) (effect setup (state_of setup g) (entry_renumbered lower e))
      stepped = step (state_of setup h) (state_of setup g) e r p (decided_at setup h e [] legal.replayable)

      both : R (state_of setup (h ++ e ∷ [])) (state_of setup (g ++ entry_renumbered lower e ∷ []))
      both = subst (λ (s : State). R s (state_of setup (g ++ entry_renumbered lower e ∷ []))) (sym (state_of-push setup h e))
          (subst (λ (t : State). R (effect setup (state_of setup h) e) t) (sym (state_of-push setup g (entry_renumbered lower e))) stepped.1)

    pub all_kept : (h g rest : List Entry) → IsLeft setup call lower h g → R (state_of setup h) (state_of setup g) → AllByRecursion P rest
        → ((k : ℕ) → length h ≤ k → k < length h + length rest → lower (k + 1) ≡ lower k + 1) → IsLegal setup (h ++ rest)
        → IsLeft setup call lower (h ++ rest) (g ++ map (entry_renumbered lower) rest)
        × R (state_of setup (h ++ rest)) (state_of setup (g ++ map (entry_renumbered lower) rest))
    all_kept h g [] left r all climbs legal = rw (append-nil h, append-nil g) (left, r)
    all_kept h g (e ∷ es) left r all climbs legal =
        let whole : IsLegal setup ((h ++ e ∷ []) ++ es) = rw (append_assoc h (e ∷ []) es) legal in
        let one = one_kept h g e left r all.0 (climbs (length h) (omega arith) (omega arith)) (legal_prefix setup (h ++ e ∷ []) es whole) in
        let rest = all_kept (h ++ e ∷ []) (g ++ entry_renumbered lower e ∷ []) es one.0 one.1 all.1
        (λ k least most. climbs k (omega (arith, length-append h (e ∷ []))) (omega (arith, length-append h (e ∷ [])))) whole in
        rw (append_assoc h (e ∷ []) es, append_assoc g (entry_renumbered lower e ∷ []) (map (entry_renumbered lower) es)) at rest
