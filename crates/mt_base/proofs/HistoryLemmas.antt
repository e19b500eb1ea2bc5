use Rattle.std.proofs.Common.{◌≡◌, ℕ, ◌+◌, ◌<◌, ◌≤◌, zero, suc, ◌⊎◌, inl, inr, ⊎_elim, List, [], ◌∷◌, ◌++◌, length, Some, Ok, refl, sym, subst, ◌∙◌, zero-add, arith}
use Rattle.std.proofs.Math.Seq.{take-append_seam}
use Rattle.std.proofs.lemmas.List.{take-append-le}
use Rattle.std.proofs.lemmas.List.Sums.{fold-append}
use Rattle.std.proofs.lemmas.Option.{slice_get_within}
use Rattle.std.specs.Prelude.{slice_get, fold}
use Rattle.mt_base.specs.declared.command.Command.{Command}
use Rattle.mt_base.specs.declared.command.Command.TheVariants.{Accept}
use Rattle.mt_base.specs.declared.command.Entry.{Entry}
use Rattle.mt_base.specs.Decision.{IsDecided}
use Rattle.mt_base.specs.Effect.{effect, state_of}
use Rattle.mt_base.specs.History.{IsInTime, IsLegal, IsReplayable, WasFree}
use Rattle.mt_base.specs.Picture.{State, opening}
use Rattle.mt_base.specs.Tables.{Setup}
use Rattle.mt_base.specs.WhatIf.{IsWhatIf}

-- a place of the front list
pub slice_get-append_left : {X : Type 0} (xs ys : List X) (i : ℕ) → i < length xs → slice_get (xs ++ ys) i ≡ slice_get xs i
slice_get-append_left [] ys i below = absurd (omega arith)
slice_get-append_left (x ∷ xs) ys zero below = refl
slice_get-append_left (x ∷ xs) ys (suc i) below = slice_get-append_left xs ys i (omega arith)

-- the last element
pub slice_get-push : {X : Type 0} (xs : List X) (y : X) (i : ℕ) (x : X) → slice_get (xs ++ y ∷ []) i ≡ Some x → (i < length xs) ⊎ ((i ≡ length xs) × (y ≡ x))
slice_get-push [] y zero x e = inr (refl, cc)
slice_get-push [] y (suc i) x e = cc
slice_get-push (z ∷ zs) y zero x e = inl (omega arith)
slice_get-push (z ∷ zs) y (suc i) x e = ⊎_elim (λ below. inl (omega arith)) (λ (at, is). inr (omega arith, is)) (slice_get-push zs y i x e)

-- one entry more
pub state_of-push : (setup : Setup) (h : List Entry) (e : Entry) → state_of setup (h ++ e ∷ []) ≡ effect setup (state_of setup h) e
state_of-push setup h e = fold-append (effect setup) opening h (e ∷ [])

-- the version is the number of entries
pub version_is : (setup : Setup) (h : List Entry) → (state_of setup h).version ≡ length h
version_is setup h = from opening h ∙ zero-add (length h) where
  from : (s : State) (h : List Entry) → (fold (effect setup) s h).version ≡ s.version + length h
  from s [] = omega arith
  from s (e ∷ es) = from (effect setup s e) es ∙ omega arith

pub replayable_prefix : (setup : Setup) (h t : List Entry) → IsReplayable setup (h ++ t) → IsReplayable setup h
replayable_prefix setup h t replayable i e at =
    let below = slice_get_within h i e at in
    let within : i ≤ length h = omega arith in
    let decided = replayable i e (slice_get-append_left h t i below ∙ at) in
    rw (take-append-le i h t within) at decided

pub replayable_push : (setup : Setup) (h : List Entry) (e : Entry) → IsReplayable setup h → IsDecided setup (state_of setup h) e.who e.command (Ok e)
    → IsInTime (length h) e.command → IsReplayable setup (h ++ e ∷ [])
replayable_push setup h e replayable decided in_time i f at = ⊎_elim
    (λ below. let within : i ≤ length h = omega arith in
    rw (take-append-le i h (e ∷ []) within) (replayable i f (sym (slice_get-append_left h (e ∷ []) i below) ∙ at)))
    (λ (last, is). rw (← is, last, take-append_seam h (e ∷ [])) (decided, in_time))
    (slice_get-push h e i f at)

-- what was free on a front is so on the whole, and back
on_more : (setup : Setup) (h t : List Entry) (i : ℕ) (c : Command) → i ≤ length h → IsInTime i c → WasFree setup h c → WasFree setup (h ++ t) c
on_more setup h t i (Accept call clearance eff probed) within in_time free =
    let short : probed ≤ length h = omega arith in
    subst (λ (front : List Entry). IsWhatIf setup (state_of setup front) call clearance (Some eff) (Ok [])) (sym (take-append-le probed h t short)) free
on_more setup h t i c within in_time free = tt

on_front : (setup : Setup) (h t : List Entry) (i : ℕ) (c : Command) → i ≤ length h → IsInTime i c → WasFree setup (h ++ t) c → WasFree setup h c
on_front setup h t i (Accept call clearance eff probed) within in_time free =
    let short : probed ≤ length h = omega arith in
    subst (λ (front : List Entry). IsWhatIf setup (state_of setup front) call clearance (Some eff) (Ok [])) (take-append-le probed h t short) free
on_front setup h t i c within in_time free = tt

pub legal_prefix : (setup : Setup) (h t : List Entry) → IsLegal setup (h ++ t) → IsLegal setup h
legal_prefix setup h t legal = record { replayable = replayable_prefix setup h t legal.replayable; free = free } where
  free : (i : ℕ) (e : Entry) → slice_get h i ≡ Some e → WasFree setup h e.command
  free i e at =
      let below = slice_get_within h i e at in
      let within : i ≤ length h = omega arith in
      let there = slice_get-append_left h t i below ∙ at in
      on_front setup h t i e.command within (legal.replayable i e there).1 (legal.free i e there)

pub legal_push : (setup : Setup) (h : List Entry) (e : Entry) → IsLegal setup h → IsDecided setup (state_of setup h) e.who e.command (Ok e)
    → IsInTime (length h) e.command → WasFree setup h e.command → IsLegal setup (h ++ e ∷ [])
legal_push setup h e legal decided in_time was_free =
    record { replayable = replayable_push setup h e legal.replayable decided in_time; free = free } where
      free : (i : ℕ) (f : Entry) → slice_get (h ++ e ∷ []) i ≡ Some f → WasFree setup (h ++ e ∷ []) f.command
      free i f at = ⊎_elim
          (λ below. let within : i ≤ length h = omega arith in
          let there = sym (slice_get-append_left h (e ∷ []) i below) ∙ at in
          on_more setup h (e ∷ []) i f.command within (legal.replayable i f there).1 (legal.free i f there))
          (λ (last, is). rw (← is) (on_more setup h (e ∷ []) (length h) e.command (omega arith) in_time was_free))
          (slice_get-push h e i f at)
