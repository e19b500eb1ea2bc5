-- A history has no more entries than the rules allow.
use Rattle.std.proofs.Common.{◌≡◌, ◌⊎◌, inl, inr, get_or, ℕ, zero, suc, ℤ, pos, ◌≤ℤ◌, ◌<◌, ◌≤◌, true, List, length, take, Some, None, refl, ◌∙◌, arith}
use Rattle.std.proofs.lemmas.Int.{ints}
use Rattle.std.proofs.lemmas.List.{length-take-le}
use Rattle.std.proofs.lemmas.Option.{slice_get_cases}
use Rattle.std.specs.Prelude.{int_lt, slice_get}
use Rattle.mt_base.specs.declared.command.Entry.{Entry}
use Rattle.mt_base.specs.Bounds.{AreWithinBounds}
use Rattle.mt_base.specs.Decision.{checks, filled, look_at}
use Rattle.mt_base.specs.Effect.{state_of}
use Rattle.mt_base.specs.History.{IsReplayable}
use Rattle.mt_base.specs.Picture.{State}
use Rattle.mt_base.specs.Tables.{Setup}
use Rattle.mt_base.proofs.CheckLemmas.{all_passed}
use Rattle.mt_base.proofs.HistoryLemmas.{version_is}
use Rattle.mt_picture.proofs.Passing.{All, has_entry}

fewer : (n : ℕ) (h : ℤ) → int_lt (pos n) h ≡ true → h ≤ℤ pos 4194304 → n < 4194304
fewer n h below most = grind (arith, ints)

module _ (setup : Setup) (h : List Entry) (rules : AreWithinBounds setup.rules) (replayable : IsReplayable setup h) where
  -- there was room for each entry
  had_room : (n : ℕ) (e : Entry) → slice_get h n ≡ Some e → n < length h → n < 4194304
  had_room n e at below =
      let before : State = state_of setup (take n h) in
      let passed = (replayable n e at).0.0 in
      let filed : Entry = record { who = e.who; command = filled before.now e.command } in
      let all : All setup before e.who rules e.command =
      all_passed (checks setup (look_at before e.command) e.who e.command) filed (rw passed refl) in
      let room = has_entry setup before e.who rules e.command all in
      let counted : before.version ≡ n = version_is setup (take n h) ∙ length-take-le n h (omega (arith, below)) in
      fewer n setup.rules.history (rw counted at room) rules.history.most

  by_length : (n : ℕ) → length h ≡ n → length h ≤ 4194304
  by_length zero is = omega (arith, is)
  by_length (suc n) is = by_cases (slice_get_cases h n).1 where
    by_cases : ((x : Entry) × (n < length h) × (slice_get h n ≡ Some x) × (get_or h n x ≡ x)) ⊎ ((length h ≤ n) × (slice_get h n ≡ None)) → length h ≤ 4194304
    by_cases (inl (x, below, at, same)) = let few = had_room n x at below in omega (arith, few, is)
    by_cases (inr (past, none)) = absurd (omega (arith, past, is))

  pub history_counted : length h ≤ 4194304
  history_counted = by_length (length h) refl
