-- An entry that was decided is the actor's command with the second from which it holds.
use Rattle.std.proofs.Common.{◌≡◌, ℕ, ◌≤◌, List, [], Some, None, Ok, sym, ◌∙◌, ap, subst, refl}
use Rattle.mt_base.specs.declared.command.Command.{Command}
use Rattle.mt_base.specs.declared.command.Command.TheVariants.{Clear, Tentative}
use Rattle.mt_base.specs.declared.command.Entry.{Entry}
use Rattle.mt_base.specs.declared.hit.Hit.{Hit}
use Rattle.mt_base.specs.Bounds.{IsBoundedCommand}
use Rattle.mt_base.specs.Decision.{HasHits, IsDecided, checks, decision_of, filled, look_at}
use Rattle.mt_base.specs.History.{IsInTime, WasFree}
use Rattle.mt_base.specs.Picture.{State}
use Rattle.mt_base.specs.Tables.{Setup}
use Rattle.mt_base.proofs.CheckLemmas.{answer_is}
use Rattle.mt_change.proofs.Filling.{filled_twice}

-- a command whose second is filled is judged as it was
filled_checks : (setup : Setup) (s : State) (who : ℕ) (c : Command)
    → checks setup (look_at s (filled s.now c)) who (filled s.now c) ≡ checks setup (look_at s c) who c
filled_checks setup s who (Clear call clearance eff) = refl
filled_checks setup s who (Tentative call clearance eff) = refl
filled_checks setup s who c = refl

filled_hits : (setup : Setup) (s : State) (c : Command) (hits : List Hit) → HasHits setup s c hits → HasHits setup s (filled s.now c) hits
filled_hits setup s (Clear call clearance eff) hits has = has
filled_hits setup s (Tentative call clearance eff) hits has = has
filled_hits setup s c hits has = has

-- an entry that was decided is the actor's command, with its second filled
entry_is : (setup : Setup) (s : State) (who : ℕ) (c : Command) (e : Entry) → decision_of setup s who c ≡ Ok e → record { who = who; command = filled s.now c } ≡ e
entry_is setup s who c e judged_ok = answer_is (checks setup (look_at s c) who c) (record { who = who; command = filled s.now c }) e judged_ok

-- an entry that was decided of an actor's command is what is decided of its own
pub decided_is : (setup : Setup) (s : State) (who : ℕ) (c : Command) (e : Entry) → IsDecided setup s who c (Ok e)
    → IsDecided setup s e.who e.command (Ok e)
decided_is setup s who c e decided =
    subst (λ (f : Entry). IsDecided setup s f.who f.command (Ok f)) (entry_is setup s who c e decided.0) (again, filled_hits setup s c [] decided.1) where
      filled_entry : Entry
      filled_entry = record { who = who; command = filled s.now c }

      again : decision_of setup s who (filled s.now c) ≡ Ok filled_entry
      again = rw (filled_checks setup s who c, filled_twice s.now c) (decided.0 ∙ ap Ok (sym (entry_is setup s who c e decided.0)))

pub filled_bounded : (now : ℕ) (c : Command) → now ≤ 10000000 → IsBoundedCommand c → IsBoundedCommand (filled now c)
filled_bounded now (Clear call clearance (Some eff)) early within = within
filled_bounded now (Clear call clearance None) early within = (within.0, early)
filled_bounded now (Tentative call clearance (Some eff)) early within = within
filled_bounded now (Tentative call clearance None) early within = (within.0, early)
filled_bounded now c early within = within

filled_in_time : (now place : ℕ) (c : Command) → IsInTime place c → IsInTime place (filled now c)
filled_in_time now place (Clear call clearance eff) in_time = in_time
filled_in_time now place (Tentative call clearance eff) in_time = in_time
filled_in_time now place c in_time = in_time

filled_free : (setup : Setup) (h : List Entry) (now : ℕ) (c : Command) → WasFree setup h c → WasFree setup h (filled now c)
filled_free setup h now (Clear call clearance eff) free = free
filled_free setup h now (Tentative call clearance eff) free = free
filled_free setup h now c free = free

-- what holds of a command holds of its entry
pub entry_bounded : (setup : Setup) (s : State) (who : ℕ) (c : Command) (e : Entry) → IsDecided setup s who c (Ok e) → s.now ≤ 10000000
    → IsBoundedCommand c → IsBoundedCommand e.command
entry_bounded setup s who c e decided early within =
    subst (λ (f : Entry). IsBoundedCommand f.command) (entry_is setup s who c e decided.0) (filled_bounded s.now c early within)

pub entry_in_time : (setup : Setup) (s : State) (who place : ℕ) (c : Command) (e : Entry) → IsDecided setup s who c (Ok e) → IsInTime place c
    → IsInTime place e.command
entry_in_time setup s who place c e decided in_time =
    subst (λ (f : Entry). IsInTime place f.command) (entry_is setup s who c e decided.0) (filled_in_time s.now place c in_time)

pub entry_free : (setup : Setup) (s : State) (h : List Entry) (who : ℕ) (c : Command) (e : Entry) → IsDecided setup s who c (Ok e)
    → WasFree setup h c → WasFree setup h e.command
entry_free setup s h who c e decided free =
    subst (λ (f : Entry). WasFree setup h f.command) (entry_is setup s who c e decided.0) (filled_free setup h s.now c free)
