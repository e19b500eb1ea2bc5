-- How many pairs a world has tested.
use Rattle.std.specs.Prelude.{◌≡◌, ◌⊎◌, ℕ, ◌+◌, ◌-◌, ◌^◌, List, [], ◌∷◌, ◌++◌, Option, Some, None, length, min, take, ⊤}
use Rattle.mt_base.specs.declared.clearance.Clearance.{Clearance}
use Rattle.mt_base.specs.declared.command.Command.{Command}
use Rattle.mt_base.specs.declared.command.Command.TheVariants.{Renew}
use Rattle.mt_base.specs.declared.command.Entry.{Entry}
use Rattle.mt_base.specs.Effect.{state_of}
use Rattle.mt_base.specs.Picture.{State}
use Rattle.mt_base.specs.Settled.{IsRenewed, due_calls}
use Rattle.mt_base.specs.Tables.{Setup}
use Rattle.mt_board.specs.Probing.{ToldProbe, acceptance}
use Rattle.mt_board.specs.Book.{probe_at}
use Rattle.mt_picture.specs.Asked.{IsWithinBound}
use Rattle.mt_probe.specs.Prepared.{Prepared, WasTestedFor}
use Rattle.mt_probe.specs.Shot.{Shot, state_in_shot}
use Rattle.mt_probe.specs.Tests.{WasTriedFor, WereAtLeast}
use Rattle.mt_read.specs.declared.request.Request.{Request}
use Rattle.mt_read.specs.declared.request.Request.TheVariants as requests
use Rattle.mt_write.specs.declared.reply.Reply.{Reply}
use Rattle.mt_write.specs.declared.reply.Reply.TheVariants as replies
use Rattle.mt_world.specs.World.{World, actor_of, picture_of, picture_taken, setup_of}

-- a world, and how many pairs were tested for its commands and probes
pub record Counted : Type 0 where
  pub world : World
  pub tests : ℕ

-- a request that neither enters a command nor makes a probe
abbrev pub IsUntestedRequest : Request → Type 0
IsUntestedRequest (requests.Change command) = ⊥
IsUntestedRequest (requests.Probe call clearance eff) = ⊥
IsUntestedRequest (requests.Accept number) = ⊥
IsUntestedRequest requests.Settle = ⊥
IsUntestedRequest request = ⊤

-- a probe's tests, on a snapshot of the state that the actor has taken: at most one for each trajectory that another flight flies near the new one
pub record WereTestsOfTry (w : World) (who : ℕ) (call : List ℕ) (clearance : Clearance) (eff : Option ℕ) (old new : ℕ) : Type 0 where
  pub shot : Shot
  pub setup_is : shot.setup ≡ setup_of w
  pub state_is : state_in_shot shot ≡ picture_taken w who
  pub tried : WasTriedFor shot call clearance eff old new

-- a preparation's tests, on a snapshot of a state: at most two for each trajectory near the new one
pub record WereTestsOfPrep (setup : Setup) (then : State) (who : ℕ) (command : Command) (old new : ℕ) : Type 0 where
  pub shot : Shot
  pub setup_is : shot.setup ≡ setup
  pub state_is : state_in_shot shot ≡ then
  pub prepared : WasTestedFor shot who command old new

-- a command's tests: those of its preparation, where there was one, and those of its publishing after these. It was prepared on a state, for an actor.
pub record WereTestsOfChange (w : World) (then : State) (preparer who : ℕ) (command : Command) (old new : ℕ) : Type 0 where
  pub between : ℕ
  pub prep : Option Prepared
  pub prepared : (between ≡ old) ⊎ WereTestsOfPrep (setup_of w) then preparer command old between
  pub published : IsWithinBound (record { setup = setup_of w; history = w.history }) who command prep between new

-- an acceptance's tests: those of its command, prepared on the state that was probed; none where the book has no such probe
abbrev pub WereTestsOfAcceptance : World → ℕ → Option ToldProbe → ℕ → ℕ → Type 0
WereTestsOfAcceptance w who None old new = new ≡ old
WereTestsOfAcceptance w who (Some probe) old new =
    WereTestsOfChange w (state_of (setup_of w) (take probe.version w.history)) 0 who (acceptance probe) old new

-- renewals' tests, one after another, each on the history that those before it leave
abbrev pub WereTestsOfRenewals : World → ℕ → List (List ℕ) → ℕ → ℕ → Type 0
WereTestsOfRenewals w who [] old new = new ≡ old
WereTestsOfRenewals w who (call ∷ calls) old new = (between : ℕ) × (h : List Entry) × WereTestsOfChange w (picture_of w) who who (Renew call) old between
    × (IsRenewed (setup_of w) who call w.history h ⊎ (h ≡ w.history)) × WereTestsOfRenewals (record w { history = h }) who calls between new

-- a settling's tests: those of the renewals of some first ones of the flights that are due
pub record WereTestsOfSettling (w : World) (who old new : ℕ) : Type 0 where
  pub calls : List (List ℕ)
  pub left : List (List ℕ)
  pub due : due_calls (picture_of w).records ≡ calls ++ left
  pub renewed : WereTestsOfRenewals w who calls old new

-- at least as many tests as a probe tells conflicts
abbrev pub WereEnough : Reply → ℕ → ℕ → Type 0
WereEnough (replies.Probe conflicts eff probe version) old new = WereAtLeast (length conflicts) old new
WereEnough reply old new = ⊤

-- a request's tests, by what it asks for
abbrev pub WereTestsOf : World → ℕ → Request → Reply → ℕ → ℕ → Type 0
WereTestsOf w who (requests.Change command) reply old new = WereTestsOfChange w (picture_of w) who who command old new
WereTestsOf w who (requests.Probe call clearance eff) reply old new = WereTestsOfTry w who call clearance eff old new × WereEnough reply old new
WereTestsOf w who (requests.Accept number) reply old new = WereTestsOfAcceptance w who (probe_at (actor_of w who).book number) old new
WereTestsOf w who requests.Settle reply old new = WereTestsOfSettling w who old new
WereTestsOf w who request reply old new = new ≡ old

-- a request's tests are added to those before, up to 2^64 - 1
pub record AreTestsAdded (w : World) (who : ℕ) (request : Request) (reply : Reply) (old new : ℕ) : Type 0 where
  pub more : ℕ
  pub are : WereTestsOf w who request reply 0 more
  pub is : new ≡ min (old + more) (2 ^ 64 - 1)
