-- What is told of a picture, as the reply of each world of it.
use Rattle.std.proofs.Common.{◌≡◌, ◌∙◌, ◌⊎◌, inl, inr, ℕ, List, length, Option, Some, None, Result, Ok, Err, refl, sym, ap}
use Rattle.std.specs.Option.{option_map}
use Rattle.std.specs.Prelude.{unwrap_or, IfErr, IfOk}
use Rattle.mt_base.specs.declared.area.Area.{Area}
use Rattle.mt_base.specs.declared.command.Refusal.{Refusal}
use Rattle.mt_base.specs.declared.flight.FlightView.{FlightView}
use Rattle.mt_base.specs.declared.flight.Path.{Path}
use Rattle.mt_base.specs.declared.flight.Path.TheVariants.{Planned, Outer}
use Rattle.mt_base.specs.declared.flight.Record.{Record}
use Rattle.mt_base.specs.Effect.{state_of}
use Rattle.mt_base.specs.Picture.{flight_of, trajectory_of}
use Rattle.mt_base.specs.Trajectory.{Trajectory}
use Rattle.mt_base.specs.View.{view_of, view_of_path}
use Rattle.mt_base.proofs.HistoryLemmas.{version_is}
use Rattle.mt_board.specs.declared.ask.Answer.{Answer}
use Rattle.mt_board.specs.declared.ask.Answer.TheVariants as answers
use Rattle.mt_board.specs.declared.ask.Ask.{Ask}
use Rattle.mt_board.specs.declared.ask.Ask.TheVariants as asks
use Rattle.mt_board.specs.declared.no.No.{No}
use Rattle.mt_board.specs.declared.no.No.TheVariants as nos
use Rattle.mt_board.specs.Asking.{IsNotTold, IsTold, version_of}
use Rattle.mt_picture.specs.Story.{Story}
use Rattle.mt_read.specs.declared.request.Request.TheVariants as requests
use Rattle.mt_write.specs.declared.reply.Reply.{Reply}
use Rattle.mt_write.specs.declared.reply.Reply.TheVariants as replies
use Rattle.mt_lines.specs.Told.{answer_reply}
use Rattle.mt_world.specs.Reading.{IsToldNow, IsUntold}
use Rattle.mt_world.specs.World.{Actor, IsAskServed, IsFlightTold, IsRefused, IsServed, IsStarved, World, picture_of, world_of}
use Rattle.mt_world.proofs.Viewed.{not_there, there}

module _ (s : Story) (areas : List Area) (actors : List Actor) where
  abbrev w : World
  w = world_of s areas actors

  told_served : (ask : Ask) (answer : Answer) → IsTold s.setup s.history ask answer → version_of answer ≡ length s.history
      → IsAskServed w ask (answer_reply (Ok answer)) w
  told_served asks.List (answers.List conflicts version) told now =
      record { conflicts = conflicts; published = told; reply_is = ap (replies.List conflicts) now; same = refl }
  told_served asks.Check (answers.Check conflicts version) told now =
      record { conflicts = conflicts; published = told; reply_is = ap (replies.List conflicts) now; same = refl }
  told_served asks.Due (answers.Due calls version) told now = record { reply_is = λ i. replies.Due (told i) (now i); next_is = refl }
  told_served (asks.Flight call sec) (answers.Flight view) told now =
      there w call sec (flight_of (state_of s.setup s.history).records call) view told
  told_served (asks.History from to) (answers.History entries version) told now =
      record { reply_is = λ i. replies.History (told i) (now i); next_is = refl }
  told_served ask answer told now = absurd told

  untold_served : (ask : Ask) (refusal : Refusal) (version : ℕ) → IsNotTold s.setup s.history ask refusal → version ≡ length s.history
      → IsAskServed w ask (replies.Refused refusal version) w
  untold_served (asks.Flight call sec) refusal version untold now =
      not_there w call sec (flight_of (state_of s.setup s.history).records call) (replies.Refused refusal version)
      (rw untold.0 refl) (λ i. replies.Refused (untold.1 i) (now i))
  untold_served ask refusal version untold now = absurd untold

  pub read_told : (ask : Ask) (r : Result Answer No) → IfOk r (IsToldNow s ask) → IfErr r (IsUntold s ask)
      → IsAskServed w ask (answer_reply r) w ⊎ IsRefused w replies.Memory (answer_reply r) w
  read_told ask (Ok answer) told untold = inl (told_served ask answer told.told told.now)
  read_told ask (Err (nos.Refused refusal version)) told untold = inl (untold_served ask refusal version untold.0 untold.1)
  read_told ask (Err nos.Memory) told untold = inr (record { reply_is = refl; same = refl })

path_version : (call : List ℕ) (path : Path) (t : Trajectory) (k version : ℕ) → (view_of_path call path t k version).version ≡ version
path_version call (Planned course) t k version = refl
path_version call (Outer stretch) t k version = refl

-- what is told of a flight that is there
flight_version : (s : Story) (sec : Option ℕ) (found : Option Record) (view : FlightView)
    → option_map (view_of s.setup (state_of s.setup s.history) sec) found ≡ Some view → view.version ≡ length s.history
flight_version s sec (Some flight) view is =
    let same : view_of s.setup (state_of s.setup s.history) sec flight ≡ view = cc in
    ap (λ (v : FlightView). v.version) (sym same)
    ∙ path_version flight.call flight.path (trajectory_of s.setup flight.path) (unwrap_or sec (state_of s.setup s.history).now) (state_of s.setup s.history).version
    ∙ version_is s.setup s.history
flight_version s sec None view is = cc

pub flight_told : (s : Story) (call : List ℕ) (sec : Option ℕ) (view : FlightView)
    → option_map (view_of s.setup (state_of s.setup s.history) sec) (flight_of (state_of s.setup s.history).records call) ≡ Some view
    → IsToldNow s (asks.Flight call sec) (answers.Flight view)
flight_told s call sec view is =
    record { told = is; now = flight_version s sec (flight_of (state_of s.setup s.history).records call) view is }

-- where memory is wanted, nothing changes
pub told_or : (w : World) (who : ℕ) (ask : Ask) (reply : Reply) → IsServed w who (requests.Ask ask) reply w ⊎ IsRefused w replies.Memory reply w
    → IsServed w who (requests.Ask ask) reply w ⊎ IsStarved w who (requests.Ask ask) reply w
told_or w who ask reply (inl served) = inl served
told_or w who ask reply (inr starved) = inr (record { reply_is = starved.reply_is; left = refl })

flight_same : (w next : World) (call : List ℕ) (sec : Option ℕ) (found : Option Record) (reply : Reply) → IsFlightTold w call sec found reply next → next ≡ w
flight_same w next call sec (Some flight) reply g = g.next_is
flight_same w next call sec None reply r = r.same

-- what is told changes nothing
pub ask_same : (w next : World) (ask : Ask) (reply : Reply) → IsAskServed w ask reply next → next ≡ w
ask_same w next asks.List reply l = l.same
ask_same w next asks.Check reply l = l.same
ask_same w next asks.Due reply g = g.next_is
ask_same w next (asks.Flight call sec) reply t = flight_same w next call sec (flight_of (picture_of w).records call) reply t
ask_same w next (asks.History from to) reply g = g.next_is
