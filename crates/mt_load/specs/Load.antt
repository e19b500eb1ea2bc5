-- A load run: an input that is made from a number, then advice, acceptances and drops. Each request is answered by the definition of a world.
use Rattle.std.specs.Prelude.{◌≡◌, ℕ, zero, suc, ◌%◌, List, [], ◌∷◌, nat_eq, MatchBool}
use Rattle.mt_base.specs.declared.command.Command.TheVariants.{Drop, Tick}
use Rattle.mt_load.specs.Input.{callsign, inputs}
use Rattle.mt_read.specs.declared.request.Request.{Request}
use Rattle.mt_read.specs.declared.request.Request.TheVariants.{Accept, Advise, Change, Take}
use Rattle.mt_write.specs.declared.reply.AdviceItem.{AdviceItem}
use Rattle.mt_write.specs.declared.reply.Reply.{Reply}
use Rattle.mt_write.specs.declared.reply.Reply.TheVariants.{Advice}
use Rattle.mt_world.specs.World.{IsServed, World, opening_world}

-- an actor's request is answered. Whatever the reply.
pub record IsAsked (w : World) (who : ℕ) (request : Request) (next : World) : Type 0 where
  pub reply : Reply
  pub served : IsServed w who request reply next

-- an actor's requests are answered in turn
abbrev pub AreRequestsAnswered : World → ℕ → List Request → World → Type 0
AreRequestsAnswered w who [] end = end ≡ w
AreRequestsAnswered w who (request ∷ requests) end = (next : World) × IsAsked w who request next × AreRequestsAnswered next who requests end

-- actor 1 accepts the first advised clearance, if any. By the number of its probe.
abbrev pub IsFirstAccepted : World → List AdviceItem → World → Type 0
IsFirstAccepted w [] end = end ≡ w
IsFirstAccepted w (item ∷ items) end = IsAsked w 1 (Accept item.probe) end

-- actor 1 accepts the first that a reply advises. A reply that is no advice advises none.
abbrev pub IsAdviceTaken : World → Reply → World → Type 0
IsAdviceTaken w (Advice advice call eff version) end = IsFirstAccepted w advice end
IsAdviceTaken w reply end = end ≡ w

-- actor 1 asks advice for a flight and accepts it. It takes the version now, asks, and accepts the first clearance that is advised.
pub record IsAdvisedFlight (w : World) (call : List ℕ) (end : World) : Type 0 where
  pub taken : World
  pub takes : IsAsked w 1 Take taken
  pub advised : World
  pub advice : Reply
  pub asks : IsServed taken 1 (Advise call) advice advised
  pub accepts : IsAdviceTaken advised advice end

-- actor 0 drops a flight
abbrev pub IsDroppedFlight : World → List ℕ → World → Type 0
IsDroppedFlight w call end = IsAsked w 0 (Change (Drop call)) end

-- done for each flight whose number the divisor divides. The flights 0, 1, 2 and so on, n of them, in order.
unfoldable pub EachDivided : (World → List ℕ → World → Type 0) → ℕ → ℕ → World → World → Type 0
EachDivided Does divisor zero w end = end ≡ w
EachDivided Does divisor (suc n) w end = (middle : World) × EachDivided Does divisor n w middle
    × MatchBool (nat_eq (n % divisor) 0) (Does middle (callsign n) end) (end ≡ middle)

-- a load run: file, advise each eighth, drop each fifth. From the opening world to its end: actor 0 makes the input; each eighth flight is advised;
-- actor 0 moves the moment to second 120 and drops each fifth flight.
pub record IsLoadRun (flights number : ℕ) (end : World) : Type 0 where
  pub filed : World
  pub files : AreRequestsAnswered opening_world 0 (inputs flights number) filed
  pub advised : World
  pub advises : EachDivided IsAdvisedFlight 8 flights filed advised
  pub moved : World
  pub moves : IsAsked advised 0 (Change (Tick 120)) moved
  pub drops : EachDivided IsDroppedFlight 5 flights moved end
