-- A load run ends in one world.
use Rattle.std.proofs.Common.{◌≡◌, ◌∙◌, ℕ, zero, suc, ◌%◌, List, [], ◌∷◌, sym, subst, nat_eq}
use Rattle.mt_base.specs.declared.command.Command.TheVariants.{Drop, Tick}
use Rattle.mt_load.specs.Input.{callsign, inputs}
use Rattle.mt_read.specs.declared.request.Request.{Request}
use Rattle.mt_read.specs.declared.request.Request.TheVariants.{Accept, Advise, Change, Take}
use Rattle.mt_write.specs.declared.reply.AdviceItem.{AdviceItem}
use Rattle.mt_write.specs.declared.reply.Reply.{Reply}
use Rattle.mt_write.specs.declared.reply.Reply.TheVariants.{Advice}
use Rattle.mt_world.specs.World.{IsServed, World, opening_world, setup_of}
use Rattle.mt_world.proofs.OneAnswer.{one_served}
use Rattle.mt_base.proofs.Cases.{on_both}
use Rattle.mt_load.specs.declared.summary.Summary.{Summary}
use Rattle.mt_load.specs.Load.{AreRequestsAnswered, EachDivided, IsAdviceTaken, IsAdvisedFlight, IsAsked, IsDroppedFlight, IsFirstAccepted, IsLoadRun}
use Rattle.mt_load.specs.Summary.{IsLoaded, IsSummary}
use Rattle.mt_load.proofs.Counted.{one_count}

one_asked : (w a b : World) (who : ℕ) (request : Request) → IsAsked w who request a → IsAsked w who request b → a ≡ b
one_asked w a b who request x y = (one_served w who request x.reply y.reply a b x.served y.served).1

all_asked : (requests : List Request) (w a b : World) (who : ℕ) → AreRequestsAnswered w who requests a → AreRequestsAnswered w who requests b → a ≡ b
all_asked [] w a b who x y = x ∙ sym y
all_asked (request ∷ requests) w a b who (next, first, rest) (other, also, others) =
    all_asked requests other a b who (subst (λ (v : World). AreRequestsAnswered v who requests a) (one_asked w next other who request first also) rest) others

one_each : (Does : World → List ℕ → World → Type 0) (divisor n : ℕ) (w a b : World)
    → ((v u t : World) (call : List ℕ) → Does v call u → Does v call t → u ≡ t) → EachDivided Does divisor n w a → EachDivided Does divisor n w b
    → a ≡ b
unfolding EachDivided
one_each Does divisor zero w a b one x y = x ∙ sym y
one_each Does divisor (suc n) w a b one (middle, before, last) (other, also, end) =
    let same : middle ≡ other = one_each Does divisor n w middle other one before also in
    on_both (nat_eq (n % divisor) 0) _ _ _ _ _
    (λ does did. one other a b (callsign n) (subst (λ (v : World). Does v (callsign n) a) same does) did)
    (λ stays stayed. stays ∙ same ∙ sym stayed) last end

one_first : (items : List AdviceItem) (w a b : World) → IsFirstAccepted w items a → IsFirstAccepted w items b → a ≡ b
one_first [] w a b x y = x ∙ sym y
one_first (item ∷ items) w a b x y = one_asked w a b 1 (Accept item.probe) x y

one_taking : (reply : Reply) (w a b : World) → IsAdviceTaken w reply a → IsAdviceTaken w reply b → a ≡ b
one_taking (Advice advice call eff version) w a b x y = one_first advice w a b x y
one_taking reply w a b x y = x ∙ sym y

one_advised : (w a b : World) (call : List ℕ) → IsAdvisedFlight w call a → IsAdvisedFlight w call b → a ≡ b
one_advised w a b call x y =
    let taken : x.taken ≡ y.taken = one_asked w x.taken y.taken 1 Take x.takes y.takes in
    let asked = one_served y.taken 1 (Advise call) x.advice y.advice x.advised y.advised
    (subst (λ (v : World). IsServed v 1 (Advise call) x.advice x.advised) taken x.asks) y.asks in
    one_taking y.advice y.advised a b
    (subst (λ (v : World). IsAdviceTaken v y.advice a) asked.1 (subst (λ (r : Reply). IsAdviceTaken x.advised r a) asked.0 x.accepts)) y.accepts

one_dropped : (w a b : World) (call : List ℕ) → IsDroppedFlight w call a → IsDroppedFlight w call b → a ≡ b
one_dropped w a b call x y = one_asked w a b 0 (Change (Drop call)) x y

pub one_run : (flights number : ℕ) (a b : World) → IsLoadRun flights number a → IsLoadRun flights number b → a ≡ b
one_run flights number a b x y =
    let filed : x.filed ≡ y.filed = all_asked (inputs flights number) opening_world x.filed y.filed 0 x.files y.files in
    let advised : x.advised ≡ y.advised = one_each IsAdvisedFlight 8 flights y.filed x.advised y.advised one_advised
    (subst (λ (v : World). EachDivided IsAdvisedFlight 8 flights v x.advised) filed x.advises) y.advises in
    let moved : x.moved ≡ y.moved = one_asked y.advised x.moved y.moved 0 (Change (Tick 120))
    (subst (λ (v : World). IsAsked v 0 (Change (Tick 120)) x.moved) advised x.moves) y.moves in
    one_each IsDroppedFlight 5 flights y.moved a b one_dropped
    (subst (λ (v : World). EachDivided IsDroppedFlight 5 flights v a) moved x.drops) y.drops

-- and what it is summed up as is one, but for the pair tests
abbrev pub AreAlike : Summary → Summary → Type 0
AreAlike s t = (s.again ≡ t.again) × (s.conflicts ≡ t.conflicts) × (s.entries ≡ t.entries) × (s.flights ≡ t.flights)

one_sum : (w : World) (s t : Summary) → IsSummary w s → IsSummary w t → AreAlike s t
one_sum w s t x y =
    let conflicts = one_count (setup_of w) w.history s.conflicts t.conflicts x.conflicts y.conflicts in
    (x.same ∙ conflicts ∙ sym y.same, conflicts, x.entries ∙ sym y.entries, x.flights ∙ sym y.flights)

pub one_loaded : (flights number : ℕ) (s t : Summary) → IsLoaded flights number s → IsLoaded flights number t → AreAlike s t
one_loaded flights number s t x y =
    one_sum y.end s t (subst (λ (w : World). IsSummary w s) (one_run flights number x.end y.end x.run y.run) x.summed) y.summed
