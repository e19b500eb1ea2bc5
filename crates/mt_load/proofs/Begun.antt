-- The picture of a load run has begun at its end.
use Rattle.std.proofs.Common.{◌≡◌, ◌∙◌, ℕ, zero, suc, ◌%◌, Bool, true, false, List, [], ◌∷◌, ◌++◌, refl, ap, nat_eq}
use Rattle.mt_base.specs.declared.command.Command.TheVariants.{Drop, Tick}
use Rattle.mt_load.specs.Input.{bands, callsign, each_below, fix, kind_name, plan_of}
use Rattle.mt_read.specs.declared.request.Request.{Request}
use Rattle.mt_read.specs.declared.request.Request.TheVariants.{Accept, Advise, Begin, Change, Take, TypeLine}
use Rattle.mt_write.specs.declared.reply.AdviceItem.{AdviceItem}
use Rattle.mt_write.specs.declared.reply.Reply.{Reply}
use Rattle.mt_write.specs.declared.reply.Reply.TheVariants.{Advice}
use Rattle.mt_world.proofs.Keeping.{kept_served}
use Rattle.mt_world.specs.World.{IsServed, World, opening_world}
use Rattle.mt_base.proofs.Cases.{on_either}
use Rattle.mt_load.specs.Load.{AreRequestsAnswered, EachDivided, IsAdviceTaken, IsAdvisedFlight, IsAsked, IsDroppedFlight, IsFirstAccepted, IsLoadRun}

-- what is left of a world that has begun has begun
by_same : (w end : World) → end ≡ w → w.begun ≡ true → end.begun ≡ true
by_same w end same begun = ap (λ (v : World). v.begun) same ∙ begun

by_served : (w next : World) (who : ℕ) (request : Request) (reply : Reply) → IsServed w who request reply next → w.begun ≡ true → next.begun ≡ true
by_served w next who request reply served begun = (kept_served w next who reply begun request served).begun_is ∙ begun

by_asked : (w next : World) (who : ℕ) (request : Request) → IsAsked w who request next → w.begun ≡ true → next.begun ≡ true
by_asked w next who request asked begun = by_served w next who request asked.reply asked.served begun

by_all : (requests : List Request) (w end : World) (who : ℕ) → AreRequestsAnswered w who requests end → w.begun ≡ true → end.begun ≡ true
by_all [] w end who same begun = by_same w end same begun
by_all (request ∷ requests) w end who (next, asked, rest) begun = by_all requests next end who rest (by_asked w next who request asked begun)

-- `begin` begins, where that hasn't come before
after_begin : (w next : World) (who : ℕ) → IsAsked w who Begin next → next.begun ≡ true
after_begin w next who asked = by_begun w.begun refl asked.served where
  by_begun : (b : Bool) → w.begun ≡ b → IsServed w who Begin asked.reply next → next.begun ≡ true
  by_begun true begun served = by_served w next who Begin asked.reply served begun
  by_begun false before served = ap (λ (v : World). v.begun) (rw before at served).next_is

-- requests after others
behind : (requests others : List Request) (w end : World) (who : ℕ) → ((v : World) → AreRequestsAnswered v who others end → end.begun ≡ true)
    → AreRequestsAnswered w who (requests ++ others) end → end.begun ≡ true
behind [] others w end who then all = then w all
behind (request ∷ requests) others w end who then (next, asked, rest) = behind requests others next end who then rest

after_input : (fixes plans : List Request) (kind : Request) (w end : World) (who : ℕ) → AreRequestsAnswered w who (fixes ++ kind ∷ Begin ∷ plans) end → end.begun ≡ true
after_input fixes plans kind w end who all =
    behind fixes (kind ∷ Begin ∷ plans) w end who
    (λ v (typed, first, (begun, second, rest)). by_all plans begun end who rest (after_begin typed begun who second)) all

-- advice and drops
each_begun : (Does : World → List ℕ → World → Type 0) (divisor n : ℕ) (w end : World)
    → ((v u : World) (call : List ℕ) → Does v call u → v.begun ≡ true → u.begun ≡ true) → EachDivided Does divisor n w end → w.begun ≡ true
    → end.begun ≡ true
unfolding EachDivided
each_begun Does divisor zero w end keeps same begun = by_same w end same begun
each_begun Does divisor (suc n) w end keeps (middle, before, last) begun =
    let between = each_begun Does divisor n w middle keeps before begun in
    on_either (nat_eq (n % divisor) 0) _ _ _ (λ does. keeps middle end (callsign n) does between) (λ same. by_same middle end same between) last

first_accepted : (items : List AdviceItem) (w end : World) → IsFirstAccepted w items end → w.begun ≡ true → end.begun ≡ true
first_accepted [] w end same begun = by_same w end same begun
first_accepted (item ∷ items) w end asked begun = by_asked w end 1 (Accept item.probe) asked begun

advice_taken : (reply : Reply) (w end : World) → IsAdviceTaken w reply end → w.begun ≡ true → end.begun ≡ true
advice_taken (Advice advice call eff version) w end accepted begun = first_accepted advice w end accepted begun
advice_taken reply w end same begun = by_same w end same begun

advised : (w end : World) (call : List ℕ) → IsAdvisedFlight w call end → w.begun ≡ true → end.begun ≡ true
advised w end call flight begun =
    advice_taken flight.advice flight.advised end flight.accepts
    (by_served flight.taken flight.advised 1 (Advise call) flight.advice flight.asks (by_asked w flight.taken 1 Take flight.takes begun))

dropped : (w end : World) (call : List ℕ) → IsDroppedFlight w call end → w.begun ≡ true → end.begun ≡ true
dropped w end call asked begun = by_asked w end 0 (Change (Drop call)) asked begun

pub run_begun : (flights number : ℕ) (end : World) → IsLoadRun flights number end → end.begun ≡ true
unfolding each_below
run_begun flights number end run =
    let filed = after_input (each_below fix 64) (each_below (plan_of number) flights ++ Change (Tick 60) ∷ []) (TypeLine kind_name bands)
    opening_world run.filed 0 run.files in
    let advice = each_begun IsAdvisedFlight 8 flights run.filed run.advised (λ v u call. advised v u call) run.advises filed in
    each_begun IsDroppedFlight 5 flights run.moved end (λ v u call. dropped v u call) run.drops
    (by_asked run.advised run.moved 0 (Change (Tick 120)) run.moves advice)
