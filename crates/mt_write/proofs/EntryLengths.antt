-- How long the texts of entries are.
use Rattle.std.proofs.Common.{ℕ, ℤ, pos, negsuc, neg_ℤ, Option, Some, None, Ok, ◌≡◌, ◌*◌, ◌+◌, ◌<◌, ◌≤◌, ◌^◌, Bool, true, false, List, [], ◌∷◌, ◌++◌, length, map, codes, refl, subst, sym, arith, length-append}
use Rattle.std.proofs.lemmas.Bool.Decides.{nat_tests}
use Rattle.std.proofs.lemmas.Int.{ints}
use Rattle.std.proofs.lemmas.List.{map-append}
use Rattle.std.proofs.lemmas.List.Elements.{All-head, All-tail}
use Rattle.std.proofs.lemmas.Option.{slice_get-get_or}
use Rattle.std.specs.List.{AllByRecursion}
use Rattle.std.specs.Prelude.{All, IfSome, get_or, nat_le, unwrap_or}
use Rattle.json.specs.Print.{escape}
use Rattle.json.proofs.OnLiterals.{json_on_literals}
use Rattle.serde_json.specs.Data.{Members, member, no_members, object, string}
use Rattle.serde_json.specs.Written.{compact_text, items_text, members_text}
use Rattle.mt_base.specs.declared.clearance.Clearance.{Clearance}
use Rattle.mt_base.specs.declared.clearance.Clearance.TheVariants.{Level, Direct}
use Rattle.mt_base.specs.declared.command.Command.{Command}
use Rattle.mt_base.specs.declared.command.Command.TheVariants as command
use Rattle.mt_base.specs.declared.command.Entry.{Entry}
use Rattle.mt_base.specs.declared.command.Refusal.{Refusal}
use Rattle.mt_base.specs.declared.flight.Report.{Report}
use Rattle.mt_base.specs.declared.flight.Straight.{Straight}
use Rattle.mt_base.specs.declared.route.RouteNo.{RouteNo}
use Rattle.mt_base.specs.Bounds.{IsBoundedClearance, IsBoundedCommand, IsBoundedReport, IsBoundedStretch, IsWithin}
use Rattle.mt_base.specs.Complete.{HasNames, IsComplete, IsNamedClearance}
use Rattle.mt_base.specs.Decision.{IsDecided, Look, checks, filled, look_at, refusal_of, route_checks}
use Rattle.mt_base.specs.History.{IsReplayable}
use Rattle.mt_base.specs.Name.{IsCallsign, IsFixName, is_name}
use Rattle.mt_base.specs.Picture.{State}
use Rattle.mt_base.specs.Tables.{Setup, Tables, fix_checks, length_checks}
use Rattle.mt_base.proofs.CheckLemmas.{all_passed}
use Rattle.mt_write.specs.Entry.{clearance_members, entry_members, entry_text, values, whole}
use Rattle.mt_write.specs.Short.{HasShortRoute, IsShortNumber}
use Rattle.mt_write.proofs.Lengths.{comma_length, digits_length, named_length, number_length, second_length, truth_length}
use Rattle.mt_write.proofs.PlainText.{plain_name}

-- a name of at most so many letters, between quotes
quoted_length : (low high : ℕ) (text : List ℕ) → is_name low high text ≡ true → length (escape text) ≤ high
quoted_length low high text h = subst (λ written. length written ≤ high) (sym (plain_name low high text h)) (named_length low high text h)

route_length : (later : Bool) (route : List (List ℕ)) → All IsFixName route → length (items_text later (values string route)) ≤ 8 * length route + 1
unfolding json_on_literals
route_length later [] each = omega arith
route_length later (fix ∷ route) each =
    simp length-append (
    omega (
      arith,
      comma_length later,
      quoted_length 2 5 fix (All-head IsFixName fix route each),
      route_length true route (All-tail IsFixName fix route each),
    ))

-- a number within bounds of 64 bits
short_number : (low high : ℕ) (z : ℤ) → low < 2 ^ 63 → high < 2 ^ 64 → IsWithin (neg_ℤ (pos low)) (pos high) z → IsShortNumber z
short_number low high (pos n) l h w = grind (arith, ints, w.most)
short_number low high (negsuc n) l h w = grind (arith, ints, w.least)

within_length : (low high : ℕ) (z : ℤ) → low < 2 ^ 63 → high < 2 ^ 64 → IsWithin (neg_ℤ (pos low)) (pos high) z → length (compact_text (whole z)) ≤ 20
within_length low high z l h w = number_length z (short_number low high z l h w)

-- ---- each command

plan_length : (who : ℕ) (call kind : List ℕ) (route : List (List ℕ)) (at from level : ℕ) (rvsm : Bool)
    → HasNames (command.Plan call kind route at from level rvsm) → IsBoundedCommand (command.Plan call kind route at from level rvsm) → who < 2 ^ 32 → length route ≤ 64
    → length (compact_text (object (entry_members who (command.Plan call kind route at from level rvsm)))) ≤ 65000
unfolding json_on_literals
plan_length who call kind route at from level rvsm names bounded w few =
    simp length-append (
    omega (
      arith,
      few,
      digits_length at (omega (arith, bounded.0)),
      quoted_length 1 7 call names.0,
      digits_length from (omega (arith, bounded.1)),
      digits_length level (omega (arith, bounded.2)),
      route_length false route names.2,
      truth_length rvsm,
      quoted_length 2 4 kind names.1,
      second_length who w,
    ))

external_length : (who : ℕ) (call : List ℕ) (s : Straight) → IsCallsign call → IsBoundedStretch s → who < 2 ^ 32
    → length (compact_text (object (entry_members who (command.External call s)))) ≤ 65000
unfolding json_on_literals
external_length who call s name bounded w =
    let k = bounded.kept in
    simp length-append (
    omega (
      arith,
      quoted_length 1 7 call name,
      digits_length s.from (omega (arith, bounded.begins)),
      within_length 0 1000 s.first.gr (omega arith) (omega arith) k.r.growth,
      within_length 0 10000 s.first.gw (omega arith) (omega arith) k.w.growth,
      within_length 0 72000 s.first.r (omega arith) (omega arith) k.r.value,
      truth_length s.rvsm,
      digits_length s.to (omega (arith, bounded.begins, bounded.short)),
      within_length 1000 1000 s.first.vx (omega arith) (omega arith) k.x.growth,
      within_length 1000 1000 s.first.vy (omega arith) (omega arith) k.y.growth,
      within_length 10000 10000 s.first.vz (omega arith) (omega arith) k.z.growth,
      within_length 0 600000 s.first.w (omega arith) (omega arith) k.w.value,
      second_length who w,
      within_length 3686400 3686400 s.first.x (omega arith) (omega arith) k.x.value,
      within_length 3686400 3686400 s.first.y (omega arith) (omega arith) k.y.value,
      within_length 0 3600000 s.first.z (omega arith) (omega arith) k.z.value,
    ))

report_length : (who : ℕ) (call : List ℕ) (report : Report) → IsCallsign call → IsBoundedReport report → who < 2 ^ 32
    → length (compact_text (object (entry_members who (command.Report call report)))) ≤ 65000
unfolding json_on_literals
report_length who call report name bounded w =
    simp length-append (
    omega (
      arith,
      digits_length report.at (omega (arith, bounded.early)),
      quoted_length 1 7 call name,
      second_length who w,
      within_length 3686400 3686400 report.x (omega arith) (omega arith) bounded.plane.0,
      within_length 3686400 3686400 report.y (omega arith) (omega arith) bounded.plane.1,
      within_length 0 3600000 report.z (omega arith) (omega arith) bounded.height,
    ))

-- a clearance's fields, before others
clearance_length : (word call : List ℕ) (clearance : Clearance) (eff : ℕ) (others : Members) → length (escape word) ≤ 100 → IsCallsign call → IsNamedClearance clearance
    → IsBoundedClearance clearance → eff < 2 ^ 64 → length (members_text true others) ≤ 100
    → length (compact_text (object (clearance_members word call clearance eff others))) ≤ 1000
unfolding json_on_literals
clearance_length word call (Level level) eff others short name named bounded early few =
    simp length-append (omega (arith, short, quoted_length 1 7 call name, digits_length level (omega (arith, bounded)), digits_length eff early, few))
clearance_length word call (Direct fix) eff others short name named bounded early few =
    simp length-append (omega (arith, short, quoted_length 1 7 call name, quoted_length 2 5 fix named, digits_length eff early, few))

abbrev who_member : ℕ → Members
who_member who = member (codes "who") (whole (pos who)) no_members

abbrev probed_members : ℕ → ℕ → Members
probed_members probed who = member (codes "v") (whole (pos probed)) (who_member who)

who_length : (who : ℕ) → who < 2 ^ 32 → length (members_text true (who_member who)) ≤ 100
unfolding json_on_literals
who_length who w = simp length-append (omega (arith, second_length who w))

probed_length : (probed who : ℕ) → probed < 2 ^ 64 → who < 2 ^ 32 → length (members_text true (probed_members probed who)) ≤ 100
unfolding json_on_literals
probed_length probed who p w = simp length-append (omega (arith, digits_length probed p, second_length who w))

early_or : (eff : Option ℕ) → IfSome eff (λ second. second ≤ 10000000) → unwrap_or eff 0 < 2 ^ 64
early_or None early = omega arith
early_or (Some second) early = omega (arith, early)

members_length : (who : ℕ) (c : Command) → HasNames c → IsBoundedCommand c → who < 2 ^ 32 → HasShortRoute c → length (compact_text (object (entry_members who c))) ≤ 65000
unfolding json_on_literals
members_length who (command.Plan call kind route at from level rvsm) names bounded w few = plan_length who call kind route at from level rvsm names bounded w few
members_length who (command.External call s) name bounded w few = external_length who call s name bounded w
members_length who (command.Report call report) name bounded w few = report_length who call report name bounded w
members_length who (command.Tick now) names bounded w few =
    simp length-append (omega (arith, digits_length now (omega (arith, bounded)), second_length who w))
members_length who (command.Clear call clearance eff) names bounded w few =
    omega (
      arith,
      clearance_length (codes "clear") call clearance (unwrap_or eff 0) (who_member who) (omega arith) names.0 names.1 bounded.0 (early_or eff bounded.1)
          (who_length who w),
    )
members_length who (command.Accept call clearance eff probed) names bounded w few =
    omega (
      arith,
      clearance_length (codes "accept") call clearance eff (probed_members probed who) (omega arith) names.0 names.1 bounded.0 (omega (arith, bounded.1))
          (probed_length probed who (omega (arith, bounded.2)) w),
    )
members_length who (command.Tentative call clearance eff) names bounded w few =
    omega (
      arith,
      clearance_length (codes "tentative") call clearance (unwrap_or eff 0) (who_member who) (omega arith) names.0 names.1 bounded.0 (early_or eff bounded.1)
          (who_length who w),
    )
members_length who (command.Drop call) name bounded w few = simp length-append (omega (arith, quoted_length 1 7 call name, second_length who w))
members_length who (command.Renew call) name bounded w few = simp length-append (omega (arith, quoted_length 1 7 call name, second_length who w))
members_length who (command.Withdraw call force) name bounded w few =
    simp length-append (omega (arith, quoted_length 1 7 call name, truth_length force, second_length who w))
members_length who (command.Commit call) name bounded w few = simp length-append (omega (arith, quoted_length 1 7 call name, second_length who w))

-- the text of a complete entry whose route has at most 64 names
pub short_entry : (e : Entry) → IsComplete e → HasShortRoute e.command → length (entry_text e) ≤ 65536
short_entry e is few =
    omega (
      arith,
      members_length e.who e.command is.names is.bounded is.who few,
      length-append (compact_text (object (entry_members e.who e.command))) (10 ∷ []),
    )

-- ---- entries of a history that can be replayed

halves : {X : Type 0} (P : X → Type 0) (xs ys : List X) → AllByRecursion P (xs ++ ys) → AllByRecursion P xs × AllByRecursion P ys
halves P [] ys all = (tt, all)
halves P (x ∷ xs) ys all = let h = halves P xs ys all.1 in ((all.0, h.0), h.1)

route_few : (tables : Tables) (route : List (List ℕ)) → AllByRecursion (λ c. c.1 ≡ true) (route_checks tables route) → length route ≤ 64
route_few tables route tests =
    let split : AllByRecursion (λ (c : Refusal × Bool). c.1 ≡ true) (map (λ (c : RouteNo × Bool). (refusal_of c.0, c.1)) (fix_checks tables route)
    ++ map (λ (c : RouteNo × Bool). (refusal_of c.0, c.1)) (length_checks route))
    = rw (← map-append {B = Refusal × Bool} (λ c. (refusal_of c.0, c.1)) (fix_checks tables route) (length_checks route)) tests in
    let lengths = (halves (λ (c : Refusal × Bool). c.1 ≡ true) (map (λ (c : RouteNo × Bool). (refusal_of c.0, c.1)) (fix_checks tables route)) _ split).1 in
    let few : nat_le (length route) 64 ≡ true = lengths.1.0 in
    grind (arith, nat_tests)

-- a command that passes its checks has a short route
passed_few : (setup : Setup) (look : Look) (who : ℕ) (c : Command) → AllByRecursion (λ check. check.1 ≡ true) (checks setup look who c) → HasShortRoute c
passed_few setup look who (command.Plan call kind route at from level rvsm) tests =
    route_few setup.tables route (halves (λ c. c.1 ≡ true) (route_checks setup.tables route) _ tests.1.1).0
passed_few setup look who c tests = tt

decided_few : (setup : Setup) (s : State) (e : Entry) → IsDecided setup s e.who e.command (Ok e) → HasShortRoute e.command
decided_few setup s e decided =
    let entry : Entry = record { who = e.who; command = filled s.now e.command } in
    passed_few setup (look_at s e.command) e.who e.command (all_passed (checks setup (look_at s e.command) e.who e.command) entry (rw decided.0 refl))

-- the text of each entry of a history that can be replayed
pub each_short : (setup : Setup) (h : List Entry) → All IsComplete h → IsReplayable setup h → All (λ e. length (entry_text e) ≤ 65536) h
each_short setup h complete replayable k d within =
    let e = get_or h k d in
    short_entry e (complete k d within) (decided_few setup _ e (replayable k e (slice_get-get_or h k d within)).0)
