-- A line that is read has its numbers within their bounds.
use Rattle.std.proofs.Common.{◌≡◌, ℕ, ℤ, pos, negsuc, neg_ℤ, ◌+◌, ◌-◌, ◌<◌, ◌≤◌, ◌^◌, Bool, true, false, cond, List, [], ◌∷◌, Result, Ok, Err, IsOk, refl, sym, ap, subst, length, arith, unsigned_abs}
use Rattle.std.specs.Bool.{⊤}
use Rattle.std.specs.Prelude.{◌&&◌, int_le, Option, Some, None, is_some, option_and_then, option_map, unwrap_or, IfOk, IfSome, All}
use Rattle.std.specs.List.{AllByRecursion}
use Rattle.std.proofs.lemmas.Bool.Decides.{nat_tests}
use Rattle.std.proofs.lemmas.Int.{ints}
use Rattle.std.proofs.lemmas.List.Elements.{All-nil, All-cons}
use Rattle.serde_json.specs.Data.{Data, Items, no_items, item, Members}
use Rattle.serde_json.specs.Find.{as_array, as_object, get_member}
use Rattle.mt_base.specs.declared.rules.RuleName.{RuleName}
use Rattle.mt_base.specs.declared.rules.Rules.{Rules}
use Rattle.mt_base.specs.declared.band.Band.{Band}
use Rattle.mt_base.specs.declared.command.Command.{Command}
use Rattle.mt_base.specs.Area.{IsBoundedArea}
use Rattle.mt_base.specs.Bounds.{AreBoundedBands, AreWithinBounds, IsAskedFor, IsBoundedBand, IsBoundedClearance, IsBoundedCommand, IsBoundedReport, IsBoundedStretch, IsInPlane, IsWithin}
use Rattle.mt_base.specs.Checks.{judged}
use Rattle.mt_base.proofs.CheckLemmas.{all_passed, answer_is}
use Rattle.mt_base.proofs.RuleLemmas.{bounded, inside}
use Rattle.mt_json.specs.Field.{as_whole}
use Rattle.mt_read.specs.declared.key.Fault.{Fault}
use Rattle.mt_read.specs.declared.key.Key.TheVariants as key
use Rattle.mt_read.specs.declared.request.LineNo.{LineNo}
use Rattle.mt_read.specs.declared.request.Sender.{Sender}
use Rattle.mt_read.specs.declared.request.Sender.TheVariants as sender
use Rattle.mt_read.specs.declared.request.Request.{Request}
use Rattle.mt_read.specs.declared.origin.Origin.{Origin}
use Rattle.mt_read.specs.declared.origin.Origin.TheVariants.{Line}
use Rattle.mt_read.specs.declared.origin.Origin.TheVariants as origins
use Rattle.mt_read.specs.declared.word.Change.{Change}
use Rattle.mt_read.specs.declared.word.Change.TheVariants as change
use Rattle.mt_read.specs.declared.word.EntryWord.{EntryWord}
use Rattle.mt_read.specs.declared.word.EntryWord.TheVariants as entries
use Rattle.mt_read.specs.declared.word.Word.{Word}
use Rattle.mt_read.specs.declared.word.Word.TheVariants as word
use Rattle.mt_read.specs.Bands.{Four, are_few, as_band, as_bands, as_four, band, band_of}
use Rattle.mt_read.specs.Corners.{Pair, are_enough, as_corner, as_corners, as_pair, corner_read, corner_of}
use Rattle.mt_read.specs.Bounded.{IsBounded, IsBoundedRequest, IsEntrySpan}
use Rattle.mt_read.specs.Field.{as_fix, as_list_of, count, count_if_there, each_of, number, read_at}
use Rattle.mt_read.specs.Key.{key_text}
use Rattle.mt_read.specs.Line.{◌>>=◌, GivesReading, checked, decoded, keys_of, kinds, least_other, line, as_line_refusal, of_word, read_layout, read_members, read_object, read_value, standing_rules, unless_other, who_bounds, who_fields, who_in, word_in, word_text}
use Rattle.mt_read.specs.Entry.{held_in, of_entry_word}
use Rattle.mt_read.specs.Rules.{rule_bounds, rules_with, set_in}
use Rattle.mt_read.specs.Table.{Layout, accepted_bounds, area_bounds, area_in, change_layout, clearance_bounds, clearance_in, clearance_to, entry_layout, external_bounds, layout_of, plan_bounds, plan_in, report_bounds, report_in, straight_in}
use Rattle.mt_read.specs.Words.{entry_word_of}
use Rattle.mt_read.proofs.StepLemmas.{judged_rules, ruled}

-- a number that isn't below 0, as a number of things
within_counts : (low high : ℕ) (z : ℤ) → IsWithin (pos low) (pos high) z → (low ≤ unsigned_abs z) × (unsigned_abs z ≤ high)
within_counts low high (pos n) w = (grind (arith, ints, w.least), grind (arith, ints, w.most))
within_counts low high (negsuc n) w = absurd (grind (arith, ints, w.least))

counted : (low high : ℕ) (z : ℤ) → (int_le (pos low) z && int_le z (pos high)) ≡ true → (low ≤ unsigned_abs z) × (unsigned_abs z ≤ high)
counted low high z test = within_counts low high z (inside (pos low) (pos high) z test)

external_bounded : (ms : Members) → AllByRecursion (λ c. c.1 ≡ true) (external_bounds ms) → IsBoundedStretch (straight_in ms)
external_bounded ms passed =
    let (from, (to, (x, (y, (z, (vx, (vy, (vz, (r, (gr, (w, (gw, (x_end, (y_end, (z_end, (r_end, (w_end, _))))))))))))))))) = passed in
    let f = counted 0 10000000 (number key.From ms) from in
    let t = counted (count key.From ms + 1) (count key.From ms + 14400) (number key.To ms) to in
    record {
      begins = f.1;
      some = omega (arith, t.0);
      short = t.1;
      kept = record {
        x = record { value = inside _ _ _ x; growth = inside _ _ _ vx; end = inside _ _ _ x_end };
        y = record { value = inside _ _ _ y; growth = inside _ _ _ vy; end = inside _ _ _ y_end };
        z = record { value = inside _ _ _ z; growth = inside _ _ _ vz; end = inside _ _ _ z_end };
        r = record { value = inside _ _ _ r; growth = inside _ _ _ gr; end = inside _ _ _ r_end };
        w = record { value = inside _ _ _ w; growth = inside _ _ _ gw; end = inside _ _ _ w_end };
      };
      no_leg = refl;
    }

history_bounded : (ms : Members) → AllByRecursion (λ c. c.1 ≡ true) ((layout_of word.History).bounds ms) → IsEntrySpan (count key.From ms) (count key.To ms)
history_bounded ms passed =
    let f = counted 0 4194304 (number key.From ms) passed.0 in
    let t = counted (count key.From ms) (count key.From ms + 64) (number key.To ms) passed.1.0 in
    record { begins = f.1; forward = t.0; short = t.1 }

fix_bounded : (ms : Members) → AllByRecursion (λ c. c.1 ≡ true) ((layout_of word.Fix).bounds ms) → IsInPlane (number key.X ms) (number key.Y ms)
fix_bounded ms passed = (inside _ _ _ passed.0, inside _ _ _ passed.1.0)

if_some : {A : Type 0} (b : Bool) (x y : A) → cond b (Some x) None ≡ Some y → (b ≡ true) × (x ≡ y)
if_some true x y e = (refl, (cc))
if_some false x y e = cc

number_bounded : (low high : ℤ) (o : Option ℤ) (y : ℤ) → option_and_then (λ z. cond (int_le low z && int_le z high) (Some z) None) o ≡ Some y → IsWithin low high y
number_bounded low high None y e = cc
number_bounded low high (Some z) y e = let was = if_some (int_le low z && int_le z high) z y e in subst (IsWithin low high) was.1 (inside low high z was.0)

band_bounded : (top speed climb descent : Option ℤ) (b : Band)
    → ((z : ℤ) → top ≡ Some z → IsWithin (pos 1) (pos 600) z) → ((z : ℤ) → speed ≡ Some z → IsWithin (pos 1) (pos 1000) z)
    → ((z : ℤ) → climb ≡ Some z → IsWithin (pos 1) (pos 10000) z) → ((z : ℤ) → descent ≡ Some z → IsWithin (pos 1) (pos 10000) z)
    → band top speed climb descent ≡ Some b → IsBoundedBand b
band_bounded (Some t) (Some s) (Some c) (Some d) b top speed climb descent e =
    let is : record { top = unsigned_abs t; speed = s; climb = c; descent = d } ≡ b = cc in
    subst IsBoundedBand is (record { top = within_counts 1 600 t (top t refl); speed = speed s refl; climb = climb c refl; descent = descent d refl })
band_bounded None s c d b top speed climb descent e = cc
band_bounded (Some t) None c d b top speed climb descent e = cc
band_bounded (Some t) (Some s) None d b top speed climb descent e = cc
band_bounded (Some t) (Some s) (Some c) None b top speed climb descent e = cc

four_bounded : (o : Option Four) (b : Band) → option_and_then band_of o ≡ Some b → IsBoundedBand b
four_bounded None b e = cc
four_bounded (Some n) b e =
    band_bounded _ _ _ _ b (number_bounded (pos 1) (pos 600) (as_whole n.top)) (number_bounded (pos 1) (pos 1000) (as_whole n.speed))
    (number_bounded (pos 1) (pos 10000) (as_whole n.climb)) (number_bounded (pos 1) (pos 10000) (as_whole n.descent)) e

-- a list that was read has a first item and others that were read
record FirstAndOthers {A : Type 0} (first : Option A) (others : Option (List A)) (xs : List A) : Type 0 where
  y : A
  ys : List A
  first_is : first ≡ Some y
  others_are : others ≡ Some ys
  list_is : y ∷ ys ≡ xs

first_and_others : {A : Type 0} (first : Option A) (others : Option (List A)) (xs : List A)
    → option_and_then (λ x. option_map (λ ys. x ∷ ys) others) first ≡ Some xs → FirstAndOthers first others xs
first_and_others None others xs e = cc
first_and_others (Some x) None xs e = cc
first_and_others (Some x) (Some ys) xs e = record { y = x; ys = ys; first_is = refl; others_are = refl; list_is = (cc) }

each_bounded : (ds : Items) (bands : List Band) → each_of as_band ds ≡ Some bands → All IsBoundedBand bands
each_bounded no_items bands e = let is : [] ≡ bands = cc in subst (All IsBoundedBand) is (All-nil IsBoundedBand)
each_bounded (item d ds) bands e =
    let was = first_and_others (as_band d) (each_of as_band ds) bands e in
    subst (All IsBoundedBand) was.list_is (All-cons IsBoundedBand was.y was.ys (four_bounded (as_four d) was.y was.first_is) (each_bounded ds was.ys was.others_are))

list_bounded : (o : Option Items) (bands : List Band) → option_and_then (each_of as_band) o ≡ Some bands → All IsBoundedBand bands
list_bounded None bands e = cc
list_bounded (Some ds) bands e = each_bounded ds bands e

few_bounded : (b : Bool) (bands : List Band) → (b ≡ true → AreBoundedBands bands) → is_some (cond b (Some bands) None) ≡ true
    → AreBoundedBands (unwrap_or (cond b (Some bands) None) [])
few_bounded true bands h e = h refl
few_bounded false bands h e = cc

counted_bands : (bands : List Band) → All IsBoundedBand bands → are_few bands ≡ true → AreBoundedBands bands
counted_bands bands each test = record { some = grind (arith, nat_tests); few = grind (arith, nat_tests); each = each }

bands_bounded : (o : Option (List Band)) → ((bands : List Band) → o ≡ Some bands → All IsBoundedBand bands)
    → is_some (option_and_then (λ bands. cond (are_few bands) (Some bands) None) o) ≡ true
    → AreBoundedBands (unwrap_or (option_and_then (λ bands. cond (are_few bands) (Some bands) None) o) [])
bands_bounded None each e = cc
bands_bounded (Some bands) each e = few_bounded (are_few bands) bands (counted_bands bands (each bands refl)) e

type_read : (o : Option Data) → is_some (option_and_then as_bands o) ≡ true → AreBoundedBands (unwrap_or (option_and_then as_bands o) [])
type_read None e = cc
type_read (Some d) e = bands_bounded (as_list_of as_band d) (list_bounded (as_array d)) e

type_bounded : (ms : Members) → AllByRecursion (λ c. c.1 ≡ true) ((layout_of word.TypeLine).bounds ms) → AreBoundedBands (unwrap_or (read_at key.Bands as_bands ms) [])
type_bounded ms passed = type_read (get_member (key_text key.Bands) ms) passed.0

-- the corners of an area
abbrev IsCorner : ℤ × ℤ → Type 0
IsCorner c = IsInPlane c.0 c.1

corner_bounded : (east north : Option ℤ) (c : ℤ × ℤ) → ((z : ℤ) → east ≡ Some z → IsWithin (neg_ℤ (pos 3686400)) (pos 3686400) z)
    → ((z : ℤ) → north ≡ Some z → IsWithin (neg_ℤ (pos 3686400)) (pos 3686400) z) → corner_read east north ≡ Some c → IsCorner c
corner_bounded (Some x) (Some y) c east north e = let is : (x, y) ≡ c = cc in subst IsCorner is (east x refl, north y refl)
corner_bounded None n c east north e = cc
corner_bounded (Some x) None c east north e = cc

pair_bounded : (o : Option Pair) (c : ℤ × ℤ) → option_and_then corner_of o ≡ Some c → IsCorner c
pair_bounded None c e = cc
pair_bounded (Some p) c e =
    corner_bounded _ _ c (number_bounded (neg_ℤ (pos 3686400)) (pos 3686400) (as_whole p.east)) (number_bounded (neg_ℤ (pos 3686400)) (pos 3686400) (as_whole p.north)) e

each_corner : (ds : Items) (cs : List (ℤ × ℤ)) → each_of as_corner ds ≡ Some cs → All IsCorner cs
each_corner no_items cs e = let is : [] ≡ cs = cc in subst (All IsCorner) is (All-nil IsCorner)
each_corner (item d ds) cs e =
    let was = first_and_others (as_corner d) (each_of as_corner ds) cs e in
    subst (All IsCorner) was.list_is (All-cons IsCorner was.y was.ys (pair_bounded (as_pair d) was.y was.first_is) (each_corner ds was.ys was.others_are))

list_corners : (o : Option Items) (cs : List (ℤ × ℤ)) → option_and_then (each_of as_corner) o ≡ Some cs → All IsCorner cs
list_corners None cs e = cc
list_corners (Some ds) cs e = each_corner ds cs e

record AreCorners (cs : List (ℤ × ℤ)) : Type 0 where
  some : 3 ≤ length cs
  few : length cs ≤ 16
  each : All IsCorner cs

counted_corners : (cs : List (ℤ × ℤ)) → All IsCorner cs → are_enough cs ≡ true → AreCorners cs
counted_corners cs each test = record { some = grind (arith, nat_tests); few = grind (arith, nat_tests); each = each }

enough_bounded : (b : Bool) (cs : List (ℤ × ℤ)) → (b ≡ true → AreCorners cs) → is_some (cond b (Some cs) None) ≡ true → AreCorners (unwrap_or (cond b (Some cs) None) [])
enough_bounded true cs h e = h refl
enough_bounded false cs h e = cc

corners_bounded : (o : Option (List (ℤ × ℤ))) → ((cs : List (ℤ × ℤ)) → o ≡ Some cs → All IsCorner cs)
    → is_some (option_and_then (λ cs. cond (are_enough cs) (Some cs) None) o) ≡ true
    → AreCorners (unwrap_or (option_and_then (λ cs. cond (are_enough cs) (Some cs) None) o) [])
corners_bounded None each e = cc
corners_bounded (Some cs) each e = enough_bounded (are_enough cs) cs (counted_corners cs (each cs refl)) e

corners_read : (o : Option Data) → is_some (option_and_then as_corners o) ≡ true → AreCorners (unwrap_or (option_and_then as_corners o) [])
corners_read None e = cc
corners_read (Some d) e = corners_bounded (as_list_of as_corner d) (list_corners (as_array d)) e

-- a number, or another where there is none
either_bounded : (high n : ℕ) (o : Option ℤ) → (int_le (pos 0) (unwrap_or o (pos 0)) && int_le (unwrap_or o (pos 0)) (pos high)) ≡ true → n ≤ high
    → unwrap_or (option_map unsigned_abs o) n ≤ high
either_bounded high n None test h = h
either_bounded high n (Some z) test h = (counted 0 high z test).1

area_bounded : (ms : Members) → AllByRecursion (λ c. c.1 ≡ true) (area_bounds ms) → IsBoundedArea (area_in ms)
area_bounded ms passed =
    let (corners, (bottom, (top, (from, (to, _))))) = passed in
    let are = corners_read (get_member (key_text key.Corners) ms) corners in
    record {
      some = are.some;
      few = are.few;
      each = are.each;
      bottom = (counted 0 600 (number key.Bottom ms) bottom).1;
      top = (counted 0 600 (number key.Top ms) top).1;
      begins = (counted 0 10000000 (number key.From ms) from).1;
      ends = either_bounded 10014400 10014400 (read_at key.To as_whole ms) to (omega arith);
    }

some_bounded : (high : ℕ) (o : Option ℤ) → (int_le (pos 0) (unwrap_or o (pos 0)) && int_le (unwrap_or o (pos 0)) (pos high)) ≡ true
    → IfSome (option_map unsigned_abs o) (λ n. n ≤ high)
some_bounded high None test = tt
some_bounded high (Some z) test = (counted 0 high z test).1

plan_bounded : (ms : Members) → AllByRecursion (λ c. c.1 ≡ true) (plan_bounds ms) → IsBoundedCommand (plan_in ms)
plan_bounded ms passed =
    let at = counted 0 10000000 (number key.At ms) passed.0 in
    let level = counted 0 600 (number key.Level ms) passed.1.1.0 in
    (at.1, either_bounded 600 (count key.Level ms) (read_at key.From as_whole ms) passed.1.0 level.1, level.1)

clearance_bounded : (fix : Option (List ℕ)) (level : ℕ) → level ≤ 600 → IsBoundedClearance (clearance_to fix level)
clearance_bounded (Some fix) level h = tt
clearance_bounded None level h = h

clear_bounded : (ms : Members) → AllByRecursion (λ c. c.1 ≡ true) (clearance_bounds ms)
    → IsBoundedClearance (clearance_in ms) × IfSome (count_if_there key.Eff ms) (λ second. second ≤ 10000000)
clear_bounded ms passed =
    let level = counted 0 600 (number key.Level ms) passed.0 in
    (clearance_bounded (read_at key.Direct as_fix ms) (count key.Level ms) level.1, some_bounded 10000000 (read_at key.Eff as_whole ms) passed.1.0)

accept_bounded : (ms : Members) → AllByRecursion (λ c. c.1 ≡ true) ((layout_of word.Accept).bounds ms) → (1 ≤ count key.Probe ms) × (count key.Probe ms < 2 ^ 63)
accept_bounded ms passed = let probe = counted 1 (2 ^ 63 - 1) (number key.Probe ms) passed.0 in (probe.0, omega (arith, probe.1))

flight_bounded : (ms : Members) → AllByRecursion (λ c. c.1 ≡ true) ((layout_of word.Flight).bounds ms) → IfSome (count_if_there key.Sec ms) (λ s. s ≤ 10014400)
flight_bounded ms passed = some_bounded 10014400 (read_at key.Sec as_whole ms) passed.0

unruled : (r : Result ⊤ RuleName) → IsOk (ruled r) → IsOk r
unruled (Ok u) ok = ok
unruled (Err name) ok = cc

rules_bounded : (rules : Rules) → IsOk (judged (rule_bounds rules) (tt {0})) → AreWithinBounds rules
rules_bounded rules ok = bounded rules (unruled _ (rw judged_rules at ok))

report_bounded : (ms : Members) → AllByRecursion (λ c. c.1 ≡ true) (report_bounds ms) → IsBoundedReport (report_in ms)
report_bounded ms passed =
    let at = counted 0 10000000 (number key.At ms) passed.0 in
    record { early = at.1; plane = (inside _ _ _ passed.1.0, inside _ _ _ passed.1.1.0); height = inside _ _ _ passed.1.1.1.0 }

change_bounded : (c : Change) (ms : Members) → IsOk (judged ((change_layout c).bounds ms) (tt {0}))
    → IsBoundedCommand ((change_layout c).asks ms) × IsAskedFor ((change_layout c).asks ms)
change_bounded change.Plan ms passed = (plan_bounded ms (all_passed (plan_bounds ms) (tt {0}) passed), tt)
change_bounded change.External ms passed = (external_bounded ms (all_passed (external_bounds ms) (tt {0}) passed), tt)
change_bounded change.Report ms passed = (report_bounded ms (all_passed (report_bounds ms) (tt {0}) passed), tt)
change_bounded change.Tick ms passed =
    ((counted 0 10000000 (number key.Now ms) (all_passed ((change_layout change.Tick).bounds ms) (tt {0}) passed).0).1, tt)
change_bounded change.Clear ms passed = (clear_bounded ms (all_passed (clearance_bounds ms) (tt {0}) passed), tt)
change_bounded change.Tentative ms passed = (clear_bounded ms (all_passed (clearance_bounds ms) (tt {0}) passed), tt)
change_bounded c ms passed = (tt, tt)

accepted_bounded : (ms : Members) → AllByRecursion (λ c. c.1 ≡ true) (accepted_bounds ms) → IsBoundedCommand ((entry_layout entries.Accepted).asks ms)
accepted_bounded ms passed =
    let level = counted 0 600 (number key.Level ms) passed.0 in
    let eff = counted 0 10000000 (number key.Eff ms) passed.1.0 in
    let probed = counted 0 4194304 (number key.Probed ms) passed.1.1.0 in
    (clearance_bounded (read_at key.Direct as_fix ms) (count key.Level ms) level.1, eff.1, probed.1)

held_bounded : (w : EntryWord) (ms : Members) → IsOk (judged ((entry_layout w).bounds ms) (tt {0})) → IsBoundedCommand ((entry_layout w).asks ms)
held_bounded (entries.Change c) ms passed = (change_bounded c ms passed).0
held_bounded entries.Accepted ms passed = accepted_bounded ms (all_passed (accepted_bounds ms) (tt {0}) passed)

request_bounded : (rules : Rules) (w : Word) (ms : Members) → IsOk (judged ((layout_of w).bounds ms) (tt {0}))
    → IsOk (judged (standing_rules w rules ms) (tt {0})) → IsBoundedRequest rules ((layout_of w).asks ms)
request_bounded rules word.Fix ms passed stands = fix_bounded ms (all_passed ((layout_of word.Fix).bounds ms) (tt {0}) passed)
request_bounded rules word.TypeLine ms passed stands = type_bounded ms (all_passed ((layout_of word.TypeLine).bounds ms) (tt {0}) passed)
request_bounded rules word.Area ms passed stands = area_bounded ms (all_passed (area_bounds ms) (tt {0}) passed)
request_bounded rules word.Rule ms passed stands = rules_bounded (rules_with (set_in ms) rules) stands
request_bounded rules (word.Change c) ms passed stands = change_bounded c ms passed
request_bounded rules word.Probe ms passed stands = clear_bounded ms (all_passed (clearance_bounds ms) (tt {0}) passed)
request_bounded rules word.Accept ms passed stands = accept_bounded ms (all_passed ((layout_of word.Accept).bounds ms) (tt {0}) passed)
request_bounded rules word.Flight ms passed stands = flight_bounded ms (all_passed ((layout_of word.Flight).bounds ms) (tt {0}) passed)
request_bounded rules word.History ms passed stands = history_bounded ms (all_passed ((layout_of word.History).bounds ms) (tt {0}) passed)
request_bounded rules w ms passed stands = tt

-- ---- through the steps of a line

who_bounded : (p : Sender) (ms : Members) (who : ℕ) → judged (who_bounds (Line p) ms) (who_in (Line p) ms) ≡ Ok who → who ≤ 15
who_bounded sender.Replay ms who e =
    let same : count key.Who ms ≡ who = answer_is (who_bounds (Line sender.Replay) ms) (count key.Who ms) who e in
    let ok : IsOk (judged (who_bounds (Line sender.Replay) ms) (count key.Who ms)) = rw e refl in
    let small : count key.Who ms ≤ 15 = (counted 0 15 (number key.Who ms) (all_passed (who_bounds (Line sender.Replay) ms) (count key.Who ms) ok).0).1 in
    rw (← same) small
who_bounded p ms who e = let same : 0 ≡ who = cc in omega arith

-- what each step of an answer was
pub record Steps {A : Type 0} (bounded_is more_is : Result ⊤ Fault) (who : Result ℕ Fault) (q : A) (a : ℕ × A) : Type 0 where
  pub bounded_ok : IsOk bounded_is
  pub more_ok : IsOk more_is
  pub who_is : who ≡ Ok a.0
  pub asked_is : q ≡ a.1

steps : {A : Type 0} (k l b : Result ⊤ Fault) (who : Result ℕ Fault) (s : Result ⊤ Fault) (q : A) (a : ℕ × A)
    → (k >>= λ _. (l >>= λ _. (b >>= λ _. (who >>= λ n. (s >>= λ _. Ok (n, q)))))) ≡ Ok a → Steps b s who q a
steps {A} (Ok _) (Ok _) (Ok _) (Ok n) (Ok _) q a e =
    let same : (n, q) ≡ a = cc in
    record { bounded_ok = refl; more_ok = refl; who_is = ap (λ (x : ℕ × A). Ok x.0) same; asked_is = ap (λ (x : ℕ × A). x.1) same }
steps (Err f) l b who s q a e = cc
steps (Ok _) (Err f) b who s q a e = cc
steps (Ok _) (Ok _) (Err f) who s q a e = cc
steps (Ok _) (Ok _) (Ok _) (Err f) s q a e = cc
steps (Ok _) (Ok _) (Ok _) (Ok n) (Err f) q a e = cc

pub checked_steps : {A : Type 0} (origin : Origin) (more : List (Fault × Bool)) (row : Layout A) (ms : Members) (a : ℕ × A) → checked origin more row ms ≡ Ok a
    → Steps (judged (row.bounds ms) (tt {0})) (judged more (tt {0})) (judged (who_bounds origin ms) (who_in origin ms)) (row.asks ms) a
unfolding checked
checked_steps origin more row ms a e =
    steps (kinds origin row.fields ms) (kinds origin (who_fields origin) ms) (judged (row.bounds ms) (tt {0}))
    (judged (who_bounds origin ms) (who_in origin ms)) (judged more (tt {0})) (row.asks ms) a e

checked_bounded : (p : Sender) (rules : Rules) (w : Word) (ms : Members) (a : ℕ × Request) → checked (Line p) (standing_rules w rules ms) (layout_of w) ms ≡ Ok a → IsBounded rules a
checked_bounded p rules w ms a e =
    let was = checked_steps (Line p) (standing_rules w rules ms) (layout_of w) ms a e in
    record { who = who_bounded p ms a.0 was.who_is; request = subst (IsBoundedRequest rules) was.asked_is (request_bounded rules w ms was.bounded_ok was.more_ok) }

entry_bounded : (w : EntryWord) (ms : Members) (a : ℕ × Command) → checked origins.Entry [] (entry_layout w) ms ≡ Ok a → IsBoundedCommand a.1
entry_bounded w ms a e =
    let was = checked_steps origins.Entry [] (entry_layout w) ms a e in
    subst IsBoundedCommand was.asked_is (held_bounded w ms was.bounded_ok)

-- ---- through the reading of an object: what holds of the answer of its fields holds of its answer

named_holds : {A : Type 0} (P : A → Type 0) (r : Result A Fault) (a : A) → ((b : A) → r ≡ Ok b → P b) → as_line_refusal r ≡ Ok a → P a
named_holds P (Ok b) a h e = h a (cc)
named_holds P (Err f) a h e = cc

other_holds : {A : Type 0} (P : A → Type 0) (o : Option (List ℕ)) (r : Result A LineNo) (a : A) → (r ≡ Ok a → P a) → unless_other o r ≡ Ok a → P a
other_holds P (Some key) r a h e = cc
other_holds P None r a h e = h e

pub layout_holds : {A : Type 0} (P : ℕ × A → Type 0) (origin : Origin) (more : List (Fault × Bool)) (row : Layout A) (ms : Members) (a : ℕ × A)
    → ((b : ℕ × A) → checked origin more row ms ≡ Ok b → P b) → read_layout origin more row ms ≡ Ok a → P a
layout_holds P origin more row ms a h e =
    other_holds P (least_other (keys_of origin row.fields) ms) (as_line_refusal (checked origin more row ms)) a (named_holds P (checked origin more row ms) a h) e

object_holds : {A : Type 0} (P : A → Type 0) (reading : Members → Result A LineNo) (o : Option Members) (a : A)
    → ((ms : Members) → reading ms ≡ Ok a → P a) → read_object reading o ≡ Ok a → P a
object_holds P reading None a h e = cc
object_holds P reading (Some ms) a h e = h ms e

pub value_holds : {A : Type 0} (P : A → Type 0) (reading : Members → Result A LineNo) (o : Option Data) (a : A)
    → ((ms : Members) → reading ms ≡ Ok a → P a) → read_value reading o ≡ Ok a → P a
value_holds P reading None a h e = cc
value_holds P reading (Some d) a h e = object_holds P reading (as_object d) a h e

word_bounded : (p : Sender) (rules : Rules) (ms : Members) (o : Option Word) (a : ℕ × Request) → of_word p rules ms o ≡ Ok a → IsBounded rules a
word_bounded p rules ms None a e = cc
word_bounded p rules ms (Some w) a e = layout_holds (IsBounded rules) (Line p) (standing_rules w rules ms) (layout_of w) ms a (checked_bounded p rules w ms) e

-- a line that is read has its numbers within their bounds
pub line_bounded : (p : Sender) (rules : Rules) (bytes : List ℕ) (a : ℕ × Request) → line p rules bytes ≡ Ok a → IsBounded rules a
line_bounded p rules bytes a e =
    value_holds (IsBounded rules) (read_members p rules) (decoded bytes) a (λ ms. word_bounded p rules ms (word_in p ms) a) e

pub answer_bounded : (p : Sender) (rules : Rules) (bytes : List ℕ) (r : Result (ℕ × Request) LineNo) → GivesReading r (line p rules bytes) → IfOk r (IsBounded rules)
answer_bounded p rules bytes (Ok a) e = line_bounded p rules bytes a (sym e)
answer_bounded p rules bytes (Err e) h = tt

abbrev pub HoldsBounded : ℕ × Command → Type 0
HoldsBounded a = IsBoundedCommand a.1

pub entry_word_bounded : (ms : Members) (o : Option EntryWord) (a : ℕ × Command) → of_entry_word ms o ≡ Ok a → HoldsBounded a
entry_word_bounded ms None a e = cc
entry_word_bounded ms (Some w) a e = layout_holds HoldsBounded origins.Entry [] (entry_layout w) ms a (entry_bounded w ms) e

-- and so has an entry that is read
pub held_answer_bounded : (bytes : List ℕ) (r : Result (ℕ × Command) LineNo) → GivesReading r (read_value held_in (decoded bytes)) → IfOk r HoldsBounded
held_answer_bounded bytes (Ok a) e =
    value_holds HoldsBounded held_in (decoded bytes) a (λ ms. entry_word_bounded ms (option_and_then entry_word_of (word_text ms)) a) (sym e)
held_answer_bounded bytes (Err e) h = tt
