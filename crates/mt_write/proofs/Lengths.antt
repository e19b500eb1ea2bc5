-- How long the texts of replies are.
use Rattle.serde_json.specs.Data.{boolean, string, object}
use Rattle.serde_json.specs.Written.{comma_if, compact_text, items_text}
use Rattle.std.proofs.Common.{ℕ, ℤ, pos, negsuc, suc, Option, Some, None, ◌≡◌, ◌*◌, ◌+◌, ◌<◌, ◌≤◌, ◌^◌, nat_lt, cond, Bool, true, false, List, [], ◌∷◌, ◌++◌, length, decimal, codes, subst, sym, arith, length-append}
use Rattle.std.specs.Prelude.{IfSome, All, ◌||◌}
use Rattle.std.proofs.lemmas.Bool.Decides.{nat_tests}
use Rattle.std.proofs.lemmas.Fmt.{length-decimal-le}
use Rattle.std.proofs.lemmas.List.Elements.{All-head, All-tail}
use Rattle.json.specs.Print.{escape_letter, escape_byte, escape}
use Rattle.json.proofs.OnLiterals.{json_on_literals}
use Rattle.mt_base.specs.declared.command.Refusal.{Refusal}
use Rattle.mt_base.specs.declared.command.Refusal.TheVariants.{UnknownCall, UnknownType, UnknownFix, TentativeHeld, Stale}
use Rattle.mt_base.specs.declared.command.Refusal.TheVariants as refusal
use Rattle.mt_base.specs.declared.flight.FlightView.{FlightView}
use Rattle.mt_base.specs.declared.flight.Tent.{Tent}
use Rattle.mt_base.specs.declared.hit.Hit.{Hit}
use Rattle.mt_base.specs.declared.row.Row.{Row}
use Rattle.mt_base.specs.Name.{is_name}
use Rattle.mt_write.specs.declared.reply.DoneWord.TheVariants.{Fix, TypeLine, Area, Rule, Begin, Bye}
use Rattle.mt_base.specs.declared.role.Role.TheVariants.{Feed, Position}
use Rattle.mt_base.specs.declared.verdict.Verdict.{Verdict}
use Rattle.mt_base.specs.declared.clearance.Clearance.{Clearance}
use Rattle.mt_base.specs.declared.clearance.Clearance.TheVariants.{Level, Direct}
use Rattle.mt_write.specs.declared.reply.AdviceItem.{AdviceItem}
use Rattle.mt_write.specs.declared.reply.Reply.{Reply}
use Rattle.mt_write.specs.declared.reply.Reply.TheVariants as reply
use Rattle.mt_write.specs.Entry.{values, whole}
use Rattle.mt_write.specs.Flight.{or_null, row_value, tent_value}
use Rattle.mt_write.specs.Private.Flags.{flag_text, flags_text, verdict_value}
use Rattle.mt_write.specs.Reply.{advised_members, advised_value, hit_value, refusal_word, reply_text}
use Rattle.mt_write.proofs.PlainText.{plain_name}
use Rattle.mt_write.proofs.ValueTexts.{flags_of, verdict_text}
use Rattle.mt_write.specs.Short.{IsShort, IsShortAdvice, IsShortAdvised, IsShortClearance, IsShortFlight, IsShortHit, IsShortNumber, IsShortProbe, IsShortRefusal, IsShortRow, IsShortTent}

escaped : (b c : Bool) (x y : List ℕ) (z : List ℕ) → length x ≤ 6 → length y ≤ 6 → length z ≤ 6 → length (cond b x (cond c y z)) ≤ 6
escaped true c x y z p q r = p
escaped false true x y z p q r = q
escaped false false x y z p q r = r

byte_length : (x : ℕ) → length (escape_byte x) ≤ 6
unfolding escape_byte
byte_length x = escaped (nat_lt 0 (escape_letter x)) (nat_lt x 32) _ _ _ (omega arith) (omega arith) (omega arith)

-- a byte stands between quotes as at most six
pub escape_length : (text : List ℕ) → length (escape text) ≤ 6 * length text
escape_length [] = omega arith
escape_length (x ∷ xs) = omega (arith, byte_length x, escape_length xs, length-append (escape_byte x) (escape xs))

pub digits_length : (version : ℕ) → version < 2 ^ 64 → length (decimal version) ≤ 20
digits_length version fits = length-decimal-le 20 version (omega arith) (omega arith) fits

-- ---- hits

pub second_length : (n : ℕ) → n < 2 ^ 32 → length (decimal n) ≤ 10
second_length n fits = length-decimal-le 10 n (omega arith) (omega arith) (omega arith)

pub named_length : (low high : ℕ) (text : List ℕ) → is_name low high text ≡ true → length text ≤ high
named_length low high text h = grind (arith, nat_tests)

name_length : (text : List ℕ) → is_name 1 7 text ≡ true → length (escape text) ≤ 7
name_length text h = subst (λ written. length written ≤ 7) (sym (plain_name 1 7 text h)) (named_length 1 7 text h)

hit_length : (hit : Hit) → IsShortHit hit → length (compact_text (hit_value hit)) ≤ 55
unfolding json_on_literals
hit_length hit short = simp length-append (omega (arith, second_length hit.first short.first, second_length hit.last short.last, name_length hit.with short.with_is))

pub comma_length : (later : Bool) → length (comma_if later) ≤ 1
comma_length true = omega arith
comma_length false = omega arith

hits_length : (later : Bool) (hits : List Hit) → All IsShortHit hits → length (items_text later (values hit_value hits)) ≤ 56 * length hits + 1
hits_length later [] each = omega arith
hits_length later (hit ∷ hits) each =
    omega (
      arith,
      comma_length later,
      hit_length hit (All-head IsShortHit hit hits each),
      hits_length true hits (All-tail IsShortHit hit hits each),
      length-append (comma_if later) (compact_text (hit_value hit) ++ items_text true (values hit_value hits)),
      length-append (compact_text (hit_value hit)) (items_text true (values hit_value hits)),
    )

probe_length : (conflicts : List Hit) (eff probe version : ℕ) → IsShortProbe conflicts eff probe version
    → length (reply_text (reply.Probe conflicts eff probe version)) ≤ 65536
unfolding json_on_literals
probe_length conflicts eff probe version short =
    simp length-append (
    omega (
      arith,
      hits_length false conflicts short.each,
      short.few,
      second_length eff short.second,
      digits_length probe short.number,
      digits_length version short.at_version,
    ))

refused_length : (refusal : Refusal) (version : ℕ) → IsShortRefusal refusal → version < 2 ^ 64 → length (reply_text (reply.Refused refusal version)) ≤ 65536
unfolding json_on_literals
refused_length (UnknownCall call) version short fits = simp length-append (omega (arith, digits_length version fits, escape_length call))
refused_length (UnknownType name) version short fits = simp length-append (omega (arith, digits_length version fits, escape_length name))
refused_length (UnknownFix name) version short fits = simp length-append (omega (arith, digits_length version fits, escape_length name))
refused_length (TentativeHeld owner) version short fits = simp length-append (omega (arith, digits_length version fits, second_length owner short))
refused_length (Stale first) version short fits = simp length-append (omega (
  arith,
  digits_length version fits,
  second_length first.first short.first,
  second_length first.last short.last,
  name_length first.with short.with_is,
))
refused_length refusal version short fits = simp length-append (omega (arith, digits_length version fits))

-- ---- callsigns and advice

calls_length : (later : Bool) (calls : List (List ℕ)) → All (λ call. is_name 1 7 call ≡ true) calls → length (items_text later (values string calls)) ≤ 10 * length calls + 1
unfolding json_on_literals
calls_length later [] each = omega arith
calls_length later (call ∷ calls) each =
    simp length-append (
    omega (
      arith,
      comma_length later,
      name_length call (All-head (λ call. is_name 1 7 call ≡ true) call calls each),
      calls_length true calls (All-tail (λ call. is_name 1 7 call ≡ true) call calls each),
    ))

advised_length : (clearance : Clearance) (probe : ℕ) → IsShortClearance clearance → probe < 2 ^ 64 → length (compact_text (object (advised_members clearance probe))) ≤ 60
unfolding json_on_literals
advised_length (Level level) probe short fits = simp length-append (omega (arith, second_length level short, digits_length probe fits))
advised_length (Direct fix) probe short fits = simp length-append (omega (arith, name_length fix short, digits_length probe fits))

all_advised_length : (later : Bool) (advice : List AdviceItem) → All IsShortAdvised advice → length (items_text later (values advised_value advice)) ≤ 61 * length advice + 1
all_advised_length later [] each = omega arith
all_advised_length later (a ∷ advice) each =
    let first = All-head IsShortAdvised a advice each in
    omega (
      arith,
      comma_length later,
      advised_length a.clearance a.probe first.clearance first.number,
      all_advised_length true advice (All-tail IsShortAdvised a advice each),
      length-append (comma_if later) (compact_text (advised_value a) ++ items_text true (values advised_value advice)),
      length-append (compact_text (advised_value a)) (items_text true (values advised_value advice)),
    )

advice_length : (advice : List AdviceItem) (call : List ℕ) (eff version : ℕ) → IsShortAdvice advice call eff version
    → length (reply_text (reply.Advice advice call eff version)) ≤ 65536
unfolding json_on_literals
advice_length advice call eff version short =
    simp length-append (
    omega (
      arith,
      all_advised_length false advice short.each,
      short.few,
      name_length call short.call_is,
      second_length eff short.second,
      digits_length version short.at_version,
    ))

flag_length : (later : Bool) (name : List ℕ) (holds : Bool) → length (flag_text later name holds) ≤ length name + 3
flag_length later name true = simp length-append (omega (arith, comma_length later))
flag_length later name false = omega arith

end_length : (later : Bool) → length (flags_text later []) ≤ 2
end_length true = omega arith
end_length false = omega arith

flags_length : (v : Verdict) → length (flags_of v) ≤ 60
flags_length v =
    simp length-append (
    omega (
      arith,
      flag_length false (codes "lateral") v.lateral,
      flag_length v.lateral (codes "along") v.along,
      flag_length (v.lateral || v.along) (codes "vertical") v.vertical,
      flag_length ((v.lateral || v.along) || v.vertical) (codes "aged") v.aged,
      flag_length (((v.lateral || v.along) || v.vertical) || v.aged) (codes "outside") v.outside,
      end_length ((((v.lateral || v.along) || v.vertical) || v.aged) || v.outside),
    ))

verdict_length : (v : Verdict) → length (compact_text (verdict_value v)) ≤ 60
verdict_length v = subst (λ text. length text ≤ 60) (verdict_text v) (flags_length v)

entered_length : (version : ℕ) (verdict : Option Verdict) → version < 2 ^ 64 → length (reply_text (reply.Entered (record { version = version; verdict = verdict }))) ≤ 65536
unfolding json_on_literals
entered_length version None fits = simp length-append (omega (arith, digits_length version fits))
entered_length version (Some v) fits = simp length-append (omega (arith, digits_length version fits, verdict_length v))

-- ---- what is told of a flight

pub number_length : (z : ℤ) → IsShortNumber z → length (compact_text (whole z)) ≤ 20
number_length (pos n) short = digits_length n short
number_length (negsuc n) short = omega (arith, length-decimal-le 19 (suc n) (omega arith) (omega arith) (omega arith))

pub truth_length : (b : Bool) → length (compact_text (boolean b)) ≤ 5
truth_length true = omega arith
truth_length false = omega arith

level_length : (level : Option ℕ) → IfSome level (λ n. n < 2 ^ 64) → length (compact_text (or_null (λ n. whole (pos n)) level)) ≤ 20
level_length None short = omega arith
level_length (Some n) short = digits_length n short

row_length : (row : Option Row) → IfSome row IsShortRow → length (compact_text (or_null row_value row)) ≤ 300
row_length None short = omega arith
row_length (Some row) short =
    simp length-append (
    omega (
      arith,
      number_length row.x short.x,
      number_length row.y short.y,
      number_length row.z short.z,
      number_length row.r short.r,
      number_length row.w short.w,
      number_length row.vx short.vx,
      number_length row.vy short.vy,
      number_length row.vz short.vz,
      number_length row.gr short.gr,
      number_length row.gw short.gw,
      digits_length row.leg short.leg,
    ))

tent_length : (tent : Option Tent) → IfSome tent IsShortTent → length (compact_text (or_null tent_value tent)) ≤ 300
unfolding json_on_literals
tent_length None short = omega arith
tent_length (Some tent) short =
    simp length-append (omega (arith, digits_length tent.level short.level, digits_length tent.owner short.owner, digits_length tent.start short.start))

flight_length : (view : FlightView) → IsShortFlight view → length (reply_text (reply.Flight view)) ≤ 65536
unfolding json_on_literals
flight_length view short =
    simp length-append (
    omega (
      arith,
      escape_length view.call,
      short.call,
      truth_length view.due,
      digits_length view.end short.end,
      level_length view.level short.level,
      row_length view.row short.row,
      digits_length view.start short.start,
      tent_length view.tentative short.tentative,
      digits_length view.version short.version,
    ))

-- ---- the refusal of an entry that a standby was to follow

word_length : (why : Refusal) → length (refusal_word why) ≤ 14
word_length refusal.HeldCall = omega arith
word_length (refusal.UnknownCall call) = omega arith
word_length (refusal.UnknownType name) = omega arith
word_length (refusal.UnknownFix name) = omega arith
word_length refusal.RouteShort = omega arith
word_length refusal.RouteLong = omega arith
word_length refusal.RouteTwice = omega arith
word_length refusal.Full = omega arith
word_length refusal.HistoryFull = omega arith
word_length refusal.Backward = omega arith
word_length refusal.Old = omega arith
word_length refusal.Future = omega arith
word_length refusal.Ended = omega arith
word_length refusal.NotAhead = omega arith
word_length refusal.Ceiling = omega arith
word_length (refusal.TentativeHeld owner) = omega arith
word_length refusal.NoTentative = omega arith
word_length refusal.NotOwner = omega arith
word_length refusal.NoProbe = omega arith
word_length refusal.NotFree = omega arith
word_length (refusal.Stale first) = omega arith
word_length refusal.NotDue = omega arith
word_length refusal.Fixed = omega arith

illegal_length : (version : ℕ) (refusal : Refusal) → version < 2 ^ 64 → length (reply_text (reply.Illegal version refusal)) ≤ 65536
unfolding json_on_literals
illegal_length version refusal fits = simp length-append (omega (arith, digits_length version fits, escape_length (refusal_word refusal), word_length refusal))

-- a reply that carries no list has at most 65,536 bytes
pub short_text : (r : Reply) → IsShort r → length (reply_text r) ≤ 65536
unfolding json_on_literals
short_text (reply.Done Fix) short = omega arith
short_text (reply.Done TypeLine) short = omega arith
short_text (reply.Done Area) short = omega arith
short_text (reply.Done Rule) short = omega arith
short_text (reply.Done Begin) short = omega arith
short_text (reply.Done Bye) short = omega arith
short_text (reply.Hello Feed) short = omega arith
short_text (reply.Hello Position) short = omega arith
short_text (reply.Taken version) short = simp length-append (omega (arith, digits_length version short))
short_text (reply.Entered entered) short = entered_length entered.version entered.verdict short
short_text (reply.List conflicts version) short = absurd short
short_text (reply.Probe conflicts eff probe version) short = probe_length conflicts eff probe version short
short_text (reply.Advice advice call eff version) short = advice_length advice call eff version short
short_text (reply.Flight view) short = flight_length view short
short_text (reply.Due calls version) short =
    simp length-append (omega (arith, calls_length false calls short.each, short.few, digits_length version short.at_version))
short_text (reply.Settled left version) short =
    simp length-append (omega (arith, calls_length false left short.each, short.few, digits_length version short.at_version))
short_text (reply.History entries version) short = absurd short
short_text (reply.Areas areas version) short = absurd short
short_text (reply.Form name) short = simp length-append (omega (arith, escape_length name))
short_text (reply.Range name) short = simp length-append (omega (arith, escape_length name))
short_text (reply.TakenFix name) short = simp length-append (omega (arith, escape_length name))
short_text (reply.TakenType name) short = simp length-append (omega (arith, escape_length name))
short_text (reply.Refused refusal version) short = refused_length refusal version short.0 short.1
short_text (reply.Illegal version refusal) short = illegal_length version refusal short
short_text (reply.Late version) short = simp length-append (omega (arith, digits_length version short))
short_text r short = omega arith
