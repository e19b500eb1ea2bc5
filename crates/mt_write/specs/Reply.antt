-- The text of a reply.
use Rattle.std.specs.Prelude.{ℕ, pos, Bool, List, [], ◌∷◌, ◌++◌, map, filter, codes, Option, Some, None}
use Rattle.serde_json.specs.Data.{Data, string, array, object, no_items, item, Members, no_members, member}
use Rattle.serde_json.specs.Written.{compact_text}
use Rattle.mt_base.specs.declared.area.Pierced.{Pierced}
use Rattle.mt_base.specs.declared.command.Refusal.{Refusal}
use Rattle.mt_base.specs.declared.command.Refusal.TheVariants as refusal
use Rattle.mt_base.specs.declared.clearance.Clearance.{Clearance}
use Rattle.mt_base.specs.declared.clearance.Clearance.TheVariants.{Level, Direct}
use Rattle.mt_base.specs.declared.conflict.Conflict.{Conflict}
use Rattle.mt_base.specs.declared.conflict.Kind.{Kind}
use Rattle.mt_base.specs.declared.conflict.Kind.TheVariants.{Actual, Tentative}
use Rattle.mt_base.specs.declared.hit.Hit.{Hit}
use Rattle.mt_base.specs.declared.role.Role.{Role}
use Rattle.mt_base.specs.declared.role.Role.TheVariants.{Feed, Position}
use Rattle.mt_base.specs.declared.verdict.Verdict.{Verdict}
use Rattle.mt_write.specs.declared.reply.AdviceItem.{AdviceItem}
use Rattle.mt_write.specs.declared.reply.DoneWord.{DoneWord}
use Rattle.mt_write.specs.declared.reply.DoneWord.TheVariants.{Fix, TypeLine, Area, Rule, Begin, Bye}
use Rattle.mt_write.specs.declared.reply.Reply.{Reply}
use Rattle.mt_write.specs.declared.reply.Reply.TheVariants as reply
use Rattle.mt_write.specs.Entry.{entry_value, values, whole}
use Rattle.mt_write.specs.Flight.{flight_value}

-- the word of what is done
abbrev pub done_text : DoneWord → List ℕ
done_text Fix = codes "fix"
done_text TypeLine = codes "type"
done_text Area = codes "area"
done_text Rule = codes "rule"
done_text Begin = codes "begin"
done_text Bye = codes "bye"

-- the text of a role
abbrev pub role_text : Role → List ℕ
role_text Feed = codes "feed"
role_text Position = codes "position"

-- a kind's letter, `a` or `t`
abbrev pub kind_letter : Kind → ℕ
kind_letter Actual = 97
kind_letter Tentative = 116

-- a conflict, the lesser callsign first
abbrev pub conflict_value : Conflict → Data
conflict_value c = object (
    member (codes "first") (whole (pos c.first)) (
    member (codes "kinds") (string (kind_letter c.ka ∷ kind_letter c.kb ∷ [])) (
    member (codes "last") (whole (pos c.last)) (
    member (codes "pair") (array (item (string c.a) (item (string c.b) no_items))) no_members))))

-- a hit
abbrev pub hit_value : Hit → Data
hit_value hit = object (
    member (codes "first") (whole (pos hit.first)) (
    member (codes "last") (whole (pos hit.last)) (
    member (codes "with") (string hit.with) no_members)))

-- a pierce of an area by a trajectory
abbrev pub pierced_value : Pierced → Data
pierced_value p = object (
    member (codes "area") (string p.area) (
    member (codes "call") (string p.call) (
    member (codes "first") (whole (pos p.first)) (
    member (codes "kind") (string (kind_letter p.kind ∷ [])) (
    member (codes "last") (whole (pos p.last)) no_members)))))

-- `flags`, `holding`: a verdict's flags in order, and those set
abbrev pub flags : Verdict → List (List ℕ × Bool)
flags v =
    (codes "lateral", v.lateral) ∷
    (codes "along", v.along) ∷
    (codes "vertical", v.vertical) ∷
    (codes "aged", v.aged) ∷
    (codes "outside", v.outside) ∷ []

abbrev pub holding : List (List ℕ × Bool) → List (List ℕ)
holding named = map (λ flag. flag.0) (filter (λ flag. flag.1) named)

-- the verdict on a report. No other command has one.
abbrev pub verdict_members : Option Verdict → Members
verdict_members None = no_members
verdict_members (Some v) = member (codes "verdict") (array (values string (holding (flags v)))) no_members

-- `advised_members`, `advised_value`: an advised clearance and its probe's number
abbrev pub advised_members : Clearance → ℕ → Members
advised_members (Level level) probe = member (codes "level") (whole (pos level)) (member (codes "probe") (whole (pos probe)) no_members)
advised_members (Direct fix) probe = member (codes "direct") (string fix) (member (codes "probe") (whole (pos probe)) no_members)

abbrev pub advised_value : AdviceItem → Data
advised_value advised = object (advised_members advised.clearance advised.probe)

-- a refusal by its word alone
abbrev pub word_value : List ℕ → Data
word_value word = object (member (codes "no") (string word) no_members)

-- a refusal naming what is taken
abbrev pub taken_value : List ℕ → Data
taken_value name = object (member (codes "name") (string name) (member (codes "no") (string (codes "taken")) no_members))

-- a refusal naming a field
abbrev pub field_value : List ℕ → List ℕ → Data
field_value name word = object (member (codes "field") (string name) (member (codes "no") (string word) no_members))

-- a refusal at a version
abbrev pub at_version : List ℕ → ℕ → Members
at_version word version = member (codes "no") (string word) (member (codes "version") (whole (pos version)) no_members)

-- a refusal naming an unknown name
abbrev pub unknown_name : List ℕ → List ℕ → ℕ → Members
unknown_name word name version = member (codes "name") (string name) (at_version word version)

-- a refusal of a route, and why
abbrev pub bad_route : List ℕ → ℕ → Members
bad_route why version =
    member (codes "no") (string (codes "route")) (member (codes "version") (whole (pos version)) (member (codes "why") (string why) no_members))

-- a refusal naming a tentative clearance's owner
abbrev pub held_by : ℕ → ℕ → Members
held_by owner version =
    member (codes "no") (string (codes "tentative-held")) (
    member (codes "owner") (whole (pos owner)) (
    member (codes "version") (whole (pos version)) no_members))

-- a refusal's fields, at a version
abbrev pub refusal_members : ℕ → Refusal → Members
refusal_members version refusal.HeldCall = at_version (codes "held-call") version
refusal_members version (refusal.UnknownCall call) = unknown_name (codes "unknown-call") call version
refusal_members version (refusal.UnknownType name) = unknown_name (codes "unknown-type") name version
refusal_members version (refusal.UnknownFix name) = unknown_name (codes "unknown-fix") name version
refusal_members version refusal.RouteShort = bad_route (codes "short") version
refusal_members version refusal.RouteLong = bad_route (codes "long") version
refusal_members version refusal.RouteTwice = bad_route (codes "twice") version
refusal_members version refusal.Full = at_version (codes "full") version
refusal_members version refusal.HistoryFull = at_version (codes "history-full") version
refusal_members version refusal.Backward = at_version (codes "backward") version
refusal_members version refusal.Old = at_version (codes "old") version
refusal_members version refusal.Future = at_version (codes "future") version
refusal_members version refusal.Ended = at_version (codes "ended") version
refusal_members version refusal.NotAhead = at_version (codes "not-ahead") version
refusal_members version refusal.Ceiling = at_version (codes "ceiling") version
refusal_members version (refusal.TentativeHeld owner) = held_by owner version
refusal_members version refusal.NoTentative = at_version (codes "no-tentative") version
refusal_members version refusal.NotOwner = at_version (codes "not-owner") version
refusal_members version refusal.NoProbe = at_version (codes "no-probe") version
refusal_members version refusal.NotFree = at_version (codes "not-free") version
refusal_members version (refusal.Stale first) = member (codes "conflict") (hit_value first) (at_version (codes "stale") version)
refusal_members version refusal.NotDue = at_version (codes "not-due") version
refusal_members version refusal.Fixed = at_version (codes "fixed") version

-- the word of a refusal
abbrev pub refusal_word : Refusal → List ℕ
refusal_word refusal.HeldCall = codes "held-call"
refusal_word (refusal.UnknownCall call) = codes "unknown-call"
refusal_word (refusal.UnknownType name) = codes "unknown-type"
refusal_word (refusal.UnknownFix name) = codes "unknown-fix"
refusal_word refusal.RouteShort = codes "route"
refusal_word refusal.RouteLong = codes "route"
refusal_word refusal.RouteTwice = codes "route"
refusal_word refusal.Full = codes "full"
refusal_word refusal.HistoryFull = codes "history-full"
refusal_word refusal.Backward = codes "backward"
refusal_word refusal.Old = codes "old"
refusal_word refusal.Future = codes "future"
refusal_word refusal.Ended = codes "ended"
refusal_word refusal.NotAhead = codes "not-ahead"
refusal_word refusal.Ceiling = codes "ceiling"
refusal_word (refusal.TentativeHeld owner) = codes "tentative-held"
refusal_word refusal.NoTentative = codes "no-tentative"
refusal_word refusal.NotOwner = codes "not-owner"
refusal_word refusal.NoProbe = codes "no-probe"
refusal_word refusal.NotFree = codes "not-free"
refusal_word (refusal.Stale first) = codes "stale"
refusal_word refusal.NotDue = codes "not-due"
refusal_word refusal.Fixed = codes "fixed"

-- a standby's refusal of an illegal entry. With the word of why it is not what is decided.
abbrev pub illegal_value : ℕ → Refusal → Data
illegal_value version why = object (
    member (codes "no") (string (codes "illegal")) (
    member (codes "version") (whole (pos version)) (
    member (codes "why") (string (refusal_word why)) no_members)))

-- a reply as an object, keys in byte order
abbrev pub reply_value : Reply → Data
reply_value (reply.Done word) = object (member (codes "done") (string (done_text word)) no_members)
reply_value (reply.Hello role) = object (member (codes "role") (string (role_text role)) no_members)
reply_value (reply.Taken version) = object (member (codes "taken") (whole (pos version)) no_members)
reply_value (reply.Entered entered) = object (member (codes "entered") (whole (pos entered.version)) (verdict_members entered.verdict))
reply_value (reply.List conflicts version) = object (
    member (codes "conflicts") (array (values conflict_value conflicts)) (
    member (codes "version") (whole (pos version)) no_members))
reply_value (reply.Probe conflicts eff probe version) = object (
    member (codes "conflicts") (array (values hit_value conflicts)) (
    member (codes "eff") (whole (pos eff)) (
    member (codes "probe") (whole (pos probe)) (
    member (codes "version") (whole (pos version)) no_members))))
reply_value (reply.Advice advice call eff version) = object (
    member (codes "advice") (array (values advised_value advice)) (
    member (codes "call") (string call) (
    member (codes "eff") (whole (pos eff)) (
    member (codes "version") (whole (pos version)) no_members))))
reply_value (reply.Flight view) = flight_value view
reply_value (reply.Due calls version) = object (
    member (codes "calls") (array (values string calls)) (
    member (codes "version") (whole (pos version)) no_members))
reply_value (reply.Settled left version) = object (
    member (codes "left") (array (values string left)) (
    member (codes "version") (whole (pos version)) no_members))
reply_value (reply.History entries version) = object (
    member (codes "entries") (array (values entry_value entries)) (
    member (codes "version") (whole (pos version)) no_members))
reply_value (reply.Areas areas version) = object (
    member (codes "areas") (array (values pierced_value areas)) (
    member (codes "version") (whole (pos version)) no_members))
reply_value reply.Json = word_value (codes "json")
reply_value reply.Long = word_value (codes "long")
reply_value reply.Begun = word_value (codes "begun")
reply_value reply.Unbegun = word_value (codes "unbegun")
reply_value reply.Bands = word_value (codes "bands")
reply_value reply.TablesFull = word_value (codes "tables-full")
reply_value reply.Shape = word_value (codes "shape")
reply_value reply.AreasFull = word_value (codes "areas-full")
reply_value reply.Memory = word_value (codes "memory")
reply_value (reply.Form name) = field_value name (codes "form")
reply_value (reply.Range name) = field_value name (codes "range")
reply_value (reply.TakenFix name) = taken_value name
reply_value (reply.TakenType name) = taken_value name
reply_value (reply.Refused refusal version) = object (refusal_members version refusal)
reply_value (reply.Illegal version refusal) = illegal_value version refusal
reply_value (reply.Late version) = object (at_version (codes "late") version)

-- a reply's compact text and 0x0A
abbrev pub reply_text : Reply → List ℕ
reply_text r = compact_text (reply_value r) ++ 10 ∷ []
