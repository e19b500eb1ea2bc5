-- The text of an entry.
use Rattle.std.specs.Prelude.{ℕ, ℤ, pos, List, [], ◌∷◌, ◌++◌, codes, unwrap_or}
use Rattle.serde_json.specs.Data.{Data, boolean, number, string, array, object, Items, no_items, item, Members, no_members, member}
use Rattle.serde_json.specs.Find.{of_integer}
use Rattle.serde_json.specs.Written.{compact_text}
use Rattle.mt_base.specs.declared.clearance.Clearance.{Clearance}
use Rattle.mt_base.specs.declared.clearance.Clearance.TheVariants.{Level, Direct}
use Rattle.mt_base.specs.declared.command.Command.{Command}
use Rattle.mt_base.specs.declared.command.Command.TheVariants as command
use Rattle.mt_base.specs.declared.command.Entry.{Entry}

-- a whole number
abbrev pub whole : ℤ → Data
whole z = number (of_integer z)

-- the values of some things, in order
abbrev pub values : {A : Type 0} → (A → Data) → List A → Items
values value [] = no_items
values value (x ∷ xs) = item (value x) (values value xs)

-- a clearance's fields, before others. With the command's word: a fix to fly direct to stands before it, a level after it.
abbrev pub clearance_members : List ℕ → List ℕ → Clearance → ℕ → Members → Members
clearance_members word call (Level level) eff others =
    member (codes "call") (string call) (
    member (codes "do") (string word) (
    member (codes "eff") (whole (pos eff)) (
    member (codes "level") (whole (pos level)) others)))
clearance_members word call (Direct fix) eff others =
    member (codes "call") (string call) (
    member (codes "direct") (string fix) (
    member (codes "do") (string word) (
    member (codes "eff") (whole (pos eff)) others)))

-- a callsign, the command's word and who asked
abbrev pub call_members : List ℕ → List ℕ → ℕ → Members
call_members word call who =
    member (codes "call") (string call) (
    member (codes "do") (string word) (
    member (codes "who") (whole (pos who)) no_members))

-- `entry_members`, `entry_value`: an entry's fields, keys in byte order. All of its command's, and the number of who asked for it. A clearance that
-- is entered says from when it holds; 0 stands for one that doesn't.
abbrev pub entry_members : ℕ → Command → Members
entry_members who (command.Plan call kind route at from level rvsm) =
    member (codes "at") (whole (pos at)) (
    member (codes "call") (string call) (
    member (codes "do") (string (codes "plan")) (
    member (codes "from") (whole (pos from)) (
    member (codes "level") (whole (pos level)) (
    member (codes "route") (array (values string route)) (
    member (codes "rvsm") (boolean rvsm) (
    member (codes "type") (string kind) (
    member (codes "who") (whole (pos who)) no_members))))))))
entry_members who (command.External call straight) =
    member (codes "call") (string call) (
    member (codes "do") (string (codes "external")) (
    member (codes "from") (whole (pos straight.from)) (
    member (codes "gr") (whole straight.first.gr) (
    member (codes "gw") (whole straight.first.gw) (
    member (codes "r") (whole straight.first.r) (
    member (codes "rvsm") (boolean straight.rvsm) (
    member (codes "to") (whole (pos straight.to)) (
    member (codes "vx") (whole straight.first.vx) (
    member (codes "vy") (whole straight.first.vy) (
    member (codes "vz") (whole straight.first.vz) (
    member (codes "w") (whole straight.first.w) (
    member (codes "who") (whole (pos who)) (
    member (codes "x") (whole straight.first.x) (
    member (codes "y") (whole straight.first.y) (
    member (codes "z") (whole straight.first.z) no_members)))))))))))))))
entry_members who (command.Drop call) = call_members (codes "drop") call who
entry_members who (command.Report call report) =
    member (codes "at") (whole (pos report.at)) (
    member (codes "call") (string call) (
    member (codes "do") (string (codes "report")) (
    member (codes "who") (whole (pos who)) (
    member (codes "x") (whole report.x) (
    member (codes "y") (whole report.y) (
    member (codes "z") (whole report.z) no_members))))))
entry_members who (command.Tick now) =
    member (codes "do") (string (codes "tick")) (
    member (codes "now") (whole (pos now)) (
    member (codes "who") (whole (pos who)) no_members))
entry_members who (command.Renew call) = call_members (codes "renew") call who
entry_members who (command.Clear call clearance eff) =
    clearance_members (codes "clear") call clearance (unwrap_or eff 0) (member (codes "who") (whole (pos who)) no_members)
entry_members who (command.Accept call clearance eff probed) =
    clearance_members (codes "accept") call clearance eff (
    member (codes "v") (whole (pos probed)) (
    member (codes "who") (whole (pos who)) no_members))
entry_members who (command.Tentative call clearance eff) =
    clearance_members (codes "tentative") call clearance (unwrap_or eff 0) (member (codes "who") (whole (pos who)) no_members)
entry_members who (command.Withdraw call force) =
    member (codes "call") (string call) (
    member (codes "do") (string (codes "withdraw")) (
    member (codes "force") (boolean force) (
    member (codes "who") (whole (pos who)) no_members)))
entry_members who (command.Commit call) = call_members (codes "commit") call who

abbrev pub entry_value : Entry → Data
entry_value e = object (entry_members e.who e.command)

-- an entry's compact text and 0x0A
abbrev pub entry_text : Entry → List ℕ
entry_text e = compact_text (entry_value e) ++ 10 ∷ []
