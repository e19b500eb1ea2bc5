-- The table of commands: for each its word, who may give it, its fields with kinds and bounds, and what it asks for.
use Rattle.std.specs.Prelude.{ℕ, pos, neg_ℤ, ◌+◌, ◌-◌, ◌^◌, ◌+ℤ◌, ◌*ℤ◌, Bool, true, false, List, [], ◌∷◌, ◌++◌, map, codes, Option, Some, None, is_some, unwrap_or}
use Rattle.serde_json.specs.Data.{Members}
use Rattle.serde_json.specs.Find.{as_bool}
use Rattle.mt_base.specs.declared.area.Area.{Area}
use Rattle.mt_base.specs.declared.clearance.Clearance.{Clearance}
use Rattle.mt_base.specs.declared.clearance.Clearance.TheVariants.{Level, Direct}
use Rattle.mt_base.specs.declared.command.Command.{Command}
use Rattle.mt_base.specs.declared.command.Command.TheVariants as command
use Rattle.mt_base.specs.declared.flight.Report.{Report}
use Rattle.mt_base.specs.declared.flight.Straight.{Straight}
use Rattle.mt_base.specs.declared.role.Role.TheVariants as role
use Rattle.mt_base.specs.declared.row.Row.{Row}
use Rattle.mt_board.specs.declared.ask.Ask.TheVariants as asks
use Rattle.mt_json.specs.Field.{as_whole}
use Rattle.mt_read.specs.declared.key.Fault.{Fault}
use Rattle.mt_read.specs.declared.key.Fault.TheVariants.{Range}
use Rattle.mt_read.specs.declared.key.Key.{Key}
use Rattle.mt_read.specs.declared.key.Key.TheVariants as key
use Rattle.mt_read.specs.declared.request.Request.{Request}
use Rattle.mt_read.specs.declared.request.Request.TheVariants as request
use Rattle.mt_read.specs.declared.word.Change.{Change}
use Rattle.mt_read.specs.declared.word.Change.TheVariants as change
use Rattle.mt_read.specs.declared.word.EntryWord.{EntryWord}
use Rattle.mt_read.specs.declared.word.EntryWord.TheVariants as entries
use Rattle.mt_read.specs.declared.word.Group.{Group}
use Rattle.mt_read.specs.declared.word.Group.TheVariants as group
use Rattle.mt_read.specs.declared.word.Word.{Word}
use Rattle.mt_read.specs.declared.word.Word.TheVariants as word
use Rattle.mt_read.specs.Bands.{as_bands, as_numbers}
use Rattle.mt_read.specs.Corners.{as_corners}
use Rattle.mt_read.specs.Corners.{as_numbers as as_pair_of_numbers}
use Rattle.mt_read.specs.Field.{Field, as_call, as_fix, as_list_of, as_role, as_type, bound, count, count_if_there, first_of_two, free, may, must_have, number, read_at, second_of_two}
use Rattle.mt_read.specs.Rules.{rule_bound, rule_names, set_in}

-- `Layout`, `layout`: a command's row: word, group, fields, bounds, request
pub record Layout (A : Type 0) : Type 0 where
  pub text : List ℕ
  pub group : Group
  pub fields : List Field
  pub bounds : Members → List (Fault × Bool)
  pub asks : Members → A

abbrev pub layout : {A : Type 0} → List ℕ → Group → List Field → (Members → List (Fault × Bool)) → (Members → A) → Layout A
layout text group fields bounds asks = record { text = text; group = group; fields = fields; bounds = bounds; asks = asks }

-- ---- numbers and names that several commands have

-- a second up to 10,000,000
abbrev pub second_bound : Key → Members → Fault × Bool
second_bound key ms = bound key (pos 0) (pos 10000000) (number key ms)

-- a flight level up to 600
abbrev pub level_bound : Key → Members → Fault × Bool
level_bound key ms = bound key (pos 0) (pos 600) (number key ms)

-- a coordinate within 1,024 NM of the origin
abbrev pub plane_bound : Key → Members → Fault × Bool
plane_bound key ms = bound key (neg_ℤ (pos 3686400)) (pos 3686400) (number key ms)

-- a height up to flight level 600
abbrev pub height_bound : Key → Members → Fault × Bool
height_bound key ms = bound key (pos 0) (pos 3600000) (number key ms)

-- the callsign of a line
abbrev pub call_in : Members → List ℕ
call_in ms = unwrap_or (read_at key.Call as_call ms) []

-- `rvsm_field`, `rvsm_in`: RVSM approval, granted by default
abbrev pub rvsm_field : Field
rvsm_field = free key.Rvsm as_bool

abbrev pub rvsm_in : Members → Bool
rvsm_in ms = unwrap_or (read_at key.Rvsm as_bool ms) true

-- ---- planned flights

-- `plan_fields`, `plan_bounds`, `kind_in`, `route_in`: the fields and bounds of a plan, its type and route
abbrev pub plan_fields : List Field
plan_fields =
    must_have key.Call as_call ∷
    must_have key.Kind as_type ∷
    must_have key.Route (as_list_of as_fix) ∷
    must_have key.At as_whole ∷
    may key.From as_whole ∷
    must_have key.Level as_whole ∷
    rvsm_field ∷ []

abbrev pub plan_bounds : Members → List (Fault × Bool)
plan_bounds ms = second_bound key.At ms ∷ level_bound key.From ms ∷ level_bound key.Level ms ∷ []

abbrev pub kind_in : Members → List ℕ
kind_in ms = unwrap_or (read_at key.Kind as_type ms) []

abbrev pub route_in : Members → List (List ℕ)
route_in ms = unwrap_or (read_at key.Route (as_list_of as_fix) ms) []

-- a plan; its first level defaults to the cleared one
abbrev pub plan_in : Members → Command
plan_in ms = command.Plan (call_in ms) (kind_in ms) (route_in ms) (count key.At ms) (unwrap_or (count_if_there key.From ms) (count key.Level ms)) (count key.Level ms) (rvsm_in ms)

-- ---- external flights

-- the fields of an external flight
abbrev pub external_fields : List Field
external_fields =
    must_have key.Call as_call ∷
    must_have key.From as_whole ∷
    must_have key.To as_whole ∷
    must_have key.X as_whole ∷
    must_have key.Y as_whole ∷
    must_have key.Z as_whole ∷
    may key.Vx as_whole ∷
    may key.Vy as_whole ∷
    may key.Vz as_whole ∷
    may key.R as_whole ∷
    may key.Gr as_whole ∷
    may key.W as_whole ∷
    may key.Gw as_whole ∷
    rvsm_field ∷ []

-- `ends`, `row_in`: five values at a row's end, and the first row
abbrev pub ends : Row → ℕ → List (Fault × Bool)
ends row seconds =
    bound key.X (neg_ℤ (pos 3686400)) (pos 3686400) (row.x +ℤ row.vx *ℤ pos seconds) ∷
    bound key.Y (neg_ℤ (pos 3686400)) (pos 3686400) (row.y +ℤ row.vy *ℤ pos seconds) ∷
    bound key.Z (pos 0) (pos 3600000) (row.z +ℤ row.vz *ℤ pos seconds) ∷
    bound key.R (pos 0) (pos 72000) (row.r +ℤ row.gr *ℤ pos seconds) ∷
    bound key.W (pos 0) (pos 600000) (row.w +ℤ row.gw *ℤ pos seconds) ∷ []

abbrev pub row_in : Members → Row
row_in ms = record {
  x = number key.X ms;
  y = number key.Y ms;
  z = number key.Z ms;
  r = number key.R ms;
  w = number key.W ms;
  vx = number key.Vx ms;
  vy = number key.Vy ms;
  vz = number key.Vz ms;
  gr = number key.Gr ms;
  gw = number key.Gw ms;
  leg = 0;
}

-- `straight_of`, `straight_in`, `external_bounds`: an external flight's stretch, and its bounds
abbrev pub straight_of : Bool → Members → Straight
straight_of rvsm ms = record { from = count key.From ms; to = count key.To ms; first = row_in ms; rvsm = rvsm }

abbrev pub straight_in : Members → Straight
straight_in ms = straight_of (rvsm_in ms) ms

abbrev pub external_bounds : Members → List (Fault × Bool)
external_bounds ms =
    second_bound key.From ms ∷
    bound key.To (pos (count key.From ms + 1)) (pos (count key.From ms + 14400)) (number key.To ms) ∷
    plane_bound key.X ms ∷
    plane_bound key.Y ms ∷
    height_bound key.Z ms ∷
    bound key.Vx (neg_ℤ (pos 1000)) (pos 1000) (number key.Vx ms) ∷
    bound key.Vy (neg_ℤ (pos 1000)) (pos 1000) (number key.Vy ms) ∷
    bound key.Vz (neg_ℤ (pos 10000)) (pos 10000) (number key.Vz ms) ∷
    bound key.R (pos 0) (pos 72000) (number key.R ms) ∷
    bound key.Gr (pos 0) (pos 1000) (number key.Gr ms) ∷
    bound key.W (pos 0) (pos 600000) (number key.W ms) ∷
    bound key.Gw (pos 0) (pos 10000) (number key.Gw ms) ∷
    ends (row_in ms) (count key.To ms - count key.From ms)

-- ---- reports

-- `report_fields`, `report_bounds`, `report_in`: the fields and bounds of a report, and the report
abbrev pub report_fields : List Field
report_fields = must_have key.Call as_call ∷ must_have key.At as_whole ∷ must_have key.X as_whole ∷ must_have key.Y as_whole ∷ must_have key.Z as_whole ∷ []

abbrev pub report_bounds : Members → List (Fault × Bool)
report_bounds ms = second_bound key.At ms ∷ plane_bound key.X ms ∷ plane_bound key.Y ms ∷ height_bound key.Z ms ∷ []

abbrev pub report_in : Members → Report
report_in ms = record { at = count key.At ms; x = number key.X ms; y = number key.Y ms; z = number key.Z ms }

-- ---- clearances

-- a flight, a level or a fix, and the effective second
abbrev pub clearance_fields : List Field
clearance_fields =
    must_have key.Call as_call ∷
    first_of_two key.Level as_whole key.Direct ∷
    second_of_two key.Direct as_fix key.Level ∷
    may key.Eff as_whole ∷ []

-- the bounds of the level and the second
abbrev pub clearance_bounds : Members → List (Fault × Bool)
clearance_bounds ms = level_bound key.Level ms ∷ second_bound key.Eff ms ∷ []

-- `clearance_to`, `clearance_in`: direct to the fix given, else to the level
abbrev pub clearance_to : Option (List ℕ) → ℕ → Clearance
clearance_to (Some fix) level = Direct fix
clearance_to None level = Level level

abbrev pub clearance_in : Members → Clearance
clearance_in ms = clearance_to (read_at key.Direct as_fix ms) (count key.Level ms)

-- `accepted_fields`, `accepted_bounds`: an entered acceptance also names its probe's version
abbrev pub accepted_fields : List Field
accepted_fields = clearance_fields ++ must_have key.Probed as_whole ∷ []

abbrev pub accepted_bounds : Members → List (Fault × Bool)
accepted_bounds ms = clearance_bounds ms ++ bound key.Probed (pos 0) (pos 4194304) (number key.Probed ms) ∷ []

-- ---- restricted areas, whose hours are by default all

-- `area_fields`, `area_bounds`, `area_in`: the fields and bounds of an area, and the area
abbrev pub area_fields : List Field
area_fields =
    must_have key.Name as_fix ∷
    must_have key.Corners (as_list_of as_pair_of_numbers) ∷
    must_have key.Bottom as_whole ∷
    must_have key.Top as_whole ∷
    may key.From as_whole ∷
    may key.To as_whole ∷ []

abbrev pub area_bounds : Members → List (Fault × Bool)
area_bounds ms =
    (Range key.Corners, is_some (read_at key.Corners as_corners ms)) ∷
    level_bound key.Bottom ms ∷
    level_bound key.Top ms ∷
    second_bound key.From ms ∷
    bound key.To (pos 0) (pos 10014400) (number key.To ms) ∷ []

abbrev pub area_in : Members → Area
area_in ms = record {
  name = unwrap_or (read_at key.Name as_fix ms) [];
  corners = unwrap_or (read_at key.Corners as_corners ms) [];
  bottom = count key.Bottom ms;
  top = count key.Top ms;
  from = count key.From ms;
  to = unwrap_or (count_if_there key.To ms) 10014400;
}

-- ---- rows that several commands share: no field, a callsign alone, a clearance

-- `bare_layout`, `call_layout`, `clearance_layout`: a row without fields, with a callsign, with a clearance
abbrev pub bare_layout : List ℕ → Group → Request → Layout Request
bare_layout text group asked = layout text group [] (λ ms. []) (λ ms. asked)

abbrev pub call_layout : {A : Type 0} → List ℕ → Group → (List ℕ → A) → Layout A
call_layout text group asks = layout text group (must_have key.Call as_call ∷ []) (λ ms. []) (λ ms. asks (call_in ms))

abbrev pub clearance_layout : {A : Type 0} → List ℕ → Group → (List ℕ → Clearance → Option ℕ → A) → Layout A
clearance_layout text group asks =
    layout text group clearance_fields clearance_bounds (λ ms. asks (call_in ms) (clearance_in ms) (count_if_there key.Eff ms))

-- ---- the table

-- `change_layout`, `as_request`: the rows of the changes
abbrev pub change_layout : Change → Layout Command
change_layout change.Plan = layout (codes "plan") group.Feed plan_fields plan_bounds plan_in
change_layout change.External =
    layout (codes "external") group.Feed external_fields external_bounds (λ ms. command.External (call_in ms) (straight_in ms))
change_layout change.Drop = call_layout (codes "drop") group.Feed command.Drop
change_layout change.Report = layout (codes "report") group.Feed report_fields report_bounds (λ ms. command.Report (call_in ms) (report_in ms))
change_layout change.Tick =
    layout (codes "tick") group.Feed (must_have key.Now as_whole ∷ []) (λ ms. second_bound key.Now ms ∷ []) (λ ms. command.Tick (count key.Now ms))
change_layout change.Renew = call_layout (codes "renew") group.Feed command.Renew
change_layout change.Clear = clearance_layout (codes "clear") group.Position command.Clear
change_layout change.Tentative = clearance_layout (codes "tentative") group.Position command.Tentative
change_layout change.Withdraw =
    layout (codes "withdraw") group.Position (must_have key.Call as_call ∷ may key.Force as_bool ∷ []) (λ ms. [])
    (λ ms. command.Withdraw (call_in ms) (unwrap_or (read_at key.Force as_bool ms) false))
change_layout change.Commit = call_layout (codes "commit") group.Position command.Commit

abbrev pub as_request : Layout Command → Layout Request
as_request row = layout row.text row.group row.fields row.bounds (λ ms. request.Change (row.asks ms))

-- the row of each word that a line may use
abbrev pub layout_of : Word → Layout Request
layout_of word.Fix =
    layout (codes "fix") group.Script (must_have key.Name as_fix ∷ must_have key.X as_whole ∷ must_have key.Y as_whole ∷ [])
    (λ ms. plane_bound key.X ms ∷ plane_bound key.Y ms ∷ [])
    (λ ms. request.Fix (unwrap_or (read_at key.Name as_fix ms) []) (number key.X ms) (number key.Y ms))
layout_of word.TypeLine =
    layout (codes "type") group.Script (must_have key.Name as_type ∷ must_have key.Bands (as_list_of as_numbers) ∷ [])
    (λ ms. (Range key.Bands, is_some (read_at key.Bands as_bands ms)) ∷ [])
    (λ ms. request.TypeLine (unwrap_or (read_at key.Name as_type ms) []) (unwrap_or (read_at key.Bands as_bands ms) []))
layout_of word.Area = layout (codes "area") group.Script area_fields area_bounds (λ ms. request.Area (area_in ms))
layout_of word.Rule =
    layout (codes "rule") group.Script (map (λ name. may (key.Rule name) as_whole) rule_names) (λ ms. map (rule_bound ms) rule_names)
    (λ ms. request.Rule (set_in ms))
layout_of word.Begin = bare_layout (codes "begin") group.Script request.Begin
layout_of word.Take = bare_layout (codes "take") group.Script request.Take
layout_of word.Areas = bare_layout (codes "areas") group.Script request.Areas
layout_of (word.Change c) = as_request (change_layout c)
layout_of word.Probe = clearance_layout (codes "probe") group.Position request.Probe
layout_of word.Accept =
    layout (codes "accept") group.Position (must_have key.Probe as_whole ∷ [])
    (λ ms. bound key.Probe (pos 1) (pos (2 ^ 63 - 1)) (number key.Probe ms) ∷ []) (λ ms. request.Accept (count key.Probe ms))
layout_of word.Advise = call_layout (codes "advise") group.Position request.Advise
layout_of word.Hello =
    layout (codes "hello") group.Any (must_have key.Role as_role ∷ []) (λ ms. []) (λ ms. request.Hello (unwrap_or (read_at key.Role as_role ms) role.Feed))
layout_of word.List = bare_layout (codes "list") group.Any (request.Ask asks.List)
layout_of word.Check = bare_layout (codes "check") group.Any (request.Ask asks.Check)
layout_of word.Due = bare_layout (codes "due") group.Any (request.Ask asks.Due)
layout_of word.Flight =
    layout (codes "flight") group.Any (must_have key.Call as_call ∷ may key.Sec as_whole ∷ [])
    (λ ms. bound key.Sec (pos 0) (pos 10014400) (number key.Sec ms) ∷ []) (λ ms. request.Ask (asks.Flight (call_in ms) (count_if_there key.Sec ms)))
layout_of word.History =
    layout (codes "history") group.Any (must_have key.From as_whole ∷ must_have key.To as_whole ∷ [])
    (λ ms. bound key.From (pos 0) (pos 4194304) (number key.From ms) ∷
    bound key.To (pos (count key.From ms)) (pos (count key.From ms + 64)) (number key.To ms) ∷ [])
    (λ ms. request.Ask (asks.History (count key.From ms) (count key.To ms)))
layout_of word.Settle = bare_layout (codes "settle") group.Any request.Settle
layout_of word.Bye = bare_layout (codes "bye") group.Any request.Bye

-- the row of each entry, acceptances with their probe's version
abbrev pub entry_layout : EntryWord → Layout Command
entry_layout (entries.Change c) = change_layout c
entry_layout entries.Accepted =
    layout (codes "accept") group.Position accepted_fields accepted_bounds
    (λ ms. command.Accept (call_in ms) (clearance_in ms) (count key.Eff ms) (count key.Probed ms))
