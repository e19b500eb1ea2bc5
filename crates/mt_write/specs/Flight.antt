-- A flight's view as a JSON value.
use Rattle.std.specs.Prelude.{pos, [], ◌∷◌, codes, Option, Some, None}
use Rattle.serde_json.specs.Data.{Data, null, boolean, string, array, object, no_members, member}
use Rattle.mt_base.specs.declared.flight.FlightView.{FlightView}
use Rattle.mt_base.specs.declared.flight.Tent.{Tent}
use Rattle.mt_base.specs.declared.row.Row.{Row}
use Rattle.mt_write.specs.Entry.{values, whole}

-- a value, or null
abbrev pub or_null : {A : Type 0} → (A → Data) → Option A → Data
or_null value None = null
or_null value (Some x) = value x

-- a row as eleven numbers. The five values, what each of them gains, and the leg.
abbrev pub row_value : Row → Data
row_value row = array (values whole (
    row.x ∷ row.y ∷ row.z ∷ row.r ∷ row.w ∷
    row.vx ∷ row.vy ∷ row.vz ∷ row.gr ∷ row.gw ∷ pos row.leg ∷ []))

-- a tentative clearance
abbrev pub tent_value : Tent → Data
tent_value tent = object (
    member (codes "level") (whole (pos tent.level)) (
    member (codes "owner") (whole (pos tent.owner)) (
    member (codes "start") (whole (pos tent.start)) no_members)))

-- a flight, keys in byte order. null stands for no level, no row and no tentative clearance.
abbrev pub flight_value : FlightView → Data
flight_value view = object (
    member (codes "call") (string view.call) (
    member (codes "due") (boolean view.due) (
    member (codes "end") (whole (pos view.end)) (
    member (codes "level") (or_null (λ level. whole (pos level)) view.level) (
    member (codes "row") (or_null row_value view.row) (
    member (codes "start") (whole (pos view.start)) (
    member (codes "tentative") (or_null tent_value view.tentative) (
    member (codes "version") (whole (pos view.version)) no_members))))))))
