-- The tables of fixes and types, by name.
use Rattle.std.specs.Prelude.{ℕ, Bool, true, List, [], ◌∷◌, length, Option, nat_eq, nat_le, not, ◌&&◌, is_some, map}
use Rattle.std.specs.Cmp.Lexicographic.{pointwise}
use Rattle.std.specs.Map.{lookup}
use Rattle.std.specs.Str.{bytes_eq}
use Rattle.mt_base.specs.declared.band.Band.{Band}
use Rattle.mt_base.specs.declared.place.Point.{Point}
use Rattle.mt_base.specs.declared.route.RouteNo.{RouteNo}
use Rattle.mt_base.specs.declared.route.RouteNo.TheVariants.{UnknownFix, Short, Long, Twice}
use Rattle.mt_base.specs.declared.rules.Rules.{Rules}

-- fixes with positions, types with bands, each name once
pub record Tables : Type 0 where
  pub fixes : List (List ℕ × Point)
  pub types : List (List ℕ × List Band)

-- the tables at first
abbrev pub no_tables : Tables
no_tables = record { fixes = []; types = [] }

-- `Setup`, `setup_with`: the rules and tables, fixed before `begin`
pub record Setup : Type 0 where
  pub rules : Rules
  pub tables : Tables

abbrev pub setup_with : Rules → Tables → Setup
setup_with rules tables = record { rules = rules; tables = tables }

-- the position of the fix of that name
abbrev pub fix_of : Tables → List ℕ → Option Point
fix_of tables name = lookup (pointwise nat_eq name) tables.fixes

-- the bands of the type of that name
abbrev pub bands_of : Tables → List ℕ → Option (List Band)
bands_of tables name = lookup (pointwise nat_eq name) tables.types

-- the ceiling of some bands, the last top
abbrev pub ceiling_of : List Band → ℕ
ceiling_of [] = 0
ceiling_of (b ∷ []) = b.top
ceiling_of (b ∷ c ∷ bs) = ceiling_of (c ∷ bs)

-- no name is followed by itself
abbrev pub differ_from_next : List (List ℕ) → Bool
differ_from_next [] = true
differ_from_next (n ∷ []) = true
differ_from_next (n ∷ m ∷ ns) = not (bytes_eq n m) && differ_from_next (m ∷ ns)

-- each name of a route is a fix's
abbrev pub fix_checks : Tables → List (List ℕ) → List (RouteNo × Bool)
fix_checks tables route = map (λ name. (UnknownFix name, is_some (fix_of tables name))) route

-- a route has 2 to 64 names, neighbours differ
abbrev pub length_checks : List (List ℕ) → List (RouteNo × Bool)
length_checks route = (Short, nat_le 2 (length route)) ∷ (Long, nat_le (length route) 64) ∷ (Twice, differ_from_next route) ∷ []
