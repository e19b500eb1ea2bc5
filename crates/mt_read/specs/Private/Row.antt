-- No public contract names these: they are of private steps and of proofs.
-- The fields of an external flight's first row, and their bounds.
use Rattle.std.specs.Prelude.{pos, neg_ℤ, Bool, List, [], ◌∷◌}
use Rattle.serde_json.specs.Data.{Members}
use Rattle.mt_json.specs.Field.{as_whole}
use Rattle.mt_read.specs.declared.key.Fault.{Fault}
use Rattle.mt_read.specs.declared.key.Key.TheVariants as key
use Rattle.mt_read.specs.Field.{Field, bound, may, must_have, number}
use Rattle.mt_read.specs.Table.{height_bound, plane_bound}

-- `row_fields`, `row_bounds`: the values and gains of a row
abbrev pub row_fields : List Field
row_fields =
    must_have key.X as_whole ∷
    must_have key.Y as_whole ∷
    must_have key.Z as_whole ∷
    may key.Vx as_whole ∷
    may key.Vy as_whole ∷
    may key.Vz as_whole ∷
    may key.R as_whole ∷
    may key.Gr as_whole ∷
    may key.W as_whole ∷
    may key.Gw as_whole ∷ []

abbrev pub row_bounds : Members → List (Fault × Bool)
row_bounds ms =
    plane_bound key.X ms ∷
    plane_bound key.Y ms ∷
    height_bound key.Z ms ∷
    bound key.Vx (neg_ℤ (pos 1000)) (pos 1000) (number key.Vx ms) ∷
    bound key.Vy (neg_ℤ (pos 1000)) (pos 1000) (number key.Vy ms) ∷
    bound key.Vz (neg_ℤ (pos 10000)) (pos 10000) (number key.Vz ms) ∷
    bound key.R (pos 0) (pos 72000) (number key.R ms) ∷
    bound key.Gr (pos 0) (pos 1000) (number key.Gr ms) ∷
    bound key.W (pos 0) (pos 600000) (number key.W ms) ∷
    bound key.Gw (pos 0) (pos 10000) (number key.Gw ms) ∷ []
