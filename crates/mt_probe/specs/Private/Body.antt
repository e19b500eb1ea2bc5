-- No public contract names these: they are of private steps and of proofs.
use Rattle.std.specs.Prelude.{◌≡◌}
use Rattle.std.specs.Arc.{arc_value}
use Rattle.mt_probe.specs.declared.snapshot.Body.{Body}
use Rattle.mt_probe.specs.Shot.{Shot}

-- what a snapshot holds, as contracts see it
abbrev pub shot_of : Body → Shot
shot_of body = record {
  setup = record { rules = body.rules; tables = arc_value body.tables };
  version = body.version;
  now = body.moment;
  slots = body.slots;
}

-- what a snapshot holds, and the same once more
pub record IsSameBody (body again : Body) : Type 0 where
  pub shot : shot_of again ≡ shot_of body
  pub table : again.table ≡ body.table
  pub index : again.index ≡ body.index
