-- An entry is read as it was written.
use Rattle.std.proofs.Common.{◌≡◌, ℕ, pos, ◌≤◌, List, [], ◌∷◌, Some, refl, arith}
use Rattle.std.specs.Prelude.{unwrap_or}
use Rattle.json.specs.Tree as tree
use Rattle.serde_json.specs.Data.{string, object}
use Rattle.serde_json.specs.Read.{of_json, read}
use Rattle.serde_json.specs.Written.{compact_text, outline, items_outline}
use Rattle.mt_base.specs.declared.clearance.Clearance.TheVariants.{Level, Direct}
use Rattle.mt_base.specs.declared.command.Command.{Command}
use Rattle.mt_base.specs.declared.command.Command.TheVariants as command
use Rattle.mt_base.specs.declared.command.Entry.{Entry}
use Rattle.mt_write.specs.Entry.{entry_members, entry_value, values}
use Rattle.mt_wire.specs.Held.{HoldsWhole}
use Rattle.mt_wire.proofs.ReadBack.{items_read, numbered, read_back}

pub entry_read : (who : ℕ) (command : Command) → HoldsWhole (object (entry_members who command)) → of_json (outline (object (entry_members who command))) ≡ Some (object (entry_members who command))
entry_read who (command.Plan call kind route at from level rvsm) h =
    rw (
      numbered (pos at) h.0,
      numbered (pos from) h.1.1.1.0,
      numbered (pos level) h.1.1.1.1.0,
      items_read string (λ name _. refl) route h.1.1.1.1.1.0,
      numbered (pos who) h.1.1.1.1.1.1.1.1.0,
    ) refl
entry_read who (command.External call s) h =
    let (_, (_, (from, (gr, (gw, (r, (_, (to, (vx, (vy, (vz, (w, (actor, (x, (y, (z, _)))))))))))))))) = h in
    rw (
      numbered (pos s.from) from,
      numbered s.first.gr gr,
      numbered s.first.gw gw,
      numbered s.first.r r,
      numbered (pos s.to) to,
      numbered s.first.vx vx,
      numbered s.first.vy vy,
      numbered s.first.vz vz,
      numbered s.first.w w,
      numbered (pos who) actor,
      numbered s.first.x x,
      numbered s.first.y y,
      numbered s.first.z z,
    ) refl
entry_read who (command.Drop call) h = rw (numbered (pos who) h.1.1.0) refl
entry_read who (command.Report call report) h =
    rw (
      numbered (pos report.at) h.0,
      numbered (pos who) h.1.1.1.0,
      numbered report.x h.1.1.1.1.0,
      numbered report.y h.1.1.1.1.1.0,
      numbered report.z h.1.1.1.1.1.1.0,
    ) refl
entry_read who (command.Renew call) h = rw (numbered (pos who) h.1.1.0) refl
entry_read who (command.Tick now) h = rw (numbered (pos now) h.1.0, numbered (pos who) h.1.1.0) refl
entry_read who (command.Clear call (Level level) eff) h =
    rw (numbered (pos (unwrap_or eff 0)) h.1.1.0, numbered (pos level) h.1.1.1.0, numbered (pos who) h.1.1.1.1.0) refl
entry_read who (command.Clear call (Direct fix) eff) h = rw (numbered (pos (unwrap_or eff 0)) h.1.1.1.0, numbered (pos who) h.1.1.1.1.0) refl
entry_read who (command.Accept call (Level level) eff probed) h =
    rw (numbered (pos eff) h.1.1.0, numbered (pos level) h.1.1.1.0, numbered (pos probed) h.1.1.1.1.0, numbered (pos who) h.1.1.1.1.1.0) refl
entry_read who (command.Accept call (Direct fix) eff probed) h =
    rw (numbered (pos eff) h.1.1.1.0, numbered (pos probed) h.1.1.1.1.0, numbered (pos who) h.1.1.1.1.1.0) refl
entry_read who (command.Tentative call (Level level) eff) h =
    rw (numbered (pos (unwrap_or eff 0)) h.1.1.0, numbered (pos level) h.1.1.1.0, numbered (pos who) h.1.1.1.1.0) refl
entry_read who (command.Tentative call (Direct fix) eff) h = rw (numbered (pos (unwrap_or eff 0)) h.1.1.1.0, numbered (pos who) h.1.1.1.1.0) refl
entry_read who (command.Withdraw call force) h = rw (numbered (pos who) h.1.1.1.0) refl
entry_read who (command.Commit call) h = rw (numbered (pos who) h.1.1.0) refl

pub names_depth : (names : List (List ℕ)) → tree.items_depth (items_outline (values string names)) ≤ 0
names_depth [] = omega arith
names_depth (name ∷ names) = omega (arith, names_depth names)

pub entry_depth : (who : ℕ) (command : Command) → tree.depth (outline (object (entry_members who command))) ≤ 2
entry_depth who (command.Plan call kind route at from level rvsm) = omega (arith, names_depth route)
entry_depth who (command.Clear call (Level level) eff) = omega arith
entry_depth who (command.Clear call (Direct fix) eff) = omega arith
entry_depth who (command.Accept call (Level level) eff probed) = omega arith
entry_depth who (command.Accept call (Direct fix) eff probed) = omega arith
entry_depth who (command.Tentative call (Level level) eff) = omega arith
entry_depth who (command.Tentative call (Direct fix) eff) = omega arith
entry_depth who command = omega arith

-- an entry is read back
pub entry_back : (e : Entry) → HoldsWhole (entry_value e) → read (compact_text (entry_value e)) ≡ Some (entry_value e)
entry_back e h = read_back (entry_value e) h (omega (arith, entry_depth e.who e.command)) (entry_read e.who e.command h)
