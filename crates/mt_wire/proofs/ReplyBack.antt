-- A reply is read as it was written.
use Rattle.std.proofs.Common.{◌≡◌, ℕ, pos, ◌≤◌, [], ◌∷◌, Option, Some, None, refl, arith}
use Rattle.json.specs.Tree as tree
use Rattle.serde_json.specs.Data.{Data, string, object}
use Rattle.serde_json.specs.Read.{of_json, read}
use Rattle.serde_json.specs.Written.{compact_text, outline}
use Rattle.mt_base.specs.declared.area.Pierced.{Pierced}
use Rattle.mt_base.specs.declared.clearance.Clearance.{Clearance}
use Rattle.mt_base.specs.declared.clearance.Clearance.TheVariants.{Level, Direct}
use Rattle.mt_base.specs.declared.command.Refusal.{Refusal}
use Rattle.mt_base.specs.declared.command.Refusal.TheVariants as refusal
use Rattle.mt_base.specs.declared.conflict.Conflict.{Conflict}
use Rattle.mt_base.specs.declared.flight.FlightView.{FlightView}
use Rattle.mt_base.specs.declared.flight.Tent.{Tent}
use Rattle.mt_base.specs.declared.hit.Hit.{Hit}
use Rattle.mt_base.specs.declared.row.Row.{Row}
use Rattle.mt_base.specs.declared.verdict.Verdict.{Verdict}
use Rattle.mt_write.specs.declared.reply.Reply.{Reply}
use Rattle.mt_write.specs.declared.reply.Reply.TheVariants as reply
use Rattle.mt_write.specs.Entry.{entry_value, whole}
use Rattle.mt_write.specs.Flight.{flight_value, or_null, row_value, tent_value}
use Rattle.mt_write.specs.Reply.{advised_members, advised_value, conflict_value, flags, hit_value, holding, pierced_value, refusal_members, reply_value}
use Rattle.mt_wire.specs.Held.{HoldsWhole}
use Rattle.mt_wire.proofs.EntryBack.{entry_depth, entry_read, names_depth}
use Rattle.mt_wire.proofs.ReadBack.{items_depth, items_read, numbered, numbered_value, read_back}

conflict_read : (c : Conflict) → HoldsWhole (conflict_value c) → of_json (outline (conflict_value c)) ≡ Some (conflict_value c)
conflict_read c h = rw (numbered (pos c.first) h.0, numbered (pos c.last) h.1.1.0) refl

hit_read : (hit : Hit) → HoldsWhole (hit_value hit) → of_json (outline (hit_value hit)) ≡ Some (hit_value hit)
hit_read hit h = rw (numbered (pos hit.first) h.0, numbered (pos hit.last) h.1.0) refl

pierced_read : (p : Pierced) → HoldsWhole (pierced_value p) → of_json (outline (pierced_value p)) ≡ Some (pierced_value p)
pierced_read p h = rw (numbered (pos p.first) h.1.1.0, numbered (pos p.last) h.1.1.1.1.0) refl

-- ---- what is told of a flight

or_null_read : {A : Type 0} (value : A → Data) → ((x : A) → HoldsWhole (value x) → of_json (outline (value x)) ≡ Some (value x)) → (o : Option A)
    → HoldsWhole (or_null value o) → of_json (outline (or_null value o)) ≡ Some (or_null value o)
or_null_read value one None h = refl
or_null_read value one (Some x) h = one x h

row_read : (row : Row) → HoldsWhole (row_value row) → of_json (outline (row_value row)) ≡ Some (row_value row)
row_read row h =
    rw (items_read whole numbered_value (row.x ∷ row.y ∷ row.z ∷ row.r ∷ row.w ∷ row.vx ∷ row.vy ∷ row.vz ∷ row.gr ∷ row.gw ∷ pos row.leg ∷ []) h) refl

tent_read : (tent : Tent) → HoldsWhole (tent_value tent) → of_json (outline (tent_value tent)) ≡ Some (tent_value tent)
tent_read tent h = rw (numbered (pos tent.level) h.0, numbered (pos tent.owner) h.1.0, numbered (pos tent.start) h.1.1.0) refl

flight_read : (view : FlightView) → HoldsWhole (flight_value view) → of_json (outline (flight_value view)) ≡ Some (flight_value view)
flight_read view h =
    let (_, (_, (end, (level, (row, (start, (tent, (version, _)))))))) = h in
    rw (
      numbered (pos view.end) end,
      or_null_read (λ n. whole (pos n)) (λ n. numbered_value (pos n)) view.level level,
      or_null_read row_value row_read view.row row,
      numbered (pos view.start) start,
      or_null_read tent_value tent_read view.tentative tent,
      numbered (pos view.version) version,
    ) refl

or_null_depth : {A : Type 0} (value : A → Data) → ((x : A) → tree.depth (outline (value x)) ≤ 2) → (o : Option A) → tree.depth (outline (or_null value o)) ≤ 2
or_null_depth value one None = omega arith
or_null_depth value one (Some x) = one x

flight_depth : (view : FlightView) → tree.depth (outline (flight_value view)) ≤ 4
flight_depth view =
    omega (
      arith,
      or_null_depth (λ n. whole (pos n)) (λ n. omega arith) view.level,
      or_null_depth row_value (λ row. omega arith) view.row,
      or_null_depth tent_value (λ tent. omega arith) view.tentative,
    )

-- ---- verdicts, advice and refusals

entered_read : (version : ℕ) (verdict : Option Verdict)
    → HoldsWhole (reply_value (reply.Entered (record { version = version; verdict = verdict })))
    → of_json (outline (reply_value (reply.Entered (record { version = version; verdict = verdict }))))
    ≡ Some (reply_value (reply.Entered (record { version = version; verdict = verdict })))
entered_read version None h = rw (numbered (pos version) h.0) refl
entered_read version (Some v) h = rw (numbered (pos version) h.0, items_read string (λ name _. refl) (holding (flags v)) h.1.0) refl

advised_read : (clearance : Clearance) (probe : ℕ) → HoldsWhole (object (advised_members clearance probe))
    → of_json (outline (object (advised_members clearance probe))) ≡ Some (object (advised_members clearance probe))
advised_read (Level level) probe h = rw (numbered (pos level) h.0, numbered (pos probe) h.1.0) refl
advised_read (Direct fix) probe h = rw (numbered (pos probe) h.1.0) refl

entered_depth : (version : ℕ) (verdict : Option Verdict) → tree.depth (outline (reply_value (reply.Entered (record { version = version; verdict = verdict })))) ≤ 4
entered_depth version None = omega arith
entered_depth version (Some v) = omega (arith, names_depth (holding (flags v)))

advised_depth : (clearance : Clearance) (probe : ℕ) → tree.depth (outline (object (advised_members clearance probe))) ≤ 2
advised_depth (Level level) probe = omega arith
advised_depth (Direct fix) probe = omega arith

refused_depth : (version : ℕ) (cause : Refusal) → tree.depth (outline (object (refusal_members version cause))) ≤ 4
refused_depth version (refusal.Stale first) = omega arith
refused_depth version cause = omega arith

reply_read : (r : Reply) → HoldsWhole (reply_value r) → of_json (outline (reply_value r)) ≡ Some (reply_value r)
reply_read (reply.Taken version) h = rw (numbered (pos version) h.0) refl
reply_read (reply.Entered entered) h = entered_read entered.version entered.verdict h
reply_read (reply.List conflicts version) h = rw (items_read conflict_value conflict_read conflicts h.0, numbered (pos version) h.1.0) refl
reply_read (reply.Probe conflicts eff probe version) h =
    rw (
      items_read hit_value hit_read conflicts h.0,
      numbered (pos eff) h.1.0,
      numbered (pos probe) h.1.1.0,
      numbered (pos version) h.1.1.1.0,
    ) refl
reply_read (reply.Advice advice call eff version) h =
    rw (items_read advised_value (λ a. advised_read a.clearance a.probe) advice h.0, numbered (pos eff) h.1.1.0, numbered (pos version) h.1.1.1.0) refl
reply_read (reply.Flight view) h = flight_read view h
reply_read (reply.Due calls version) h = rw (items_read string (λ call _. refl) calls h.0, numbered (pos version) h.1.0) refl
reply_read (reply.Settled left version) h = rw (items_read string (λ call _. refl) left h.0, numbered (pos version) h.1.0) refl
reply_read (reply.History entries version) h = rw (items_read entry_value (λ e. entry_read e.who e.command) entries h.0, numbered (pos version) h.1.0) refl
reply_read (reply.Areas areas version) h = rw (items_read pierced_value pierced_read areas h.0, numbered (pos version) h.1.0) refl
reply_read (reply.Refused (refusal.UnknownCall call) version) h = rw (numbered (pos version) h.1.1.0) refl
reply_read (reply.Refused (refusal.UnknownType name) version) h = rw (numbered (pos version) h.1.1.0) refl
reply_read (reply.Refused (refusal.UnknownFix name) version) h = rw (numbered (pos version) h.1.1.0) refl
reply_read (reply.Refused (refusal.TentativeHeld owner) version) h = rw (numbered (pos owner) h.1.0, numbered (pos version) h.1.1.0) refl
reply_read (reply.Refused (refusal.Stale first) version) h = rw (hit_read first h.0, numbered (pos version) h.1.1.0) refl
reply_read (reply.Refused cause version) h = rw (numbered (pos version) h.1.0) refl
reply_read (reply.Illegal version cause) h = rw (numbered (pos version) h.1.0) refl
reply_read (reply.Late version) h = rw (numbered (pos version) h.1.0) refl
reply_read r h = refl

reply_depth : (r : Reply) → tree.depth (outline (reply_value r)) ≤ 4
reply_depth (reply.Entered entered) = entered_depth entered.version entered.verdict
reply_depth (reply.List conflicts version) = omega (arith, items_depth conflict_value (λ c. omega arith) conflicts)
reply_depth (reply.Probe conflicts eff probe version) = omega (arith, items_depth hit_value (λ hit. omega arith) conflicts)
reply_depth (reply.Advice advice call eff version) = omega (arith, items_depth advised_value (λ a. advised_depth a.clearance a.probe) advice)
reply_depth (reply.Flight view) = flight_depth view
reply_depth (reply.Due calls version) = omega (arith, names_depth calls)
reply_depth (reply.Settled left version) = omega (arith, names_depth left)
reply_depth (reply.History entries version) = omega (arith, items_depth entry_value (λ e. omega (arith, entry_depth e.who e.command)) entries)
reply_depth (reply.Areas areas version) = omega (arith, items_depth pierced_value (λ p. omega arith) areas)
reply_depth (reply.Refused cause version) = refused_depth version cause
reply_depth r = omega arith

-- a reply is read back
pub reply_back : (r : Reply) → HoldsWhole (reply_value r) → read (compact_text (reply_value r)) ≡ Some (reply_value r)
reply_back r h = read_back (reply_value r) h (omega (arith, reply_depth r)) (reply_read r h)
