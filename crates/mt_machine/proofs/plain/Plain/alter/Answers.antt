use Rattle.std.proofs.Common.{◌≡◌, ℕ, List, length, map, option_copied, refl, sym, ap, subst, ◌∙◌}
use Rattle.std.proofs.lemmas.List.{with_items_is}
use Rattle.std.specs.Prelude.{option_and_then}
use Rattle.std.specs.Vec.{with_items}
use Rattle.mt_base.specs.declared.flight.Record.{Record}
use Rattle.mt_base.specs.Bounds.{IsSoundPath}
use Rattle.mt_base.specs.Decision.{look_at}
use Rattle.mt_base.specs.Effect.{changed}
use Rattle.mt_base.specs.Picture.{State, flight_of}
use Rattle.mt_base.specs.Tables.{Setup, setup_with}
use Rattle.mt_change.specs.Altered.{CanAlter, altered_path, path_after}
use Rattle.mt_change.specs.Sound.{IsSoundState}
use Rattle.mt_change.proofs.Alterations.{can_alter, records_are}
use Rattle.mt_change.proofs.Changed.{changed_alike, changed_state}
use Rattle.mt_change.proofs.Filling.{bounded_besides}
use Rattle.mt_machine.proofs.Clearances.{sound_path}
use Rattle.std.proofs.lemmas.Result.{MatchResult-from_err}
use Rattle.mt_machine.proofs.plain.Plain.alter.Goals as goal
use Rattle.mt_machine.proofs.plain.Plain.alter.Goals.{After-drop-strand-inside}

pub predict-requires-clause-sound : goal.predict-requires-clause-sound
predict-requires-clause-sound c =
    let setup : Setup = setup_with c.args.rules.now c.args.tables.now in
    rw c.in-Planned.is at (sound_path setup c.args.self.now c.in-Some.call c.in-Some-flight.flight.now c.requires.sound
    (sym c.flight.ensures ∙ ap option_copied c.in-Some-flight.is))

pub alteration_by-alteration-requires-clause-sound : goal.alteration_by-alteration-requires-clause-sound
alteration_by-alteration-requires-clause-sound c =
    let setup : Setup = setup_with c.args.rules.now c.args.tables.now in
    rw c.in-Planned.is at (sound_path setup c.args.self.now c.in-Some.call c.in-Some-flight.flight.now c.requires.sound
    (sym c.flight.ensures ∙ ap option_copied c.in-Some-flight.is))

pub alteration_by-alteration-requires-clause-bounded : goal.alteration_by-alteration-requires-clause-bounded
alteration_by-alteration-requires-clause-bounded c = bounded_besides c.args.command.now c.requires.bounded

pub alteration_by-alteration-requires-clause-can : goal.alteration_by-alteration-requires-clause-can
alteration_by-alteration-requires-clause-can c =
    let setup : Setup = setup_with c.args.rules.now c.args.tables.now in
    subst (λ (now : ℕ). CanAlter setup now c.in-Planned.course c.args.command.now) (sym (ap (λ (s : State). s.now) c.self.view_is))
    (can_alter setup (look_at c.args.self.now c.args.command.now) c.args.who c.args.command.now c.in-Some-flight.flight.now c.in-Planned.course
    c.requires.alters c.requires.passed c.requires.filled
    (ap (option_and_then (flight_of c.args.self.now.records)) (sym c.call.ensures ∙ c.in-Some.is) ∙ sym c.flight.ensures ∙ ap option_copied c.in-Some-flight.is)
    c.in-Planned.is)

-- the flights are those that were written
written : (c : After-drop-strand-inside) → (with_items c.self.inside.flights c.alter_each.new.flights).items ≡ c.alter_each.new.flights
written c = with_items_is c.self.inside.flights c.alter_each.new.flights (c.alter_each.auto.flights ∙ ap length c.deref_mut.ensures.value ∙ sym c.self.inside.flights.ok.0)

pub returns-clause-ok : goal.returns-clause-ok
returns-clause-ok c =
    let setup : Setup = setup_with c.args.rules.now c.args.tables.now in
    let command = c.args.command.now in
    let flown = c.in-Some-flight.flight.now.path in
    let path : altered_path c.alteration_by-alteration.result flown ≡ path_after setup c.args.who command flown = rw c.in-Planned.is c.alteration_by-alteration.ensures.path in
    let same = changed_alike c.in-Some.call (altered_path c.alteration_by-alteration.result) (path_after setup c.args.who command) c.in-Some-flight.flight.now
    c.args.self.now.records c.requires.sound.own_calls (sym c.flight.ensures ∙ ap option_copied c.in-Some-flight.is) path in
    let all = same ∙ sym (records_are setup c.args.who command c.in-Some.call c.args.self.now.records c.requires.alters (sym c.call.ensures ∙ c.in-Some.is)) in
    rw (written c, c.alter_each.ensures, c.deref_mut.ensures.value)
    (ap (λ (s : State). record s { records = map (changed c.in-Some.call (altered_path c.alteration_by-alteration.result)) s.records }) c.self.view_is
    ∙ ap (λ (flights : List Record). record c.args.self.now { records = flights }) all)

pub returns-clause-sound : goal.returns-clause-sound
returns-clause-sound c =
    let setup : Setup = setup_with c.args.rules.now c.args.tables.now in
    let change = altered_path c.alteration_by-alteration.result in
    let within : IsSoundPath setup (change c.in-Some-flight.flight.now.path) = rw c.in-Planned.is c.alteration_by-alteration.ensures.sound in
    let sound = changed_state setup c.args.self.now c.in-Some.call change c.in-Some-flight.flight.now c.requires.sound
    (sym c.flight.ensures ∙ ap option_copied c.in-Some-flight.is) within in
    rw (written c, c.alter_each.ensures, c.deref_mut.ensures.value)
    (subst (λ (s : State). IsSoundState setup (record s { records = map (changed c.in-Some.call change) s.records })) (sym c.self.view_is) sound)

pub alteration_by-alteration-requires-clause-strand : goal.alteration_by-alteration-requires-clause-strand
alteration_by-alteration-requires-clause-strand c = c.in_ok-strand.ensures.rows

pub alteration_by-alteration-requires-clause-early : goal.alteration_by-alteration-requires-clause-early
alteration_by-alteration-requires-clause-early c = rw (ap (λ (s : State). s.now) c.self.view_is) c.requires.sound.early

pub returns-in_err-strand-clause-err : goal.returns-in_err-strand-clause-err
returns-in_err-strand-clause-err c = MatchResult-from_err c.from_residual.result _ _ c.from_residual.ensures.0 (λ err. refl)
