-- What a command leaves of its flight now is what a prep of this version has.
use Rattle.std.proofs.Common.{◌≡◌, ℕ, List, length, take, Ok, Some, true, refl, sym, ◌∙◌, ap, subst, arith, is_some}
use Rattle.std.proofs.lemmas.List.{take_all}
use Rattle.mt_base.specs.declared.command.Command.{Command}
use Rattle.mt_base.specs.declared.command.Command.TheVariants.{Tentative}
use Rattle.mt_base.specs.declared.command.Entry.{Entry}
use Rattle.mt_base.specs.Bounds.{IsSoundFlight}
use Rattle.mt_base.specs.Decision.{call_of}
use Rattle.mt_base.specs.Effect.{state_of}
use Rattle.mt_base.specs.Picture.{State}
use Rattle.mt_base.specs.Tables.{Setup}
use Rattle.mt_base.proofs.HistoryLemmas.{version_is}
use Rattle.mt_probe.specs.Prepared.{IsLeftByEntry, IsPrepared, Prepared, flight_left, judged_aside, kind_made, path_made}
use Rattle.mt_probe.specs.Shot.{Shot}
use Rattle.mt_probe.specs.Shot.{state_in_shot as state_in}
use Rattle.mt_picture.specs.Story.{IsPrepFor, IsPreparedFor}

-- it is the same for the actor that it was prepared for
left_alike : (setup : Setup) (s : State) (who whom : ℕ) (c : Command) → IsPreparedFor c who whom → flight_left setup s whom c ≡ flight_left setup s who c
left_alike setup s who whom (Tentative call clearance eff) same = ap (λ (w : ℕ). flight_left setup s w (Tentative call clearance eff)) same
left_alike setup s who whom c same = refl

pub left_now : (shot : Shot) (h : List Entry) (who : ℕ) (c : Command) (p : Prepared) → state_in shot ≡ state_of shot.setup h
    → IsPrepFor (record { setup = shot.setup; history = h }) who c p → IsPrepared p → p.state.version ≡ shot.version
    → judged_aside shot.setup (state_in shot) who c ≡ Ok (tt {0}) → IsLeftByEntry shot.setup (state_in shot) who c p.card
left_now shot h who c p stands for kept same passed =
    let whole : p.state.version ≡ length h = same ∙ ap (λ (s : State). s.version) stands ∙ version_is shot.setup h in
    let all : take p.state.version h ≡ h = take_all p.state.version h (omega arith) in
    let state : p.state ≡ state_in shot = for.state_is ∙ ap (state_of shot.setup) all ∙ sym stands in
    let then : flight_left shot.setup (state_in shot) p.who c ≡ Some p.card =
    subst (λ (s : State). flight_left shot.setup s p.who c ≡ Some p.card) state
    (subst (λ (u : Setup). flight_left u p.state p.who c ≡ Some p.card) for.setup_is
    (subst (λ (d : Command). flight_left p.setup p.state p.who d ≡ Some p.card) for.command_is kept.card_is)) in
    record {
      passed = passed;
      card_is = sym (left_alike shot.setup (state_in shot) who p.who c for.who_is) ∙ then;
      call_is = ap call_of (sym for.command_is) ∙ kept.call_is;
      sound = subst (λ (u : Setup). IsSoundFlight u p.card) for.setup_is kept.sound;
      makes = subst (λ (d : Command). is_some (path_made shot.setup p.card (kind_made d)) ≡ true) for.command_is
          (subst (λ (u : Setup). is_some (path_made u p.card (kind_made p.command)) ≡ true) for.setup_is (ap is_some kept.strand_is));
    }
