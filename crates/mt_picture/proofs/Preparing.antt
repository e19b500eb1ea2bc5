-- What a command has of its prep, and what it tests by it.
use Rattle.std.proofs.Common.{◌≡◌, ℕ, List, true, false, Some, refl, sym, subst}
use Rattle.mt_base.specs.declared.command.Entry.{Entry}
use Rattle.mt_base.specs.declared.flight.Record.{Record}
use Rattle.mt_base.specs.Effect.{state_of}
use Rattle.mt_base.specs.Picture.{State}
use Rattle.mt_probe.specs.Prepared.{IsLeftByEntry, IsPrepared, left_made}
use Rattle.mt_probe.specs.Shot.{Shot}
use Rattle.mt_probe.specs.Shot.{state_in_shot as state_in}
use Rattle.mt_probe.specs.Standing.{IsSoundShot}
use Rattle.mt_picture.specs.declared.entering.Entering.{Entering}
use Rattle.mt_picture.specs.Asked.{IsWithinPreps}
use Rattle.mt_picture.specs.Private.Asking.{WasAskedFor}
use Rattle.mt_picture.specs.Private.Brought.{IsPreparedNow}
use Rattle.mt_picture.specs.Stamps.{AreStamped}
use Rattle.mt_picture.specs.Story.{IsPrepFor, IsUsable, Story}
use Rattle.mt_picture.proofs.Bounding.{within_both, within_preps}
use Rattle.mt_picture.proofs.Stale.{prep_call, usable_card}
use Rattle.mt_picture.proofs.Standing.{have_stood}

module _ (shot : Shot) (h : List Entry) (sound : IsSoundShot shot) (stands : state_in shot ≡ state_of shot.setup h) (stamped : AreStamped shot.setup h shot.slots)
    (e : Entering) (card : Record) (for : IsPrepFor (record { setup = shot.setup; history = h }) e.who e.command.now e.prep.now)
    (kept : IsPrepared e.prep.now) (usable : e.known ≡ true → IsUsable (record { setup = shot.setup; history = h }) e.command.now e.prep.now)
    (left : IsLeftByEntry shot.setup (state_in shot) e.who e.command.now card) where
  pub prepared_now : IsPreparedNow shot e card
  prepared_now = record {
    left = left;
    setup_is = for.setup_is;
    call_is = prep_call (record { setup = shot.setup; history = h }) e.who e.command.now e.prep.now card.call for kept left.call_is;
    command_is = for.command_is;
    card_is = λ is. usable_card shot h e.who e.command.now e.prep.now card sound stands for kept (usable is) left;
    stood = have_stood shot h e.prep.now stamped for.setup_is for.within for.state_is;
  }

  pub asked_within : (old new : ℕ) → (e.known ≡ false → ¬ IsUsable (record { setup = shot.setup; history = h }) e.command.now e.prep.now)
      → WasAskedFor shot e old new → IsWithinPreps (record { setup = shot.setup; history = h }) e.who e.command.now (Some e.prep.now) old new
  asked_within old new unusable asked =
      let story : Story = record { setup = shot.setup; history = h } in
      let c = e.command.now in
      let now = prepared_now in
      within_preps story e.who c e.prep.now card old new (subst (λ (s : State). IsLeftByEntry shot.setup s e.who c card) stands left) (λ mine made.
      let here = subst (λ (s : State). left_made shot.setup s e.who c ≡ Some mine) (sym stands) made in
      within_both story shot e.who c e.prep.now e.known card mine old new sound refl stands stamped for left now.call_is unusable now.stood here (asked mine here))
