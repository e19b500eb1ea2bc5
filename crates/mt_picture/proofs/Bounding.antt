-- The tests of a command that makes a trajectory are within its bound.
use Rattle.std.proofs.Common.{◌≡◌, ℕ, ⊎_elim, Bool, true, false, [], Option, Some, None, is_some, option_map, refl, sym, ◌∙◌, ap, arith}
use Rattle.mt_base.specs.declared.command.Command.{Command}
use Rattle.mt_base.specs.declared.command.Command.TheVariants.{Accept, Clear, Commit, Drop, External, Plan, Renew, Tentative, Tick, Withdraw}
use Rattle.mt_base.specs.declared.command.Command.TheVariants as commands
use Rattle.mt_base.specs.declared.flight.Record.{Record}
use Rattle.mt_base.specs.Effect.{state_of}
use Rattle.mt_base.specs.Picture.{NamedTrajectory, State}
use Rattle.mt_base.specs.Tables.{Setup}
use Rattle.mt_base.specs.Trajectory.{Trajectory}
use Rattle.mt_probe.specs.Prepared.{IsLeftByEntry, Prepared, kind_made, left_made, named_trajectory, path_made}
use Rattle.mt_probe.specs.Shot.{Shot}
use Rattle.mt_probe.specs.Shot.{state_in_shot as state_in}
use Rattle.mt_probe.specs.Standing.{IsSoundShot}
use Rattle.mt_picture.specs.Asked.{IsWithinBoth, IsWithinBound, IsWithinPrep, IsWithinPreps, WasTestedAgain, WasTestedAnew, WasTestedForTick, state_now}
use Rattle.mt_picture.specs.Private.Asking.{AreCandidatesAsked, WasAskedOf}
use Rattle.mt_picture.specs.Private.Stamps.{HaveStood}
use Rattle.mt_picture.specs.Stamps.{AreStamped}
use Rattle.mt_picture.specs.Story.{IsPrepFor, IsUsable, Story}
use Rattle.mt_picture.proofs.Asking.{again, anew}

-- no test is within each bound
none_anew : (story : Story) (mine : NamedTrajectory) (old new : ℕ) → new ≡ old → WasTestedAnew story mine old new
none_anew story mine old new same = record {
  others = [];
  distinct = λ i j d before below. absurd (omega arith);
  each = λ k d below. absurd (omega arith);
  more = 0;
  within = omega arith;
  is = same;
}

none_again : (story : Story) (p : Prepared) (mine : NamedTrajectory) (old new : ℕ) → new ≡ old → WasTestedAgain story p mine old new
none_again story p mine old new same = record {
  later = [];
  later_each = λ k d below. absurd (omega arith);
  crossing = [];
  crossing_each = λ k d below. absurd (omega arith);
  distinct = λ i j d before below. absurd (omega arith);
  more = 0;
  within = omega arith;
  is = same;
}

none_both : (story : Story) (c : Command) (p : Prepared) (mine : NamedTrajectory) (old new : ℕ) → new ≡ old → IsWithinBoth story c p mine old new
none_both story c p mine old new same = record {
  anew = none_anew story mine old new same;
  again = λ usable. none_again story p mine old new same;
}

pub none_ticked : (story : Story) (now old new : ℕ) → new ≡ old → WasTestedForTick story now old new
none_ticked story now old new same =
    record { pairs = []; distinct = (λ i j d before below. absurd (omega arith)); each = (λ k d below. absurd (omega arith)); is = same }

none_prep : (story : Story) (c : Command) (prep : Option Prepared) (left : Option NamedTrajectory) (old new : ℕ) → new ≡ old → IsWithinPrep story c prep left old new
none_prep story c prep None old new same = same
none_prep story c None (Some mine) old new same = same
none_prep story c (Some p) (Some mine) old new same = none_both story c p mine old new same

pub none_preps : (story : Story) (who : ℕ) (c : Command) (prep : Option Prepared) (old new : ℕ) → new ≡ old → IsWithinPreps story who c prep old new
none_preps story who c prep old new same = none_prep story c prep (left_made story.setup (state_now story) who c) old new same

-- a command that makes no test is within its bound
pub none_within : (story : Story) (who : ℕ) (c : Command) (prep : Option Prepared) (old new : ℕ) → new ≡ old → IsWithinBound story who c prep old new
none_within story who (Drop call) prep old new same = same
none_within story who (commands.Report call report) prep old new same = same
none_within story who (Tick now) prep old new same = none_ticked story now old new same
none_within story who (Withdraw call force) prep old new same = same
none_within story who (Plan call kind route at from level rvsm) prep old new same = none_preps story who (Plan call kind route at from level rvsm) prep old new same
none_within story who (External call straight) prep old new same = none_preps story who (External call straight) prep old new same
none_within story who (Renew call) prep old new same = none_preps story who (Renew call) prep old new same
none_within story who (Clear call clearance eff) prep old new same = none_preps story who (Clear call clearance eff) prep old new same
none_within story who (Accept call clearance eff probed) prep old new same = none_preps story who (Accept call clearance eff probed) prep old new same
none_within story who (Tentative call clearance eff) prep old new same = none_preps story who (Tentative call clearance eff) prep old new same
none_within story who (Commit call) prep old new same = none_preps story who (Commit call) prep old new same

-- a command of which a flight is left makes a trajectory of it
is_there : {A B : Type 0} (f : A → B) (o : Option A) → is_some o ≡ true → is_some (option_map f o) ≡ true
is_there f None is = is
is_there f (Some x) is = refl

left_there : (setup : Setup) (s : State) (who : ℕ) (c : Command) (card : Record) → IsLeftByEntry setup s who c card → is_some (left_made setup s who c) ≡ true
left_there setup s who c card left = rw left.card_is (is_there (named_trajectory card (kind_made c)) (path_made setup card (kind_made c)) left.makes)

pub within_preps : (story : Story) (who : ℕ) (c : Command) (p : Prepared) (card : Record) (old new : ℕ) → IsLeftByEntry story.setup (state_now story) who c card
    → ((mine : NamedTrajectory) → left_made story.setup (state_now story) who c ≡ Some mine → IsWithinBoth story c p mine old new)
    → IsWithinPreps story who c (Some p) old new
within_preps story who c p card old new left within =
    by_left (left_made story.setup (state_now story) who c) refl (left_there story.setup (state_now story) who c card left) where
      by_left : (made : Option NamedTrajectory) → left_made story.setup (state_now story) who c ≡ made → is_some made ≡ true
          → IsWithinPrep story c (Some p) made old new
      by_left None is some = absurd (cc)
      by_left (Some mine) is some = within mine is

-- what a command makes of the flight that it leaves
record IsMine (setup : Setup) (c : Command) (card : Record) (mine : NamedTrajectory) : Type 0 where
  call_is : mine.call ≡ card.call
  path_is : path_made setup card (kind_made c) ≡ Some mine.path

mine_is : (setup : Setup) (s : State) (who : ℕ) (c : Command) (card : Record) (mine : NamedTrajectory) → IsLeftByEntry setup s who c card
    → left_made setup s who c ≡ Some mine → IsMine setup c card mine
mine_is setup s who c card mine left is = by_path (path_made setup card (kind_made c)) refl (rw left.card_is at is) where
  by_path : (path : Option Trajectory) → path_made setup card (kind_made c) ≡ path → option_map (named_trajectory card (kind_made c)) path ≡ Some mine → IsMine setup c card mine
  by_path None made e = absurd (cc)
  by_path (Some t) made e =
      let one : named_trajectory card (kind_made c) t ≡ mine = cc in
      record { call_is = ap (λ (u : NamedTrajectory). u.call) (sym one); path_is = made ∙ ap (λ (u : NamedTrajectory). Some u.path) one }

pub within_both : (story : Story) (shot : Shot) (who : ℕ) (c : Command) (p : Prepared) (known : Bool) (card : Record) (mine : NamedTrajectory) (old new : ℕ)
    → IsSoundShot shot → shot.setup ≡ story.setup → state_in shot ≡ state_of story.setup story.history → AreStamped story.setup story.history shot.slots
    → IsPrepFor story who c p → IsLeftByEntry shot.setup (state_in shot) who c card → p.card.call ≡ card.call
    → (known ≡ false → ¬ IsUsable story c p) → HaveStood shot p → left_made shot.setup (state_in shot) who c ≡ Some mine
    → WasAskedOf shot p known mine old new → IsWithinBoth story c p mine old new
within_both story shot who c p known card mine old new sound setup_is stands stamped for left own unusable stood made was = ⊎_elim
    (λ same. none_both story c p mine old new same)
    (λ asked. record {
      anew = anew story shot p known was.place mine sound setup_is stands stamped rules_are call_is asked.xs asked.near stood old new asked.rose;
      again = λ usable. by_known known refl usable asked;
    })
    was.was where
      is : IsMine shot.setup c card mine
      is = mine_is shot.setup (state_in shot) who c card mine left made

      rules_are : p.setup.rules ≡ shot.setup.rules
      rules_are = ap (λ (u : Setup). u.rules) (for.setup_is ∙ sym setup_is)

      call_is : mine.call ≡ p.card.call
      call_is = is.call_is ∙ sym own

      by_known : (b : Bool) → known ≡ b → IsUsable story c p → AreCandidatesAsked shot p known was.place mine old new → WasTestedAgain story p mine old new
      by_known false e usable asked = absurd (unusable e usable)
      by_known true e usable asked =
          again story shot p known was.place mine sound setup_is stands stamped rules_are call_is asked.xs asked.near stood old new e asked.rose

-- what a command makes, where its trajectory is known
pub made_known : (setup : Setup) (s : State) (who : ℕ) (c : Command) (card : Record) (t : Trajectory) (mine : NamedTrajectory) → IsLeftByEntry setup s who c card
    → path_made setup card (kind_made c) ≡ Some t → left_made setup s who c ≡ Some mine → named_trajectory card (kind_made c) t ≡ mine
made_known setup s who c card t mine left made is =
    let both : Some (named_trajectory card (kind_made c) t) ≡ Some mine = sym (rw (left.card_is, made) refl) ∙ is in
    cc
