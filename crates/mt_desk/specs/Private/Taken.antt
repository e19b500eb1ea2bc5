-- No public contract names these: they are of private steps and of proofs.
-- What stands behind the turn, and what is taken from it.
use Rattle.std.specs.Prelude.{◌≡◌, ◌≤◌, length}
use Rattle.mt_base.specs.Bounds.{AreWithinBounds}
use Rattle.mt_base.specs.History.{IsLegal}
use Rattle.mt_board.specs.BoardSeat.{BoardSeat, HasSeen, state_seen}
use Rattle.mt_picture.specs.Story.{Story}
use Rattle.mt_probe.specs.Shot.{Shot}
use Rattle.mt_probe.specs.Shot.{state_in_shot as state_in}

-- a picture's history is legal, by bounded rules, and no longer than any rules allow
pub record IsLegalStory (story : Story) : Type 0 where
  pub rules : AreWithinBounds story.setup.rules
  pub legal : IsLegal story.setup story.history
  pub short : length story.history ≤ 4194304

-- a snapshot stands for all that a seat has seen
pub record StandsFor (s : BoardSeat) (shot : Shot) : Type 0 where
  pub setup_is : shot.setup ≡ s.fixed
  pub state_is : state_in shot ≡ state_seen s

-- such a snapshot that a seat keeps, of a history that it has seen
pub record IsLook (s : BoardSeat) (shot : Shot) : Type 0 where
  pub for : StandsFor s shot
  pub seen : HasSeen s s (length s.seen)
