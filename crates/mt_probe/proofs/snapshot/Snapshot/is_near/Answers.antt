use Rattle.std.proofs.Common.{◌≡◌, ◌/◌, ◌∙◌, List, [], Contains, sym, ap, subst}
use Rattle.mt_base.specs.declared.conflict.Kind.{Kind}
use Rattle.mt_base.proofs.Members.{Contains-none}
use Rattle.mt_cover.specs.declared.stays.Stay.{Stay}
use Rattle.mt_probe.specs.Items.{stays_at, stays_by}
use Rattle.mt_probe.specs.Shot.{flight_at}
use Rattle.mt_probe.proofs.NearItems.{met_near, near_met, stays_found, stays_nowhere}
use Rattle.mt_probe.proofs.snapshot.Snapshot.is_near.Goals as goal

pub returns : goal.returns
returns c =
    let shot = c.args.self.now in
    let item = c.args.item in
    let rules = shot.setup.rules in
    let cover = rw c.rules.ensures.rules at c.in_ok-theirs.ensures.is in
    let theirs : stays_at rules shot.slots item ≡ c.in_ok-theirs.theirs =
    ap (λ (k : Kind). stays_by rules k (flight_at shot (item / 2))) (sym c.kind_of.ensures)
    ∙ stays_found rules c.kind_of.result (flight_at shot (item / 2)) c.in-Some.strand.now c.in-Some.ensures ∙ sym cover in
    let met = rw (c.stays.ensures, c.stays-2.ensures) at c.share.ensures in (
      (λ some. near_met shot c.args.mine.now item c.in_ok-theirs.theirs theirs (met.0 some)),
      (λ near. met.1 (met_near shot c.args.mine.now item c.in_ok-theirs.theirs theirs near)),
    )

pub returns-in_default : goal.returns-in_default
returns-in_default c =
    let shot = c.args.self.now in
    let item = c.args.item in
    let none : stays_at shot.setup.rules shot.slots item ≡ [] =
    ap (λ (k : Kind). stays_by shot.setup.rules k (flight_at shot (item / 2))) (sym c.kind_of.ensures)
    ∙ stays_nowhere shot.setup.rules c.kind_of.result (flight_at shot (item / 2)) c.in_default.ensures in (
      (λ some. absurd (cc)),
      (λ near. absurd (Contains-none near.theirs (subst (λ (stays : List Stay). Contains stays near.theirs) none near.there))),
    )
