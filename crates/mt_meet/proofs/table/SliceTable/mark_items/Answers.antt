use Rattle.std.proofs.Common.{◌≡◌, ◌<◌, ◌∙◌, ℕ, List, Option, ap, get_or, length, subst, sym, arith}
use Rattle.std.specs.Int.{bit_at}
use Rattle.std.specs.Option.{option_copied}
use Rattle.mt_base.specs.Bounds.{AreWithinBounds}
use Rattle.mt_cover.specs.Sliced.{Sliced}
use Rattle.mt_meet.specs.Meeting.{Asked}
use Rattle.mt_meet.specs.Private.Boxing.{AreBoxesKept, AreGuarded, IsCrossedIn, no_window, page_of, place_of, IsPartMarked}
use Rattle.mt_meet.specs.Searching.{item_at}
use Rattle.mt_meet.specs.declared.subject.Window.{Window}
use Rattle.mt_meet.proofs.Boxed.{met_in_marked, none_on_page}
use Rattle.mt_meet.proofs.table.SliceTable.mark_items.Goals as goal

page_is : (page place : ℕ) → place < 64 → page_of (item_at page place) ≡ page
page_is page place within = omega (arith, within)

place_is : (page place : ℕ) → place < 64 → place_of (item_at page place) ≡ place
place_is page place within = omega (arith, within)

pub returns-in-None : goal.returns-in-None
returns-in-None c = λ place within theirs k there meet.
    let kept = subst (λ (t : List (Option Sliced)). AreBoxesKept c.self.inside.count t c.self.inside.pages) c.self.view_is c.self.invariant in
    absurd (none_on_page c.self.inside.count c.args.self.now c.self.inside.pages kept (item_at c.args.number place) c.args.number place
    (page_is c.args.number place within) (place_is c.args.number place within) (sym c.get.ensures ∙ ap option_copied c.in-None.is) theirs k there meet.right)

pub returns-in-Some : goal.returns-in-Some
returns-in-Some c = λ place within.
    let windows = c.subject.inside.windows.items in
    let kept = subst (λ (t : List (Option Sliced)). AreBoxesKept c.self.inside.count t c.self.inside.pages) c.self.view_is c.self.invariant in
    let rules_kept = subst (λ (a : Asked). AreWithinBounds a.rules) c.subject.view_is c.subject.invariant.0 in
    let guarded = subst (λ (a : Asked). AreGuarded a.rules a.sliced windows) c.subject.view_is c.subject.invariant.1 in
    met_in_marked c.self.inside.count c.args.self.now c.self.inside.pages kept c.args.subject.now (item_at c.args.number place) c.args.number place
    (page_is c.args.number place within) (place_is c.args.number place within) rules_kept windows guarded c.in-Some.page.now (sym c.get.ensures ∙ ap option_copied c.in-Some.is) c.mark.new.self
    (subst (λ (ws : List Window). (w part : ℕ) → w < length ws → IsCrossedIn c.in-Some.page.now (get_or ws w no_window) place
    → bit_at (Window.part (get_or ws w no_window)) part ≡ 1 → IsPartMarked c.mark.new.self place part) c.deref.ensures.value
    (λ w part below crossed one. c.mark.ensures place w part within below crossed one))
