-- A history that is complete is published again as it was.
use Rattle.std.proofs.Common.{◌≡◌, ◌∙◌, ℕ, List, length, refl, sym, subst, ap}
use Rattle.std.specs.Prelude.{All}
use Rattle.mt_base.specs.declared.command.Entry.{Entry}
use Rattle.mt_base.specs.declared.conflict.Conflict.{Conflict}
use Rattle.mt_base.specs.Complete.{IsComplete}
use Rattle.mt_base.specs.Effect.{state_of}
use Rattle.mt_base.specs.Picture.{IsPublished, State}
use Rattle.mt_base.proofs.ConflictOrder.{total}
use Rattle.mt_base.proofs.OneOrder.{one_order}
use Rattle.mt_history.proofs.LinesPrinted.{read_back}
use Rattle.mt_history.proofs.LinesRead.{one_reading}
use Rattle.mt_io.specs.Lines.{lines_of}
use Rattle.mt_base.specs.declared.rules.Rules.{Rules}
use Rattle.mt_base.specs.Tables.{Setup, Tables, setup_with}
use Rattle.mt_history.specs.Printed.{AreReadAsEntries, printed}
use Rattle.mt_picture.specs.Story.{Story}
use Rattle.mt_load.specs.declared.summary.Summary.{Summary}
use Rattle.mt_load.specs.Summary.{IsCountedAgain, IsSummary}
use Rattle.mt_picture.specs.Sizes.{IsPublishedCount}
use Rattle.mt_world.specs.World.{World, setup_of}

one_published : (setup : Setup) (s : State) (some others : List Conflict) → IsPublished setup s some → IsPublished setup s others → some ≡ others
one_published setup s some others x y = one_order total some others x.sorted y.sorted (λ c h. (y.exact c).1 ((x.exact c).0 h)) (λ c h. (x.exact c).1 ((y.exact c).0 h))

pub one_count : (setup : Setup) (history : List Entry) (m n : ℕ) → IsPublishedCount setup history m → IsPublishedCount setup history n → m ≡ n
one_count setup history m n x y =
    x.count ∙ ap length (one_published setup (state_of setup history) x.conflicts y.conflicts x.published y.published) ∙ sym y.count

pub same_again : (setup : Setup) (history : List Entry) (m n : ℕ) → All IsComplete history → IsCountedAgain setup history m → IsPublishedCount setup history n
    → m ≡ n
same_again setup history m n each again counted =
    let back : again.entries ≡ history = one_reading (lines_of (printed history)) again.entries history again.read (read_back history each) in
    one_count setup history m n (subst (λ (h : List Entry). IsPublishedCount setup h m) back again.counted) counted

-- what is published of the picture that is rebuilt
pub rebuilt_count : (setup : Setup) (history entries : List Entry) (rules : Rules) (tables : Tables) (rebuilt : Story) (conflicts : List Conflict)
    → AreReadAsEntries (lines_of (printed history)) entries → rebuilt ≡ record { setup = setup_with rules tables; history = entries } → rules ≡ setup.rules
    → tables ≡ setup.tables → IsPublished rebuilt.setup (state_of rebuilt.setup rebuilt.history) conflicts → IsCountedAgain setup history (length conflicts)
rebuilt_count setup history entries rules tables rebuilt conflicts read is same_rules same_tables published =
    let story : Story = record { setup = setup; history = entries } in
    let same : rebuilt ≡ story = is ∙ (λ i. record { setup = record { rules = same_rules i; tables = same_tables i }; history = entries }) in
    record {
      entries = entries;
      read = read;
      counted = record {
        conflicts = conflicts;
        published = subst (λ (s : Story). IsPublished s.setup (state_of s.setup s.history) conflicts) same published;
        count = refl;
      };
    }

abbrev Sums : Summary → Story → Type 0
Sums s story = IsPublishedCount story.setup story.history s.conflicts × IsCountedAgain story.setup story.history s.again
    × (s.again ≡ s.conflicts) × (s.entries ≡ length story.history) × (s.flights ≡ length (state_of story.setup story.history).records)

-- the summary of a world by its picture
pub summary_is : (w : World) (story : Story) (s : Summary) → story.setup ≡ setup_of w → story.history ≡ w.history → All IsComplete story.history
    → IsPublishedCount story.setup story.history s.conflicts → IsCountedAgain story.setup story.history s.again → s.entries ≡ length story.history
    → s.flights ≡ length (state_of story.setup story.history).records → IsSummary w s
summary_is w story s same_setup same_history each counted again entries flights =
    let seen : Story = record { setup = setup_of w; history = w.history } in
    let same : story ≡ seen = λ i. record { setup = same_setup i; history = same_history i } in
    let sums : Sums s story = (counted, again, same_again story.setup story.history s.again s.conflicts each again counted, entries, flights) in
    let sums_seen : Sums s seen = subst (Sums s) same sums in
    record { conflicts = sums_seen.0; again = sums_seen.1; same = sums_seen.2; entries = sums_seen.3; flights = sums_seen.4 }
