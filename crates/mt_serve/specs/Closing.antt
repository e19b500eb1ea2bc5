-- The summary of serving, and its line.
use Rattle.std.specs.Prelude.{◌≡◌, ℕ, pos, List, [], ◌∷◌, ◌++◌, codes}
use Rattle.serde_json.specs.Data.{Data, object, no_members, member}
use Rattle.serde_json.specs.Written.{compact_text}
use Rattle.mt_picture.specs.Story.{Story}
use Rattle.mt_picture.specs.declared.sizes.Sizes.{Sizes}
use Rattle.mt_picture.specs.Sizes.{AreSizes}
use Rattle.mt_write.specs.Entry.{whole}
use Rattle.mt_serve.specs.declared.closing.Closing.{Closing}
use Rattle.mt_serve.specs.declared.counts.Counts.{Counts}

-- the summary's counts: conflicts, entries, flights, sessions, faulted and starved ones. The conflicts published of the closed picture's history, its
-- entries and its flights; the sessions, those that their link ended, and those that found no memory.
pub record IsClosing (closed : Story) (counts : Counts) (c : Closing) : Type 0 where
  pub sizes : Sizes
  pub held : AreSizes closed.setup closed.history sizes
  pub conflicts : c.conflicts ≡ sizes.conflicts
  pub entries : c.entries ≡ sizes.entries
  pub flights : c.flights ≡ sizes.flights
  pub faulted : c.faulted ≡ counts.faulted
  pub sessions : c.sessions ≡ counts.sessions
  pub starved : c.starved ≡ counts.starved

-- the counts as an object, keys in byte order
abbrev pub closing_value : Closing → Data
closing_value c = object (
    member (codes "conflicts") (whole (pos c.conflicts)) (
    member (codes "entries") (whole (pos c.entries)) (
    member (codes "faulted") (whole (pos c.faulted)) (
    member (codes "flights") (whole (pos c.flights)) (
    member (codes "sessions") (whole (pos c.sessions)) (
    member (codes "starved") (whole (pos c.starved)) no_members))))))

-- the counts' compact line
abbrev pub closing_text : Closing → List ℕ
closing_text c = compact_text (closing_value c) ++ 10 ∷ []
