-- What the first bytes of a stream make of it, and what a call on that does.
use Rattle.std.specs.Prelude.{◌≡◌, ⊤, ℕ, Bool, true, false, List, Option, Some, None, Result, Ok, IsErr, MatchOption}
use Rattle.std.specs.Io.KnownBytes.{IsAtEnd, ReadConsumes, WriteAppends, prepend_known}
use Rattle.mt_io.specs.declared.source.Failed.{Failed}
use Rattle.mt_ws.specs.declared.front.Front.{Front}
use Rattle.mt_ws.specs.declared.opening.LinkKind.{LinkKind}
use Rattle.mt_ws.specs.declared.opening.LinkKind.TheVariants.{Lines, Web, Over, Foreign, Broken}
use Rattle.mt_ws.specs.declared.opening.Opening.{Opening}
use Rattle.mt_ws.specs.declared.ws_link.WsLink.{WsLink}
use Rattle.mt_ws.specs.Linking.{ReadsLink, WritesLink}
use Rattle.mt_ws.specs.Beginning.{ReadsHead}
use Rattle.mt_ws.specs.declared.beginning.Start.TheVariants as starts
use Rattle.mt_ws.specs.Accepted.{IsFromHandshake}

-- a stream of which nothing was read
abbrev pub IsStreamUnread : {S : Type 0} → S → Opening S → Type 0
IsStreamUnread stream opening = (opening.fresh ≡ Some stream) × (opening.kind ≡ Broken)

-- the stream began neither as lines nor as a WebSocket
abbrev pub is_foreign : {S : Type 0} → LinkKind S → Bool
is_foreign Foreign = true
is_foreign kind = false

module _ {S : Type 0} (remaining contents : S → Option (List ℕ)) where
  -- the stream is opened: as lines, as a WebSocket, as neither, or not. A line session still has all bytes that were read; of a WebSocket's handshake
  -- nothing is said.
  abbrev pub BeginsLink : S → LinkKind S → Type 0
  BeginsLink stream (Lines front) = ReadsHead (remaining stream) (remaining front.stream) front.back (Some starts.Lines)
  BeginsLink stream (Web link) = ((rest : Option (List ℕ)) × (head : List ℕ) × ReadsHead (remaining stream) rest head (Some starts.Web)) × IsFromHandshake link
  BeginsLink stream Over = IsAtEnd (remaining stream)
  BeginsLink stream Foreign = (rest : Option (List ℕ)) × (head : List ℕ) × ReadsHead (remaining stream) rest head (Some starts.Foreign)
  BeginsLink stream Broken = ⊤

  -- the first read opens the stream
  abbrev pub Opens : Opening S → Opening S → Type 0
  Opens old new = MatchOption old.fresh (new ≡ old) (λ stream. (new.fresh ≡ None) × BeginsLink stream new.kind)

  -- `ReadsKind`, `ReadsOpening`: what a read does, by the kind of link
  abbrev pub ReadsKind : LinkKind S → LinkKind S → List ℕ → Result ℕ Failed → Type 0
  ReadsKind (Lines front) new buf result =
      (after : Front S) × (new ≡ Lines after) × ReadConsumes (prepend_known front.back (remaining front.stream)) (prepend_known after.back (remaining after.stream)) result buf
  ReadsKind (Web link) new buf result =
      (after : WsLink (Front S)) × (new ≡ Web after)
      × ReadsLink (λ f. prepend_known f.back (remaining f.stream)) (λ f. contents f.stream) link after buf result
  ReadsKind Over new buf result = (new ≡ Over) × (result ≡ Ok 0)
  ReadsKind Foreign new buf result = (new ≡ Foreign) × IsErr result
  ReadsKind Broken new buf result = (new ≡ Broken) × IsErr result

  pub record ReadsOpening (old new : Opening S) (buf : List ℕ) (result : Result ℕ Failed) : Type 0 where
    pub middle : Opening S
    pub opens : Opens old middle
    pub opened : new.fresh ≡ None
    pub reads : ReadsKind middle.kind new.kind buf result

  -- what a write does, by the kind of link
  abbrev pub WritesKind : LinkKind S → LinkKind S → List ℕ → Result ℕ Failed → Type 0
  WritesKind (Lines front) new piece result =
      (after : Front S) × (new ≡ Lines after) × (after.back ≡ front.back) × WriteAppends (contents front.stream) (contents after.stream) result piece
  WritesKind (Web link) new piece result =
      (after : WsLink (Front S)) × (new ≡ Web after)
      × WritesLink (λ f. prepend_known f.back (remaining f.stream)) (λ f. contents f.stream) link after piece result
  WritesKind Over new piece result = (new ≡ Over) × IsErr result
  WritesKind Foreign new piece result = (new ≡ Foreign) × IsErr result
  WritesKind Broken new piece result = (new ≡ Broken) × IsErr result

  -- what a write does; none opens a stream
  abbrev pub WritesOpening : Opening S → Opening S → List ℕ → Result ℕ Failed → Type 0
  WritesOpening old new piece result = WritesKind old.kind new.kind piece result × (new.fresh ≡ old.fresh)
