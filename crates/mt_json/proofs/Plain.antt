-- Objects of plain values: what is put in keeps them so, and the whole has no float and can be read.
use Rattle.std.proofs.Common.{◌≡◌, ℕ, ◌<◌, ◌≤◌, List, false, Ordering, Less, Equal, Greater, nat_cmp, refl, arith}
use Rattle.std.specs.Cmp.Lexicographic.{slice_cmp}
use Rattle.std.specs.Ordering.{match_ordering}
use Rattle.serde_json.specs.Data.{Data, object, Members, no_members, member, put, depth, members_depth}
use Rattle.serde_json.specs.Read.{max_depth}
use Rattle.serde_json.specs.Written.{has_float}
use Rattle.mt_json.specs.Line.{IsPlain, ArePlain}

put_at : (o : Ordering) (k l : List ℕ) (d e : Data) (ms : Members) → IsPlain d → ArePlain (member l e ms) → ArePlain (put k d ms)
    → ArePlain (match_ordering o (member k d (member l e ms)) (member l d ms) (member l e (put k d ms)))
put_at Less k l d e ms p h later = (p, h)
put_at Equal k l d e ms p h later = (p, h.1)
put_at Greater k l d e ms p h later = (h.0, later)

-- a plain value put in keeps the values plain
pub plain-put : (k : List ℕ) (d : Data) (ms : Members) → IsPlain d → ArePlain ms → ArePlain (put k d ms)
plain-put k d no_members p h = (p, tt)
plain-put k d (member l e ms) p h = put_at (slice_cmp nat_cmp k l) k l d e ms p h (plain-put k d ms p h.1)

-- an object of plain values has no float
pub plain_has_float : (ms : Members) → ArePlain ms → has_float (object ms) ≡ false
plain_has_float no_members h = refl
plain_has_float (member k d ms) h = rw (h.0.0, plain_has_float ms h.1) refl

shallow : (ms : Members) → ArePlain ms → members_depth ms < max_depth
shallow no_members h = omega arith
shallow (member k d ms) h = omega (arith, h.0.1, shallow ms h.1)

-- and it nests no deeper than is read
pub plain_depth : (ms : Members) → ArePlain ms → depth (object ms) ≤ max_depth
plain_depth ms h = omega (arith, shallow ms h)
