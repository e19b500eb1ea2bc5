-- A stream's first byte, read and put back.
use Rattle.std.proofs.Common.{◌≡◌, ◌<◌, ℕ, ◌==◌, false, List, [], ◌∷◌, ◌++◌, length, take, Option, None, Some, refl, sym, ◌∙◌, ap, arith, append-nil, Result, Ok, Err, Bool, true}
use Rattle.std.proofs.lemmas.Bool.{false≢true}
use Rattle.std.proofs.lemmas.List.{append_assoc}
use Rattle.std.specs.Io.KnownBytes.{Consumes, Keeps, Appends, IsAtEnd, ReadConsumes, prepend_known}

-- of the bytes that were put back some are given
pub gives_back : (left : Option (List ℕ)) (back given rest : List ℕ) → back ≡ given ++ rest → Consumes (prepend_known back left) (prepend_known rest left) given
gives_back None back given rest is = tt
gives_back (Some more) back given rest is = rw is (append_assoc given rest more)

-- where none are put back, a read of the stream is one
pub reads_behind : {E : Type 0} (old new : Option (List ℕ)) (back : List ℕ) (result : Result ℕ E) (buf : List ℕ) → back ≡ [] → ReadConsumes old new result buf
    → ReadConsumes (prepend_known back old) (prepend_known back new) result buf
reads_behind None None back result buf none read = read
reads_behind None (Some ys) back result buf none read = rw none read
reads_behind (Some xs) None back (Ok n) buf none read = absurd read.0
reads_behind (Some xs) None back (Err e) buf none read = absurd read
reads_behind (Some xs) (Some ys) back result buf none read = rw none read

-- some bytes are put back
pub some_left : (back : List ℕ) (none : Bool) → (none ≡ true → back ≡ []) × (back ≡ [] → none ≡ true) → none ≡ false → 0 < length back
some_left [] none is some = absurd (false≢true (sym some ∙ is.1 refl))
some_left (b ∷ back) none is some = omega arith

-- a stream that gave nothing at its end had nothing left
pub ended_before : (old new : Option (List ℕ)) → Consumes old new [] → IsAtEnd new → IsAtEnd old
ended_before None new none end = tt
ended_before (Some xs) None none end = absurd none
ended_before (Some xs) (Some ys) none end = none ∙ end

none_held : (old new : Option (List ℕ)) → Appends old new [] → Keeps old new
none_held None new none = tt
none_held (Some xs) None none = absurd none
none_held (Some xs) (Some ys) none = none ∙ append-nil xs

-- nothing was taken of a piece
pub keeps_held : (old new : Option (List ℕ)) (piece : List ℕ) (count : ℕ) → count ≡ 0 → Appends old new (take count piece) → Keeps old new
keeps_held old new piece count zero none = none_held old new (rw zero at none)

-- a call that kept what was left, and then one that read
pub consumes_later : (a b c : Option (List ℕ)) (bytes : List ℕ) → Keeps a b → Consumes b c bytes → Consumes a c bytes
consumes_later None b c bytes kept read = tt
consumes_later (Some xs) None c bytes kept read = absurd kept
consumes_later (Some xs) (Some ys) None bytes kept read = absurd read
consumes_later (Some xs) (Some ys) (Some zs) bytes kept read = sym kept ∙ read

-- the same of writing
pub appends_later : (a b c : Option (List ℕ)) (bytes : List ℕ) → Keeps a b → Appends b c bytes → Appends a c bytes
appends_later None b c bytes kept wrote = tt
appends_later (Some xs) None c bytes kept wrote = absurd kept
appends_later (Some xs) (Some ys) None bytes kept wrote = absurd wrote
appends_later (Some xs) (Some ys) (Some zs) bytes kept wrote = wrote ∙ ap (λ l. l ++ bytes) kept

-- a buffer that isn't empty
pub some_room : (buf : List ℕ) → (length buf == 0) ≡ false → 0 < length buf
some_room [] some = cc
some_room (b ∷ buf) some = omega arith

-- two reads, one after the other
pub consumes_on : (a b c : Option (List ℕ)) (bytes further : List ℕ) → Consumes a b bytes → Consumes b c further → Consumes a c (bytes ++ further)
consumes_on None b c bytes further read more = tt
consumes_on (Some xs) None c bytes further read more = absurd read
consumes_on (Some xs) (Some ys) None bytes further read more = absurd more
consumes_on (Some xs) (Some ys) (Some zs) bytes further read more = read ∙ (ap (λ l. bytes ++ l) more ∙ sym (append_assoc bytes further zs))
