-- The bytes that are read of a stream to see what it is.
use Rattle.std.proofs.Common.{◌≡◌, ◌<◌, ◌≤◌, ℕ, ◌+◌, ◌-◌, Bool, true, false, List, [], ◌++◌, length, take, drop, Option, None, Some, MatchOption, is_some, refl, sym, ◌∙◌, ap, inl, inr, arith, append-nil, length-append}
use Rattle.std.proofs.Math.Seq.{take-append-add}
use Rattle.std.proofs.lemmas.List.{length-drop, length-take-le}
use borrow.Rule.Slice.PartMut.{mid_of}
use Rattle.std.specs.Io.KnownBytes.{Consumes, IsAtEnd}
use Rattle.mt_ws.specs.declared.beginning.Start.{Start}
use Rattle.mt_ws.specs.declared.opening.LinkKind.{LinkKind}
use Rattle.mt_ws.specs.declared.opening.LinkKind.TheVariants as Kind
use Rattle.mt_ws.specs.Beginning.{IsStart, NeedsMore, ReadsHead}
use Rattle.mt_ws.specs.Opening.{BeginsLink}
use Rattle.mt_ws.specs.Private.Opening.{IsKindBy}
use Rattle.mt_ws.proofs.Giving.{take-append-eq}
use Rattle.mt_ws.proofs.Opened.{consumes_on, ended_before}

-- so many bytes were read, and leave open what the stream is
pub record HasReadOpen (before now : Option (List ℕ)) (head : List ℕ) (count : ℕ) : Type 0 where
  pub read : Consumes before now (take count head)
  pub needed : NeedsMore (take count head) false

-- nothing was read yet
pub none_read : (left : Option (List ℕ)) (head : List ℕ) → HasReadOpen left left head 0
none_read None head = record { read = tt; needed = inl refl }
none_read (Some xs) head = record { read = refl; needed = inl refl }

-- the bytes that are there after a read behind those that were read
abbrev pub read_behind : List ℕ → List ℕ → ℕ → List ℕ
read_behind head tail count = take count head ++ tail

-- what a read behind the bytes that were read adds to them
take_on : (xs tail : List ℕ) (count more : ℕ) → length xs ≡ count → take (count + more) (xs ++ tail) ≡ xs ++ take more tail
take_on xs tail count more size = ap (λ n. take (n + more) (xs ++ tail)) (sym size) ∙ take-append-add xs tail more

longer : (head tail : List ℕ) (count more : ℕ) → count ≤ length head → take (count + more) (read_behind head tail count) ≡ take count head ++ take more tail
longer head tail count more few = take_on (take count head) tail count more (length-take-le count head few)

kept : (head tail : List ℕ) (count : ℕ) → count ≤ length head → take count (read_behind head tail count) ≡ take count head
kept head tail count few = take-append-eq count (take count head) tail (length-take-le count head few)

front_of_more : (head tail : List ℕ) (count more : ℕ) → count ≤ length head → take count (take (count + more) (read_behind head tail count)) ≡ take count head
front_of_more head tail count more few =
    ap (λ l. take count l) (longer head tail count more few) ∙ take-append-eq count (take count head) (take more tail) (length-take-le count head few)

take_again : (count : ℕ) (head : List ℕ) → count ≤ length head → take count (take count head) ≡ take count head
take_again count head few =
    ap (λ l. take count l) (sym (append-nil (take count head))) ∙ take-append-eq count (take count head) [] (length-take-le count head few)

-- so many bytes are there then
behind_length : (head tail : List ℕ) (count more : ℕ) → count ≤ length head → more ≤ length tail → length (take (count + more) (read_behind head tail count)) ≡ count + more
behind_length head tail count more few enough =
    let whole = ap length (longer head tail count more few) ∙ length-append (take count head) (take more tail) in
    omega (arith, whole, length-take-le count head few, length-take-le more tail enough)

-- both reads were one
pub reads_on : (before middle now : Option (List ℕ)) (head tail : List ℕ) (count more : ℕ) → count ≤ length head
    → Consumes before middle (take count head) → Consumes middle now (take more tail) → Consumes before now (take (count + more) (read_behind head tail count))
reads_on before middle now head tail count more few read next =
    rw (longer head tail count more few) (consumes_on before middle now (take count head) (take more tail) read next)

-- a start that is told
abbrev pub Says : List ℕ → Bool → Option Start → Type 0
Says head ended start = MatchOption start (NeedsMore head ended) (IsStart head ended)

said : (head : List ℕ) (start : Option Start) → (start ≡ None → ⊥) → Says head false start → MatchOption start ((head ≡ []) × (false ≡ true)) (IsStart head false)
said head None some says = absurd (some refl)
said head (Some start) some says = says

said_at_end : (head : List ℕ) (start : Option Start) → Says head true start → MatchOption start ((head ≡ []) × (true ≡ true)) (IsStart head true)
said_at_end head None (inl none) = (none, refl)
said_at_end head None (inr more) = cc
said_at_end head (Some start) says = says

reads_none : (before middle now : Option (List ℕ)) (xs : List ℕ) → Consumes before middle xs → Consumes middle now [] → Consumes before now xs
reads_none before middle now xs read none =
    let both = consumes_on before middle now xs [] read none in
    rw (append-nil xs) at both

-- the bytes say what the stream is; those of the last read were needed
pub told : (before middle now : Option (List ℕ)) (head tail : List ℕ) (count more : ℕ) (start : Option Start) → HasReadOpen before middle head count
    → 0 < more → count ≤ length head → more ≤ length tail → Consumes middle now (take more tail) → (start ≡ None → ⊥)
    → Says (take (count + more) (read_behind head tail count)) false start → ReadsHead before now (take (count + more) (read_behind head tail count)) start
told before middle now head tail count more start was some few enough next is says = record {
  read = reads_on before middle now head tail count more few was.read next;
  ended = false;
  at_end = λ e. cc;
  before = count;
  last = inl (omega (arith, behind_length head tail count more few enough));
  needed = rw (front_of_more head tail count more few) was.needed;
  start_is = said _ start is says;
}

-- nothing more came, and so they say it
pub told_at_end : (before middle now : Option (List ℕ)) (head tail : List ℕ) (count : ℕ) (start : Option Start) → HasReadOpen before middle head count
    → count ≤ length head → Consumes middle now (take 0 tail) → IsAtEnd now
    → Says (take count (read_behind head tail count)) true start → ReadsHead before now (take count (read_behind head tail count)) start
told_at_end before middle now head tail count start was few next end says = record {
  read = rw (kept head tail count few) (reads_none before middle now (take count head) was.read next);
  ended = true;
  at_end = λ e. end;
  before = count;
  last = inr refl;
  needed = rw (kept head tail count few, take_again count head few) was.needed;
  start_is = said_at_end _ start says;
}

-- they still leave it open
pub still_open : (before middle now : Option (List ℕ)) (head tail : List ℕ) (count more : ℕ) (start : Option Start) → HasReadOpen before middle head count
    → count ≤ length head → Consumes middle now (take more tail) → (start ≡ None)
    → Says (take (count + more) (read_behind head tail count)) false start → HasReadOpen before now (read_behind head tail count) (count + more)
still_open before middle now head tail count more None was few next none says = record { read = reads_on before middle now head tail count more few was.read next; needed = says }
still_open before middle now head tail count more (Some start) was few next none says = cc

too_long : (head : List ℕ) → NeedsMore head false → 8192 ≤ length head → ⊥
too_long head (inl none) long = absurd (omega (arith, ap length none))
too_long head (inr more) long = absurd (omega (arith, more.3))

-- a stream of which no byte was read is at its end
nothing : (before after : Option (List ℕ)) (head : List ℕ) → ReadsHead before after head None → IsAtEnd before
nothing before after head read = ended_before before after (rw read.start_is.0 at read.read) (read.at_end read.start_is.1)

-- so many bytes leave nothing open
pub not_open : (before now : Option (List ℕ)) (head : List ℕ) (count : ℕ) → HasReadOpen before now head count → 8192 ≤ count → count ≤ length head → ⊥
not_open before now head count was long few = too_long (take count head) was.needed (omega (arith, length-take-le count head few))

-- what first bytes make of a stream is what the stream begins
pub begins : {S : Type 0} (remaining contents : S → Option (List ℕ)) (before after : S) (head : List ℕ) (start : Option Start) (kind : LinkKind S)
    → ReadsHead (remaining before) (remaining after) head start → IsKindBy head start after kind → BeginsLink remaining contents before kind
begins remaining contents before after head start (Kind.Lines front) read by = rw (by.1) (rw by.0 at read)
begins remaining contents before after head start (Kind.Web link) read by = ((remaining after, head, rw by.0 at read), by.1)
begins remaining contents before after head start Kind.Over read by = nothing (remaining before) (remaining after) head (rw by at read)
begins remaining contents before after head start Kind.Foreign read by = (remaining after, head, rw by at read)
begins remaining contents before after head start Kind.Broken read by = tt

-- `some_start`, `no_start`: whether a start is told
pub some_start : (start : Option Start) (is : Bool) → is ≡ is_some start → is ≡ true → start ≡ None → ⊥
some_start None is same told none = cc
some_start (Some start) is same told none = cc

pub no_start : (start : Option Start) (is : Bool) → is ≡ is_some start → is ≡ false → start ≡ None
no_start None is same untold = refl
no_start (Some start) is same untold = cc

-- the part of a buffer behind the bytes that were read
part_length : (head : List ℕ) (count size : ℕ) → length head ≡ size → count ≤ size → length (mid_of count (size - count) head) ≡ size - count
part_length head count size long few =
    let left = length-drop count head in
    omega (arith, length-take-le (size - count) (drop count head) (omega arith))

pub rest_is_some : (head : List ℕ) (count size : ℕ) → length head ≡ size → count < size → 0 < length (mid_of count (size - count) head)
rest_is_some head count size long few = omega (arith, part_length head count size long (omega arith))

-- a read stays within the buffer
pub read_within : (head buf : List ℕ) (count more size : ℕ) → length head ≡ size → count ≤ size → length buf ≡ length (mid_of count (size - count) head)
    → more ≤ length buf → count + more ≤ size
read_within head buf count more size long few part enough = omega (arith, part_length head count size long few)
