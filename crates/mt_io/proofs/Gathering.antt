-- Reading more, and moving pieces, one after another.
use Rattle.std.proofs.Common.{◌≡◌, ◌<◌, ◌≤◌, ℕ, ◌+◌, ◌-◌, ◌^◌, Bool, true, false, List, [], ◌∷◌, ◌++◌, length, take, slice_range, refl, sym, ◌∙◌, ap, subst, arith, append_assoc, append-nil, length-append}
use Rattle.std.proofs.Common.{inl, inr, Ok}
use Rattle.std.proofs.lemmas.Bool.{cases_eq}
use Rattle.std.proofs.lemmas.List.{nil_from_length, get_or-take, length-take-le, take-append-le, take-take}
use Rattle.std.specs.declared.result.Result.{Result}
use Rattle.std.specs.declared.option.Option.{Option}
use Rattle.std.specs.Io.KnownBytes.{Consumes}
use Rattle.mt_io.specs.Lines.{IsPart}
use Rattle.mt_io.specs.Reading.{Store, PassesBytes}
use Rattle.mt_io.specs.Private.Gathering.{EndsWhole, Fills, StopsFill, Moves, IsGathered, Gathers, StopsLine, IsUnread}
use Rattle.mt_io.specs.declared.line.LineFault.{LineFault}
use Rattle.mt_io.specs.declared.line.LineFault.TheVariants.{ReadFault, Spent}
use Rattle.mt_io.proofs.Known.{consumes_none, consumes_kept, consumes_on}

-- where nothing is ahead no 0x0A is
pub ends_none : (bytes : List ℕ) → EndsWhole bytes 0 0 0
ends_none bytes = record { within = omega arith; last = λ lt. absurd (omega arith); none = λ k from to. absurd (omega arith) }

-- of the front of a buffer, all of which is ahead
pub ends_front : (bytes : List ℕ) (count whole : ℕ) → count ≤ length bytes → EndsWhole (take count bytes) 0 whole (length (take count bytes)) → EndsWhole bytes 0 whole count
ends_front bytes count whole le e =
    let size : length (take count bytes) ≡ count = length-take-le count bytes le in
    record {
      within = omega (arith, size, e.within);
      last = λ some. sym (get_or-take count bytes (whole - 1) 0 (omega (arith, some, size, e.within))) ∙ e.last some;
      none = λ k from to. rw (get_or-take count bytes k 0 to) at (e.none k from (omega (arith, size)));
    }

-- what was read stands at the front of the buffer, and is ahead
pub fills_read : (old : Store) (before after : Option (List ℕ)) (bytes buf rest : List ℕ) (len count taken : ℕ) (ended : Bool) → bytes ≡ take len (buf ++ rest)
    → count ≤ len → count ≤ length buf → taken ≡ old.taken → ended ≡ false → taken + count ≤ 2 ^ 32 → 0 < count → Consumes before after (take count buf)
    → Fills old (record { ahead = slice_range bytes 0 count; taken = taken + count; ended = ended }) before after true
fills_read old before after bytes buf rest len count taken ended is within room same going limit some read =
    let all : count - 0 ≡ count = omega arith in
    let front : slice_range bytes 0 count ≡ take count buf =
    ap (λ n. take n bytes) all ∙ ap (λ xs. take count xs) is ∙ take-take count len (buf ++ rest) within ∙ take-append-le count buf rest room in
    let size : length (slice_range bytes 0 count) ≡ count = ap length front ∙ length-take-le count buf room in
    record {
      from = rw front read;
      count = omega (arith, size, same);
      limit = limit;
      some = λ more. (omega (arith, size), going);
      none = λ over. cc;
    }

-- what holds of a reader between two pieces: some bytes went, and they are a part of a line, which is gathered
pub record IsGathering (old now : Store) (before mid : Option (List ℕ)) (kept : List ℕ) (is_long : Bool) : Type 0 where
  pub line : List ℕ
  pub part : IsPart line
  pub gathered : IsGathered kept is_long line
  pub passes : PassesBytes old now before mid line

pub IsPart-append : (xs ys : List ℕ) → IsPart xs → IsPart ys → IsPart (xs ++ ys)
IsPart-append [] ys px py = py
IsPart-append (x ∷ xs) ys px py = (px.0, IsPart-append xs ys px.1 py)

-- nothing is ahead, and more is read
pub passes_fill : (old now new : Store) (before mid after : Option (List ℕ)) (front : List ℕ) (more : Bool) → length now.ahead ≡ 0
    → PassesBytes old now before mid front → Fills now new mid after more → PassesBytes old new before after front
passes_fill old now new before mid after front more empty p fills =
    let none : now.ahead ≡ [] = nil_from_length now.ahead empty in
    let went : old.ahead ++ p.read ≡ front = p.bytes ∙ ap (λ xs. front ++ xs) none ∙ append-nil front in
    record {
      read = p.read ++ new.ahead;
      from = consumes_on before mid after p.read new.ahead p.from fills.from;
      count = omega (arith, p.count, fills.count, length-append p.read new.ahead);
      bytes = sym (append_assoc old.ahead p.read new.ahead) ∙ ap (λ xs. xs ++ new.ahead) went;
      limit = fills.limit;
    }

-- nothing is ahead, and nothing is read
pub passes_stop : (old now new : Store) (before mid after : Option (List ℕ)) (front : List ℕ) → length now.ahead ≡ 0 → new.ahead ≡ [] → new.taken ≡ now.taken
    → PassesBytes old now before mid front → Consumes mid after [] → PassesBytes old new before after front
passes_stop old now new before mid after front empty none same p from =
    let was : now.ahead ≡ [] = nil_from_length now.ahead empty in
    record {
      read = p.read ++ [];
      from = consumes_on before mid after p.read [] p.from from;
      count = omega (arith, p.count, same, length-append p.read []);
      bytes = rw (append-nil p.read, none, ← was) p.bytes;
      limit = omega (arith, p.limit, same);
    }

-- bytes that are ahead go
pub passes_more : (old now new : Store) (before mid : Option (List ℕ)) (front piece : List ℕ) → now.ahead ≡ piece ++ new.ahead → new.taken ≡ now.taken
    → PassesBytes old now before mid front → PassesBytes old new before mid (front ++ piece)
passes_more old now new before mid front piece split same p = record {
  read = p.read;
  from = p.from;
  count = omega (arith, p.count, same);
  bytes = p.bytes ∙ ap (λ xs. front ++ xs) split ∙ sym (append_assoc front piece new.ahead);
  limit = omega (arith, p.limit, same);
}

-- after a fill that tells that bytes are ahead
pub filled : (old now new : Store) (before mid after : Option (List ℕ)) (kept : List ℕ) (is_long : Bool) (more : Bool) (result : Result Bool LineFault) → more ≡ true
    → IsGathering old now before mid kept is_long → now.ended ≡ false
    → (0 < length now.ahead → (result ≡ Ok true) × (new ≡ now) × (after ≡ mid)) → (length now.ahead ≡ 0 → Fills now new mid after more)
    → IsGathering old new before after kept is_long × (new.ended ≡ false)
filled old now new before mid after kept is_long more result true_ so_far going held read =
    elim (cases_eq (length now.ahead) 0) [
      | inl empty ↦
          let fills = read empty in (
            record {
              line = so_far.line;
              part = so_far.part;
              gathered = so_far.gathered;
              passes = passes_fill old now new before mid after so_far.line more empty so_far.passes fills;
            },
            (fills.some true_).1,
          )
      | inr some ↦
          let h = held (omega arith) in
          rw (h.1, h.2) (so_far, going)
    ]

-- a piece without a 0x0A was moved
pub gathers_piece : (old now new : Store) (before mid : Option (List ℕ)) (kept : List ℕ) (was_long : Bool) (kept_now : List ℕ) (is_long : Bool)
    → IsGathering old now before mid kept was_long → Moves now new kept was_long kept_now is_long false → IsGathering old new before mid kept_now is_long
gathers_piece old now new before mid kept was_long kept_now is_long so_far moved =
    let split : now.ahead ≡ moved.piece ++ new.ahead = moved.bytes ∙ ap (λ xs. xs ++ new.ahead) (append-nil moved.piece) in
    record {
      line = so_far.line ++ moved.piece;
      part = IsPart-append so_far.line moved.piece so_far.part moved.is_part;
      gathered = moved.adds so_far.line so_far.gathered;
      passes = passes_more old now new before mid so_far.line moved.piece split moved.taken so_far.passes;
    }

-- the line's last piece was moved, and its 0x0A
pub gathers_whole : (old now new : Store) (before mid : Option (List ℕ)) (kept : List ℕ) (was_long : Bool) (kept_now : List ℕ) (is_long : Bool)
    → IsGathering old now before mid kept was_long → Moves now new kept was_long kept_now is_long true → now.ended ≡ false → Gathers old new before mid kept_now is_long true
gathers_whole old now new before mid kept was_long kept_now is_long so_far moved going =
    let passes : PassesBytes old new before mid (so_far.line ++ (moved.piece ++ 10 ∷ [])) = passes_more old now new before mid so_far.line (moved.piece ++ 10 ∷ []) moved.bytes moved.taken so_far.passes in
    record {
      line = so_far.line ++ moved.piece;
      part = IsPart-append so_far.line moved.piece so_far.part moved.is_part;
      gathered = moved.adds so_far.line so_far.gathered;
      passes = rw append_assoc passes;
      more = λ _. moved.ended ∙ going;
      over = λ e. cc;
    }

-- the source ended after the line
pub gathers_last : (old new : Store) (before after : Option (List ℕ)) (kept : List ℕ) (is_long : Bool) (now : Store) (mid : Option (List ℕ)) → length now.ahead ≡ 0
    → IsGathering old now before mid kept is_long → Fills now new mid after false → Gathers old new before after kept is_long false
gathers_last old new before after kept is_long now mid empty so_far fills =
    let over = fills.none refl in
    record {
      line = so_far.line;
      part = so_far.part;
      gathered = so_far.gathered;
      passes = rw append-nil (passes_fill old now new before mid after so_far.line false empty so_far.passes fills);
      more = λ e. cc;
      over = λ _. (over.1, over.0, over.2, over.3);
    }

consumes_unread : (fault : LineFault) (mid after : Option (List ℕ)) → IsUnread fault mid after → Consumes mid after []
consumes_unread Spent mid after same = subst (λ (x : Option (List ℕ)). Consumes mid x []) (sym same) (consumes_none mid)
consumes_unread ReadFault mid after kept = consumes_kept mid after kept

-- the source failed after the line's part, or the limit was met
pub stops : (old now new : Store) (before mid after : Option (List ℕ)) (kept : List ℕ) (is_long : Bool) (fault : LineFault) → length now.ahead ≡ 0
    → IsGathering old now before mid kept is_long → StopsFill now new mid after fault → StopsLine old new before after fault
stops old now new before mid after kept is_long fault empty so_far stop = record {
  part = so_far.line;
  is_part = so_far.part;
  passes = passes_stop old now new before mid after so_far.line empty stop.empty stop.same so_far.passes (consumes_unread fault mid after stop.unread);
  empty = stop.empty;
  going = stop.going;
  place = stop.place;
}
