-- A line that was gathered is given and counted.
use Rattle.std.proofs.Common.{◌≡◌, ◌<◌, ◌≤◌, ℕ, ◌+◌, ◌^◌, Bool, true, false, List, [], ◌∷◌, ◌++◌, length, None, Ok, Err, refl, sym, ap, inl, inr, subst, arith, append-nil, length-append}
use Rattle.std.specs.declared.option.Option.{Option}
use Rattle.mt_io.specs.Reading.{Store, PassesBytes, Ends, TakesLine, IsAllGiven}
use Rattle.mt_io.specs.Private.Reading.{IsReaderSound}
use Rattle.mt_io.specs.Gathering.{ending_of}
use Rattle.mt_io.specs.Private.Gathering.{Gathers, IsGathered, CountsLine, Advances, StopsLine, reading}
use Rattle.mt_io.specs.declared.line.LineFault.{LineFault}
use Rattle.mt_io.specs.declared.line.Step.{Step}
use Rattle.mt_io.specs.declared.line.Step.TheVariants.{Short, Skipped, Finished}
use Rattle.mt_io.proofs.Known.{consumes_none}

-- what went was taken, and so was what is ahead
weighed : (old new : Store) (before after : Option (List ℕ)) (front : List ℕ) (given : ℕ) → given + length old.ahead ≤ old.taken
    → PassesBytes old new before after front → given + length front + length new.ahead ≤ new.taken
weighed old new before after front given counted p =
    omega (arith, p.count, ap length p.bytes, length-append old.ahead p.read, length-append front new.ahead)

-- a line has a byte, its 0x0A or another
heavy : (line : List ℕ) (whole : Bool) → (whole ≡ false → 0 < length line) → 0 < length (line ++ ending_of whole)
heavy line true some = omega (arith, length-append line (10 ∷ []))
heavy line false some = omega (arith, some refl, length-append line [])

ends : (new : Store) (before after : Option (List ℕ)) (old : Store) (kept : List ℕ) (is_long whole : Bool) (g : Gathers old new before after kept is_long whole)
    → (whole ≡ false → 0 < length g.line) → Ends new after g.line (ending_of whole)
ends new before after old kept is_long true g some = inl (refl, g.more refl)
ends new before after old kept is_long false g some =
    let over = g.over refl in
    inr (refl, some refl, over.0, over.1, over.2, over.3)

over_after : (new : Store) (before after : Option (List ℕ)) (old : Store) (kept : List ℕ) (is_long whole : Bool) → Gathers old new before after kept is_long whole
    → new.ended ≡ true → (new.ahead ≡ []) × (new.taken < 2 ^ 32)
over_after new before after old kept is_long true g ended = let going : new.ended ≡ false = g.more refl in cc
over_after new before after old kept is_long false g ended = let over = g.over refl in (over.1, over.3)

sound_after : (old new : Store) (before after : Option (List ℕ)) (kept : List ℕ) (is_long whole : Bool) (given given_now : ℕ) → IsReaderSound old given None
    → Gathers old new before after kept is_long whole → given_now + length new.ahead ≤ new.taken → IsReaderSound new given_now None
sound_after old new before after kept is_long whole given given_now sound g counted = record {
  counted = counted;
  limit = g.passes.limit;
  over = over_after new before after old kept is_long whole g;
  stopped = tt;
}

takes : (old new : Store) (before after : Option (List ℕ)) (text kept : List ℕ) (is_long whole : Bool) (given given_now : ℕ) → IsReaderSound old given None → old.ended ≡ false
    → (g : Gathers old new before after kept is_long whole) → given_now ≡ given + 1 → (whole ≡ false → 0 < length g.line)
    → TakesLine (reading old given None text) (reading new given_now None kept) before after g.line × (given_now + length new.ahead ≤ new.taken)
takes old new before after text kept is_long whole given given_now sound going g one some =
    let weight : given + length (g.line ++ ending_of whole) + length new.ahead ≤ new.taken = weighed old new before after (g.line ++ ending_of whole) given sound.counted g.passes in
    let byte : 0 < length (g.line ++ ending_of whole) = heavy g.line whole some in (
      record {
        going = going;
        was_sound = refl;
        sound = refl;
        one_more = one;
        bound = omega (arith, g.passes.limit);
        part = g.part;
        ending = ending_of whole;
        ends = ends new before after old kept is_long whole g some;
        passes = g.passes;
      },
      omega arith,
    )

done : (old new : Store) (before after : Option (List ℕ)) (text kept : List ℕ) (is_long whole : Bool) (given given_now : ℕ) → old.ended ≡ false
    → (g : Gathers old new before after kept is_long whole) → given_now ≡ given → whole ≡ false → g.line ≡ []
    → IsAllGiven (reading old given None text) (reading new given_now None kept) before after
done old new before after text kept is_long whole given given_now going g same last none =
    let over = g.over last in
    let empty : g.line ++ ending_of whole ≡ [] = rw (last, none) refl in
    record {
      was_sound = refl;
      sound = refl;
      same = same;
      ended = over.0;
      empty = over.1;
      few = over.3;
      passes = rw empty at g.passes;
      met = λ _. over.2;
      still = λ ended. cc;
    }

pub advanced : (old new : Store) (before after : Option (List ℕ)) (text kept : List ℕ) (is_long whole : Bool) (given given_now : ℕ) (step : Step)
    → IsReaderSound old given None → old.ended ≡ false → Gathers old new before after kept is_long whole
    → ((bytes : List ℕ) → IsGathered kept is_long bytes → CountsLine whole kept bytes given given_now step)
    → Advances old new given given_now text kept before after (Ok step)
advanced old new before after text kept is_long whole given given_now Short sound going g counts =
    let count = counts g.line g.gathered in
    let t = takes old new before after text kept is_long whole given given_now sound going g count.0 count.1 in
    let same : kept ≡ g.line = count.2 in
    record {
      step = (rw same count.3, let P : List ℕ → Type 0 = λ xs. TakesLine (reading old given None text) (reading new given_now None kept) before after xs in subst P (sym same) t.0);
      sound = sound_after old new before after kept is_long whole given given_now sound g t.1;
    }
advanced old new before after text kept is_long whole given given_now Skipped sound going g counts =
    let count = counts g.line g.gathered in
    let t = takes old new before after text kept is_long whole given given_now sound going g count.0 count.1 in
    record {
      step = (g.line, count.2, t.0);
      sound = sound_after old new before after kept is_long whole given given_now sound g t.1;
    }
advanced old new before after text kept is_long whole given given_now Finished sound going g counts =
    let count = counts g.line g.gathered in
    let weight : given + length (g.line ++ ending_of whole) + length new.ahead ≤ new.taken = weighed old new before after (g.line ++ ending_of whole) given sound.counted g.passes in
    record {
      step = done old new before after text kept is_long whole given given_now going g count.0 count.1 count.2;
      sound = sound_after old new before after kept is_long whole given given_now sound g (omega (arith, count.0));
    }

-- at the end nothing is read
pub none_left : (store : Store) (before : Option (List ℕ)) (text : List ℕ) (given : ℕ) → IsReaderSound store given None → store.ended ≡ true
    → Advances store store given given text text before before (Ok Finished)
none_left store before text given sound ended =
    let over = sound.over ended in
    record {
      step = record {
        was_sound = refl;
        sound = refl;
        same = refl;
        ended = ended;
        empty = over.0;
        few = over.1;
        passes = record { read = []; from = consumes_none before; count = omega arith; bytes = append-nil store.ahead; limit = sound.limit };
        met = λ going. cc;
        still = λ _. refl;
      };
      sound = sound;
    }

-- a fault was met
pub stopped_at : (old new : Store) (before after : Option (List ℕ)) (text kept : List ℕ) (given : ℕ) (fault : LineFault) → IsReaderSound old given None
    → old.ended ≡ false → StopsLine old new before after fault → Advances old new given given text kept before after (Err fault)
stopped_at old new before after text kept given fault sound going s = record {
  step = record {
    kept = refl;
    same = refl;
    place = s.place;
    again = λ earlier is. cc;
    part = s.part;
    is_part = s.is_part;
    passes = s.passes;
    empty = s.empty;
    going = going;
    not_ended = s.going;
  };
  sound = record {
    counted = omega (arith, sound.counted, s.passes.count, ap length s.empty);
    limit = s.passes.limit;
    over = λ ended. let going_on = s.going in cc;
    stopped = (s.place, s.empty, s.going);
  };
}
