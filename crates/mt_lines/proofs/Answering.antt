-- Runs of lines, step by step.
use Rattle.std.proofs.Common.{◌≡◌, ◌≤◌, ◌⊎◌, ◌^◌, ◌-◌, ℕ, Bool, true, false, List, [], ◌∷◌, ◌++◌, Some, length, refl, sym, ap, subst, ⊎_elim, inl, inr, append_assoc, append-nil, length-append, arith}
use Rattle.std.specs.declared.option.Option.{Option}
use Rattle.mt_io.specs.Reading.{Reading, TakesLine, IsAllGiven, IsStopped, IsFaultAt, fresh}
use Rattle.mt_io.specs.declared.line.LineFault.{LineFault}
use Rattle.mt_io.specs.declared.line.LineFault.TheVariants as faults
use Rattle.mt_io.proofs.HasRead.{told, read_none, read_more, read_all, read_part, are_read}
use Rattle.mt_io.proofs.Known.{appends_none, consumes_none}
use Rattle.mt_lines.specs.Ending.{AnswersToLastWithin}
use Rattle.mt_lines.specs.Answering.{AnswersAll, AnswersToLast, AnswersWhole, AreReplied, AreRepliedWithin, Explains, SoFar}

-- what a meaning implies
pub explained_as : (M N : List ℕ → List ℕ → List ℕ → Type 0) (before after held held_after : Option (List ℕ))
    → ((input left written : List ℕ) → M input left written → N input left written) → Explains M before after held held_after → Explains N before after held held_after
explained_as M N before after held held_after implies e = record {
  input = e.input;
  left = e.left;
  written = e.written;
  told = e.told;
  told_after = e.told_after;
  appended = e.appended;
  means = implies e.input e.left e.written e.means;
}

-- nothing was read and nothing written
pub nothing : (before held : Option (List ℕ)) → Explains (λ input left written. (left ≡ input) × (written ≡ [])) before before held held
nothing before held =
    let (left, tells, tells_after, at_end) = told before before [] (consumes_none before) in
    record { input = left; left = left; written = []; told = tells; told_after = tells_after; appended = appends_none held; means = (refl, refl) }

module _ {W R : Type 0} (text : R → List ℕ) (is_last : R → Bool) (IsReplied : W → List ℕ → R → W → Type 0) (IsFollowed : W → List ℕ → R → W → W → Type 0) where
  abbrev Within : ℕ → W → List (List ℕ) → List ℕ → W → Type 0
  Within written w lines bytes end = AreRepliedWithin text is_last IsReplied IsFollowed written w lines bytes end

  -- whatever was written, the lines are answered
  pub replied_all : (written : ℕ) (w : W) (lines : List (List ℕ)) (bytes : List ℕ) (end : W) → Within written w lines bytes end
      → AreReplied text is_last IsReplied IsFollowed w lines bytes end
  replied_all written w [] bytes end all = all
  replied_all written w (line ∷ lines) bytes end (reply, rest, middle, next, replied, goes, followed, unwritten, bytes_are, others) =
      (reply, rest, middle, next, replied, goes, followed, bytes_are, replied_all (written - length (text reply)) next lines rest end others)

  -- more was written
  pub replied_more : (written more : ℕ) (w : W) (lines : List (List ℕ)) (bytes : List ℕ) (end : W) → written ≤ more → Within written w lines bytes end
      → Within more w lines bytes end
  replied_more written more w [] bytes end le all = all
  replied_more written more w (line ∷ lines) bytes end le (reply, rest, middle, next, replied, goes, followed, unwritten, bytes_are, others) = (
    reply,
    rest,
    middle,
    next,
    replied,
    goes,
    followed,
    λ short. unwritten (omega (arith, le, short)),
    bytes_are,
    replied_more (written - length (text reply)) (more - length (text reply)) next lines rest end (omega (arith, le)) others,
  )

  -- one line more, which nothing follows, or whose text is written
  replied_push : (written : ℕ) (w : W) (lines : List (List ℕ)) (bytes : List ℕ) (now : W) (line : List ℕ) (reply : R) (middle next : W)
      → Within written w lines bytes now → IsReplied now line reply middle → is_last reply ≡ false → IsFollowed now line reply middle next
      → (next ≡ middle) ⊎ (length (bytes ++ text reply) ≤ written) → Within written w (lines ++ line ∷ []) (bytes ++ text reply) next
  replied_push written w [] bytes now line reply middle next (none, same) replied goes followed settled = (
    reply,
    [],
    middle,
    next,
    subst (λ (v : W). IsReplied v line reply middle) same replied,
    goes,
    subst (λ (v : W). IsFollowed v line reply middle next) same followed,
    λ short. ⊎_elim (λ is. is) (λ within. absurd (omega (arith, short, within, length-append bytes (text reply)))) settled,
    rw none (sym (append-nil (text reply))),
    (refl, refl),
  )
  replied_push written w (first ∷ lines) bytes now line reply middle next (r, rest, m, v, replied_first, goes_first, followed_first, unwritten, bytes_are, replied_rest) replied
      goes followed settled =
      let behind : (next ≡ middle) ⊎ (length (rest ++ text reply) ≤ written - length (text r)) = ⊎_elim
      (λ is. inl is)
      (λ within. inr (omega (arith, within, ap length bytes_are, length-append (text r) rest, length-append bytes (text reply), length-append rest (text reply))))
      settled in (
        r,
        rest ++ text reply,
        m,
        v,
        replied_first,
        goes_first,
        followed_first,
        unwritten,
        rw bytes_are (append_assoc (text r) rest (text reply)),
        replied_push (written - length (text r)) v lines rest now line reply middle next replied_rest replied goes followed behind,
      )

  -- the line that ends the run was answered, and all that waited is written
  pub to_last : (written : ℕ) (start : W) (input left bytes : List ℕ) (end : W)
      → AnswersToLastWithin text is_last IsReplied IsFollowed written start input left bytes end → AnswersToLast text is_last IsReplied IsFollowed start input left bytes end
  to_last written start input left bytes end to = record {
    lines = to.lines;
    line = to.line;
    read = to.read;
    bytes = to.others;
    reply = to.reply;
    replied = record { middle = to.middle; replied = replied_all written start to.lines to.others to.middle to.replied; last = to.last };
    ends = to.ends;
    written_is = to.bytes_are;
  }

  abbrev Runs : ℕ → W → Option (List ℕ) → Option (List ℕ) → List ℕ → Reading → W → Type 0
  Runs written start before now bytes reader w = SoFar text is_last IsReplied IsFollowed written start before now bytes reader w

  -- before the first line
  pub starts : (start : W) (before : Option (List ℕ)) → Runs 0 start before before [] fresh start
  starts start before = record { lines = []; taken = []; read = read_none before; replied = (refl, refl) }

  -- more of the bytes was written
  pub written_on : (written more : ℕ) (start : W) (before now : Option (List ℕ)) (bytes : List ℕ) (reader : Reading) (w : W) → written ≤ more
      → Runs written start before now bytes reader w → Runs more start before now bytes reader w
  written_on written more start before now bytes reader w le so_far = record {
    lines = so_far.lines;
    taken = so_far.taken;
    read = so_far.read;
    replied = replied_more written more start so_far.lines bytes w le so_far.replied;
  }

  module _ (written : ℕ) (start : W) (before now after : Option (List ℕ)) (bytes : List ℕ) (reader new : Reading) (w : W) where
    module _ (middle : W) (line : List ℕ) (reply : R) where
      -- a line was answered, and what follows was done
      pub goes_on : (next : W) → Runs written start before now bytes reader w → TakesLine reader new now after line → IsReplied w line reply middle
          → is_last reply ≡ false → IsFollowed w line reply middle next → (next ≡ middle) ⊎ (length (bytes ++ text reply) ≤ written)
          → Runs written start before after (bytes ++ text reply) new next
      goes_on next so_far takes replied goes followed settled = record {
        lines = so_far.lines ++ line ∷ [];
        taken = so_far.taken ++ takes.passes.read;
        read = read_more before now after reader new so_far.lines so_far.taken line so_far.read takes;
        replied = replied_push written start so_far.lines bytes w line reply middle next so_far.replied replied goes followed settled;
      }

      -- the line that ends the run was answered
      pub ends_at : Runs written start before now bytes reader w → TakesLine reader new now after line → IsReplied w line reply middle → is_last reply ≡ true
          → Explains (λ input left all. AnswersToLastWithin text is_last IsReplied IsFollowed written start input left all middle) before after (Some []) (Some (bytes ++ text reply))
      ends_at so_far takes replied ends =
          let read = read_more before now after reader new so_far.lines so_far.taken line so_far.read takes in
          let taken = so_far.taken ++ takes.passes.read in
          let (left, tells, tells_after, at_end) = told before after taken read.from in
          let are = are_read before after new (so_far.lines ++ line ∷ []) taken left read takes.passes.limit at_end in
          record {
            input = taken ++ left;
            left = left;
            written = bytes ++ text reply;
            told = tells;
            told_after = tells_after;
            appended = refl;
            means = record {
              lines = so_far.lines;
              line = line;
              read = are;
              others = bytes;
              middle = w;
              replied = so_far.replied;
              reply = reply;
              last = replied;
              ends = ends;
              bytes_are = refl;
            };
          }

    -- the input ended
    pub ended : Runs written start before now bytes reader w → IsAllGiven reader new now after
        → Explains (λ input left written. AnswersAll text is_last IsReplied IsFollowed start input left written w) before after (Some []) (Some bytes)
    ended so_far done =
        let all = read_all before now after reader new so_far.lines so_far.taken so_far.read done in
        let (left, tells, tells_after, at_end) = told before after all.taken all.from in
        let none : left ≡ [] = at_end all.end in
        let input_is : all.taken ++ left ≡ all.taken = rw none (append-nil all.taken) in
        record {
          input = all.taken;
          left = [];
          written = bytes;
          told = rw input_is at tells;
          told_after = rw none at tells_after;
          appended = refl;
          means = record { at_end = refl; few = all.few; replied = rw all.lines_are (replied_all written start so_far.lines bytes w so_far.replied) };
        }

    -- the reader stopped at a fault
    pub stopped : (fault : LineFault) → Runs written start before now bytes reader w → IsStopped reader new now after fault
        → Explains (λ input left written. (taken : List ℕ) × IsFaultAt fault (length taken)
        × AnswersWhole text is_last IsReplied IsFollowed start input left taken written w) before after (Some []) (Some bytes)
    stopped fault so_far stop =
        let part = read_part before now after reader new so_far.lines so_far.taken fault so_far.read stop in
        let (left, tells, tells_after, at_end) = told before after part.taken part.from in
        let place : IsFaultAt fault (length part.taken) = rw part.size at stop.place in
        record {
          input = part.taken ++ left;
          left = left;
          written = bytes;
          told = tells;
          told_after = tells_after;
          appended = refl;
          means = (
            part.taken,
            place,
            record {
              input_is = refl;
              limit = limit_of fault (length part.taken) place;
              replied = rw part.lines_are (replied_all written start so_far.lines bytes w so_far.replied);
            },
          );
        } where
          limit_of : (fault : LineFault) (size : ℕ) → IsFaultAt fault size → size ≤ 2 ^ 32
          limit_of faults.ReadFault size fewer = omega arith
          limit_of faults.Spent size all = omega arith
