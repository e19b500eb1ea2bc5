-- Bytes that answer lines, cut anywhere: what stands before the cut answers the first of the lines, but that the last reply is cut short.
use Rattle.std.proofs.Common.{◌≡◌, ◌<◌, ◌≤◌, ℕ, Bool, List, [], ◌∷◌, ◌++◌, length, take, drop, refl, sym, ◌∙◌, ap, inl, inr, arith, append_assoc, append-nil, length-append, take-append-drop, ⊎_elim}
use Rattle.std.proofs.lemmas.Bool.{cases_lt}
use Rattle.std.proofs.lemmas.List.{drop-append-le, take-append-le}
use Rattle.std.proofs.Math.Seq.{drop-append_seam, take-append_seam}
use Rattle.mt_io.specs.HasRead.{AreRead}
use Rattle.mt_lines.specs.Answering.{AnswersFront, AreReplied, AreRepliedTo}
use Rattle.mt_lines.specs.Ending.{LosesReplies}
use Rattle.mt_lines.proofs.Answering.{replied_all}
use Rattle.mt_lines.proofs.Fronts.{first_read}

-- two ways to cut the same bytes: what stands between the cuts
record Between (xs ys us vs : List ℕ) : Type 0 where
  bytes : List ℕ
  front_is : xs ≡ us ++ bytes
  rest_is : vs ≡ bytes ++ ys

between : (xs ys us vs : List ℕ) → xs ++ ys ≡ us ++ vs → length us ≤ length xs → Between xs ys us vs
between xs ys us vs same le =
    let front : take (length us) xs ≡ us =
    sym (take-append-le (length us) xs ys le) ∙ ap (λ zs. take (length us) zs) same ∙ take-append_seam us vs in
    record {
      bytes = drop (length us) xs;
      front_is = sym (take-append-drop (length us) xs) ∙ ap (λ zs. zs ++ drop (length us) xs) front;
      rest_is = sym (drop-append_seam us vs) ∙ ap (λ zs. drop (length us) zs) (sym same) ∙ drop-append-le (length us) xs ys le;
    }

-- something stands after the first cut
left_behind : (xs ys us vs : List ℕ) (cut : Between xs ys us vs) → length us < length xs → 0 < length vs
left_behind xs ys us vs cut longer = omega (arith, longer, ap length cut.front_is, length-append us cut.bytes, ap length cut.rest_is, length-append cut.bytes ys)

module _ {W R : Type 0} (text : R → List ℕ) (is_last : R → Bool) (IsReplied : W → List ℕ → R → W → Type 0) (IsFollowed : W → List ℕ → R → W → W → Type 0) where
  -- at some world: a fault may have cut off lines that were answered
  abbrev pub AnswersSomeFront : W → List ℕ → List ℕ → List ℕ → Type 0
  AnswersSomeFront start input left written = (end : W) × AnswersFront text is_last IsReplied IsFollowed start input left written end

  -- these bytes answer the first of these lines, the last one of them in part
  record IsCutAt (start : W) (lines : List (List ℕ)) (written : List ℕ) : Type 0 where
    first : List (List ℕ)
    line : List ℕ
    more : List (List ℕ)
    lines_are : lines ≡ (first ++ line ∷ []) ++ more
    bytes : List ℕ
    reply : R
    end : W
    replied : AreRepliedTo text is_last IsReplied IsFollowed start first line bytes reply end
    front : List ℕ
    rest : List ℕ
    text_is : text reply ≡ front ++ rest
    written_is : written ≡ bytes ++ front

  cut_at : (start : W) (lines : List (List ℕ)) (all written rest : List ℕ) (end : W) → AreReplied text is_last IsReplied IsFollowed start lines all end
      → all ≡ written ++ rest → 0 < length all → IsCutAt start lines written
  cut_at start [] all written rest end (none, same) is some = absurd (omega (arith, some, ap length none))
  cut_at start (line ∷ lines) all written rest end (reply, behind, middle, next, replied, goes, followed, all_is, others) is some =
      elim (cases_lt (length (text reply)) (length written)) [
        | inl longer ↦
            let cut = between written rest (text reply) behind (sym is ∙ all_is) (omega (arith, longer)) in
            let left = left_behind written rest (text reply) behind cut longer in
            let c = cut_at next lines behind cut.bytes rest end others cut.rest_is left in
            record {
              first = line ∷ c.first;
              line = c.line;
              more = c.more;
              lines_are = ap (λ ls. line ∷ ls) c.lines_are;
              bytes = text reply ++ c.bytes;
              reply = c.reply;
              end = c.end;
              replied = record {
                middle = c.replied.middle;
                replied = (reply, c.bytes, middle, next, replied, goes, followed, refl, c.replied.replied);
                last = c.replied.last;
              };
              front = c.front;
              rest = c.rest;
              text_is = c.text_is;
              written_is = cut.front_is ∙ ap (λ bs. text reply ++ bs) c.written_is ∙ sym (append_assoc (text reply) c.bytes c.front);
            }
        | inr within ↦
            let cut = between (text reply) behind written rest (sym all_is ∙ is) within in
            record {
              first = [];
              line = line;
              more = lines;
              lines_are = refl;
              bytes = [];
              reply = reply;
              end = middle;
              replied = record { middle = start; replied = (refl, refl); last = replied };
              front = written;
              rest = cut.bytes;
              text_is = cut.front_is;
              written_is = refl;
            }
      ]

  -- the same where one line more is answered, which may be the last one
  cut_to : (start : W) (lines : List (List ℕ)) (line bytes written rest : List ℕ) (reply : R) (end : W)
      → AreRepliedTo text is_last IsReplied IsFollowed start lines line bytes reply end → bytes ++ text reply ≡ written ++ rest
      → IsCutAt start (lines ++ line ∷ []) written
  cut_to start lines line bytes written rest reply end to is =
      elim (cases_lt (length written) (length bytes)) [
        | inl shorter ↦
            let cut = between bytes (text reply) written rest is (omega (arith, shorter)) in
            let c = cut_at start lines bytes written cut.bytes to.middle to.replied cut.front_is (omega (arith, shorter)) in
            record {
              first = c.first;
              line = c.line;
              more = c.more ++ line ∷ [];
              lines_are = ap (λ ls. ls ++ line ∷ []) c.lines_are ∙ append_assoc (c.first ++ c.line ∷ []) c.more (line ∷ []);
              bytes = c.bytes;
              reply = c.reply;
              end = c.end;
              replied = c.replied;
              front = c.front;
              rest = c.rest;
              text_is = c.text_is;
              written_is = c.written_is;
            }
        | inr longer ↦
            let cut = between written rest bytes (text reply) (sym is) longer in
            record {
              first = lines;
              line = line;
              more = [];
              lines_are = sym (append-nil (lines ++ line ∷ []));
              bytes = bytes;
              reply = reply;
              end = end;
              replied = to;
              front = cut.bytes;
              rest = rest;
              text_is = cut.rest_is;
              written_is = cut.front_is;
            }
      ]

  cut_read : (start : W) (input left : List ℕ) (lines : List (List ℕ)) (written : List ℕ) → AreRead input left lines → IsCutAt start lines written
      → AnswersSomeFront start input left written
  cut_read start input left lines written read c = (
    c.end,
    record {
      lines = c.first;
      line = c.line;
      read = first_read input left (c.first ++ c.line ∷ []) c.more (rw c.lines_are at read);
      bytes = c.bytes;
      reply = c.reply;
      replied = c.replied;
      front = c.front;
      rest = c.rest;
      text_is = c.text_is;
      written_is = c.written_is;
    },
  )

  -- where replies are lost, what was written answers some first lines
  pub front_of_lost : (start : W) (input left written : List ℕ) (end : W) → LosesReplies text is_last IsReplied IsFollowed start input left written end
      → AnswersSomeFront start input left written
  front_of_lost start input left written end loses = ⊎_elim
      (λ all. cut_read start input left all.lines written all.read
      (cut_at start all.lines (written ++ loses.lost) written loses.lost end
      (replied_all text is_last IsReplied IsFollowed (length written) start all.lines (written ++ loses.lost) end all.replied) refl all.some))
      (λ to. cut_read start input left (to.lines ++ to.line ∷ []) written to.read
      (cut_to start to.lines to.line to.others written loses.lost to.reply end
      (record { middle = to.middle; replied = replied_all text is_last IsReplied IsFollowed (length written) start to.lines to.others to.middle to.replied; last = to.last })
      (sym to.bytes_are)))
      loses.answers
