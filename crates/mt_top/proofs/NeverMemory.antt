-- Lines that are answered by bytes of which no line is `memory`.
use Rattle.std.proofs.Common.{◌≡◌, ◌≤◌, ◌∙◌, ℕ, Bool, List, [], ◌∷◌, ◌++◌, sym, ap, subst, arith, append_assoc}
use Rattle.std.specs.Prelude.{All, Contains}
use Rattle.std.proofs.lemmas.List.Elements.{All-head, All-tail, Contains-append_left, Contains-append_right, Contains-push}
use Rattle.serde_json.specs.Written.{compact_text}
use Rattle.mt_io.specs.Lines.{IsPart, lines_of}
use Rattle.mt_io.proofs.Lines.{lines_of-first}
use Rattle.mt_json.proofs.OneLine.{one_line}
use Rattle.mt_lines.specs.Answering.{AreReplied}
use Rattle.mt_write.specs.declared.reply.Reply.{Reply}
use Rattle.mt_write.specs.declared.reply.Reply.TheVariants as replies
use Rattle.mt_write.specs.Reply.{reply_text, reply_value}
use Rattle.mt_top.specs.Following.{IsNeverMemory}

part_of : (text : List ℕ) → All (λ byte. 32 ≤ byte) text → IsPart text
part_of [] each = tt
part_of (b ∷ text) each =
    let above : 32 ≤ b = All-head (λ byte. 32 ≤ byte) b text each in
    (λ is. absurd (omega arith), part_of text (All-tail (λ byte. 32 ≤ byte) b text each))

-- a reply's text is one line
first_line : (r : Reply) (more : List ℕ) → lines_of (reply_text r ++ more) ≡ compact_text (reply_value r) ∷ lines_of more
first_line r more =
    let text = compact_text (reply_value r) in
    ap lines_of (append_assoc text (10 ∷ []) more) ∙ lines_of-first text more (part_of text (one_line (reply_value r)))

pub not_memory : (r : Reply) (more : List ℕ) → IsNeverMemory (reply_text r ++ more) → ¬ (r ≡ replies.Memory)
not_memory r more never is =
    let line : Reply → List ℕ = λ reply. compact_text (reply_value reply) in
    let first : Contains (line r ∷ lines_of more) (line r) = Contains-append_left (line r ∷ []) (lines_of more) (line r) (Contains-push [] (line r)) in
    never (subst (λ lines. Contains lines (line replies.Memory)) (sym (first_line r more)) (subst (λ x. Contains (line r ∷ lines_of more) x) (ap line is) first))

pub never_behind : (r : Reply) (more : List ℕ) → IsNeverMemory (reply_text r ++ more) → IsNeverMemory more
never_behind r more never has =
    let memory : List ℕ = compact_text (reply_value replies.Memory) in
    never (subst (λ lines. Contains lines memory) (sym (first_line r more)) (Contains-append_right (compact_text (reply_value r) ∷ []) (lines_of more) memory has))

-- a reply that isn't `memory`
abbrev pub HasOther : {W : Type 0} → (W → List ℕ → Reply → W → Type 0) → W → List ℕ → Reply → W → Type 0
HasOther HasReply w line reply next = HasReply w line reply next × ¬ (reply ≡ replies.Memory)

module _ {W : Type 0} (is_last : Reply → Bool) (HasReply : W → List ℕ → Reply → W → Type 0) (Follows : W → List ℕ → Reply → W → W → Type 0) where
  -- where no line of the bytes is `memory`, no reply is
  pub others : (w : W) (lines : List (List ℕ)) (bytes more : List ℕ) (end : W) → AreReplied reply_text is_last HasReply Follows w lines bytes end
      → IsNeverMemory (bytes ++ more) → AreReplied reply_text is_last (HasOther HasReply) Follows w lines bytes end × IsNeverMemory more
  others w [] bytes more end (none, ended) never = ((none, ended), subst (λ bs. IsNeverMemory (bs ++ more)) none never)
  others w (line ∷ lines) bytes more end (reply, rest, middle, next, answered, goes, after, bytes_are, behind) never =
      let all : IsNeverMemory (reply_text reply ++ (rest ++ more)) = subst IsNeverMemory (ap (λ bs. bs ++ more) bytes_are ∙ append_assoc (reply_text reply) rest more) never in
      let (then, left) = others next lines rest more end behind (never_behind reply (rest ++ more) all) in
      ((reply, rest, middle, next, (answered, not_memory reply (rest ++ more) all), goes, after, bytes_are, then), left)
