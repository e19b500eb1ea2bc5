-- What is written of bytes that wait and of a text after them.
use Rattle.std.proofs.Common.{◌≡◌, ℕ, Bool, List, [], ◌++◌, Ok, Err, sym, ◌∙◌, ap, append_assoc, append-nil}
use Rattle.std.specs.declared.option.Option.{Option}
use Rattle.std.specs.Io.KnownBytes.{Appends}
use Rattle.mt_io.specs.Writing.{AppendsFront}
use Rattle.mt_io.proofs.Known.{appends_on}
use Rattle.mt_io.specs.declared.whole_write.WriteFault.{WriteFault}
use Rattle.mt_lines.specs.Waiting.{GivesAfter, LeavesWaiting}
use Rattle.mt_write.specs.declared.reply.Reply.{Reply}
use Rattle.mt_write.specs.Reply.{reply_text}

-- a front of what waits
pub front_of_waiting : (before after : Option (List ℕ)) (waited text : List ℕ) → AppendsFront before after waited → AppendsFront before after (waited ++ text)
front_of_waiting before after waited text (front, rest, is, written) = (front, rest ++ text, ap (λ bs. bs ++ text) is ∙ append_assoc front rest text, written)

module _ (before mid after : Option (List ℕ)) (waited text : List ℕ) where
  -- all of it, and then the text
  pub both : (waits : List ℕ) → waits ≡ [] → Appends before mid waited → Appends mid after text → LeavesWaiting before after (waited ++ text) waits
  both waits none first second = (
    waited ++ text,
    sym (ap (λ bs. (waited ++ text) ++ bs) none ∙ append-nil (waited ++ text)),
    appends_on before mid after waited text first second,
  )

  -- all of it, and then a front of the text
  pub front_of_text : Appends before mid waited → AppendsFront mid after text → AppendsFront before after (waited ++ text)
  front_of_text first (front, rest, is, second) = (
    waited ++ front,
    rest,
    ap (λ bs. waited ++ bs) is ∙ sym (append_assoc waited front rest),
    appends_on before mid after waited front first second,
  )

-- a reply was given, and then what waited was written, or some of it
module _ (reply : Reply) (is_last : Bool) (waited waiting new : List ℕ) (before mid after : Option (List ℕ)) where
  pub written_behind : GivesAfter reply (Ok is_last) waited waiting before mid → LeavesWaiting mid after waiting new → GivesAfter reply (Ok is_last) waited new before after
  written_behind g (more, more_are, more_written) = record { given = g.given; given_for = g.given_for; sent = (leaves g.sent.0, g.sent.1) } where
    leaves : LeavesWaiting before mid (waited ++ reply_text g.given) waiting → LeavesWaiting before after (waited ++ reply_text g.given) new
    leaves (front, is, written) = (
      front ++ more,
      is ∙ ap (λ bs. front ++ bs) more_are ∙ sym (append_assoc front more new),
      appends_on before mid after front more written more_written,
    )

  pub failed_behind : (fault : WriteFault) → GivesAfter reply (Ok is_last) waited waiting before mid → AppendsFront mid after waiting
      → GivesAfter reply (Err fault) waited new before after
  failed_behind fault g (more, rest, more_are, more_written) = record { given = g.given; given_for = g.given_for; sent = fails g.sent.0 } where
    fails : LeavesWaiting before mid (waited ++ reply_text g.given) waiting → AppendsFront before after (waited ++ reply_text g.given)
    fails (front, is, written) = (
      front ++ more,
      rest,
      is ∙ ap (λ bs. front ++ bs) more_are ∙ sym (append_assoc front more rest),
      appends_on before mid after front more written more_written,
    )
