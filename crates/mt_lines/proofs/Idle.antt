-- A reader with a whole line ahead reads nothing and gives it.
use Rattle.std.proofs.Common.{◌≡◌, ℕ, zero, suc, Bool, true, false, List, [], ◌∷◌, ◌++◌, refl, ◌∙◌, ap, arith, append-nil, rules}
use Rattle.std.specs.Prelude.{Contains, IsTrue, ◌↔◌}
use Rattle.std.proofs.lemmas.List.Elements.{Contains-append_left}
use Rattle.std.specs.declared.option.Option.{Option}
use Rattle.mt_io.specs.Lines.{IsPart}
use Rattle.mt_io.specs.Reading.{IsAllGiven, IsStopped, Reading}
use Rattle.mt_io.specs.declared.line.LineFault.{LineFault}

-- where no whole line is ahead, nothing waits
pub idle_of : (has_line : Bool) (Ahead P : Type 0) → IsTrue has_line ↔ Ahead → (has_line ≡ false → P) → ¬ Ahead → P
idle_of true Ahead P ahead idle none = absurd (none (ahead.0 (search rules)))
idle_of false Ahead P ahead idle none = idle refl

no_break : (part : List ℕ) → IsPart part → ¬ Contains part 10
no_break [] is_part (k, within, is) = absurd (omega arith)
no_break (b ∷ part) is_part (zero, within, is) = is_part.0 is
no_break (b ∷ part) is_part (suc k, within, is) = no_break part is_part.1 (k, omega arith, is)

-- it had none where the source has ended
pub none_at_end : (old new : Reading) (before after : Option (List ℕ)) → IsAllGiven old new before after → ¬ Contains old.store.ahead 10
none_at_end old new before after done has =
    let all : old.store.ahead ++ done.passes.read ≡ [] = done.passes.bytes ∙ done.empty in
    no_break [] tt (rw all at (Contains-append_left old.store.ahead done.passes.read 10 has))

-- nor where it met a fault
pub none_at_fault : (old new : Reading) (before after : Option (List ℕ)) (fault : LineFault) → IsStopped old new before after fault → ¬ Contains old.store.ahead 10
none_at_fault old new before after fault stop has =
    let all : old.store.ahead ++ stop.passes.read ≡ stop.part = stop.passes.bytes ∙ ap (λ bs. stop.part ++ bs) stop.empty ∙ append-nil stop.part in
    no_break stop.part stop.is_part (rw all at (Contains-append_left old.store.ahead stop.passes.read 10 has))
