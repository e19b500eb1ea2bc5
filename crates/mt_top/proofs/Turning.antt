-- What is known of lines that set a picture up, turn by turn.
use Rattle.std.proofs.Common.{◌≡◌, ◌||◌, ◌&&◌, inl, ⊎_elim, Bool, true, false, [], Option, Some, None, refl, sym, ap, ◌∙◌, Result, Ok, Err, true≢false}
use Rattle.std.specs.Prelude.{IfNone, MatchOption, ◌⊎◌}
use Rattle.mt_io.specs.declared.whole_write.WriteFault.{WriteFault as Failed}
use Rattle.mt_lines.specs.Ending.{ending_after}
use Rattle.mt_lines.specs.Given.{IsGivenFor, is_brief, is_farewell}
use Rattle.mt_lines.specs.declared.ending.Ending.{Ending}
use Rattle.mt_lines.specs.declared.ending.Ending.TheVariants.{End, WriteFault}
use Rattle.mt_write.specs.declared.reply.DoneWord.TheVariants as done
use Rattle.mt_write.specs.declared.reply.Reply.{Reply}
use Rattle.mt_write.specs.declared.reply.Reply.TheVariants as replies
use Rattle.mt_world.specs.Begun.{is_begin}
use Rattle.mt_top.specs.Private.Lines.{IsSettingUp, is_last}
use Rattle.mt_world.specs.World.{World}

begin_is_brief : (reply : Reply) → is_begin reply ≡ true → is_brief reply ≡ true
begin_is_brief (replies.Done done.Begin) is = refl
begin_is_brief reply is = cc

-- what isn't brief begins nothing
long_begins_nothing : (reply : Reply) (begin : Bool) → is_begin reply ≡ begin → is_brief reply ≡ false → begin ≡ false
long_begins_nothing reply true is not_brief = absurd (true≢false (sym (begin_is_brief reply is) ∙ not_brief))
long_begins_nothing reply false is not_brief = refl

-- what is given begins the picture exactly where the reply does
given_begins : (reply given : Reply) → IsGivenFor reply given → is_begin given ≡ is_begin reply
given_begins reply given for = ⊎_elim
    (λ same. ap is_begin same)
    (λ (memory, not_brief). ap is_begin memory ∙ sym (long_begins_nothing reply (is_begin reply) refl not_brief))
    for

no_more : (farewell : Bool) → farewell ≡ farewell || false
no_more true = refl
no_more false = refl

-- what is given is the last one exactly where it is a farewell or the picture has begun that the lines are to set up
pub last_given : (until_begun : Bool) (next : World) (reply : Reply) → (until_begun ≡ true → next.begun ≡ is_begin reply)
    → (given : Reply) → IsGivenFor reply given → is_last until_begun given ≡ is_farewell given || (until_begun && next.begun)
last_given false next reply begins given for = no_more (is_farewell given)
last_given true next reply begins given for = ap (λ b. is_farewell given || b) (given_begins reply given for ∙ sym (begins refl))

none_set_up : (until_begun begun : Bool) → (until_begun ≡ true → begun ≡ false) → until_begun && begun ≡ false
none_set_up false begun unbegun = refl
none_set_up true begun unbegun = unbegun refl

-- a line that is too long is not the last one
pub long_goes_on : (until_begun : Bool) (w : World) → (until_begun ≡ true → w.begun ≡ false) → (given : Reply) → IsGivenFor replies.Long given
    → is_last until_begun given ≡ is_farewell given || false
long_goes_on until_begun w unbegun given for =
    last_given until_begun w replies.Long unbegun given for ∙ ap (λ b. is_farewell given || b) (none_set_up until_begun w.begun unbegun)

-- nothing follows a reply
pub nothing_more : (reply : Reply) (ending : Option Ending) (next : World) (other : Reply) → IsGivenFor reply other
    → MatchOption ending (next ≡ next) (λ _. next ≡ next)
nothing_more reply None next other for = refl
nothing_more reply (Some ending) next other for = refl

-- so it doesn't matter what waits
pub none_open : (ending : Option Ending) (next : World) (P : Type 0) → IfNone ending ((next ≡ next) ⊎ P)
none_open None next P = inl refl
none_open (Some ending) next P = tt

-- the picture hasn't begun before a line
pub unbegun : {until_begun : Bool} {w : World} → IsSettingUp until_begun None w → until_begun ≡ true → w.begun ≡ false
unbegun setting until = setting.unbegun until (inl refl)

-- nor where nothing was answered
pub still_open : {until_begun : Bool} {result : Option Ending} {w : World} → IsSettingUp until_begun None w → IsSettingUp until_begun result w
still_open setting = record { unbegun = λ until goes. setting.unbegun until (inl refl); empty = setting.empty }

-- no more lines are answered where replies are lost
pub closed_open : {until_begun : Bool} {ending : Ending} {w : World} → IsSettingUp until_begun (Some ending) w → IsSettingUp until_begun (Some WriteFault) w
closed_open setting = record { unbegun = λ until goes. absurd (⊎_elim (λ is. cc) (λ is. cc) goes); empty = setting.empty }

goes_unbegun : (given : Result Bool Failed) (until_begun begun : Bool) → until_begun ≡ true
    → (ending_after given (until_begun && begun) ≡ None) ⊎ (ending_after given (until_begun && begun) ≡ Some End) → begun ≡ false
goes_unbegun given until_begun false until goes = refl
goes_unbegun given false true until goes = absurd (true≢false (sym until))
goes_unbegun (Err fault) true true until goes = absurd (⊎_elim (λ is. cc) (λ is. cc) goes)
goes_unbegun (Ok true) true true until goes = absurd (⊎_elim (λ is. cc) (λ is. cc) goes)
goes_unbegun (Ok false) true true until goes = absurd (⊎_elim (λ is. cc) (λ is. cc) goes)

-- once a reply was given, lines go on only where the picture hasn't begun
pub given_open : (given : Result Bool Failed) (until_begun : Bool) (w : World) → (until_begun ≡ true → w.history ≡ [])
    → IsSettingUp until_begun (ending_after given (until_begun && w.begun)) w
given_open given until_begun w none = record { unbegun = goes_unbegun given until_begun w.begun; empty = λ until begun. none until }
