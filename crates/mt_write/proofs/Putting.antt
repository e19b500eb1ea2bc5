-- What is put, under an equal text.
use Rattle.std.proofs.Common.{◌≡◌, ◌≤◌, ◌+◌, ℕ, true, List, [], ◌++◌, length, Result, Ok, Err, vec_len, vec_capacity, subst, sym, ap, ◌∙◌, arith, append_assoc, append-nil, length-append}
use Rattle.std.proofs.lemmas.Bool.{false≢true}
use Rattle.std.specs.Bool.{⊤}
use Rattle.std.specs.Global.{Vec}
use Rattle.std.specs.Prelude.{is_err}
use Rattle.mt_memory.specs.declared.Memory.{Memory}
use Rattle.mt_write.specs.Private.Puts.{Puts}

pub puts_is : (r : Result ⊤ Memory) (old new : Vec ℕ) (t u : List ℕ) → t ≡ u → Puts r old new t → Puts r old new u
puts_is r old new t u e h = subst (Puts r old new) e h

-- two texts, one put after the other
pub puts_then : (r : Result ⊤ Memory) (old mid new : Vec ℕ) (a b : List ℕ) → Puts (Ok tt) old mid a → Puts r mid new b → Puts r old new (a ++ b)
puts_then (Ok u) old mid new a b first then =
    (then.0 ∙ ap (λ s. s ++ b) first.0 ∙ append_assoc old.items a b, omega (arith, then.1, first.1, length-append a b), omega (arith, then.2, first.2))
puts_then (Err e) old mid new a b first then = omega (arith, then, first.1, first.2, length-append a b)

-- ---- a loop that puts a text piece by piece: what was put and what is left are the whole

pub text_on : (old out mid : Vec ℕ) (all rest a b : List ℕ) → rest ≡ a ++ b → Puts (Ok tt) out mid a → old.items ++ all ≡ out.items ++ rest
    → old.items ++ all ≡ mid.items ++ b
text_on old out mid all rest a b split puts same =
    same ∙ ap (λ t. out.items ++ t) split ∙ sym (append_assoc out.items a b) ∙ ap (λ t. t ++ b) (sym puts.0)

pub length_on : (old out mid : Vec ℕ) (all rest a b : List ℕ) → rest ≡ a ++ b → Puts (Ok tt) out mid a → vec_len old + length all ≡ vec_len out + length rest
    → vec_len old + length all ≡ vec_len mid + length b
length_on old out mid all rest a b split puts same = omega (arith, puts.1, ap length split, length-append a b)

pub room_on : (old out mid : Vec ℕ) (a : List ℕ) → Puts (Ok tt) out mid a → vec_capacity old ≤ vec_capacity out → vec_capacity old ≤ vec_capacity mid
room_on old out mid a puts room = omega (arith, puts.2)

-- there wasn't room for a piece
pub piece_refused : (r : Result ⊤ Memory) (e : Memory) (old out new : Vec ℕ) (all rest a b : List ℕ) → is_err r ≡ true → rest ≡ a ++ b → Puts (Err e) out new a
    → vec_len old + length all ≡ vec_len out + length rest → vec_capacity old ≤ vec_capacity out → Puts r old new all
piece_refused (Ok u) e old out new all rest a b h split short same room = absurd (false≢true h)
piece_refused (Err x) e old out new all rest a b h split short same room = omega (arith, short, ap length split, length-append a b)

-- what was left is put
pub rest_put : (r : Result ⊤ Memory) (old out new : Vec ℕ) (all rest a : List ℕ) → rest ≡ a → Puts r out new a → old.items ++ all ≡ out.items ++ rest
    → vec_len old + length all ≡ vec_len out + length rest → vec_capacity old ≤ vec_capacity out → Puts r old new all
rest_put (Ok u) old out new all rest a split puts text len room =
    (puts.0 ∙ ap (λ t. out.items ++ t) (sym split) ∙ sym text, omega (arith, puts.1, ap length split), omega (arith, puts.2))
rest_put (Err e) old out new all rest a split puts text len room = omega (arith, puts, ap length split)

-- nothing was left
pub all_put : (old out : Vec ℕ) (all rest : List ℕ) → rest ≡ [] → old.items ++ all ≡ out.items ++ rest → vec_len old + length all ≡ vec_len out + length rest
    → vec_capacity old ≤ vec_capacity out → Puts (Ok tt) old out all
all_put old out all rest none text len room =
    (sym (append-nil out.items) ∙ ap (λ t. out.items ++ t) (sym none) ∙ sym text, omega (arith, len, ap length none), room)
