-- After what is printed a line may end: the tokens are the same.
use Rattle.std.proofs.Common.{◌≡◌, ℕ, Bool, true, false, cond, ◌&&◌, List, [], ◌∷◌, ◌++◌, refl, sym, ap, ap₂, ◌∙◌, append_assoc}
use Rattle.json.specs.Token.{Token, begin_object, end_object, begin_array, end_array, key, string, number, boolean, null, bad}
use Rattle.json.specs.Word.{ends_word, word}
use Rattle.json.specs.Lex.{Lexeme, token, comma, colon, string_token, lex, between, punctuate, fresh, tokens}
use Rattle.json.specs.Print.{escape, quoted, token_text, begins, ends, print_from, print, IsPrintable, ArePrintable}
use Rattle.json.proofs.Printed.Strings.{content-escape, lex-escape}
use Rattle.json.proofs.Printed.Numbers.{lex-number, in_word-ended}

abbrev token_lexemes : Token → List Lexeme
token_lexemes begin_object = token begin_object ∷ []
token_lexemes end_object = token end_object ∷ []
token_lexemes begin_array = token begin_array ∷ []
token_lexemes end_array = token end_array ∷ []
token_lexemes (key s) = token (string s) ∷ colon ∷ []
token_lexemes (string s) = token (string s) ∷ []
token_lexemes (number s) = token (number s) ∷ []
token_lexemes (boolean b) = token (boolean b) ∷ []
token_lexemes null = token null ∷ []
token_lexemes bad = []

-- after a value stands a comma, a closing bracket or what follows all
after_value_ends : (ts : List Token) (r : List ℕ) → ends_word r ≡ true → ends_word (print_from true ts ++ r) ≡ true
unfolding print_from
after_value_ends [] r h = h
after_value_ends (begin_object ∷ ts) r h = refl
after_value_ends (end_object ∷ ts) r h = refl
after_value_ends (begin_array ∷ ts) r h = refl
after_value_ends (end_array ∷ ts) r h = refl
after_value_ends (key s ∷ ts) r h = refl
after_value_ends (string s ∷ ts) r h = refl
after_value_ends (number s ∷ ts) r h = refl
after_value_ends (boolean b ∷ ts) r h = refl
after_value_ends (null ∷ ts) r h = refl
after_value_ends (bad ∷ ts) r h = refl

lex-quoted : (s r : List ℕ) → lex between (quoted s ++ r) ≡ token (string s) ∷ lex between r
unfolding lex
lex-quoted s r =
    ap (λ l. lex between (34 ∷ l)) (append_assoc (escape s) (34 ∷ []) r) ∙ ap₂ (λ o l. token (string_token o) ∷ l) (content-escape s r) (lex-escape s r)

lex-token_text : (t : Token) (r : List ℕ) → IsPrintable t → (ends t ≡ true → ends_word r ≡ true) → lex between (token_text t ++ r) ≡ token_lexemes t ++ lex between r
unfolding lex word
lex-token_text begin_object r h ended = refl
lex-token_text end_object r h ended = refl
lex-token_text begin_array r h ended = refl
lex-token_text end_array r h ended = refl
lex-token_text (key s) r h ended = ap (lex between) (append_assoc (quoted s) (58 ∷ []) r) ∙ lex-quoted s (58 ∷ r)
lex-token_text (string s) r h ended = lex-quoted s r
lex-token_text (number s) r h ended = lex-number s r h (ended refl)
lex-token_text (boolean true) r h ended = ap₂ (λ b l. token (cond b (boolean true) bad) ∷ l) (ended refl) (in_word-ended r (ended refl))
lex-token_text (boolean false) r h ended = ap₂ (λ b l. token (cond b (boolean false) bad) ∷ l) (ended refl) (in_word-ended r (ended refl))
lex-token_text null r h ended = ap₂ (λ b l. token (cond b null bad) ∷ l) (ended refl) (in_word-ended r (ended refl))
lex-token_text bad r h ended = absurd h

lex-separator : (b : Bool) (r : List ℕ) → lex between (cond b (44 ∷ []) [] ++ r) ≡ cond b (comma ∷ []) [] ++ lex between r
unfolding lex
lex-separator true r = refl
lex-separator false r = refl

-- the lexemes of what is printed, before what follows it
abbrev lexemes : Bool → List Token → List Lexeme → List Lexeme
lexemes c [] after = after
lexemes c (t ∷ ts) after = cond (c && begins t) (comma ∷ []) [] ++ (token_lexemes t ++ lexemes (ends t) ts after)

lex-print_from : (c : Bool) (ts : List Token) (r : List ℕ) → ArePrintable ts → ends_word r ≡ true → lex between (print_from c ts ++ r) ≡ lexemes c ts (lex between r)
unfolding lex print_from ArePrintable
lex-print_from c [] r h ended = refl
lex-print_from c (t ∷ ts) r h ended =
    ap (lex between) (append_assoc (cond (c && begins t) (44 ∷ []) []) (token_text t ++ print_from (ends t) ts) r)
    ∙ lex-separator (c && begins t) ((token_text t ++ print_from (ends t) ts) ++ r)
    ∙ ap (λ l. cond (c && begins t) (comma ∷ []) [] ++ l)
    (ap (lex between) (append_assoc (token_text t) (print_from (ends t) ts) r)
    ∙ lex-token_text t (print_from (ends t) ts ++ r) h.0 (λ e. ap (λ b. ends_word (print_from b ts ++ r)) e ∙ after_value_ends ts r ended)
    ∙ ap (λ l. token_lexemes t ++ l) (lex-print_from (ends t) ts r h.1 ended))

-- with an end of line after it, or without
pub tokens-line : (ts : List Token) → ArePrintable ts → tokens (print ts ++ 10 ∷ []) ≡ tokens (print ts ++ [])
unfolding lex
tokens-line ts h = ap (punctuate fresh) (lex-print_from false ts (10 ∷ []) h refl ∙ sym (lex-print_from false ts [] h refl))
