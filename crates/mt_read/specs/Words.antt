-- Which command a text is the word of, and where it may be given.
use Rattle.std.specs.Prelude.{ℕ, Bool, true, false, List, [], ◌∷◌, option_map, Option, Some, None, if◌then◌else◌}
use Rattle.std.specs.Str.{bytes_eq}
use Rattle.mt_read.specs.declared.request.Sender.{Sender}
use Rattle.mt_read.specs.declared.request.Sender.TheVariants as sender
use Rattle.mt_read.specs.declared.word.Change.{Change}
use Rattle.mt_read.specs.declared.word.Change.TheVariants as change
use Rattle.mt_read.specs.declared.word.EntryWord.{EntryWord}
use Rattle.mt_read.specs.declared.word.EntryWord.TheVariants as entries
use Rattle.mt_read.specs.declared.word.Group.{Group}
use Rattle.mt_read.specs.declared.word.Group.TheVariants as group
use Rattle.mt_read.specs.declared.word.Word.{Word}
use Rattle.mt_read.specs.declared.word.Word.TheVariants as word
use Rattle.mt_read.specs.Table.{change_layout, entry_layout, layout_of}

-- the first command whose word this text is
abbrev pub named_by : {A : Type 0} → (A → List ℕ) → List A → List ℕ → Option A
named_by text_of [] text = None
named_by text_of (w ∷ ws) text = if bytes_eq text (text_of w) then Some w else named_by text_of ws text

-- all changes that are asked for by themselves
abbrev pub changes : List Change
changes =
    change.Plan ∷ change.External ∷ change.Drop ∷ change.Report ∷ change.Tick ∷ change.Renew ∷ change.Clear ∷ change.Tentative ∷
    change.Withdraw ∷ change.Commit ∷ []

-- `own_words`, `own_word_of`, `change_word_of`: the words that are no change, and a text's word
abbrev pub own_words : List Word
own_words =
    word.Fix ∷ word.TypeLine ∷ word.Area ∷ word.Rule ∷ word.Begin ∷ word.Take ∷ word.Areas ∷ word.Probe ∷ word.Accept ∷ word.Advise ∷ word.Hello ∷ word.List ∷
    word.Check ∷ word.Due ∷ word.Flight ∷ word.History ∷ word.Settle ∷ word.Bye ∷ []

unfoldable pub own_word_of : List ℕ → Option Word
own_word_of = named_by (λ w. (layout_of w).text) own_words

unfoldable pub change_word_of : List ℕ → Option Change
change_word_of = named_by (λ c. (change_layout c).text) changes

-- that word, or else the change's
abbrev pub own_or_change : Option Word → Option Change → Option Word
own_or_change (Some w) c = Some w
own_or_change None c = option_map word.Change c

-- `word_of`, `entry_word_of`: the command of a line, and of an entry
unfoldable pub word_of : List ℕ → Option Word
word_of text = own_or_change (own_word_of text) (change_word_of text)

unfoldable pub entry_word_of : List ℕ → Option EntryWord
entry_word_of text = if bytes_eq text (entry_layout entries.Accepted).text then Some entries.Accepted else option_map entries.Change (change_word_of text)

-- `may_give`, `may_send`: who may use which words: a script all, a session its role's and those of any. No session has a script's own.
abbrev pub may_give : Sender → Group → Bool
may_give sender.Replay g = true
may_give sender.Feed group.Feed = true
may_give sender.Position group.Position = true
may_give p group.Any = true
may_give p g = false

abbrev pub may_send : Sender → Word → Bool
may_send sender w = may_give sender (layout_of w).group
