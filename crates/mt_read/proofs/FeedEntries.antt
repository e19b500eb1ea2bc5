-- What is read as an entry is read as that entry for a standby.
use Rattle.std.proofs.Common.{◌≡◌, ℕ, Bool, true, false, cond, List, [], ◌∷◌, Option, Some, None, Ok, refl, sym, ap, ◌∙◌}
use Rattle.std.proofs.lemmas.Slice.Eq.{bytes_eq-Decides}
use Rattle.std.specs.Prelude.{option_and_then}
use Rattle.std.specs.Str.{bytes_eq}
use Rattle.serde_json.specs.Data.{Data, Members}
use Rattle.serde_json.specs.Find.{as_object}
use Rattle.mt_base.specs.declared.command.Entry.{Entry}
use Rattle.mt_read.specs.declared.following.FeedLine.TheVariants.{Followed}
use Rattle.mt_read.specs.declared.following.FeedWord.{FeedWord}
use Rattle.mt_read.specs.declared.following.FeedWord.TheVariants as reading
use Rattle.mt_read.specs.declared.word.EntryWord.{EntryWord}
use Rattle.mt_read.specs.Entry.{as_entry, entry, held_in, of_entry_word}
use Rattle.mt_read.specs.Following.{as_followed, feed, feed_members, of_reading, reading_layout, reading_word_of, readings}
use Rattle.mt_read.specs.Line.{decoded, read_object, read_value, word_text}
use Rattle.mt_read.specs.Words.{change_word_of, entry_word_of, named_by}

-- a text that names one of some commands is its word
named_is : {A : Type 0} (text_of : A → List ℕ) (ws : List A) (text : List ℕ) (w : A) → named_by text_of ws text ≡ Some w → text ≡ text_of w
named_is text_of [] text w e = cc
named_is {A} text_of (v ∷ ws) text w e = by_test (bytes_eq text (text_of v)) refl (named_is text_of ws text w) e where
  by_test : (b : Bool) → bytes_eq text (text_of v) ≡ b → (named_by text_of ws text ≡ Some w → text ≡ text_of w)
      → cond b (Some v) (named_by text_of ws text) ≡ Some w → text ≡ text_of w
  by_test true is others e = let same : v ≡ w = cc in (bytes_eq-Decides text (text_of v)).0 is ∙ ap text_of same
  by_test false is others e = others e

-- the word of a line that is no entry is the word of none
no_entry_word : (r : FeedWord) → entry_word_of (reading_layout r).text ≡ None
unfolding entry_word_of change_word_of
no_entry_word reading.List = refl
no_entry_word reading.Check = refl
no_entry_word reading.Flight = refl
no_entry_word reading.Due = refl
no_entry_word reading.Bye = refl

reading_word_is : (text : List ℕ) (r : FeedWord) → reading_word_of text ≡ Some r → text ≡ (reading_layout r).text
unfolding reading_word_of
reading_word_is text r e = named_is (λ w. (reading_layout w).text) readings text r e

not_both : (text : List ℕ) (w : EntryWord) (o : Option FeedWord) → reading_word_of text ≡ o → entry_word_of text ≡ Some w → o ≡ None
not_both text w None is also = refl
not_both text w (Some r) is also =
    let none : entry_word_of text ≡ None = ap entry_word_of (reading_word_is text r is) ∙ no_entry_word r in
    let both : Some w ≡ None = sym also ∙ none in
    cc

apart : (text : Option (List ℕ)) (w : EntryWord) → option_and_then entry_word_of text ≡ Some w → option_and_then reading_word_of text ≡ None
apart None w is = cc
apart (Some text) w is = not_both text w (reading_word_of text) refl is

by_word : (ms : Members) (o : Option EntryWord) (e : Entry) → option_and_then entry_word_of (word_text ms) ≡ o → as_entry (of_entry_word ms o) ≡ Ok e
    → feed_members ms ≡ Ok (Followed e)
by_word ms None e word is = cc
by_word ms (Some w) e word is =
    let held : as_entry (held_in ms) ≡ Ok e = ap (λ o. as_entry (of_entry_word ms o)) word ∙ is in
    ap (of_reading ms) (apart (word_text ms) w word) ∙ ap as_followed held

by_object : (o : Option Members) (e : Entry) → as_entry (read_object held_in o) ≡ Ok e → read_object feed_members o ≡ Ok (Followed e)
by_object None e is = cc
by_object (Some ms) e is = by_word ms (option_and_then entry_word_of (word_text ms)) e refl is

by_value : (o : Option Data) (e : Entry) → as_entry (read_value held_in o) ≡ Ok e → read_value feed_members o ≡ Ok (Followed e)
by_value None e is = cc
by_value (Some d) e is = by_object (as_object d) e is

pub entry_followed : (line : List ℕ) (e : Entry) → entry line ≡ Ok e → feed line ≡ Ok (Followed e)
entry_followed line e is = by_value (decoded line) e is
