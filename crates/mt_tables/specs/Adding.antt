-- What may be added to the tables, and the tables with it.
use Rattle.std.specs.Prelude.{◌≡◌, ℕ, Bool, true, List, [], ◌∷◌, ◌++◌, length, not, ◌&&◌, is_some, nat_lt, Result, Ok, Err, ⊤}
use Rattle.mt_base.specs.declared.band.Band.{Band}
use Rattle.mt_base.specs.declared.place.Point.{Point}
use Rattle.mt_base.specs.Tables.{Tables, bands_of, fix_of}
use Rattle.mt_tables.specs.declared.add_no.AddNo.{AddNo}
use Rattle.mt_tables.specs.declared.add_no.AddNo.TheVariants.{Taken, Bands, Full, Memory}

-- the tops of bands rise strictly
abbrev pub tops_rise : List Band → Bool
tops_rise [] = true
tops_rise (b ∷ []) = true
tops_rise (b ∷ c ∷ bs) = nat_lt b.top c.top && tops_rise (c ∷ bs)

-- what is checked before a fix is added: new name, room. Fewer than 20,000 fixes stand.
abbrev pub fix_adding : Tables → List ℕ → List (AddNo × Bool)
fix_adding tables name = (Taken, not (is_some (fix_of tables name))) ∷ (Full, nat_lt (length tables.fixes) 20000) ∷ []

-- what is checked before a type is added: new name, rising bands, room. Fewer than 1,000 types stand.
abbrev pub type_adding : Tables → List ℕ → List Band → List (AddNo × Bool)
type_adding tables name bands =
    (Taken, not (is_some (bands_of tables name))) ∷ (Bands, tops_rise bands) ∷ (Full, nat_lt (length tables.types) 1000) ∷ []

-- `with_fix`, `with_type`: the tables with one more fix, and with one more type
abbrev pub with_fix : Tables → List ℕ → Point → Tables
with_fix tables name point = record { fixes = tables.fixes ++ (name, point) ∷ []; types = tables.types }

abbrev pub with_type : Tables → List ℕ → List Band → Tables
with_type tables name bands = record { fixes = tables.fixes; types = tables.types ++ (name, bands) ∷ [] }

-- the answer is what the checks say, or want of memory where all pass
abbrev pub AnswersAsChecked : Result ⊤ AddNo → Result ⊤ AddNo → Type 0
AnswersAsChecked checked (Ok _) = checked ≡ Ok (tt {0})
AnswersAsChecked checked (Err Taken) = checked ≡ Err Taken
AnswersAsChecked checked (Err Bands) = checked ≡ Err Bands
AnswersAsChecked checked (Err Full) = checked ≡ Err Full
AnswersAsChecked checked (Err Memory) = checked ≡ Ok (tt {0})
