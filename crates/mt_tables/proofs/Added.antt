use Rattle.std.proofs.Common.{◌≡◌, ◌≢◌, ℕ, Ok, Err, IsOk, List, [], ◌∷◌, ◌++◌, nat_eq, refl, sym, subst}
use Rattle.std.proofs.lemmas.List.Elements.{All-push}
use Rattle.std.specs.Cmp.Lexicographic.{pointwise}
use Rattle.indexmap.proofs.CallerLemmas.{insert_entry-new}
use Rattle.indexmap.specs.IndexMap.{IndexMap, insert_entry}
use Rattle.mt_base.specs.declared.band.Band.{Band}
use Rattle.mt_base.specs.declared.place.Point.{Point}
use Rattle.mt_base.specs.Bounds.{AreBoundedBands, AreBoundedTables, IsInPlane}
use Rattle.mt_base.specs.Checks.{judged}
use Rattle.mt_base.specs.Tables.{Tables}
use Rattle.mt_base.proofs.CheckLemmas.{all_passed, refused_has}
use Rattle.mt_base.proofs.Cases.{is_none}
use Rattle.mt_tables.specs.declared.add_no.AddNo.{AddNo}
use Rattle.mt_tables.specs.declared.add_no.AddNo.TheVariants.{Taken, Bands, Full, Memory}
use Rattle.mt_tables.specs.Adding.{AnswersAsChecked, fix_adding, type_adding, with_fix, with_type}

-- where the checks are passed, the name is new, and its pair goes last
pub fix_last : {S : Type 0} (fixes : IndexMap (List ℕ) Point S) (types : List (List ℕ × List Band)) (name : List ℕ) (point : Point)
    → Ok (tt {0}) ≡ judged (fix_adding (record { fixes = fixes.entries; types = types }) name) (tt {0})
    → insert_entry (pointwise nat_eq) fixes.entries name point ≡ fixes.entries ++ (name, point) ∷ []
fix_last fixes types name point passed =
    let ok : IsOk (judged (fix_adding (record { fixes = fixes.entries; types = types }) name) (tt {0})) = rw (← passed) refl in
    let tests = all_passed (fix_adding (record { fixes = fixes.entries; types = types }) name) (tt {0}) ok in
    insert_entry-new (pointwise nat_eq) fixes name point (is_none _ tests.0)

pub type_last : {S : Type 0} (fixes : List (List ℕ × Point)) (types : IndexMap (List ℕ) (List Band) S) (name : List ℕ) (bands : List Band)
    → Ok (tt {0}) ≡ judged (type_adding (record { fixes = fixes; types = types.entries }) name bands) (tt {0})
    → insert_entry (pointwise nat_eq) types.entries name bands ≡ types.entries ++ (name, bands) ∷ []
type_last fixes types name bands passed =
    let ok : IsOk (judged (type_adding (record { fixes = fixes; types = types.entries }) name bands) (tt {0})) = rw (← passed) refl in
    let tests = all_passed (type_adding (record { fixes = fixes; types = types.entries }) name bands) (tt {0}) ok in
    insert_entry-new (pointwise nat_eq) types name bands (is_none _ tests.0)

-- the tables stay bounded
pub bounded_with_fix : (tables : Tables) (name : List ℕ) (point : Point) → AreBoundedTables tables → IsInPlane point.x point.y
    → AreBoundedTables (with_fix tables name point)
bounded_with_fix tables name point kept plane = record {
  fixes = All-push (λ (fix : List ℕ × Point). IsInPlane fix.1.x fix.1.y) tables.fixes (name, point) kept.fixes plane;
  types = kept.types;
}

pub bounded_with_type : (tables : Tables) (name : List ℕ) (bands : List Band) → AreBoundedTables tables → AreBoundedBands bands
    → AreBoundedTables (with_type tables name bands)
bounded_with_type tables name bands kept bounded = record {
  fixes = kept.fixes;
  types = All-push (λ (kind : List ℕ × List Band). AreBoundedBands kind.1) tables.types (name, bands) kept.types bounded;
}

-- a refusal of the checks answers them
itself : (why : AddNo) → why ≢ Memory → AnswersAsChecked (Err why) (Err why)
itself Taken other = refl
itself Bands other = refl
itself Full other = refl
itself Memory other = absurd (other refl)

taken : Taken ≢ Memory
taken = λ e. cc

bands : Bands ≢ Memory
bands = λ e. cc

full : Full ≢ Memory
full = λ e. cc

pub fix_refused : (tables : Tables) (name : List ℕ) (why : AddNo) → judged (fix_adding tables name) (tt {0}) ≡ Err why
    → AnswersAsChecked (judged (fix_adding tables name) (tt {0})) (Err why)
fix_refused tables name why refused =
    subst (λ answer. AnswersAsChecked answer (Err why)) (sym refused) (itself why (refused_has (λ w. w ≢ Memory) (fix_adding tables name) (tt {0}) why (taken, (full, tt)) refused))

pub type_refused : (tables : Tables) (name : List ℕ) (bs : List Band) (why : AddNo) → judged (type_adding tables name bs) (tt {0}) ≡ Err why
    → AnswersAsChecked (judged (type_adding tables name bs) (tt {0})) (Err why)
type_refused tables name bs why refused =
    subst (λ answer. AnswersAsChecked answer (Err why)) (sym refused) (itself why (refused_has (λ w. w ≢ Memory) (type_adding tables name bs) (tt {0}) why (taken, (bands, (full, tt))) refused))
