-- Fields read one after another are a row's, and a line that is read so is checked.
use Rattle.std.proofs.Common.{◌≡◌, ℕ, ℤ, pos, to_z, of_z, w64, SFits, Bool, true, false, Option, None, Some, option_map, unwrap_or, List, [], ◌∷◌, ◌++◌, Result, Ok, Err, refl, sym, ap, subst, ◌∙◌}
use Rattle.std.proofs.Math.Facts.{to_z-of_z}
use Rattle.std.specs.Bool.{⊤}
use Rattle.std.specs.Prelude.{IsErrAnd, unsigned_abs}
use Rattle.std.proofs.lemmas.Result.{err_from_is_err_and}
use Rattle.serde_json.specs.Data.{Data, Members}
use Rattle.mt_base.specs.Checks.{check_answer, judged, next}
use Rattle.mt_json.specs.Field.{as_whole}
use Rattle.mt_json.specs.Shown.{members}
use Rattle.mt_json.specs.declared.fields.Fields.{Fields}
use Rattle.mt_read.specs.declared.key.Fault.{Fault}
use Rattle.mt_read.specs.declared.origin.Origin.{Origin}
use Rattle.mt_read.specs.declared.reading.FieldReading.{FieldReading}
use Rattle.mt_read.specs.declared.key.Fault.TheVariants.{Range}
use Rattle.mt_read.specs.declared.key.Key.{Key}
use Rattle.mt_read.specs.Field.{Field, count, count_if_there, form_check, is_line, kind_check, read_at}
use Rattle.mt_read.specs.Line.{◌>>=◌, checked, kinds, standing_rules, who_bounds, who_fields, who_in}
use Rattle.mt_read.specs.Private.FieldReading.{ReadsOn, Reads, ReadsRow, with_fault, standing}
use Rattle.mt_read.specs.Private.Field.{IsUnlessMemory}
use Rattle.mt_read.specs.Table.{Layout, layout_of}
use Rattle.mt_base.specs.declared.rules.Rules.{Rules}
use Rattle.mt_read.specs.declared.stop.Stop.{Stop}
use Rattle.mt_read.specs.declared.stop.Stop.TheVariants as stop
use Rattle.mt_read.specs.declared.word.Word.{Word}
use Rattle.mt_read.specs.declared.word.Word.TheVariants as word

next_last : (r : Result ⊤ Fault) → next r (Ok (tt {0})) ≡ r
next_last (Ok u) = refl
next_last (Err f) = refl

last_next : (r : Result ⊤ Fault) → r ≡ next r (Ok (tt {0}))
last_next (Ok u) = refl
last_next (Err f) = refl

next_next : {A : Type 0} (q r : Result ⊤ Fault) (s : Result A Fault) → next (next q r) s ≡ next q (next r s)
next_next (Ok u) r s = refl
next_next (Err f) r s = refl

first_passed : (q r : Result ⊤ Fault) → next q r ≡ Ok (tt {0}) → q ≡ Ok (tt {0})
first_passed (Ok u) r e = refl
first_passed (Err f) r e = cc

second_passed : (q r : Result ⊤ Fault) → next q r ≡ Ok (tt {0}) → r ≡ Ok (tt {0})
second_passed (Ok u) r e = e
second_passed (Err f) r e = cc

judged_both : (cs ds : List (Fault × Bool)) → judged (cs ++ ds) (tt {0}) ≡ next (judged cs (tt {0})) (judged ds (tt {0}))
judged_both [] ds = refl
judged_both (c ∷ cs) ds =
    ap (λ r. next (check_answer c) r) (judged_both cs ds) ∙ sym (next_next (check_answer c) (judged cs (tt {0})) (judged ds (tt {0})))

pub kinds_both : (origin : Origin) (fs gs : List Field) (ms : Members) → kinds origin (fs ++ gs) ms ≡ next (kinds origin fs ms) (kinds origin gs ms)
kinds_both origin [] gs ms = refl
kinds_both origin (f ∷ fs) gs ms =
    ap (λ r. next (check_answer (kind_check origin ms f)) r) (kinds_both origin fs gs ms) ∙ sym (next_next (check_answer (kind_check origin ms f)) _ _)

-- ---- one field, with a bound and without

pub so : (s t : FieldReading) (k l b c : Result ⊤ Fault) (V W : Type 0) → ReadsOn s t k b V → k ≡ l → b ≡ c → (V → W) → ReadsOn s t l c W
so s t k l b c V W g p q w = record {
  line = g.line;
  origin = g.origin;
  form = g.form ∙ ap (λ r. next s.form r) p;
  range = λ e. g.range (p ∙ e) ∙ ap (λ r. next s.range r) q;
  stands = λ e d. w (g.stands (p ∙ e) (q ∙ d));
}

pub one : {A : Type 0} {s t : FieldReading} {field : Field} {bound : Members → Fault × Bool} {asks : Members → A} {read : A} {k b : Result ⊤ Fault} {V : Type 0}
    → ReadsOn s t k b V → k ≡ check_answer (kind_check s.origin (members s.fields) field) → b ≡ check_answer (bound (members s.fields))
    → (V → read ≡ asks (members s.fields)) → Reads s t (field ∷ []) (λ ms. bound ms ∷ []) asks read
one {s = s} {t = t} g p q w = record { goes = so s t _ _ _ _ _ _ g (p ∙ sym (next_last _)) (q ∙ sym (next_last _)) w }

pub one_kind : {A : Type 0} {s t : FieldReading} {field : Field} {asks : Members → A} {read : A} {k : Result ⊤ Fault} {V : Type 0}
    → ReadsOn s t k (Ok (tt {0})) V → k ≡ check_answer (kind_check s.origin (members s.fields) field)
    → (V → read ≡ asks (members s.fields)) → Reads s t (field ∷ []) (λ ms. []) asks read
one_kind {s = s} {t = t} g p w = record { goes = so s t _ _ _ _ _ _ g (p ∙ sym (next_last _)) refl w }

count_of : (number : Option ℤ) → unwrap_or (option_map unsigned_abs number) 0 ≡ unsigned_abs (unwrap_or number (pos 0))
count_of None = refl
count_of (Some n) = refl

pub counted : (key : Key) (ms : Members) (found : Option ℕ) (n : ℕ) → n ≡ unwrap_or found 0 → found ≡ count_if_there key ms → n ≡ count key ms
counted key ms found n e h = e ∙ ap (λ o. unwrap_or o 0) h ∙ count_of (read_at key as_whole ms)

pub may_lack_in : (origin : Origin) (key : Key) (kind : Data → Bool) (ms : Members) (lacks : Bool) → lacks ≡ is_line origin
    → check_answer (form_check key lacks true kind ms) ≡ check_answer (form_check key (is_line origin) true kind ms)
may_lack_in origin key kind ms lacks e = ap (λ l. check_answer (form_check key l true kind ms)) e

-- a number of 64 bits is kept as it is
pub kept_in : (n m : ℤ) → SFits w64 n → n ≡ m → to_z w64 (of_z w64 n) ≡ m
kept_in n m h e = to_z-of_z h ∙ e

-- a bound alone, that holds or not
pub bound_passes : (s : FieldReading) (key : Key) (test : Bool) → test ≡ true → Reads {A = ⊤} s s [] (λ ms. (Range key, test) ∷ []) (λ ms. tt {0}) (tt {0})
unfolding check_answer
bound_passes s key true e = record { goes = record { line = refl; origin = refl; form = last_next s.form; range = λ k. last_next s.range; stands = λ k b. refl } }
bound_passes s key false e = cc

pub bound_fails : (s t : FieldReading) (key : Key) (test : Bool) → test ≡ false → t ≡ with_fault (Range key) s
    → Reads {A = ⊤} s t [] (λ ms. (Range key, test) ∷ []) (λ ms. tt {0}) (tt {0})
unfolding check_answer
bound_fails s t key true e r = cc
bound_fails s t key false e r = record {
  goes = record {
    line = λ i. (r i).fields;
    origin = λ i. (r i).origin;
    form = (λ i. (r i).form) ∙ last_next s.form;
    range = λ k i. (r i).range;
    stands = λ k b. refl;
  };
}

-- ---- what was read before, and what after it

same_next : (b c d : Result ⊤ Fault) → (b ≡ Ok (tt {0}) → c ≡ d) → next b c ≡ next b d
same_next (Ok u) c d h = h refl
same_next (Err f) c d h = refl

goes_then : (s t u : FieldReading) (k l b c d : Result ⊤ Fault) (V W : Type 0) → ReadsOn s t k b V → ReadsOn t u l c W → (V → c ≡ d)
    → ReadsOn s u (next k l) (next b d) (V × W)
goes_then s t u k l b c d V W g h same = record {
  line = h.line ∙ g.line;
  origin = h.origin ∙ g.origin;
  form = h.form ∙ ap (λ r. next r l) g.form ∙ next_next s.form k l;
  range = λ e.
      h.range (second_passed k l e) ∙ ap (λ r. next r c) (g.range (first_passed k l e)) ∙ next_next s.range b c
      ∙ ap (λ r. next s.range r) (same_next b c d (λ f. same (g.stands (first_passed k l e) f)));
  stands = λ e f.
      let stood = g.stands (first_passed k l e) (first_passed b d f) in
      (stood, h.stands (second_passed k l e) (same stood ∙ second_passed b d f));
}

moved : {B : Type 0} (s t u : FieldReading) (k b : Origin → Fields → Result ⊤ Fault) (y : Origin → Fields → B) (q : B) → t.fields ≡ s.fields → t.origin ≡ s.origin
    → ReadsOn t u (k t.origin t.fields) (b t.origin t.fields) (q ≡ y t.origin t.fields)
    → ReadsOn t u (k s.origin s.fields) (b s.origin s.fields) (q ≡ y s.origin s.fields)
moved s t u k b y q e o h = subst (λ a. ReadsOn t u (k a s.fields) (b a s.fields) (q ≡ y a s.fields)) o (subst (λ f. ReadsOn t u (k t.origin f) (b t.origin
    f) (q ≡ y t.origin f)) e h)

-- the second's bounds go by the value of the first
pub by : {A B : Type 0} {s t u : FieldReading} {f g : List Field} {b : Members → List (Fault × Bool)} {x : Members → A} {y : Members → B} {r : A} {q : B}
    (c : A → Members → List (Fault × Bool)) → Reads s t f b x r → Reads t u g (c r) y q
    → Reads {A = A × B} s u (f ++ g) (λ ms. b ms ++ c (x ms) ms) (λ ms. (x ms, y ms)) (r, q)
by {s = s} {t = t} {u = u} {f = f} {g = g} {b = b} {x = x} {y = y} {r = r} {q = q} c first second =
    let ms = members s.fields in
    let after = moved s t u (λ o l. kinds o g (members l)) (λ o l. judged (c r (members l)) (tt {0})) (λ o l. y (members l)) q first.goes.line
    first.goes.origin second.goes in
    let both = goes_then s t u (kinds s.origin f ms) (kinds s.origin g ms) (judged (b ms) (tt {0})) (judged (c r ms) (tt {0}))
    (judged (c (x ms) ms) (tt {0})) _ _ first.goes after (λ e. ap (λ v. judged (c v ms) (tt {0})) e) in
    record {
      goes = record {
        line = both.line;
        origin = both.origin;
        form = both.form ∙ ap (λ k. next s.form k) (sym (kinds_both s.origin f g ms));
        range = λ e. both.range (sym (kinds_both s.origin f g ms) ∙ e) ∙ ap (λ k. next s.range k) (sym (judged_both (b ms) (c (x ms) ms)));
        stands = λ e d.
            let p = both.stands (sym (kinds_both s.origin f g ms) ∙ e) (sym (judged_both (b ms) (c (x ms) ms)) ∙ d) in
            λ i. (p.0 i, p.1 i);
      };
    }

infixr 20 ◌▹◌
pub ◌▹◌ : {A B : Type 0} {s t u : FieldReading} {f g : List Field} {b c : Members → List (Fault × Bool)} {x : Members → A} {y : Members → B} {r : A} {q : B}
    → Reads s t f b x r → Reads t u g c y q → Reads {A = A × B} s u (f ++ g) (λ ms. b ms ++ c ms) (λ ms. (x ms, y ms)) (r, q)
◌▹◌ {c = c} first second = by (λ _. c) first second

-- what a row asks for by those values
pub asked : {A B : Type 0} {s t : FieldReading} {f : List Field} {b : Members → List (Fault × Bool)} {x : Members → A} {y : Members → B} {r : A} {q : B}
    → Reads s t f b x r → ((ms : Members) → r ≡ x ms → q ≡ y ms) → Reads s t f b y q
asked {s = s} first asks = record {
  goes = record {
    line = first.goes.line;
    origin = first.goes.origin;
    form = first.goes.form;
    range = first.goes.range;
    stands = λ e d. asks (members s.fields) (first.goes.stands e d);
  };
}

-- the same bounds, said in another way
pub bounded_as : {A : Type 0} {s t : FieldReading} {f : List Field} {b c : Members → List (Fault × Bool)} {x : Members → A} {r : A}
    → Reads s t f b x r → ((ms : Members) → b ms ≡ c ms) → Reads s t f c x r
bounded_as {s = s} {t = t} {f = f} {x = x} {r = r} first same = record {
  goes = subst (λ d. ReadsOn s t (kinds s.origin f (members s.fields)) (judged d (tt
      {0})) (r ≡ x (members s.fields))) (same (members s.fields)) first.goes;
}

-- ---- a line whose fields were read, who asks and more checks after them

judged_value : {A : Type 0} (cs : List (Fault × Bool)) (x : A) → judged cs x ≡ next (judged cs (tt {0})) (Ok x)
judged_value [] x = refl
judged_value (c ∷ cs) x = ap (λ r. next (check_answer c) r) (judged_value cs x) ∙ sym (next_next (check_answer c) (judged cs (tt {0})) (Ok x))

abbrev by_whom : {A : Type 0} → A → ℕ → Result (ℕ × A) Fault
by_whom x who = Ok (who, x)

steps : {A : Type 0} (k l b w m : Result ⊤ Fault) (who : ℕ) (x : A)
    → (k >>= λ _. (l >>= λ _. (b >>= λ _. (next w (Ok who) >>= λ n. (m >>= λ _. by_whom x n))))) ≡ next (next k (next l (Ok (tt {0})))) (next (next b (next w m)) (by_whom x who))
steps (Err f) l b w m who x = refl
steps (Ok _) (Err f) b w m who x = refl
steps (Ok _) (Ok _) (Err f) w m who x = refl
steps (Ok _) (Ok _) (Ok _) (Err f) m who x = refl
steps (Ok _) (Ok _) (Ok _) (Ok _) (Err f) who x = refl
steps (Ok _) (Ok _) (Ok _) (Ok _) (Ok _) who x = refl

answered : {A : Type 0} (form range kind bounds : Result ⊤ Fault) (x y : A) → form ≡ kind → (kind ≡ Ok (tt {0}) → range ≡ bounds)
    → (kind ≡ Ok (tt {0}) → bounds ≡ Ok (tt {0}) → y ≡ x) → next kind (next bounds (Ok x)) ≡ next (next form range) (Ok y)
answered form range (Err f) bounds x y p q r = sym (ap (λ k. next (next k range) (Ok y)) p)
answered form range (Ok u) (Err f) x y p q r = sym (ap (λ k. next (next k range) (Ok y)) p ∙ ap (λ k. next k (Ok y)) (q refl))
answered form range (Ok u) (Ok v) x y p q r = sym (ap (λ k. next (next k range) (Ok y)) p ∙ ap (λ k. next k (Ok y)) (q refl) ∙ ap Ok (r refl refl))

-- what a line is, once it is read
pub read_line_is : {A : Type 0} (s t u v : FieldReading) (row : Layout A) (more : A → List (Fault × Bool)) (read : A) (who : ℕ) (answer : Result ⊤ Fault)
    → s.form ≡ Ok (tt {0}) → s.range ≡ Ok (tt {0}) → ReadsRow s t row read → Reads t u (who_fields t.origin) (who_bounds t.origin) (who_in t.origin) who
    → Reads {A = ⊤} u v [] (λ ms. more read) (λ ms. tt {0}) (tt {0}) → answer ≡ next v.form v.range
    → checked s.origin (more (row.asks (members s.fields))) row (members s.fields) ≡ next answer (Ok (who, read))
unfolding checked
read_line_is s t u v row more read who answer p q first second third given =
    let ms = members s.fields in
    let o = s.origin in
    let k = kinds o row.fields ms in
    let l = kinds o (who_fields o) ms in
    let b = judged (row.bounds ms) (tt {0}) in
    let w = judged (who_bounds o ms) (tt {0}) in
    let m = judged (more (row.asks ms)) (tt {0}) in
    let actor = moved s t u (λ a f. kinds a (who_fields a) (members f)) (λ a f. judged (who_bounds a (members f)) (tt {0})) (λ a f. who_in a (members f)) who
    first.goes.line first.goes.origin second.goes in
    let rest = goes_then t u v l (Ok (tt {0})) w (judged (more read) (tt {0})) (judged (more read) (tt {0})) _ _ actor third.goes (λ e. refl) in
    let all = goes_then s t v k (next l (Ok (tt {0}))) b (next w (judged (more read) (tt {0}))) (next w m) _ _ first.goes rest (λ e. ap (λ a. next w (judged
    (more a) (tt {0}))) e) in
    ap (λ r. k >>= λ _. (l >>= λ _. (b >>= λ _. (r >>= λ n. (m >>= λ _. by_whom (row.asks ms) n))))) (judged_value (who_bounds o ms) (who_in o ms))
    ∙ steps k l b w m (who_in o ms) (row.asks ms)
    ∙ answered v.form v.range (next k (next l (Ok (tt {0})))) (next b (next w m)) (who_in o ms, row.asks ms) (who, read)
    (all.form ∙ ap (λ r. next r (next k (next l (Ok (tt {0}))))) p) (λ e. all.range e ∙ ap (λ r. next r (next b (next w m))) q)
    (λ e d. let h = all.stands e d in λ i. (h.1.0 i, h.0 i))
    ∙ ap (λ r. next r (Ok (who, read))) (sym given)

pub read_is : {A : Type 0} (origin : Origin) (fields : Fields) (s t u v : FieldReading) (row : Layout A) (more : A → List (Fault × Bool)) (read : A) (who : ℕ)
    (answer : Result ⊤ Fault) → s ≡ record { fields = fields; origin = origin; form = Ok (tt {0}); range = Ok (tt {0}) } → ReadsRow s t row read
    → Reads t u (who_fields t.origin) (who_bounds t.origin) (who_in t.origin) who → Reads {A = ⊤} u v [] (λ ms. more read) (λ ms. tt {0}) (tt {0})
    → answer ≡ next v.form v.range → checked origin (more (row.asks (members fields))) row (members fields) ≡ next answer (Ok (who, read))
read_is origin fields s t u v row more read who answer e first second third given =
    ap (λ (r : FieldReading). checked r.origin (more (row.asks (members r.fields))) row (members r.fields)) (sym e)
    ∙ read_line_is s t u v row more read who answer (ap (λ (r : FieldReading). r.form) e) (ap (λ (r : FieldReading). r.range) e) first second third given

pub nothing : (s : FieldReading) → Reads {A = ⊤} s s [] (λ ms. []) (λ ms. tt {0}) (tt {0})
nothing s = record { goes = record { line = refl; origin = refl; form = last_next s.form; range = λ k. last_next s.range; stands = λ k b. refl } }

pub standing_is : (word : Word) (rules : Rules) (ms : Members) → standing rules ((layout_of word).asks ms) ≡ standing_rules word rules ms
standing_is word.Rule rules ms = refl
standing_is w rules ms = refl

-- ---- what a `?` gives on

-- a fault, as it came
pub gives : {A : Type 0} (r : Result A Fault) (f : Fault) (t : Result A Fault) → IsErrAnd r (λ e. e ≡ f) → t ≡ Err f → r ≡ t
gives r f t h e = let p = err_from_is_err_and r h in p.1 ∙ ap Err p.2 ∙ sym e

-- a fault, as why a line that takes memory isn't read
pub stops : {A : Type 0} (r : Result A Stop) (f : Fault) (t : Result A Fault) → IsErrAnd r (λ e. e ≡ stop.Fault f) → t ≡ Err f → IsUnlessMemory r t
stops (Ok y) f t h e = absurd h
stops (Err (stop.Fault g)) f t h e = cc
stops (Err stop.Memory) f t h e = tt {0}
