-- The pieces of a conflict, a hit and a passage, joined, are the compact texts of their values; and those of a verdict.
use Rattle.std.proofs.Common.{◌≡◌, ℕ, pos, Some, Bool, true, false, List, [], ◌∷◌, ◌++◌, decimal, codes, refl, sym, ap, ◌∙◌, append_assoc}
use Rattle.std.specs.Borrow.{Bor}
use Rattle.std.specs.Prelude.{◌||◌}
use Rattle.json.proofs.OnLiterals.{json_on_literals}
use Rattle.json.specs.Print.{escape}
use Rattle.serde_json.specs.Data.{string, array, object, no_items, item, no_members, member}
use Rattle.serde_json.specs.Written.{compact_text, items_text}
use Rattle.mt_base.specs.declared.conflict.Kind.{Kind}
use Rattle.mt_base.specs.declared.conflict.Kind.TheVariants.{Actual, Tentative}
use Rattle.mt_base.specs.declared.flight.Tent.{Tent}
use Rattle.mt_base.specs.declared.hit.Hit.{Hit}
use Rattle.mt_base.specs.declared.verdict.Verdict.{Verdict}
use Rattle.mt_write.specs.declared.object.Datum.{Datum}
use Rattle.mt_write.specs.declared.reply.Reply.TheVariants.{Entered}
use Rattle.mt_write.specs.Entry.{values, whole}
use Rattle.mt_write.specs.Flight.{tent_value}
use Rattle.mt_write.specs.Private.Flags.{flag_text, flags_text, verdict_value}
use Rattle.mt_write.specs.Private.Object.{ended_text, member_text}
use Rattle.mt_write.specs.Reply.{hit_value, holding, kind_letter, reply_text}

-- a text that began empty, piece by piece from its end to its beginning
pub made_of_eleven : (a b c d e f g h i j k t0 t1 t2 t3 t4 t5 t6 t7 t8 t9 t10 t11 : List ℕ) → t0 ≡ [] → t1 ≡ k ++ t0 → t2 ≡ j ++ t1
    → t3 ≡ i ++ t2 → t4 ≡ h ++ t3 → t5 ≡ g ++ t4 → t6 ≡ f ++ t5 → t7 ≡ e ++ t6 → t8 ≡ d ++ t7 → t9 ≡ c ++ t8 → t10 ≡ b ++ t9 → t11 ≡ a ++ t10
    → t11 ≡ a ++ (b ++ (c ++ (d ++ (e ++ (f ++ (g ++ (h ++ (i ++ (j ++ (k ++ []))))))))))
made_of_eleven a b c d e f g h i j k t0 t1 t2 t3 t4 t5 t6 t7 t8 t9 t10 t11 e0 e1 e2 e3 e4 e5 e6 e7 e8 e9 e10 e11 =
    rw (e11, e10, e9, e8, e7, e6, e5, e4, e3, e2, e1, e0) refl

pub made_of_seven : (a b c d e f g t0 t1 t2 t3 t4 t5 t6 t7 : List ℕ) → t0 ≡ [] → t1 ≡ g ++ t0 → t2 ≡ f ++ t1
    → t3 ≡ e ++ t2 → t4 ≡ d ++ t3 → t5 ≡ c ++ t4 → t6 ≡ b ++ t5 → t7 ≡ a ++ t6
    → t7 ≡ a ++ (b ++ (c ++ (d ++ (e ++ (f ++ (g ++ []))))))
made_of_seven a b c d e f g t0 t1 t2 t3 t4 t5 t6 t7 e0 e1 e2 e3 e4 e5 e6 e7 = rw (e7, e6, e5, e4, e3, e2, e1, e0) refl

pub plain_kinds : (a b : Kind) → kind_letter a ∷ kind_letter b ∷ [] ≡ escape (kind_letter a ∷ kind_letter b ∷ [])
unfolding json_on_literals
plain_kinds Actual Actual = refl
plain_kinds Actual Tentative = refl
plain_kinds Tentative Actual = refl
plain_kinds Tentative Tentative = refl

pub conflict_text : (f l : ℕ) (kinds a b first last letters left right : List ℕ) → letters ≡ escape kinds → left ≡ escape a → right ≡ escape b → first ≡ decimal f → last ≡ decimal l
    → codes "{\"first\":" ++ (first ++ (codes ",\"kinds\":\"" ++ (letters ++ (codes "\",\"last\":" ++ (last ++ (codes ",\"pair\":[\"" ++ (left ++ (codes "\",\"" ++ (right ++ (codes "\"]}" ++ []))))))))))
    ≡ compact_text (object (
    member (codes "first") (whole (pos f)) (
    member (codes "kinds") (string kinds) (
    member (codes "last") (whole (pos l)) (
    member (codes "pair") (array (item (string a) (item (string b) no_items))) no_members)))))
unfolding json_on_literals
conflict_text f l kinds a b first last letters left right k p q d e = simp (k, p, q, d, e, append_assoc)

pub plain_kind : (a : Kind) → kind_letter a ∷ [] ≡ escape (kind_letter a ∷ [])
unfolding json_on_literals
plain_kind Actual = refl
plain_kind Tentative = refl

pub pierced_text : (f l : ℕ) (area call kind first last name sign letter : List ℕ) → name ≡ escape area → sign ≡ escape call → letter ≡ escape kind → first ≡ decimal f → last ≡ decimal l
    → codes "{\"area\":\"" ++ (name ++ (codes "\",\"call\":\"" ++ (sign ++ (codes "\",\"first\":" ++ (first ++ (codes ",\"kind\":\"" ++ (letter ++ (codes "\",\"last\":" ++ (last ++ (codes "}" ++ []))))))))))
    ≡ compact_text (object (
    member (codes "area") (string area) (
    member (codes "call") (string call) (
    member (codes "first") (whole (pos f)) (
    member (codes "kind") (string kind) (
    member (codes "last") (whole (pos l)) no_members))))))
unfolding json_on_literals
pierced_text f l area call kind first last name sign letter n s k d e = simp (n, s, k, d, e, append_assoc)

pub hit_text : (hit : Hit) (first last with_is : List ℕ) → first ≡ decimal hit.first → last ≡ decimal hit.last → with_is ≡ escape hit.with
    → codes "{\"first\":" ++ (first ++ (codes ",\"last\":" ++ (last ++ (codes ",\"with\":\"" ++ (with_is ++ (codes "\"}" ++ [])))))) ≡ compact_text (hit_value hit)
unfolding json_on_literals
hit_text hit first last with_is d e p = simp (d, e, p, append_assoc)

pub tent_text : (tent : Tent) (level owner start : List ℕ) → level ≡ decimal tent.level → owner ≡ decimal tent.owner → start ≡ decimal tent.start
    → codes "{\"level\":" ++ (level ++ (codes ",\"owner\":" ++ (owner ++ (codes ",\"start\":" ++ (start ++ (codes "}" ++ [])))))) ≡ compact_text (tent_value tent)
unfolding json_on_literals
tent_text tent level owner start d e f = simp (d, e, f, append_assoc)

pub name_text : (name letters : List ℕ) → letters ≡ escape name → codes "\"" ++ (letters ++ (codes "\"" ++ [])) ≡ compact_text (string name)
unfolding json_on_literals
name_text name letters p = rw p refl

-- members and what ends them, and more after it
pub ended_on : (end more : List ℕ) (ms : List (Bor (List ℕ) × Datum)) → ended_text (end ++ more) ms ≡ ended_text end ms ++ more
ended_on end more [] = refl
ended_on end more (m ∷ ms) = ap (λ t. member_text m ++ t) (ended_on end more ms) ∙ sym (append_assoc (member_text m) (ended_text end ms) more)

-- ---- verdicts

-- the names of some flags from a place on, after a comma or the list's bracket
abbrev names_on : Bool → List (List ℕ × Bool) → List ℕ
names_on true named = items_text true (values string (holding named))
names_on false named = 91 ∷ items_text false (values string (holding named))

one_flag : (later holds : Bool) (name : List ℕ) (others : List (List ℕ × Bool)) (rest : List ℕ) → escape name ≡ name → rest ≡ names_on (later || holds) others
    → flag_text later name holds ++ rest ≡ names_on later ((name, holds) ∷ others)
one_flag true true name others rest p e = rw (p, e) refl
one_flag false true name others rest p e = rw (p, e) refl
one_flag true false name others rest p e = e
one_flag false false name others rest p e = e

end_is : (later : Bool) → flags_text later [] ≡ names_on later []
end_is true = refl
end_is false = refl

-- the flags from a place on
abbrev outside_on : Verdict → List (List ℕ × Bool)
outside_on v = (codes "outside", v.outside) ∷ []

abbrev aged_on : Verdict → List (List ℕ × Bool)
aged_on v = (codes "aged", v.aged) ∷ outside_on v

abbrev vertical_on : Verdict → List (List ℕ × Bool)
vertical_on v = (codes "vertical", v.vertical) ∷ aged_on v

abbrev along_on : Verdict → List (List ℕ × Bool)
along_on v = (codes "along", v.along) ∷ vertical_on v

abbrev pub flags_of : Verdict → List ℕ
flags_of v =
    flag_text false (codes "lateral") v.lateral ++ (
    flag_text v.lateral (codes "along") v.along ++ (
    flag_text (v.lateral || v.along) (codes "vertical") v.vertical ++ (
    flag_text ((v.lateral || v.along) || v.vertical) (codes "aged") v.aged ++ (
    flag_text (((v.lateral || v.along) || v.vertical) || v.aged) (codes "outside") v.outside
    ++ flags_text ((((v.lateral || v.along) || v.vertical) || v.aged) || v.outside) []))))

pub verdict_text : (v : Verdict) → flags_of v ≡ compact_text (verdict_value v)
unfolding json_on_literals
verdict_text v =
    one_flag false v.lateral (codes "lateral") (along_on v) _ refl
    (one_flag v.lateral v.along (codes "along") (vertical_on v) _ refl
    (one_flag (v.lateral || v.along) v.vertical (codes "vertical") (aged_on v) _ refl
    (one_flag ((v.lateral || v.along) || v.vertical) v.aged (codes "aged") (outside_on v) _ refl
    (one_flag (((v.lateral || v.along) || v.vertical) || v.aged) v.outside (codes "outside") [] _ refl
    (end_is ((((v.lateral || v.along) || v.vertical) || v.aged) || v.outside))))))

pub judged_text : (version : ℕ) (v : Verdict)
    → ((codes "{\"entered\":" ++ (decimal version ++ codes ",\"verdict\":")) ++ compact_text (verdict_value v)) ++ codes "}\n"
    ≡ reply_text (Entered (record { version = version; verdict = Some v }))
unfolding json_on_literals
judged_text version v = simp append_assoc
