-- Callsigns in order beside the places that they name.
use Rattle.std.proofs.Common.{◌≡◌, ◌≢◌, ◌⊎◌, inl, inr, ⊎_elim, Bool, true, false, ℕ, ◌<◌, ◌↔◌, List, Option, Some, None, Contains, length, get_or, nat_eq, refl, sym, ◌∙◌, ap, subst, arith}
use Rattle.std.proofs.Math.ListN.{set}
use Rattle.std.proofs.lemmas.Bool.Decides.{nat_tests}
use Rattle.std.proofs.lemmas.List.{get_or-set_same, get_or-set_other, length-set, set-get_or, set-set}
use Rattle.mt_names.specs.declared.names.Named.{Named}
use Rattle.mt_names.specs.Naming.{AreNamed, CanStand, IsRenaming}
use Rattle.mt_names.specs.Private.Naming.{IsOtherName}
use Rattle.mt_names.proofs.Splitting.{one_named}

pub decide : (a b : ℕ) → (a ≡ b) ⊎ (a ≢ b)
decide a b = by_test (nat_eq a b) refl where
  by_test : (t : Bool) → nat_eq a b ≡ t → (a ≡ b) ⊎ (a ≢ b)
  by_test true e = inl (grind (arith, nat_tests))
  by_test false e = inr (grind (arith, nat_tests))

module _ (names after : List Named) (calls : List (Option (List ℕ))) (slot : ℕ) (inside : slot < length calls) (named : AreNamed names calls) where
  own : (x : Option (List ℕ)) (i : ℕ) → i ≡ slot → get_or (set calls slot x) i None ≡ x
  own x i same = subst (λ (k : ℕ). get_or (set calls slot x) k None ≡ x) (sym same) (get_or-set_same calls slot x None inside)

  away : (x : Option (List ℕ)) (i : ℕ) → i ≢ slot → get_or (set calls slot x) i None ≡ get_or calls i None
  away x i other = get_or-set_other calls slot i x None other

  old : (i : ℕ) → i ≡ slot → get_or calls i None ≡ get_or calls slot None
  old i same = ap (λ (k : ℕ). get_or calls k None) same

  pub named_without : (was : List ℕ) → get_or calls slot None ≡ Some was → ((i : ℕ) → i ≢ slot → get_or calls i None ≢ Some was)
      → ((n : Named) → Contains after n ↔ IsOtherName names was n) → AreNamed after (set calls slot None)
  named_without was there alone members n = (
    (λ held.
        let it = (members n).0 held in
        let at = (named n).0 it.listed in
        away None n.slot (λ same. it.other (let e = old n.slot same in cc)) ∙ at),
    (λ is. ⊎_elim
        (λ same. absurd (let e = own None n.slot same in cc))
        (λ other. let at = sym (away None n.slot other) ∙ is in
        (members n).1 (record { listed = (named n).1 at; other = λ mine. alone n.slot other (at ∙ ap (λ (c : List ℕ). Some c) mine) }))
        (decide n.slot slot)),
  )

  pub named_with : (call : List ℕ) → get_or calls slot None ≡ None → ((i : ℕ) → i ≢ slot → get_or calls i None ≢ Some call)
      → ((n : Named) → Contains after n ↔ ((n ≡ record { call = call; slot = slot }) ⊎ IsOtherName names call n)) → AreNamed after (set calls slot (Some call))
  named_with call empty alone members n = (
    (λ held. ⊎_elim
        (λ it. own (Some call) n.slot (ap (λ (m : Named). m.slot) it) ∙ ap (λ (c : List ℕ). Some c) (sym (ap (λ (m : Named). m.call) it)))
        (λ other. let at = (named n).0 other.listed in
        away (Some call) n.slot (λ same. let e = old n.slot same in cc) ∙ at)
        ((members n).0 held)),
    (λ is. (members n).1 (⊎_elim
        (λ same. inl (one_named n call slot (let e = own (Some call) n.slot same in cc) same))
        (λ other. let at = sym (away (Some call) n.slot other) ∙ is in
        inr (record { listed = (named n).1 at; other = λ mine. alone n.slot other (at ∙ ap (λ (c : List ℕ). Some c) mine) }))
        (decide n.slot slot))),
  )

-- ---- what is put at a place in the stead of what was there
pub shared : (names : List Named) (slot : ℕ) (old new : Option (List ℕ)) → old ≡ new → IsRenaming names slot old new names
shared names slot old new same = λ calls can named.
    subst (AreNamed names) (sym (set-get_or calls slot None) ∙ ap (set calls slot) (can.was ∙ same)) named

pub come : (names after : List Named) (slot : ℕ) (call : List ℕ)
    → ((n : Named) → Contains after n ↔ ((n ≡ record { call = call; slot = slot }) ⊎ IsOtherName names call n)) → IsRenaming names slot None (Some call) after
come names after slot call members = λ calls can named. named_with names after calls slot can.inside named call can.was can.new_only members

pub gone : (names after : List Named) (slot : ℕ) (call : List ℕ) → ((n : Named) → Contains after n ↔ IsOtherName names call n)
    → IsRenaming names slot (Some call) None after
gone names after slot call members = λ calls can named. named_without names after calls slot can.inside named call can.was can.old_only members

pub in_stead : (names between after : List Named) (slot : ℕ) (old new : List ℕ) → ((n : Named) → Contains between n ↔ IsOtherName names old n)
    → ((n : Named) → Contains after n ↔ ((n ≡ record { call = new; slot = slot }) ⊎ IsOtherName between new n))
    → IsRenaming names slot (Some old) (Some new) after
in_stead names between after slot old new out put = λ calls can named.
    let inside : slot < length (set calls slot None) = omega (arith, length-set calls slot None, can.inside) in
    subst (AreNamed after) (set-set calls slot None (Some new))
    (named_with between after (set calls slot None) slot inside (gone names between slot old out calls (bare calls can) named) new
    (get_or-set_same calls slot None None can.inside)
    (λ i other. λ is. can.new_only i other (sym (get_or-set_other calls slot i None None other) ∙ is)) put) where
      bare : (calls : List (Option (List ℕ))) → CanStand calls slot (Some old) (Some new) → CanStand calls slot (Some old) None
      bare calls can = record { inside = can.inside; was = can.was; old_only = can.old_only; new_only = tt }
