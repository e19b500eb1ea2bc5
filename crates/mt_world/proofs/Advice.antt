-- Advice in a reply and in a book.
use Rattle.std.proofs.Common.{◌≡◌, ℕ, List, [], ◌∷◌, ◌++◌, length, map, refl, sym, ◌∙◌, ap, arith}
use Rattle.std.proofs.lemmas.List.{length-map}
use Rattle.mt_base.specs.declared.clearance.Clearance.{Clearance}
use Rattle.mt_base.specs.Tally.{raised}
use Rattle.mt_board.specs.Probing.{ToldProbe, free_probe}
use Rattle.mt_probe.specs.Hits.{Trial, told_of}
use Rattle.mt_write.specs.declared.reply.AdviceItem.{AdviceItem}
use Rattle.mt_world.specs.Private.Sound.{clearances_of}
use Rattle.mt_world.specs.World.{items_from}

-- the number of the last of some clearances
abbrev pub number_after : ℕ → List Clearance → ℕ
number_after count [] = count
number_after count (c ∷ cs) = number_after (raised count) cs

pub number_more : (count : ℕ) (cs : List Clearance) (c : Clearance) → number_after count (cs ++ c ∷ []) ≡ raised (number_after count cs)
number_more count [] c = refl
number_more count (d ∷ cs) c = number_more (raised count) cs c

pub item_more : (count : ℕ) (cs : List Clearance) (c : Clearance)
    → items_from count (cs ++ c ∷ []) ≡ items_from count cs ++ record { clearance = c; probe = raised (number_after count cs) } ∷ []
item_more count [] c = refl
item_more count (d ∷ cs) c = ap (λ (is : List AdviceItem). record { clearance = d; probe = raised count } ∷ is) (item_more (raised count) cs c)

pub items_length : (count : ℕ) (cs : List Clearance) → length (items_from count cs) ≡ length cs
items_length count [] = refl
items_length count (c ∷ cs) = let rest = items_length (raised count) cs in omega (arith, rest)

-- what free probes are told to have tried
told_clearances : (ps : List Trial) → map (λ (p : ToldProbe). p.clearance) (map told_of ps) ≡ clearances_of ps
told_clearances [] = refl
told_clearances (p ∷ ps) = ap (λ (cs : List Clearance). p.clearance ∷ cs) (told_clearances ps)

free_clearances : (call : List ℕ) (eff version : ℕ) (cs : List Clearance) → map (λ (p : ToldProbe). p.clearance) (map (free_probe call eff version) cs) ≡ cs
free_clearances call eff version [] = refl
free_clearances call eff version (c ∷ cs) = ap (λ (ds : List Clearance). c ∷ ds) (free_clearances call eff version cs)

pub tried_are : (ps : List Trial) (call : List ℕ) (eff version : ℕ) (cs : List Clearance) → map told_of ps ≡ map (free_probe call eff version) cs → clearances_of ps ≡ cs
tried_are ps call eff version cs told =
    sym (told_clearances ps) ∙ ap (map (λ (p : ToldProbe). p.clearance)) told ∙ free_clearances call eff version cs

pub tried_length : (ps : List Trial) → length (clearances_of ps) ≡ length ps
tried_length ps = length-map ps (λ (p : Trial). p.clearance)
