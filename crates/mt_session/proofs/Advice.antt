-- Advice, one probe more at a time.
use Rattle.std.proofs.Common.{◌≡◌, ℕ, List, [], ◌∷◌, ◌++◌, length, refl, ap, arith}
use Rattle.mt_base.specs.Tally.{raised}
use Rattle.mt_board.specs.Probing.{ToldProbe}
use Rattle.mt_write.specs.declared.reply.AdviceItem.{AdviceItem}
use Rattle.mt_session.specs.Served.{probe_items_from}

-- the number of the last of some probes
abbrev pub number_after : ℕ → List ToldProbe → ℕ
number_after count [] = count
number_after count (p ∷ ps) = number_after (raised count) ps

pub number_more : (count : ℕ) (ps : List ToldProbe) (p : ToldProbe) → number_after count (ps ++ p ∷ []) ≡ raised (number_after count ps)
number_more count [] p = refl
number_more count (q ∷ ps) p = number_more (raised count) ps p

pub item_more : (count : ℕ) (ps : List ToldProbe) (p : ToldProbe)
    → probe_items_from count (ps ++ p ∷ []) ≡ probe_items_from count ps ++ record { clearance = p.clearance; probe = raised (number_after count ps) } ∷ []
item_more count [] p = refl
item_more count (q ∷ ps) p = ap (λ (is : List AdviceItem). record { clearance = q.clearance; probe = raised count } ∷ is) (item_more (raised count) ps p)

pub items_length : (count : ℕ) (ps : List ToldProbe) → length (probe_items_from count ps) ≡ length ps
items_length count [] = refl
items_length count (p ∷ ps) = let rest = items_length (raised count) ps in omega (arith, rest)
