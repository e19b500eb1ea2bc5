-- There is one answer to the adding of an area, but that memory may be wanting.
use Rattle.std.proofs.Common.{◌≡◌, List, Result, Ok, Err, refl, arith}
use Rattle.std.specs.Bool.{⊤}
use Rattle.mt_base.specs.declared.area.Area.{Area}
use Rattle.mt_area.specs.declared.area_no.AreaNo.{AreaNo}
use Rattle.mt_area.specs.declared.area_no.AreaNo.TheVariants.{Taken, Shape, Full, Memory}
use Rattle.mt_area.specs.Adding.{IsAnswer}

-- it doesn't say that memory was wanting
abbrev pub IsNoWant : Result ⊤ AreaNo → Type 0
IsNoWant (Err Memory) = ⊥
IsNoWant answer = Unit {0}

pub one_answer : (areas : List Area) (area : Area) (r s : Result ⊤ AreaNo) → IsAnswer areas area r → IsAnswer areas area s → IsNoWant r → IsNoWant s → r ≡ s
one_answer areas area (Ok _) (Ok _) a b x y = refl
one_answer areas area (Ok _) (Err Taken) a b x y = absurd (a.0 b)
one_answer areas area (Ok _) (Err Shape) a b x y = absurd (b.1 a.1)
one_answer areas area (Ok _) (Err Full) a b x y = absurd (omega (arith, a.2, b.2))
one_answer areas area (Err Taken) (Ok _) a b x y = absurd (b.0 a)
one_answer areas area (Err Taken) (Err Taken) a b x y = refl
one_answer areas area (Err Taken) (Err Shape) a b x y = absurd (b.0 a)
one_answer areas area (Err Taken) (Err Full) a b x y = absurd (b.0 a)
one_answer areas area (Err Shape) (Ok _) a b x y = absurd (a.1 b.1)
one_answer areas area (Err Shape) (Err Taken) a b x y = absurd (a.0 b)
one_answer areas area (Err Shape) (Err Shape) a b x y = refl
one_answer areas area (Err Shape) (Err Full) a b x y = absurd (a.1 b.1)
one_answer areas area (Err Full) (Ok _) a b x y = absurd (omega (arith, a.2, b.2))
one_answer areas area (Err Full) (Err Taken) a b x y = absurd (a.0 b)
one_answer areas area (Err Full) (Err Shape) a b x y = absurd (b.1 a.1)
one_answer areas area (Err Full) (Err Full) a b x y = refl
one_answer areas area (Err Memory) s a b x y = absurd x
one_answer areas area r (Err Memory) a b x y = absurd y
