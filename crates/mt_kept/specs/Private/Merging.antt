-- No public contract names these: they are of private steps and of proofs.
-- Lists of conflicts in the order of publishing: one without those that are hidden and with those that are shown.
use Rattle.std.specs.Prelude.{◌≡◌, ℕ, ◌+◌, ◌≤◌, ◌↔◌, ◌⊎◌, List, ◌++◌, length, take, drop, Contains, AllPairs}
use Rattle.std.specs.declared.cmp.Ordering.TheVariants.{Less}
use Rattle.mt_base.specs.declared.conflict.Conflict.{Conflict}
use Rattle.mt_base.specs.Picture.{conflict_cmp}

-- `ComesBefore`, `Rise`, `LieBefore`: one conflict comes before another; each of a list before those after it; each before each of another list
abbrev pub ComesBefore : Conflict → Conflict → Type 0
ComesBefore x y = conflict_cmp x y ≡ Less

abbrev pub Rise : List Conflict → Type 0
Rise xs = AllPairs ComesBefore xs

abbrev pub LieBefore : List Conflict → List Conflict → Type 0
LieBefore xs ys = (x y : Conflict) → Contains xs x → Contains ys y → ComesBefore x y

-- a list without a conflict, in two parts: what comes before it and what comes after
pub record IsParted (x : Conflict) (list before after : List Conflict) : Type 0 where
  pub first : (c : Conflict) → Contains before c → ComesBefore c x
  pub second : (c : Conflict) → Contains after c → ComesBefore x c
  pub before_rise : Rise before
  pub after_rise : Rise after
  pub across : LieBefore before after
  pub parts : (c : Conflict) → (Contains before c ⊎ Contains after c) → Contains list c
  pub whole : (c : Conflict) → Contains list c → Contains before c ⊎ ((x ≡ c) ⊎ Contains after c)
  pub short : length before + length after ≤ length list

-- how far the hidden ones are left out of a list. The first n of them are, what of the list comes before the n-th is kept, in order, and the rest of
-- the list.
pub record AreLeaving (list hidden : List Conflict) (n : ℕ) (kept rest : List Conflict) : Type 0 where
  pub rise : Rise kept
  pub rest_rise : Rise rest
  pub before : LieBefore kept rest
  pub ahead : LieBefore kept (drop n hidden)
  pub exact : (c : Conflict) → (Contains kept c ⊎ Contains rest c) ↔ (Contains list c × (¬ Contains (take n hidden) c))

-- the conflicts of a list that aren't hidden were put after others, in order
pub record AreOthersAdded (list hidden old new : List Conflict) : Type 0 where
  pub added : List Conflict
  pub is : new ≡ old ++ added
  pub rise : Rise added
  pub exact : (c : Conflict) → Contains added c ↔ (Contains list c × (¬ Contains hidden c))

-- how far a list is made anew. What of it isn't hidden and comes before the n-th of the shown ones, and the first n of these, in order; the rest of the
-- list, and of the hidden ones.
pub record AreMerging (list hidden shown : List Conflict) (n : ℕ) (merged rest gone : List Conflict) : Type 0 where
  pub rise : Rise merged
  pub rest_rise : Rise rest
  pub gone_rise : Rise gone
  pub before : LieBefore merged rest
  pub ahead : LieBefore merged (drop n shown)
  pub exact : (c : Conflict) → (Contains merged c ⊎ (Contains rest c × (¬ Contains gone c)))
      ↔ ((Contains list c × (¬ Contains hidden c)) ⊎ Contains (take n shown) c)
