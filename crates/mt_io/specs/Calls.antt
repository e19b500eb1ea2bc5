-- The calls on an object in memory, counted from 1.
use Rattle.std.specs.Prelude.{◌≡◌, ◌<◌, ◌≤◌, ℕ, ◌+◌, ◌-◌, ◌^◌, min, List, Contains, MatchResult}
use Rattle.std.specs.declared.result.Result.{Result}

-- the calls to fail, the calls made, and those failed. Both counts stay at 2^64 - 1 once they are there.
pub record FaultPlan : Type 0 where
  pub listed : List ℕ
  pub made : ℕ
  pub failed : ℕ

-- these calls are to fail; none is made yet
abbrev pub listing : List ℕ → FaultPlan
listing listed = record { listed = listed; made = 0; failed = 0 }

-- the next call is to fail
abbrev pub IsNextListed : FaultPlan → Type 0
IsNextListed calls = Contains calls.listed (calls.made + 1)

-- one more, up to 2^64 - 1
abbrev pub one_call_more : ℕ → ℕ
one_call_more count = min (count + 1) (2 ^ 64 - 1)

-- `one_more`, `with_failure`, `one_failed`: one more call made, one more failed, both
abbrev pub one_more : FaultPlan → FaultPlan
one_more calls = record calls { made = one_call_more calls.made }

abbrev pub with_failure : FaultPlan → FaultPlan
with_failure calls = record calls { failed = one_call_more calls.failed }

abbrev pub one_failed : FaultPlan → FaultPlan
one_failed calls = with_failure (one_more calls)

-- one more call is made, counted failed where it fails
abbrev pub CountsCall : {T E : Type 0} → FaultPlan → FaultPlan → Result T E → Type 0
CountsCall old new result = MatchResult result (λ _. new ≡ one_more old) (λ _. new ≡ one_failed old)

-- no call made since is one that is to fail
abbrev pub AreUnlisted : FaultPlan → FaultPlan → Type 0
AreUnlisted old new = (n : ℕ) → old.made < n → n ≤ new.made → ¬ Contains old.listed n

-- the same calls are to fail, and neither count fell
pub record GoOn (old new : FaultPlan) : Type 0 where
  pub same : new.listed ≡ old.listed
  pub more : old.made ≤ new.made
  pub later : old.failed ≤ new.failed
