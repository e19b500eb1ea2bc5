-- Lists that a reply carries in the room that was taken for it.
use Rattle.std.specs.Prelude.{◌≡◌, ◌≤◌, ℕ, true, List, length, All}
use Rattle.mt_base.specs.declared.hit.Hit.{Hit}
use Rattle.mt_base.specs.Name.{is_name}

-- at most 1,023 hits, of callsigns
pub record AreShortHits (hits : List Hit) : Type 0 where
  pub few : length hits ≤ 1023
  pub named : All (λ (hit : Hit). is_name 1 7 hit.with ≡ true) hits

-- at most 1,024 callsigns
pub record AreFewCalls (calls : List (List ℕ)) : Type 0 where
  pub few : length calls ≤ 1024
  pub named : All (λ call. is_name 1 7 call ≡ true) calls
