-- A settling is a run of steps: the flights that are due are asked for, each is renewed, and they are asked for once more.
use Rattle.std.specs.Prelude.{◌≡◌, ◌≢◌, ℕ, List, [], ◌∷◌, ◌++◌, All, ◌⊎◌, Result, Ok, Err}
use Rattle.mt_base.specs.declared.command.Command.TheVariants.{Renew}
use Rattle.mt_base.specs.declared.command.Entered.{Entered}
use Rattle.mt_board.specs.declared.ask.Answer.TheVariants as answers
use Rattle.mt_board.specs.declared.ask.Ask.TheVariants as asks
use Rattle.mt_board.specs.declared.no.No.{No}
use Rattle.mt_board.specs.declared.no.No.TheVariants.{Memory}
use Rattle.mt_board.specs.Asking.{IsRead}
use Rattle.mt_board.specs.Changing.{IsChanged}
use Rattle.mt_board.specs.BoardSeat.{BoardSeat, HasLooked}

-- a seat asked to renew some flights in turn, with these answers
abbrev pub AreRenewalsAsked : BoardSeat → List (List ℕ) → List (Result Entered No) → BoardSeat → Type 0
AreRenewalsAsked s [] [] t = t ≡ s
AreRenewalsAsked s (call ∷ calls) (result ∷ results) t = (next : BoardSeat) × IsChanged s (Renew call) result next × AreRenewalsAsked next calls results t
AreRenewalsAsked s calls results t = ⊥

-- no renewal ran out of memory. Each flight was renewed, or refused and passed over.
abbrev pub AreMade : List (Result Entered No) → Type 0
AreMade results = All (λ result. result ≢ Err Memory) results

-- exactly the flights due were renewed, in filing order. Those that are due afterwards, at that version, are answered.
pub record HasSettled (s t : BoardSeat) (left : List (List ℕ)) (version : ℕ) : Type 0 where
  pub calls : List (List ℕ)
  pub was : ℕ
  pub first : BoardSeat
  pub read : IsRead s asks.Due (Ok (answers.Due calls was)) first
  pub results : List (Result Entered No)
  pub last : BoardSeat
  pub renewed : AreRenewalsAsked first calls results last
  pub made : AreMade results
  pub told : IsRead last asks.Due (Ok (answers.Due left version)) t

-- the first of them were renewed before memory ran out
pub record HasSettledInPart (s t : BoardSeat) : Type 0 where
  pub calls : List (List ℕ)
  pub rest : List (List ℕ)
  pub was : ℕ
  pub first : BoardSeat
  pub read : IsRead s asks.Due (Ok (answers.Due (calls ++ rest) was)) first
  pub results : List (Result Entered No)
  pub last : BoardSeat
  pub renewed : AreRenewalsAsked first calls results last
  pub made : AreMade results
  pub looked : HasLooked last t

-- memory ran out: the settling did nothing, or a part. The seat may have seen more.
abbrev pub IsNotSettled : BoardSeat → BoardSeat → Type 0
IsNotSettled s t = HasLooked s t ⊎ HasSettledInPart s t
