-- What the words of a command line ask for.
use Rattle.std.specs.Prelude.{ℕ, ◌≤◌, ⊤, ◌==◌, Bool, true, false, ◌&&◌, if◌then◌else◌, nat_lt, List, [], ◌∷◌, length, codes, Option, Some, None, option_map, unwrap_or, is_some}
use Rattle.std.specs.Int.{is_in_range}
use Rattle.std.specs.List.{after_first, before_first, position_or_len}
use Rattle.std.specs.Str.{all_ascii_digits, bytes_eq}
use Rattle.std.specs.Str.Parse.{digits_value}
use Rattle.mt_args.specs.declared.task.Task.{Task}
use Rattle.mt_args.specs.declared.task.Task.TheVariants.{Load, Replay, Serve, Standby}

-- a number of 1 to 10 digits within bounds
abbrev pub number_in : ℕ → ℕ → List ℕ → Option ℕ
number_in low high text =
    if is_in_range 1 10 (length text) && (all_ascii_digits text && is_in_range low high (digits_value 10 text))
    then Some (digits_value 10 text) else None

-- an option's name, with its dashes, and its value
pub record CommandOption : Type 0 where
  pub name : List ℕ
  pub value : List ℕ

-- `is_sign`, `has_sign`, `parted`: a word's first `=`, and its two sides
abbrev pub is_sign : ℕ → Bool
is_sign byte = byte == 61

abbrev pub has_sign : List ℕ → Bool
has_sign word = nat_lt (position_or_len is_sign word) (length word)

abbrev pub parted : List ℕ → CommandOption
parted word = record { name = before_first is_sign word; value = after_first is_sign word }

-- an option before others, where these are well spelled
abbrev pub before : CommandOption → Option (List CommandOption) → Option (List CommandOption)
before first others = option_map (λ more. first ∷ more) others

-- words as options, `name=value` or two words. Nothing, where a value is missing.
abbrev pub options_of : List (List ℕ) → Option (List CommandOption)
options_of [] = Some []
options_of (word ∷ []) = if has_sign word then Some (parted word ∷ []) else None
options_of (word ∷ next ∷ words) =
    if has_sign word then before (parted word) (options_of (next ∷ words))
    else before (record { name = word; value = next }) (options_of words)

-- the number of an option set at most once
abbrev pub once : Bool → ℕ → ℕ → List ℕ → Option ℕ
once true low high value = None
once false low high value = number_in low high value

-- `ServeOptions`, `LoadOptions`: what is set for `serve`, and for `load`
pub record ServeOptions : Type 0 where
  pub port : Option ℕ
  pub sessions : Option ℕ
  pub workers : Option ℕ

pub record LoadOptions : Type 0 where
  pub flights : Option ℕ
  pub number : Option ℕ

-- the options of `serve`: port 1 to 65,535, sessions 1 to 64, workers 0 to 8. There is no other.
abbrev pub serving_with : ServeOptions → CommandOption → Option ServeOptions
serving_with set s =
    if bytes_eq s.name (codes "--port")
    then option_map (λ port. record set { port = Some port }) (once (is_some set.port) 1 65535 s.value)
    else (if bytes_eq s.name (codes "--sessions")
    then option_map (λ sessions. record set { sessions = Some sessions }) (once (is_some set.sessions) 1 64 s.value)
    else (if bytes_eq s.name (codes "--workers")
    then option_map (λ workers. record set { workers = Some workers }) (once (is_some set.workers) 0 8 s.value)
    else None))

-- the options of `load`: flights 1 to 1,024, a number of 32 bits. Its input is made from the number. There is no other option.
abbrev pub loading_with : LoadOptions → CommandOption → Option LoadOptions
loading_with set s =
    if bytes_eq s.name (codes "--flights")
    then option_map (λ flights. record set { flights = Some flights }) (once (is_some set.flights) 1 1024 s.value)
    else (if bytes_eq s.name (codes "--number")
    then option_map (λ number. record set { number = Some number }) (once (is_some set.number) 0 4294967295 s.value)
    else None)

-- `and_then`, `all_set`, `set_by`: a step after a value that is there; all options set; those of some words
abbrev pub and_then : {A B : Type 0} → Option A → (A → Option B) → Option B
and_then None next = None
and_then (Some x) next = next x

-- all options set, in any order
module _ {S : Type 0} (with : S → CommandOption → Option S) where
  abbrev pub all_set : S → List CommandOption → Option S
  all_set set [] = Some set
  all_set set (s ∷ more) = and_then (with set s) (λ next. all_set next more)

  abbrev pub set_by : S → List (List ℕ) → Option S
  set_by set words = and_then (options_of words) (all_set set)

-- `serve_task`, `load_task`: defaults: port 7700, 16 sessions, 2 workers; 40 flights, number 1
abbrev pub serve_task : ServeOptions → Task
serve_task set = Serve (unwrap_or set.port 7700) (unwrap_or set.sessions 16) (unwrap_or set.workers 2)

abbrev pub load_task : LoadOptions → Task
load_task set = Load (unwrap_or set.flights 40) (unwrap_or set.number 1)

-- `no_serving`, `no_loading`: nothing is set at first
abbrev pub no_serving : ServeOptions
no_serving = record { port = None; sessions = None; workers = None }

abbrev pub no_loading : LoadOptions
no_loading = record { flights = None; number = None }

-- a word that stands alone
abbrev pub alone : Task → List (List ℕ) → Option Task
alone task words = if length words == 0 then Some task else None

-- what the command line asks for: `replay`, `standby`, `serve` or `load` with options. The first two stand alone. Nothing else is read.
abbrev pub task_of : List (List ℕ) → Option Task
task_of [] = None
task_of (command ∷ words) =
    if bytes_eq command (codes "replay") then alone Replay words
    else (if bytes_eq command (codes "standby") then alone Standby words
    else (if bytes_eq command (codes "serve") then option_map serve_task (set_by serving_with no_serving words)
    else (if bytes_eq command (codes "load") then option_map load_task (set_by loading_with no_loading words)
    else None)))

-- `IsFlights`, `AreFewSessions`, `AreFewWorkers`, `IsBoundedTask`: 1 to 1,024 flights; at most 64 sessions and 8 workers
abbrev pub IsFlights : ℕ → Type 0
IsFlights flights = (1 ≤ flights) × (flights ≤ 1024)

abbrev pub AreFewSessions : ℕ → Type 0
AreFewSessions sessions = sessions ≤ 64

abbrev pub AreFewWorkers : ℕ → Type 0
AreFewWorkers workers = workers ≤ 8

abbrev pub IsBoundedTask : Task → Type 0
IsBoundedTask (Load flights number) = IsFlights flights
IsBoundedTask (Serve port sessions workers) = AreFewSessions sessions × AreFewWorkers workers
IsBoundedTask Replay = ⊤
IsBoundedTask Standby = ⊤
