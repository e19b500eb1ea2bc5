-- No public contract names these: they are of private steps and of proofs.
-- Which pages may talk to a server on loopback, by the Origin that their browser sends.
use Rattle.std.specs.Prelude.{◌≡◌, ◌≢◌, ◌⊎◌, ℕ, List, [], ◌∷◌, ◌++◌, All, Option, None, Some, codes}
use Rattle.http_header.specs.FieldValue.{FieldValue}
use Rattle.mt_ws.specs.Beginning.{IsDigit}

-- `IsScheme`, `IsName`: the scheme of a web page; this machine's name
abbrev pub IsScheme : List ℕ → Type 0
IsScheme scheme = (scheme ≡ codes "http://") ⊎ (scheme ≡ codes "https://")

abbrev pub IsName : List ℕ → Type 0
IsName host = (host ≡ codes "127.0.0.1") ⊎ (host ≡ codes "localhost")

-- this machine
abbrev pub IsHost : List ℕ → Type 0
IsHost host = IsName host ⊎ (host ≡ codes "[::1]")

-- none, or a colon and digits
abbrev pub IsPort : List ℕ → Type 0
IsPort port = (port ≡ []) ⊎ ((digits : List ℕ) × (port ≡ 58 ∷ digits) × All IsDigit digits)

-- the text is one of these fronts and then the rest
abbrev pub BeginsWith : (List ℕ → Type 0) → List ℕ → List ℕ → Type 0
BeginsWith IsFront text rest = (front : List ℕ) × IsFront front × (text ≡ front ++ rest)

-- the text begins with none of these fronts
abbrev pub BeginsNot : (List ℕ → Type 0) → List ℕ → Type 0
BeginsNot IsFront text = (front rest : List ℕ) → IsFront front → text ≢ front ++ rest

-- a page of this machine
pub record IsLocalPage (origin : List ℕ) : Type 0 where
  pub scheme : List ℕ
  pub host : List ℕ
  pub port : List ℕ
  pub is_scheme : IsScheme scheme
  pub is_host : IsHost host
  pub is_port : IsPort port
  pub joined : origin ≡ scheme ++ (host ++ port)

-- a request of a page from elsewhere, by its Origin, if it has one
abbrev pub IsForeign : Option FieldValue → Type 0
IsForeign None = ⊥
IsForeign (Some origin) = ¬ IsLocalPage origin.bytes
