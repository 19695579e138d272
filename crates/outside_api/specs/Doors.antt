-- What a door counts, and what is told of one that was taken back.
use Rattle.std.specs.Prelude.{◌≡◌, ℕ, zero, suc, ◌+◌, List, [], ◌∷◌, ◌++◌, Option, Some, None, IfSome}
use Rattle.outside_api.specs.Pipes.{Talk}

-- a door that was just opened: it took no connection, and counted nothing
abbrev pub IsNewDoor : Option (List Talk) → ℕ → ℕ → ℕ → Type 0
IsNewDoor past dialled torn faults =
    IfSome past (λ talks. talks ≡ []) × (dialled ≡ 0) × (torn ≡ 0) × (faults ≡ 0)

-- the count of torn connections after one with so many faults was closed: one more where it has any
abbrev pub CountsTorn : ℕ → ℕ → ℕ → Type 0
CountsTorn zero old new = new ≡ old
CountsTorn (suc n) old new = new ≡ old + 1

-- what a door received: what was said on its connections that were closed, and how many of these had a fault
pub record Received : Type 0 where
  pub past : List Talk
  pub torn : ℕ

-- what doors received grew by what one did, where both are told
abbrev pub GrewByDoor : Option (List Received) → Option (List Talk) → ℕ → Option (List Received) → Type 0
GrewByDoor (Some old) (Some past) torn new = new ≡ Some (old ++ record { past = past; torn = torn } ∷ [])
GrewByDoor old past torn new = new ≡ None
