-- What a dial may answer, and what a closed connection leaves.
use Rattle.std.specs.Prelude.{◌≡◌, ℕ, zero, suc, ◌+◌, List, [], ◌∷◌, ◌++◌, Option, Some, None}
use Rattle.outside_files.specs.Counts.{Rose}
use Rattle.outside_api.specs.Pipes.{Talk}
use Rattle.outside_api.specs.declared.wire.DialAnswer.{DialAnswer}

-- a dial that succeeds is counted by one, and one that fails counts a fault
abbrev pub Dials : {T : Type 0} → ℕ → ℕ → ℕ → ℕ → DialAnswer T → Type 0
Dials old_faults new_faults old new (DialAnswer.Dialled x) = new ≡ old + 1
Dials old_faults new_faults old new DialAnswer.Failed = Rose old_faults new_faults × (new ≡ old)
Dials old_faults new_faults old new DialAnswer.Memory = new ≡ old

-- the past grew by what was said on a connection, where both are told
abbrev pub GrewByTalk : Option (List Talk) → Option Talk → Option (List Talk) → Type 0
GrewByTalk (Some old) (Some talk) new = new ≡ Some (old ++ talk ∷ [])
GrewByTalk old talk new = new ≡ None

-- a count rose exactly where that of the connection is above 0
abbrev pub RoseBy : ℕ → ℕ → ℕ → Type 0
RoseBy zero old new = new ≡ old
RoseBy (suc n) old new = Rose old new
