-- The value of a variable: the Compose Specification's order, in which the caller's environment comes before env files.
use Rattle.std.specs.Prelude.{◌≡◌, ℕ, List, Option, Some, None}
use Rattle.tree_base.specs.Entries.{value_at, with_entry}

-- variables as the list of their names and values
abbrev pub Entries : Type 0
Entries = List (List ℕ × List ℕ)

-- the first value, else the second
abbrev pub or_else : Option (List ℕ) → Option (List ℕ) → Option (List ℕ)
or_else (Some value) other = Some value
or_else None other = other

-- the value of a variable: the caller's, else that of the last env file line with that key, where it has one
abbrev pub value : Entries → Entries → List ℕ → Option (List ℕ)
value caller file name = or_else (value_at caller name) (value_at file name)

-- one list of variables that sees the caller's and then those of env files
abbrev pub Sees : Entries → Entries → Entries → Type 0
Sees caller file seen = (name : List ℕ) → value_at seen name ≡ value caller file name

-- a list of variables with one more, unless the caller has a value for it
abbrev pub beneath : Option (List ℕ) → Entries → List ℕ → List ℕ → Entries
beneath (Some other) seen key value = seen
beneath None seen key value = with_entry seen key value
