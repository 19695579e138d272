-- What entries and items give, one after another, or the first refusal with its path.
use Rattle.std.specs.Prelude.{ℕ, ◌+◌, Bool, true, false, List, [], ◌∷◌, ◌++◌, Option, Some, None, Result, Ok, min, take, codes, is_some, not, filter, if◌then◌else◌}
use Rattle.std.specs.List.{list_any}
use Rattle.std.specs.Str.{bytes_eq}
use Rattle.tree_base.specs.Limits.{greatest_place}
use Rattle.tree_base.specs.Answers.{◌>>=◌}
use Rattle.tree_base.specs.ByteOrder.{by_key}
use Rattle.tree_base.specs.Entries.{value_at}
use Rattle.tree_base.specs.declared.Step.TheVariants.{Key, Index}
use Rattle.tree_base.specs.declared.Tree.{Tree, Null, out-Tree}
use Rattle.tree_base.specs.declared.Tree.TheOpen.{Tree-F}
use Rattle.attribute_types.specs.Answers.{under}
use Rattle.attribute_types.specs.declared.refusal.AttributeRefusal.{AttributeRefusal}

-- what is read, or why it isn't
abbrev pub Read : Type 0 → Type 0
Read X = Result X AttributeRefusal

-- the entries of a mapping
abbrev pub Entries : Type 0
Entries = List (List ℕ × Tree)

-- entries in byte order of their keys
abbrev pub in_byte_order : Entries → Entries
in_byte_order = by_key (λ entry. entry.0)

-- a name is one of some
abbrev pub is_in : List (List ℕ) → List ℕ → Bool
is_in names name = list_any (bytes_eq name) names

-- a key that extends a file, which is passed over (Compose Specification, extensions)
abbrev pub is_extension : List ℕ → Bool
is_extension key = bytes_eq (take 2 key) (codes "x-")

-- the entries whose keys extend nothing
abbrev pub own_entries : Entries → Entries
own_entries entries = filter (λ entry. not (is_extension entry.0)) entries

-- what the entries give, in their order, each under its key
abbrev pub each_entry : {X : Type 0} → (List ℕ → Tree → Read (List X)) → Entries → Read (List X)
each_entry read [] = Ok []
each_entry read (entry ∷ entries) =
    under (Key entry.0) (read entry.0 entry.1) >>= λ found.
    each_entry read entries >>= λ more. Ok (found ++ more)

-- a place as a number of 32 bits, or the greatest of these
abbrev pub place : ℕ → ℕ
place at = min at greatest_place

-- what the items give, each under its place, which are counted from a number
abbrev pub each_item : {X : Type 0} → (Tree → Read X) → ℕ → List Tree → Read (List X)
each_item read at [] = Ok []
each_item read at (item ∷ items) =
    under (Index (place at)) (read item) >>= λ found.
    each_item read (at + 1) items >>= λ more. Ok (found ∷ more)

-- null
abbrev pub is_null : Tree-F Tree → Bool
is_null Tree-F.Null = true
is_null tree = false

-- something stands at a tree that may not be there
abbrev pub is_given : Option Tree → Bool
is_given None = false
is_given (Some tree) = not (is_null (out-Tree tree))

-- something stands under a key; null doesn't
abbrev pub is_there : Entries → List ℕ → Bool
is_there entries key = is_given (value_at entries key)

-- the entries, with null under each of some names that has nothing
abbrev pub with_wanting : List (List ℕ) → Entries → Entries
with_wanting [] entries = entries
with_wanting (name ∷ names) entries =
    with_wanting names
    (if is_some (value_at entries name) then entries else entries ++ (name, Null) ∷ [])
