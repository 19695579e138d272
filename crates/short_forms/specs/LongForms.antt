-- Long forms as trees: mappings with a text under each key (Compose Specification, long syntax).
use Rattle.std.specs.Prelude.{ℕ, List, ◌∷◌, Option, None, Some}
use Rattle.std.specs.Option.{option_and_then}
use Rattle.tree_base.specs.Entries.{value_at}
use Rattle.tree_base.specs.declared.tree.Tree.{Tree, out-Tree}
use Rattle.tree_base.specs.declared.tree.Tree.TheOpen.{Tree-F}
use Rattle.tree_base.specs.declared.tree.Tree.TheVariants.{Scalar}

-- the entries of a mapping
abbrev pub Entries : Type 0
Entries = List (List ℕ × Tree)

-- an entry with a text, where there is one
abbrev pub with_text : List ℕ → Option (List ℕ) → Entries → Entries
with_text key None more = more
with_text key (Some text) more = (key, Scalar text) ∷ more

-- the text of a scalar
abbrev pub scalar_text : Tree-F Tree → Option (List ℕ)
scalar_text (Tree-F.Scalar text) = Some text
scalar_text tree = None

-- the text under a key
abbrev pub text_under : List ℕ → Entries → Option (List ℕ)
text_under key entries = option_and_then (λ tree. scalar_text (out-Tree tree)) (value_at entries key)

-- the entries where a tree is a mapping
abbrev pub map_entries : Tree-F Tree → Option Entries
map_entries (Tree-F.Map entries) = Some entries
map_entries tree = None

-- the entries of a tree, which has to be a mapping
abbrev pub entries_of : Tree → Option Entries
entries_of tree = map_entries (out-Tree tree)
