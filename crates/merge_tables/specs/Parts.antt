-- The parts of a tree: its text, its items, its entries and their fields.
use Rattle.std.specs.Prelude.{ℕ, List, [], Option, Some, None, unwrap_or}
use Rattle.tree_base.specs.Entries.{value_at}
use Rattle.tree_base.specs.declared.Tree.{Tree, Null}
use Rattle.tree_base.specs.declared.Tree.TheOpen.{Tree-F}

-- a tree that may not be there, where null is as good as none
abbrev pub or_null : Option Tree → Tree
or_null tree = unwrap_or tree Null

-- a field of an entry
abbrev pub field : List (List ℕ × Tree) → List ℕ → Tree
field entries name = or_null (value_at entries name)

-- the text of a tree that is a scalar
abbrev pub text_in : Tree-F Tree → Option (List ℕ)
text_in (Tree-F.Scalar text) = Some text
text_in other = None

-- the entries of a mapping
abbrev pub entries_in : Tree-F Tree → List (List ℕ × Tree)
entries_in (Tree-F.Map entries) = entries
entries_in other = []

-- the items of a sequence
abbrev pub items_in : Tree-F Tree → List Tree
items_in (Tree-F.Seq items) = items
items_in other = []
