-- Attributes in their short and in their long forms.
use Rattle.std.specs.Prelude.{◌≡◌, ℕ, List, [], ◌∷◌, Ok}
use Rattle.tree_base.specs.Entries.{with_entry}
use Rattle.tree_base.specs.declared.Tree.{Tree, out-Tree, Map, Null}
use Rattle.merge_tables.specs.Parts.{entries_in, field}
use Rattle.long_forms.specs.LongForms.{long_forms}

-- a tree with an attribute at a path of keys; what is no mapping on the way becomes one
abbrev pub with_attribute : List (List ℕ) → Tree → Tree → Tree
with_attribute [] attribute tree = attribute
with_attribute (key ∷ path) attribute tree =
    let entries = entries_in (out-Tree tree) in
    Map (with_entry entries key (with_attribute path attribute (field entries key)))

-- a file of one attribute alone, and the same with the attribute's long form
abbrev pub IsLongFormAt : List (List ℕ) → Tree → Tree → Type 0
IsLongFormAt path short long =
    long_forms (with_attribute path short Null) ≡ Ok (with_attribute path long Null)

-- every file has the same long forms, or is refused alike, whether an attribute stands there in its short or in its long form
abbrev pub FormsAreFree : Type 0
FormsAreFree =
    (path : List (List ℕ)) (short long tree : Tree) → IsLongFormAt path short long
    → long_forms (with_attribute path long tree) ≡ long_forms (with_attribute path short tree)
