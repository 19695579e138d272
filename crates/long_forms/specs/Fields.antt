-- Entries that are written field by field.
use Rattle.std.specs.Prelude.{ℕ, List, [], ◌∷◌, Option, Some, None, codes}
use Rattle.tree_base.specs.Entries.{with_entry}
use Rattle.tree_base.specs.declared.Tree.{Tree, Scalar, Map}

-- the entries with a text under a name, where there is one
abbrev pub with_given : List (List ℕ × Tree) → List ℕ → Option (List ℕ) → List (List ℕ × Tree)
with_given entries name None = entries
with_given entries name (Some text) = with_entry entries name (Scalar text)

-- the entries with a label for SELinux under `bind`, where there is one
abbrev pub with_labelled : List (List ℕ × Tree) → Option (List ℕ) → List (List ℕ × Tree)
with_labelled entries None = entries
with_labelled entries (Some label) = with_entry entries (codes "bind") (Map ((codes "selinux", Scalar label) ∷ []))
