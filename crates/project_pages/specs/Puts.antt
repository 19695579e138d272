-- Entries of a page that are put one after another.
use Rattle.std.specs.Prelude.{ℕ, Bool, true, false, not, if◌then◌else◌, List, [], ◌∷◌, Option, Some, None, codes}
use Rattle.std.specs.List.{list_any}
use Rattle.std.specs.Str.{bytes_eq}
use Rattle.tree_base.specs.Entries.{with_entry}
use Rattle.attribute_types.specs.declared.attribute.Attribute.{Attribute}
use Rattle.attribute_types.specs.declared.rows.Dependency.{Dependency}
use Rattle.attribute_types.specs.declared.rows.Ulimit.{Ulimit}
use Rattle.project_print.specs.declared.node.Node.{Node}
use Rattle.project_print.specs.declared.node.Node.TheVariants.{Word}
use Rattle.typed_project.specs.declared.project.FileItem.{FileItem}
use Rattle.project_pages.specs.AttributePages.{Shown, dependency_entry, file_entry, ulimit_entry, unhashed_names, value_node}

-- entries with a further one, where there is something to show
unfoldable pub with_found : Shown → List ℕ → Option Node → Shown
with_found entries name None = entries
with_found entries name (Some node) = with_entry entries name node

-- a list that isn't empty
abbrev pub any_of : {X : Type 0} → List X → Option (List X)
any_of [] = None
any_of (x ∷ xs) = Some (x ∷ xs)

-- what is shown of a flag that is set
abbrev pub true_node : Bool → Option Node
true_node true = Some (Word (codes "true"))
true_node false = None

-- what is shown of a limit
abbrev pub limit_node : Ulimit → Node
limit_node limit = (ulimit_entry limit).1

-- what is shown of a dependency
abbrev pub need_node : Dependency → Node
need_node need = (dependency_entry need).1

-- what is shown of a secret or a config
abbrev pub file_node : FileItem → Node
file_node item = (file_entry item).1

-- an attribute of this name is hashed
abbrev pub is_hashed_name : List ℕ → Bool
is_hashed_name name = not (list_any (bytes_eq name) unhashed_names)

-- an attribute is hashed
abbrev pub is_hashed : Attribute → Bool
is_hashed attribute = is_hashed_name attribute.name

-- what is hashed of an attribute
abbrev pub hashed_value : Attribute → Option Node
hashed_value attribute = if is_hashed attribute then Some (value_node attribute.value) else None
