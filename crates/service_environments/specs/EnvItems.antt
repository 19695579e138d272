-- The env files that a service names (the Compose Specification, `env_file`).
use Rattle.std.specs.Prelude.{ℕ, List, [], ◌∷◌, Bool, true, false, not, codes}
use Rattle.std.specs.List.{flat_map, list_any}
use Rattle.std.specs.Option.{option_map, option_map_or, option_to_list}
use Rattle.std.specs.Str.{bytes_eq, str_to_ascii_lowercase}
use Rattle.file_paths.specs.Resolving.{Entries}
use Rattle.loaded_files.specs.Fields.{text_at}
use Rattle.service_environments.specs.declared.env_item.EnvItem.{EnvItem}
use Rattle.tree_base.specs.Entries.{value_at}
use Rattle.tree_base.specs.declared.Tree.{Tree, out-Tree}
use Rattle.tree_base.specs.declared.Tree.TheOpen.{Tree-F}

-- the words that say no, in any case
abbrev pub no_words : List (List ℕ)
no_words = codes "false" ∷ codes "no" ∷ codes "off" ∷ codes "n" ∷ []

-- a text that says no
abbrev pub says_no : List ℕ → Bool
says_no text = list_any (bytes_eq (str_to_ascii_lowercase text)) no_words

-- a file has to be there, unless `required` says no
abbrev pub is_required : Entries → Bool
is_required fields = not (option_map_or says_no (text_at fields (codes "required")) false)

-- an env file at a path, which has to be there or may be missing
abbrev pub item_at : Bool → List ℕ → EnvItem
item_at required path = record { path = path; required = required }

-- an env file in its long form
abbrev pub item_with : Entries → List EnvItem
item_with fields =
    option_to_list (option_map (item_at (is_required fields)) (text_at fields (codes "path")))

-- an item of `env_file`: a path, or a path and whether the file has to be there
abbrev pub env_item : Tree-F Tree → List EnvItem
env_item (Tree-F.Scalar path) = item_at true path ∷ []
env_item (Tree-F.Map fields) = item_with fields
env_item tree = []

-- what `env_file` names, in order: a text alone, or the items of a sequence
abbrev pub env_items : Tree-F Tree → List EnvItem
env_items (Tree-F.Scalar path) = env_item (Tree-F.Scalar path)
env_items (Tree-F.Seq items) = flat_map (λ item. env_item (out-Tree item)) items
env_items tree = []

-- the env files of a service, in order
abbrev pub items_of : Entries → List EnvItem
items_of service =
    option_map_or (λ tree. env_items (out-Tree tree)) (value_at service (codes "env_file")) []
