-- What stands in a mapping of a file: texts, lists of texts, and names in byte order.
use Rattle.std.specs.Prelude.{ℕ, List, [], ◌∷◌, Option, Some, None}
use Rattle.std.specs.List.{flat_map}
use Rattle.std.specs.Map.{keys_of}
use Rattle.std.specs.Option.{option_and_then, option_to_list}
use Rattle.file_paths.specs.Resolving.{Entries}
use Rattle.tree_base.specs.ByteOrder.{by_key}
use Rattle.tree_base.specs.Entries.{value_at}
use Rattle.tree_base.specs.declared.Tree.{Tree, out-Tree}
use Rattle.tree_base.specs.declared.Tree.TheOpen.{Tree-F}

-- the text of a scalar
abbrev pub text_of : Tree-F Tree → Option (List ℕ)
text_of (Tree-F.Scalar text) = Some text
text_of tree = None

-- the text under a key
abbrev pub text_at : Entries → List ℕ → Option (List ℕ)
text_at entries key = option_and_then (λ tree. text_of (out-Tree tree)) (value_at entries key)

-- the texts among the items of a sequence
abbrev pub item_texts : List Tree → List (List ℕ)
item_texts items = flat_map (λ item. option_to_list (text_of (out-Tree item))) items

-- a text, or the texts of a sequence
abbrev pub texts_of : Tree-F Tree → Option (List (List ℕ))
texts_of (Tree-F.Scalar text) = Some (text ∷ [])
texts_of (Tree-F.Seq items) = Some (item_texts items)
texts_of tree = None

-- the text or the texts under a key
abbrev pub texts_at : Entries → List ℕ → Option (List (List ℕ))
texts_at entries key = option_and_then (λ tree. texts_of (out-Tree tree)) (value_at entries key)

-- the names of a mapping in byte order
abbrev pub names_of : Entries → List (List ℕ)
names_of entries = by_key (λ name. name) (keys_of entries)
