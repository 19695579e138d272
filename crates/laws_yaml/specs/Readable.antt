-- Which nodes are read as they are printed, and the trees that they spell, on characters.
use Rattle.std.specs.Prelude.{ℕ, List, [], ◌∷◌, Bool, true, false, not, codes, map, nat_eq, ◌==◌, ◌&&◌, ◌||◌}
use Rattle.std.specs.Char.{is_ascii_alphanumeric}
use Rattle.std.specs.List.{ends_with, list_all, list_any}
use Rattle.std.specs.Map.{keys_of, values_of}
use Rattle.std.specs.Str.{bytes_eq, encode_utf8_all}
use Rattle.project_print.specs.declared.node.Node.{Node, fold-Node}
use Rattle.project_print.specs.declared.node.Node.TheOpen.{Node-F}
use Rattle.project_print.specs.Scalars.{doubled, is_plain_byte}
use Rattle.tree_base.specs.declared.tree.Tree.{Tree}
use Rattle.tree_base.specs.declared.tree.Tree.TheVariants.{Map, Null, Scalar, Seq}
use Rattle.yaml_nodes.specs.Scalars.{is_null_word}

-- the tree that a node spells, where its parts are given by theirs: texts have each dollar twice, as they are printed
abbrev pub tree_step : Node-F Tree → Tree
tree_step Node-F.Null = Null
tree_step (Node-F.Word text) = Scalar (encode_utf8_all text)
tree_step (Node-F.Text text) = Scalar (encode_utf8_all (doubled text))
tree_step (Node-F.Map entries) = Map (map (λ entry. (encode_utf8_all entry.0, entry.1)) entries)
tree_step (Node-F.Seq items) = Seq items

-- the tree that a node spells
abbrev pub spelled_by : Node → Tree
spelled_by = fold-Node Tree tree_step

-- an ASCII letter, a digit or `/` stands in front
abbrev pub begins_word : List ℕ → Bool
begins_word [] = false
begins_word (c ∷ cs) = is_ascii_alphanumeric c || (c == 47)

-- a word without a minus: ASCII letters, digits and `_ - . / :`, in front a letter, a digit or `/`, at the end no colon, and no word for null (YAML 1.2, chapters 7.3.3 and 10.3)
abbrev pub is_unsigned_word : List ℕ → Bool
is_unsigned_word text = begins_word text && (list_all is_plain_byte text && not (ends_with nat_eq text (codes ":") || is_null_word text))

-- a word that is read as it stands: one without a minus, or one behind a minus, as a number below zero is (YAML 1.2, chapter 7.3.3)
abbrev pub is_read_as_word : List ℕ → Bool
is_read_as_word [] = false
is_read_as_word (c ∷ cs) = is_unsigned_word (c ∷ cs) || ((c == 45) && is_unsigned_word cs)

-- no two of some texts are the same
abbrev pub are_distinct : List (List ℕ) → Bool
are_distinct [] = true
are_distinct (text ∷ texts) = not (list_any (bytes_eq text) texts) && are_distinct texts

-- it is so
abbrev pub is_so : Bool → Bool
is_so b = b

-- whether a node is read as it is printed, where its parts are given by whether they are: words are read as they stand, and no two keys of a mapping are spelled alike
abbrev pub readable_step : Node-F Bool → Bool
readable_step Node-F.Null = true
readable_step (Node-F.Word text) = is_read_as_word text
readable_step (Node-F.Text text) = true
readable_step (Node-F.Map entries) = are_distinct (map encode_utf8_all (keys_of entries)) && list_all is_so (values_of entries)
readable_step (Node-F.Seq items) = list_all is_so items

-- whether a node is read as it is printed
abbrev pub is_readable : Node → Bool
is_readable = fold-Node Bool readable_step
