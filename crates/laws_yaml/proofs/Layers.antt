-- A node by its parts: what is shown of it, the tree that it spells, and whether it is readable.
use Rattle.std.proofs.Common.{◌≡◌, ◌∙◌, ℕ, List, [], ◌∷◌, ◌++◌, ◌&&◌, Bool, true, false, cond, codes, map, refl, sym, ap, subst, rules}
use Rattle.std.specs.List.{list_all}
use Rattle.std.specs.Map.{keys_of, values_of}
use Rattle.std.specs.Str.{encode_utf8_all}
use Rattle.project_print.specs.declared.node.Node.{Node, out-Node, roll-Node, roll-out-Node, the_lemmas}
use Rattle.project_print.specs.declared.node.Node.TheOpen.{Node-F}
use Rattle.project_print.specs.declared.node.Node.TheVariants.{Map, Null, Seq, Text, Word, rolls-Map, rolls-Null, rolls-Seq, rolls-Text, rolls-Word}
use Rattle.project_print.specs.Pages.{Shown, block, deeper, entry, item, lines_of, shown, word}
use Rattle.project_print.specs.Scalars.{doubled, scalar}
use Rattle.tree_base.specs.declared.tree.Tree.{Tree}
use Rattle.tree_base.specs.declared.tree.Tree.TheVariants as trees
use Rattle.laws_yaml.specs.Readable.{are_distinct, is_read_as_word, is_readable, is_so, spelled_by}

-- what holds of each kind of node holds of every node
pub of_each : (P : Node → Type 0) → P Null → ((text : List ℕ) → P (Word text)) → ((text : List ℕ) → P (Text text)) → ((entries : List (List ℕ × Node)) → P (Map entries)) → ((items : List Node) → P (Seq items))
    → (node : Node) → P node
of_each P of_null of_word of_text of_map of_seq node = subst P (roll-out-Node node) (by (out-Node node))
  where
    by : (layer : Node-F Node) → P (roll-Node layer)
    by Node-F.Null = subst P (sym rolls-Null) of_null
    by (Node-F.Word cs) = subst P (sym (rolls-Word cs)) (of_word cs)
    by (Node-F.Text cs) = subst P (sym (rolls-Text cs)) (of_text cs)
    by (Node-F.Map entries) = subst P (sym (rolls-Map entries)) (of_map entries)
    by (Node-F.Seq items) = subst P (sym (rolls-Seq items)) (of_seq items)

-- an entry as it is spelled
abbrev pub spelled_entry : List ℕ × Node → List ℕ × Tree
spelled_entry entry = (encode_utf8_all entry.0, spelled_by entry.1)

-- what stands behind the colon of a key, and the lines below it, which are two deeper than it
abbrev pub rest_of : Shown → List ℕ
rest_of value = cond value.is_block [] (32 ∷ value.first)

abbrev pub more_of : Shown → List (List ℕ)
more_of value = cond value.is_block (lines_of value) value.more

-- what is shown of an entry
abbrev pub keyed : List ℕ → Shown → Shown
keyed key value = record { is_block = true; first = scalar key ++ 58 ∷ rest_of value; more = map deeper (more_of value) }

pub entry_is : (key : List ℕ) (value : Shown) → entry (key, value) ≡ keyed key value
entry_is key value = by value.is_block
  where
    by : (b : Bool)
        → cond {A = Shown} b (record { is_block = true; first = scalar key ++ codes ":"; more = map deeper (lines_of value) }) (record { is_block = true; first = scalar key ++ (codes ": " ++ value.first); more = map deeper value.more })
        ≡ record { is_block = true; first = scalar key ++ 58 ∷ cond b [] (32 ∷ value.first); more = map deeper (cond b (lines_of value) value.more) }
    by true = refl
    by false = refl

abbrev pub part_of_entry : List ℕ × Node → Shown
part_of_entry e = keyed e.0 (shown e.1)

abbrev pub part_of_item : Node → Shown
part_of_item node = item (shown node)

map_map : {X Y Z : Type 0} (g : Y → Z) (f : X → Y) (xs : List X) → map g (map f xs) ≡ map (λ x. g (f x)) xs
map_map g f [] = refl
map_map g f (x ∷ xs) = ap (λ l. g (f x) ∷ l) (map_map g f xs)

pub shown_null : shown Null ≡ word (codes "null")
shown_null = search (rules, the_lemmas)

pub spelled_null : spelled_by Null ≡ trees.Null
spelled_null = search (rules, the_lemmas)

pub shown_word : (text : List ℕ) → shown (Word text) ≡ word text
shown_word text = search (rules, the_lemmas)

pub spelled_word : (text : List ℕ) → spelled_by (Word text) ≡ trees.Scalar (encode_utf8_all text)
spelled_word text = search (rules, the_lemmas)

pub readable_word : (text : List ℕ) → is_readable (Word text) ≡ is_read_as_word text
readable_word text = search (rules, the_lemmas)

pub shown_text : (text : List ℕ) → shown (Text text) ≡ word (scalar (doubled text))
shown_text text = search (rules, the_lemmas)

pub spelled_text : (text : List ℕ) → spelled_by (Text text) ≡ trees.Scalar (encode_utf8_all (doubled text))
spelled_text text = search (rules, the_lemmas)

shown_map_at : (entries : List (List ℕ × Node)) → shown (Map entries) ≡ block (codes "{}") (map entry (map (λ (e : List ℕ × Node). (e.0, shown e.1)) entries))
shown_map_at entries = search (rules, the_lemmas)

entries_are : (entries : List (List ℕ × Node)) → map entry (map (λ (e : List ℕ × Node). (e.0, shown e.1)) entries) ≡ map part_of_entry entries
entries_are [] = refl
entries_are (e ∷ entries) = λ i. entry_is e.0 (shown e.1) i ∷ entries_are entries i

pub shown_map : (entries : List (List ℕ × Node)) → shown (Map entries) ≡ block (codes "{}") (map part_of_entry entries)
shown_map entries = shown_map_at entries ∙ ap (block (codes "{}")) (entries_are entries)

spelled_map_at : (entries : List (List ℕ × Node)) → spelled_by (Map entries) ≡ trees.Map (map (λ (e : List ℕ × Tree). (encode_utf8_all e.0, e.1)) (map (λ (e : List ℕ × Node). (e.0, spelled_by e.1)) entries))
spelled_map_at entries = search (rules, the_lemmas)

pub spelled_map : (entries : List (List ℕ × Node)) → spelled_by (Map entries) ≡ trees.Map (map spelled_entry entries)
spelled_map entries = spelled_map_at entries ∙ ap trees.Map (map_map (λ (e : List ℕ × Tree). (encode_utf8_all e.0, e.1)) (λ (e : List ℕ × Node). (e.0, spelled_by e.1)) entries)

-- the keys of entries, as they are spelled
abbrev pub spelled_keys : List (List ℕ × Node) → List (List ℕ)
spelled_keys entries = map (λ e. encode_utf8_all e.0) entries

keys_are : (entries : List (List ℕ × Node)) → map encode_utf8_all (keys_of (map (λ (e : List ℕ × Node). (e.0, is_readable e.1)) entries)) ≡ spelled_keys entries
keys_are [] = refl
keys_are (e ∷ entries) = ap (λ l. encode_utf8_all e.0 ∷ l) (keys_are entries)

values_are : (entries : List (List ℕ × Node)) → values_of (map (λ (e : List ℕ × Node). (e.0, is_readable e.1)) entries) ≡ map (λ e. is_readable e.1) entries
values_are [] = refl
values_are (e ∷ entries) = ap (λ l. is_readable e.1 ∷ l) (values_are entries)

readable_map_at : (entries : List (List ℕ × Node)) → is_readable (Map entries)
    ≡ (are_distinct (map encode_utf8_all (keys_of (map (λ (e : List ℕ × Node). (e.0, is_readable e.1)) entries))) && list_all is_so (values_of (map (λ (e : List ℕ × Node). (e.0, is_readable e.1)) entries)))
readable_map_at entries = search (rules, the_lemmas)

pub readable_map : (entries : List (List ℕ × Node)) → is_readable (Map entries) ≡ (are_distinct (spelled_keys entries) && list_all is_so (map (λ e. is_readable e.1) entries))
readable_map entries = readable_map_at entries ∙ (λ i. are_distinct (keys_are entries i) && list_all is_so (values_are entries i))

pub shown_seq : (items : List Node) → shown (Seq items) ≡ block (codes "[]") (map part_of_item items)
shown_seq items = shown_seq_at items ∙ ap (block (codes "[]")) (map_map item shown items)
  where
    shown_seq_at : (items : List Node) → shown (Seq items) ≡ block (codes "[]") (map item (map shown items))
    shown_seq_at items = search (rules, the_lemmas)

pub spelled_seq : (items : List Node) → spelled_by (Seq items) ≡ trees.Seq (map spelled_by items)
spelled_seq items = search (rules, the_lemmas)

pub readable_seq : (items : List Node) → is_readable (Seq items) ≡ list_all is_so (map is_readable items)
readable_seq items = search (rules, the_lemmas)
