-- A node of texts in UTF-8 is one of characters, of which the page is that of the node, in UTF-8.
use Rattle.std.proofs.Common.{◌≡◌, ◌∙◌, ℕ, ◌<◌, ◌&&◌, Bool, true, false, cond, All, ltb, List, [], ◌∷◌, ◌++◌, codes, map, refl, sym, ap, subst, rules, arith}
use Rattle.std.proofs.lemmas.Bool.{and_from, and_parts, lt-ltb}
use Rattle.std.proofs.lemmas.Bool.Decides.{nat_tests}
use Rattle.std.proofs.lemmas.List.{append-nil}
use Rattle.std.proofs.lemmas.List.Elements.{All-cons, All-nil}
use Rattle.std.proofs.lemmas.Str.{IsUtf8-from_is_utf8, chars_from_encodes, encodes-chars}
use Rattle.std.specs.List.{list_all}
use Rattle.std.specs.Map.{keys_of, values_of}
use Rattle.std.specs.Str.{IsUtf8, chars, encode_utf8_all, is_utf8}
use Rattle.project_print.specs.declared.node.Node.{Node, fold-Node, the_lemmas}
use Rattle.project_print.specs.declared.node.Node.TheOpen.{Node-F}
use Rattle.project_print.specs.declared.node.Node.TheVariants.{Map, Null, Seq, Text, Word}
use Rattle.project_print.specs.Pages.{Shown, block, item, shown, word}
use Rattle.project_print.specs.Scalars.{doubled, in_quotes, is_plain, is_plain_byte, scalar}
use Rattle.project_print.proofs.PlainWords.{are_bytes}
use Rattle.tree_base.specs.declared.tree.Tree.{Tree}
use Rattle.tree_base.specs.declared.tree.Tree.TheVariants as trees
use Rattle.laws_yaml.proofs.Bytes.{doubled_bytes, low_same, scalar_bytes}
use Rattle.laws_yaml.proofs.Induction.{OfAll, of_every}
use Rattle.laws_yaml.proofs.Layers.{entry_is, keyed, part_of_entry, part_of_item, rest_of, readable_map, readable_seq, readable_word, shown_map, shown_null, shown_seq, shown_text, shown_word, spelled_entry, spelled_keys, spelled_map, spelled_null, spelled_seq, spelled_text, spelled_word}
use Rattle.laws_yaml.proofs.CleanLines.{AreCleanLines, block_clean, doubled_utf8, entry_clean, item_clean, low_line, plain_line, scalar_line, word_clean}
use Rattle.laws_yaml.proofs.ShownBytes.{block_bytes, entry_bytes, item_bytes, shown_bytes}
use Rattle.laws_yaml.proofs.Spelled.{encoded}
use Rattle.laws_yaml.proofs.Words.{word_bytes}
use Rattle.laws_yaml.specs.Printed.{is_printable, tree_of}
use Rattle.laws_yaml.specs.Readable.{are_distinct, is_read_as_word, is_readable, is_so, spelled_by}

-- a node with the characters of its texts, where its parts are given by theirs
abbrev decoded_step : Node-F Node → Node
decoded_step Node-F.Null = Null
decoded_step (Node-F.Word text) = Word (chars text)
decoded_step (Node-F.Text text) = Text (chars text)
decoded_step (Node-F.Map entries) = Map (map (λ (e : List ℕ × Node). (chars e.0, e.1)) entries)
decoded_step (Node-F.Seq items) = Seq items

-- a node with the characters of its texts
abbrev pub decoded : Node → Node
decoded = fold-Node Node decoded_step

abbrev pub decoded_entry : List ℕ × Node → List ℕ × Node
decoded_entry e = (chars e.0, decoded e.1)

abbrev tree_entry : List ℕ × Node → List ℕ × Tree
tree_entry e = (e.0, tree_of e.1)

pub decoded_null : decoded Null ≡ Null
decoded_null = search (rules, the_lemmas)

pub decoded_word : (text : List ℕ) → decoded (Word text) ≡ Word (chars text)
decoded_word text = search (rules, the_lemmas)

pub decoded_text : (text : List ℕ) → decoded (Text text) ≡ Text (chars text)
decoded_text text = search (rules, the_lemmas)

decoded_map_at : (es : List (List ℕ × Node)) → decoded (Map es) ≡ Map (map (λ (e : List ℕ × Node). (chars e.0, e.1)) (map (λ (e : List ℕ × Node). (e.0, decoded e.1)) es))
decoded_map_at es = search (rules, the_lemmas)

entries_decoded : (es : List (List ℕ × Node)) → map (λ (e : List ℕ × Node). (chars e.0, e.1)) (map (λ (e : List ℕ × Node). (e.0, decoded e.1)) es) ≡ map decoded_entry es
entries_decoded [] = refl
entries_decoded (e ∷ es) = ap (λ l. decoded_entry e ∷ l) (entries_decoded es)

pub decoded_map : (es : List (List ℕ × Node)) → decoded (Map es) ≡ Map (map decoded_entry es)
decoded_map es = decoded_map_at es ∙ ap Map (entries_decoded es)

pub decoded_seq : (xs : List Node) → decoded (Seq xs) ≡ Seq (map decoded xs)
decoded_seq xs = search (rules, the_lemmas)

tree_null : tree_of Null ≡ trees.Null
tree_null = search (rules, the_lemmas)

tree_word : (text : List ℕ) → tree_of (Word text) ≡ trees.Scalar text
tree_word text = search (rules, the_lemmas)

tree_text : (text : List ℕ) → tree_of (Text text) ≡ trees.Scalar (doubled text)
tree_text text = search (rules, the_lemmas)

tree_map : (es : List (List ℕ × Node)) → tree_of (Map es) ≡ trees.Map (map tree_entry es)
tree_map es = search (rules, the_lemmas)

tree_seq : (xs : List Node) → tree_of (Seq xs) ≡ trees.Seq (map tree_of xs)
tree_seq xs = search (rules, the_lemmas)

pub readable_null : is_readable Null ≡ true
readable_null = search (rules, the_lemmas)

pub readable_text : (text : List ℕ) → is_readable (Text text) ≡ true
readable_text text = search (rules, the_lemmas)

pub printable_null : is_printable Null ≡ true
printable_null = search (rules, the_lemmas)

pub printable_word : (text : List ℕ) → is_printable (Word text) ≡ is_read_as_word text
printable_word text = search (rules, the_lemmas)

pub printable_text : (text : List ℕ) → is_printable (Text text) ≡ is_utf8 text
printable_text text = search (rules, the_lemmas)

abbrev pub keys_in : List (List ℕ × Node) → List (List ℕ)
keys_in es = map (λ e. e.0) es

abbrev pub printable_in : List (List ℕ × Node) → List Bool
printable_in es = map (λ e. is_printable e.1) es

printable_map_at : (es : List (List ℕ × Node)) → is_printable (Map es)
    ≡ (list_all is_utf8 (keys_of (map (λ (e : List ℕ × Node). (e.0, is_printable e.1)) es))
    && (are_distinct (keys_of (map (λ (e : List ℕ × Node). (e.0, is_printable e.1)) es)) && list_all is_so (values_of (map (λ (e : List ℕ × Node). (e.0, is_printable e.1)) es))))
printable_map_at es = search (rules, the_lemmas)

keys_are : (es : List (List ℕ × Node)) → keys_of (map (λ (e : List ℕ × Node). (e.0, is_printable e.1)) es) ≡ keys_in es
keys_are [] = refl
keys_are (e ∷ es) = ap (λ l. e.0 ∷ l) (keys_are es)

values_are : (es : List (List ℕ × Node)) → values_of (map (λ (e : List ℕ × Node). (e.0, is_printable e.1)) es) ≡ printable_in es
values_are [] = refl
values_are (e ∷ es) = ap (λ l. is_printable e.1 ∷ l) (values_are es)

pub printable_map : (es : List (List ℕ × Node)) → is_printable (Map es) ≡ (list_all is_utf8 (keys_in es) && (are_distinct (keys_in es) && list_all is_so (printable_in es)))
printable_map es = printable_map_at es ∙ (λ i. list_all is_utf8 (keys_are es i) && (are_distinct (keys_are es i) && list_all is_so (values_are es i)))

pub printable_seq : (xs : List Node) → is_printable (Seq xs) ≡ list_all is_so (map is_printable xs)
printable_seq xs = search (rules, the_lemmas)

-- a byte below 128 stands in front, or nothing
abbrev pub begins_low : List ℕ → Bool
begins_low [] = true
begins_low (c ∷ cs) = ltb c 128

-- what is shown of a node is the UTF-8 of what is shown of its characters, which spell its tree
pub record IsDecoded (node : Node) : Type 0 where
  pub readable : is_readable (decoded node) ≡ true
  pub spelled : spelled_by (decoded node) ≡ tree_of node
  pub shows : shown node ≡ shown_bytes (shown (decoded node))
  pub clean : AreCleanLines (shown node)
  pub low : begins_low (shown node).first ≡ true

abbrev Claim : Node → Type 0
Claim node = is_printable node ≡ true → IsDecoded node

of_word : (n m : Node) (text cs : List ℕ) → shown n ≡ word text → shown m ≡ word cs → encode_utf8_all cs ≡ text → shown n ≡ shown_bytes (shown m)
of_word n m text cs e f g = e ∙ ap word (sym g) ∙ ap shown_bytes (sym f)

plain_low : (c : ℕ) → is_plain_byte c ≡ true → ltb c 128 ≡ true
plain_low c byte = lt-ltb c 128 (below c byte)
  where
    below : (c : ℕ) → is_plain_byte c ≡ true → c < 128
    below c byte = grind (arith, nat_tests)

-- a byte below 128 stands in front of plain text
bytes_low : (text rest : List ℕ) → list_all is_plain_byte text ≡ true → begins_low rest ≡ true → begins_low (text ++ rest) ≡ true
bytes_low [] rest plain low = low
bytes_low (c ∷ cs) rest plain low = plain_low c (and_parts (is_plain_byte c) (list_all is_plain_byte cs) plain).0

-- and in front of a text as a page has it
scalar_low : (text rest : List ℕ) → begins_low rest ≡ true → begins_low (scalar text ++ rest) ≡ true
scalar_low text rest low = by (is_plain text) refl
  where
    by : (b : Bool) → is_plain text ≡ b → begins_low (cond b text (in_quotes text) ++ rest) ≡ true
    by true plain = bytes_low text rest (are_bytes text plain) low
    by false quoted = refl

null_decoded : Claim Null
null_decoded printable =
    let low = low_same (codes "null") refl in
    record {
      readable = ap is_readable decoded_null ∙ readable_null;
      spelled = ap spelled_by decoded_null ∙ spelled_null ∙ sym tree_null;
      shows = of_word Null (decoded Null) (codes "null") (codes "null") shown_null (ap shown decoded_null ∙ shown_null) low;
      clean = subst AreCleanLines (sym shown_null) (word_clean (codes "null") (low_line (codes "null") refl refl refl));
      low = ap (λ (s : Shown). begins_low s.first) shown_null;
    }

word_decoded : (text : List ℕ) → Claim (Word text)
word_decoded text printable =
    let reads : is_read_as_word text ≡ true = sym (printable_word text) ∙ printable in
    let clean = plain_line text (word_bytes text reads) in
    let same : chars text ≡ text = sym (chars_from_encodes text text clean.utf8 (encoded text (word_bytes text reads))) in
    record {
      readable = ap is_readable (decoded_word text) ∙ readable_word (chars text) ∙ ap is_read_as_word same ∙ reads;
      spelled = ap spelled_by (decoded_word text) ∙ spelled_word (chars text) ∙ ap trees.Scalar (encodes-chars text clean.utf8) ∙ sym (tree_word text);
      shows = of_word (Word text) (decoded (Word text)) text (chars text) (shown_word text) (ap shown (decoded_word text) ∙ shown_word (chars text)) (encodes-chars text clean.utf8);
      clean = subst AreCleanLines (sym (shown_word text)) (word_clean text clean);
      low = ap (λ (s : Shown). begins_low s.first) (shown_word text) ∙ ap begins_low (sym (append-nil text)) ∙ bytes_low text [] (word_bytes text reads) refl;
    }

text_decoded : (text : List ℕ) → Claim (Text text)
text_decoded text printable =
    let utf8 = IsUtf8-from_is_utf8 text (sym (printable_text text) ∙ printable) in
    let back : encode_utf8_all (doubled (chars text)) ≡ doubled text = doubled_bytes (chars text) ∙ ap doubled (encodes-chars text utf8) in
    record {
      readable = ap is_readable (decoded_text text) ∙ readable_text (chars text);
      spelled = ap spelled_by (decoded_text text) ∙ spelled_text (chars text) ∙ ap trees.Scalar back ∙ sym (tree_text text);
      shows = of_word (Text text) (decoded (Text text)) (scalar (doubled text)) (scalar (doubled (chars text))) (shown_text text) (ap shown (decoded_text text) ∙ shown_text (chars text)) (scalar_bytes (doubled (chars text)) ∙ ap scalar back);
      clean = subst AreCleanLines (sym (shown_text text)) (word_clean (scalar (doubled text)) (scalar_line (doubled text) (doubled_utf8 text utf8)));
      low = ap (λ (s : Shown). begins_low s.first) (shown_text text) ∙ ap begins_low (sym (append-nil (scalar (doubled text)))) ∙ scalar_low (doubled text) [] refl;
    }

-- what is shown of two nodes or more, by their parts
of_block : (n m : Node) (empty : List ℕ) (parts others : List Shown) → shown n ≡ block empty parts → shown m ≡ block empty others → encode_utf8_all empty ≡ empty → parts ≡ map shown_bytes others → shown n ≡ shown_bytes (shown m)
of_block n m empty parts others e f low same = e ∙ (λ i. block (sym low i) (same i)) ∙ block_bytes empty others ∙ ap shown_bytes (sym f)

-- the entries of a mapping
record AreDecoded (es : List (List ℕ × Node)) : Type 0 where
  readable : list_all is_so (map (λ (e : List ℕ × Node). is_readable e.1) (map decoded_entry es)) ≡ true
  keys : spelled_keys (map decoded_entry es) ≡ keys_in es
  spelled : map spelled_entry (map decoded_entry es) ≡ map tree_entry es
  shows : map part_of_entry es ≡ map shown_bytes (map part_of_entry (map decoded_entry es))
  clean : All AreCleanLines (map part_of_entry es)

part_bytes : (key : List ℕ) (value other : Shown) → IsUtf8 key → value ≡ shown_bytes other → keyed key value ≡ shown_bytes (keyed (chars key) other)
part_bytes key value other utf8 same =
    (λ i. keyed (sym (encodes-chars key utf8) i) (same i))
    ∙ sym (entry_is (encode_utf8_all (chars key)) (shown_bytes other)) ∙ entry_bytes (chars key) other ∙ ap shown_bytes (entry_is (chars key) other)

entries_are : (es : List (List ℕ × Node)) → OfAll (λ (e : List ℕ × Node). Claim e.1) es → list_all is_utf8 (keys_in es) ≡ true → list_all is_so (printable_in es) ≡ true → AreDecoded es
entries_are [] claims utf8 printable = record { readable = refl; keys = refl; spelled = refl; shows = refl; clean = All-nil AreCleanLines }
entries_are (e ∷ es) claims utf8 printable =
    let texts = and_parts (is_utf8 e.0) (list_all is_utf8 (keys_in es)) utf8 in
    let values = and_parts (is_printable e.1) (list_all is_so (printable_in es)) printable in
    let key = IsUtf8-from_is_utf8 e.0 texts.0 in
    let one = claims.0 values.0 in
    let more = entries_are es claims.1 texts.1 values.1 in
    record {
      readable = and_from (is_readable (decoded e.1)) (list_all is_so (map (λ (e : List ℕ × Node). is_readable e.1) (map decoded_entry es))) one.readable more.readable;
      keys = λ i. encodes-chars e.0 key i ∷ more.keys i;
      spelled = λ i. (encodes-chars e.0 key i, one.spelled i) ∷ more.spelled i;
      shows = λ i. part_bytes e.0 (shown e.1) (shown (decoded e.1)) key one.shows i ∷ more.shows i;
      clean = All-cons AreCleanLines (part_of_entry e) (map part_of_entry es) (subst AreCleanLines (entry_is e.0 (shown e.1)) (entry_clean e.0 (shown e.1) key one.clean)) more.clean;
    }

low_of_map : (es : List (List ℕ × Node)) → begins_low (block (codes "{}") (map part_of_entry es)).first ≡ true
low_of_map [] = refl
low_of_map (e ∷ es) = scalar_low e.0 (58 ∷ rest_of (shown e.1)) refl

map_decoded : (es : List (List ℕ × Node)) → OfAll (λ (e : List ℕ × Node). Claim e.1) es → Claim (Map es)
map_decoded es claims printable =
    let all = and_parts (list_all is_utf8 (keys_in es)) (are_distinct (keys_in es) && list_all is_so (printable_in es)) (sym (printable_map es) ∙ printable) in
    let rest = and_parts (are_distinct (keys_in es)) (list_all is_so (printable_in es)) all.1 in
    let are = entries_are es claims all.0 rest.1 in
    let empty = low_same (codes "{}") refl in
    record {
      readable = ap is_readable (decoded_map es) ∙ readable_map (map decoded_entry es)
          ∙ and_from (are_distinct (spelled_keys (map decoded_entry es))) (list_all is_so (map (λ (e : List ℕ × Node). is_readable e.1) (map decoded_entry es))) (ap are_distinct are.keys ∙ rest.0) are.readable;
      spelled = ap spelled_by (decoded_map es) ∙ spelled_map (map decoded_entry es) ∙ ap trees.Map are.spelled ∙ sym (tree_map es);
      shows = of_block (Map es) (decoded (Map es)) (codes "{}") (map part_of_entry es) (map part_of_entry (map decoded_entry es)) (shown_map es) (ap shown (decoded_map es) ∙ shown_map (map decoded_entry es)) empty are.shows;
      clean = subst AreCleanLines (sym (shown_map es)) (block_clean (codes "{}") (map part_of_entry es) (low_line (codes "{}") refl refl refl) are.clean);
      low = ap (λ (s : Shown). begins_low s.first) (shown_map es) ∙ low_of_map es;
    }

-- the items of a sequence
record ItemsDecoded (xs : List Node) : Type 0 where
  readable : list_all is_so (map is_readable (map decoded xs)) ≡ true
  spelled : map spelled_by (map decoded xs) ≡ map tree_of xs
  shows : map part_of_item xs ≡ map shown_bytes (map part_of_item (map decoded xs))
  clean : All AreCleanLines (map part_of_item xs)

items_are : (xs : List Node) → OfAll Claim xs → list_all is_so (map is_printable xs) ≡ true → ItemsDecoded xs
items_are [] claims printable = record { readable = refl; spelled = refl; shows = refl; clean = All-nil AreCleanLines }
items_are (x ∷ xs) claims printable =
    let values = and_parts (is_printable x) (list_all is_so (map is_printable xs)) printable in
    let one = claims.0 values.0 in
    let more = items_are xs claims.1 values.1 in
    record {
      readable = and_from (is_readable (decoded x)) (list_all is_so (map is_readable (map decoded xs))) one.readable more.readable;
      spelled = λ i. one.spelled i ∷ more.spelled i;
      shows = λ i. (ap item one.shows ∙ item_bytes (shown (decoded x))) i ∷ more.shows i;
      clean = All-cons AreCleanLines (part_of_item x) (map part_of_item xs) (item_clean (shown x) one.clean) more.clean;
    }

low_of_seq : (xs : List Node) → begins_low (block (codes "[]") (map part_of_item xs)).first ≡ true
low_of_seq [] = refl
low_of_seq (x ∷ xs) = refl

seq_decoded : (xs : List Node) → OfAll Claim xs → Claim (Seq xs)
seq_decoded xs claims printable =
    let are = items_are xs claims (sym (printable_seq xs) ∙ printable) in
    let empty = low_same (codes "[]") refl in
    record {
      readable = ap is_readable (decoded_seq xs) ∙ readable_seq (map decoded xs) ∙ are.readable;
      spelled = ap spelled_by (decoded_seq xs) ∙ spelled_seq (map decoded xs) ∙ ap trees.Seq are.spelled ∙ sym (tree_seq xs);
      shows = of_block (Seq xs) (decoded (Seq xs)) (codes "[]") (map part_of_item xs) (map part_of_item (map decoded xs)) (shown_seq xs) (ap shown (decoded_seq xs) ∙ shown_seq (map decoded xs)) empty are.shows;
      clean = subst AreCleanLines (sym (shown_seq xs)) (block_clean (codes "[]") (map part_of_item xs) (low_line (codes "[]") refl refl refl) are.clean);
      low = ap (λ (s : Shown). begins_low s.first) (shown_seq xs) ∙ low_of_seq xs;
    }

pub is_decoded : (node : Node) → is_printable node ≡ true → IsDecoded node
is_decoded = of_every Claim null_decoded word_decoded text_decoded map_decoded seq_decoded
