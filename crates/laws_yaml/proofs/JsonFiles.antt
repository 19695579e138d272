-- A file that is the JSON of a node, byte for byte, is read as the node's tree.
use Rattle.std.proofs.Common.{◌≡◌, ◌∙◌, ℕ, ◌&&◌, true, All, ltb, List, [], ◌∷◌, ◌++◌, Ok, codes, flat_map, map, refl, sym, ap, subst, append-nil, rules}
use Rattle.std.proofs.lemmas.Bool.{and_from, and_parts, lt-ltb}
use Rattle.std.proofs.lemmas.List.Elements.{All-cons, All-head, All-nil, All-tail}
use Rattle.std.proofs.lemmas.Str.{IsUtf8-from_is_utf8, chars_from_encodes, encodes-append, encodes-chars}
use Rattle.std.specs.List.{list_all}
use Rattle.std.specs.Str.{chars, encode_utf8_all, is_utf8}
use Rattle.json.specs.Print.{quoted}
use Rattle.project_print.specs.declared.node.Node.{Node, the_lemmas}
use Rattle.project_print.specs.declared.node.Node.TheVariants.{Map, Null, Seq, Text, Word}
use Rattle.project_print.specs.Scalars.{doubled, is_plain_byte}
use Rattle.tree_base.specs.declared.tree.Tree.{Tree}
use Rattle.tree_base.specs.declared.tree.Tree.TheVariants as trees
use Rattle.laws_yaml.specs.BlockLaws.{IsWithinLimits}
use Rattle.yaml_lines.specs.declared.lines.Lines.{Lines}
use Rattle.yaml_lines.specs.Scan.{numbered, scan_of}
use Rattle.yaml_nodes.specs.Progress.{◌>>=◌}
use Rattle.yaml_tree.specs.Reading.{reading}
use Rattle.laws_yaml.specs.Readable.{are_distinct, is_read_as_word, is_readable, is_so, spelled_by}
use Rattle.laws_yaml.proofs.PlainRuns.{byte_below}
use Rattle.laws_yaml.proofs.Spelled.{encoded}
use Rattle.laws_yaml.proofs.Words.{word_bytes}
use Rattle.laws_yaml.proofs.Induction.{OfAll, of_every}
use Rattle.laws_yaml.proofs.Layers.{readable_map, readable_seq, readable_word, spelled_entry, spelled_keys, spelled_map, spelled_null, spelled_seq, spelled_text, spelled_word}
use Rattle.laws_yaml.proofs.Bytes.{doubled_bytes, low_same}
use Rattle.laws_yaml.proofs.CleanLines.{doubled_utf8, joined_line, low_line, plain_line}
use Rattle.laws_yaml.proofs.Decoded.{begins_low, decoded, decoded_entry, decoded_map, decoded_null, decoded_seq, decoded_text, decoded_word, keys_in, printable_in, printable_map, printable_seq, printable_text, printable_word, readable_null, readable_text}
use Rattle.laws_yaml.proofs.PrintedPages.{no_mark}
use Rattle.laws_yaml.proofs.PrintedPages as pages
use Rattle.laws_yaml.proofs.Scanned.{IsCleanLine, chars_are, scan_is}
use Rattle.laws_yaml.proofs.ShownBytes.{low_before}
use Rattle.laws_yaml.specs.Printed.{is_printable, tree_of}
use Rattle.laws_yaml.proofs.Commas.{behind_comma, joined}
use Rattle.laws_yaml.proofs.JsonBytes.{string_bytes, string_line}
use Rattle.laws_yaml.proofs.JsonLines.{read_back}
use Rattle.laws_yaml.proofs.JsonTrees.{json_text, map_text, member_of, null_text, seq_text, text_text, word_text}
use Rattle.laws_yaml.specs.JsonLaws.{PagesAndJsonAgree, PrintedJsonReadsBack}

-- the JSON of a node is the UTF-8 of that of the node of characters, which spells the node's tree, on one clean line
record IsJsonOf (node : Node) : Type 0 where
  readable : is_readable (decoded node) ≡ true
  spelled : spelled_by (decoded node) ≡ tree_of node
  same : encode_utf8_all (json_text (decoded node)) ≡ json_text node
  clean : IsCleanLine (json_text node)
  low : begins_low (json_text node) ≡ true

abbrev Claim : Node → Type 0
Claim node = is_printable node ≡ true → IsJsonOf node

abbrev tree_entry : List ℕ × Node → List ℕ × Tree
tree_entry e = (e.0, tree_of e.1)

tree_null : tree_of Null ≡ trees.Null
tree_null = search (rules, the_lemmas)

tree_word : (text : List ℕ) → tree_of (Word text) ≡ trees.Scalar text
tree_word text = search (rules, the_lemmas)

tree_text : (text : List ℕ) → tree_of (Text text) ≡ trees.Scalar (doubled text)
tree_text text = search (rules, the_lemmas)

tree_map : (es : List (List ℕ × Node)) → tree_of (Map es) ≡ trees.Map (map tree_entry es)
tree_map es = search (rules, the_lemmas)

tree_seq : (xs : List Node) → tree_of (Seq xs) ≡ trees.Seq (map tree_of xs)
tree_seq xs = search (rules, the_lemmas)

null_is : Claim Null
null_is printable = record {
  readable = ap is_readable decoded_null ∙ readable_null;
  spelled = ap spelled_by decoded_null ∙ spelled_null ∙ sym tree_null;
  same = ap (λ n. encode_utf8_all (json_text n)) decoded_null ∙ ap encode_utf8_all null_text ∙ low_same (codes "null") refl ∙ sym null_text;
  clean = subst IsCleanLine (sym null_text) (low_line (codes "null") refl refl refl);
  low = ap begins_low null_text;
}

plain_low : (c : ℕ) → is_plain_byte c ≡ true → ltb c 128 ≡ true
plain_low c byte = lt-ltb c 128 (byte_below c byte)

-- a byte below 128 stands in front of plain text
bytes_low : (text : List ℕ) → list_all is_plain_byte text ≡ true → begins_low text ≡ true
bytes_low [] plain = refl
bytes_low (c ∷ cs) plain = plain_low c (and_parts (is_plain_byte c) (list_all is_plain_byte cs) plain).0

-- a word is itself
word_is : (text : List ℕ) → Claim (Word text)
word_is text printable =
    let reads : is_read_as_word text ≡ true = sym (printable_word text) ∙ printable in
    let bytes = word_bytes text reads in
    let clean = plain_line text bytes in
    let same : chars text ≡ text = sym (chars_from_encodes text text clean.utf8 (encoded text bytes)) in
    record {
      readable = ap is_readable (decoded_word text) ∙ readable_word (chars text) ∙ ap is_read_as_word same ∙ reads;
      spelled = ap spelled_by (decoded_word text) ∙ spelled_word (chars text) ∙ ap trees.Scalar (encodes-chars text clean.utf8) ∙ sym (tree_word text);
      same = ap (λ n. encode_utf8_all (json_text n)) (decoded_word text) ∙ ap encode_utf8_all (word_text (chars text)) ∙ encodes-chars text clean.utf8 ∙ sym (word_text text);
      clean = subst IsCleanLine (sym (word_text text)) clean;
      low = ap begins_low (word_text text) ∙ bytes_low text bytes;
    }

-- a text is a string
text_is : (text : List ℕ) → Claim (Text text)
text_is text printable =
    let utf8 = IsUtf8-from_is_utf8 text (sym (printable_text text) ∙ printable) in
    let back : encode_utf8_all (doubled (chars text)) ≡ doubled text = doubled_bytes (chars text) ∙ ap doubled (encodes-chars text utf8) in
    record {
      readable = ap is_readable (decoded_text text) ∙ readable_text (chars text);
      spelled = ap spelled_by (decoded_text text) ∙ spelled_text (chars text) ∙ ap trees.Scalar back ∙ sym (tree_text text);
      same = ap (λ n. encode_utf8_all (json_text n)) (decoded_text text)
          ∙ ap encode_utf8_all (text_text (chars text))
          ∙ string_bytes (doubled (chars text)) ∙ ap quoted back
          ∙ sym (text_text text);
      clean = subst IsCleanLine (sym (text_text text)) (string_line (doubled text) (doubled_utf8 text utf8));
      low = ap begins_low (text_text text);
    }

-- a member, whose key is a string
member_bytes : (key value : List ℕ)
    → encode_utf8_all (quoted key ++ 58 ∷ value) ≡ quoted (encode_utf8_all key) ++ 58 ∷ encode_utf8_all value
member_bytes key value = encodes-append (quoted key) (58 ∷ value) ∙ (λ i. string_bytes key i ++ low_before (58 ∷ []) value refl i)

-- parts with a comma between each two, in UTF-8
behind_bytes : (ps : List (List ℕ))
    → encode_utf8_all (flat_map behind_comma ps) ≡ flat_map behind_comma (map encode_utf8_all ps)
behind_bytes [] = refl
behind_bytes (p ∷ ps) = encodes-append (44 ∷ p) (flat_map behind_comma ps) ∙ (λ i. low_before (44 ∷ []) p refl i ++ behind_bytes ps i)

joined_bytes : (ps : List (List ℕ)) → encode_utf8_all (joined ps) ≡ joined (map encode_utf8_all ps)
joined_bytes [] = refl
joined_bytes (p ∷ ps) = encodes-append p (flat_map behind_comma ps) ∙ ap (λ l. encode_utf8_all p ++ l) (behind_bytes ps)

behind_clean : (ps : List (List ℕ)) → All IsCleanLine ps → IsCleanLine (flat_map behind_comma ps)
behind_clean [] all = low_line [] refl refl refl
behind_clean (p ∷ ps) all =
    joined_line (44 ∷ p) (flat_map behind_comma ps) (joined_line (44 ∷ []) p (low_line (44 ∷ []) refl refl refl) (All-head IsCleanLine p ps all)) (behind_clean ps (All-tail IsCleanLine p ps all))

joined_clean : (ps : List (List ℕ)) → All IsCleanLine ps → IsCleanLine (joined ps)
joined_clean [] all = low_line [] refl refl refl
joined_clean (p ∷ ps) all = joined_line p (flat_map behind_comma ps) (All-head IsCleanLine p ps all) (behind_clean ps (All-tail IsCleanLine p ps all))

-- a collection, by its parts
module _ (opens closes : ℕ) (low : encode_utf8_all (opens ∷ []) ≡ opens ∷ []) (end : encode_utf8_all (closes ∷ []) ≡ closes ∷ []) where
  collection_bytes : (others parts : List (List ℕ)) → map encode_utf8_all others ≡ parts
      → encode_utf8_all (opens ∷ (joined others ++ closes ∷ [])) ≡ opens ∷ (joined parts ++ closes ∷ [])
  collection_bytes others parts are =
      encodes-append (opens ∷ []) (joined others ++ closes ∷ [])
      ∙ (λ i. low i ++ encodes-append (joined others) (closes ∷ []) i)
      ∙ (λ i. opens ∷ (joined_bytes others i ++ end i))
      ∙ ap (λ l. opens ∷ (joined l ++ closes ∷ [])) are

  collection_clean : IsCleanLine (opens ∷ []) → IsCleanLine (closes ∷ []) → (parts : List (List ℕ))
      → All IsCleanLine parts → IsCleanLine (opens ∷ (joined parts ++ closes ∷ []))
  collection_clean first last parts all = joined_line (opens ∷ []) (joined parts ++ closes ∷ []) first (joined_line (joined parts) (closes ∷ []) (joined_clean parts all) last)

record AreMembers (es : List (List ℕ × Node)) : Type 0 where
  readable : list_all is_so (map (λ (e : List ℕ × Node). is_readable e.1) (map decoded_entry es)) ≡ true
  keys : spelled_keys (map decoded_entry es) ≡ keys_in es
  spelled : map spelled_entry (map decoded_entry es) ≡ map tree_entry es
  same : map encode_utf8_all (map member_of (map decoded_entry es)) ≡ map member_of es
  clean : All IsCleanLine (map member_of es)

record AreItems (xs : List Node) : Type 0 where
  readable : list_all is_so (map is_readable (map decoded xs)) ≡ true
  spelled : map spelled_by (map decoded xs) ≡ map tree_of xs
  same : map encode_utf8_all (map json_text (map decoded xs)) ≡ map json_text xs
  clean : All IsCleanLine (map json_text xs)

entries_are : (es : List (List ℕ × Node)) → OfAll (λ (e : List ℕ × Node). Claim e.1) es
    → list_all is_utf8 (keys_in es) ≡ true → list_all is_so (printable_in es) ≡ true
    → AreMembers es
entries_are [] claims utf8 printable = record { readable = refl; keys = refl; spelled = refl; same = refl; clean = All-nil IsCleanLine }
entries_are (e ∷ es) claims utf8 printable =
    let texts = and_parts (is_utf8 e.0) (list_all is_utf8 (keys_in es)) utf8 in
    let values = and_parts (is_printable e.1) (list_all is_so (printable_in es)) printable in
    let key = IsUtf8-from_is_utf8 e.0 texts.0 in
    let one = claims.0 values.0 in
    let more = entries_are es claims.1 texts.1 values.1 in
    record {
      readable = and_from (is_readable (decoded e.1)) (list_all is_so (map (λ (e : List ℕ × Node). is_readable e.1) (map decoded_entry es))) one.readable more.readable;
      keys = λ i. encodes-chars e.0 key i ∷ more.keys i;
      spelled = λ i. (encodes-chars e.0 key i, one.spelled i) ∷ more.spelled i;
      same = λ i. (member_bytes (chars e.0) (json_text (decoded e.1)) ∙ (λ j. quoted (encodes-chars e.0 key j) ++ 58 ∷ one.same j)) i ∷ more.same i;
      clean = All-cons IsCleanLine (member_of e) (map member_of es)
          (joined_line (quoted e.0) (58 ∷ json_text e.1) (string_line e.0 key) (joined_line (58 ∷ []) (json_text e.1) (low_line (58 ∷ []) refl refl refl) one.clean)) more.clean;
    }

items_are : (xs : List Node) → OfAll Claim xs → list_all is_so (map is_printable xs) ≡ true
    → AreItems xs
items_are [] claims printable = record { readable = refl; spelled = refl; same = refl; clean = All-nil IsCleanLine }
items_are (x ∷ xs) claims printable =
    let values = and_parts (is_printable x) (list_all is_so (map is_printable xs)) printable in
    let one = claims.0 values.0 in
    let more = items_are xs claims.1 values.1 in
    record {
      readable = and_from (is_readable (decoded x)) (list_all is_so (map is_readable (map decoded xs))) one.readable more.readable;
      spelled = λ i. one.spelled i ∷ more.spelled i;
      same = λ i. one.same i ∷ more.same i;
      clean = All-cons IsCleanLine (json_text x) (map json_text xs) one.clean more.clean;
    }

object_is : (es : List (List ℕ × Node)) → OfAll (λ (e : List ℕ × Node). Claim e.1) es → Claim (Map es)
object_is es claims printable =
    let all = and_parts (list_all is_utf8 (keys_in es)) (are_distinct (keys_in es) && list_all is_so (printable_in es)) (sym (printable_map es) ∙ printable) in
    let rest = and_parts (are_distinct (keys_in es)) (list_all is_so (printable_in es)) all.1 in
    let are = entries_are es claims all.0 rest.1 in
    let opens = low_same (123 ∷ []) refl in
    let ends = low_same (125 ∷ []) refl in
    record {
      readable = ap is_readable (decoded_map es) ∙ readable_map (map decoded_entry es)
          ∙ and_from (are_distinct (spelled_keys (map decoded_entry es))) (list_all is_so (map (λ (e : List ℕ × Node). is_readable e.1) (map decoded_entry es))) (ap are_distinct are.keys ∙ rest.0) are.readable;
      spelled = ap spelled_by (decoded_map es) ∙ spelled_map (map decoded_entry es) ∙ ap trees.Map are.spelled ∙ sym (tree_map es);
      same = ap (λ n. encode_utf8_all (json_text n)) (decoded_map es) ∙ ap encode_utf8_all (map_text (map decoded_entry es)) ∙ collection_bytes 123 125 opens ends (map member_of (map decoded_entry es)) (map member_of es) are.same ∙ sym (map_text es);
      clean = subst IsCleanLine (sym (map_text es)) (collection_clean 123 125 opens ends (low_line (123 ∷ []) refl refl refl) (low_line (125 ∷ []) refl refl refl) (map member_of es) are.clean);
      low = ap begins_low (map_text es);
    }

array_is : (xs : List Node) → OfAll Claim xs → Claim (Seq xs)
array_is xs claims printable =
    let are = items_are xs claims (sym (printable_seq xs) ∙ printable) in
    let opens = low_same (91 ∷ []) refl in
    let ends = low_same (93 ∷ []) refl in
    record {
      readable = ap is_readable (decoded_seq xs) ∙ readable_seq (map decoded xs) ∙ are.readable;
      spelled = ap spelled_by (decoded_seq xs) ∙ spelled_seq (map decoded xs) ∙ ap trees.Seq are.spelled ∙ sym (tree_seq xs);
      same = ap (λ n. encode_utf8_all (json_text n)) (decoded_seq xs) ∙ ap encode_utf8_all (seq_text (map decoded xs)) ∙ collection_bytes 91 93 opens ends (map json_text (map decoded xs)) (map json_text xs) are.same ∙ sym (seq_text xs);
      clean = subst IsCleanLine (sym (seq_text xs)) (collection_clean 91 93 opens ends (low_line (91 ∷ []) refl refl refl) (low_line (93 ∷ []) refl refl refl) (map json_text xs) are.clean);
      low = ap begins_low (seq_text xs);
    }

json_is : (node : Node) → Claim node
json_is =
    of_every Claim null_is word_is text_is object_is array_is

pub printed_back : PrintedJsonReadsBack
printed_back file node printable within =
    let json = json_is node printable in
    let bytes : List (List ℕ) = json_text node ∷ [] in
    let lines : Lines = record { file = file; lines = numbered 1 bytes } in
    let clean = All-cons IsCleanLine (json_text node) [] json.clean (All-nil IsCleanLine) in
    ap (λ text. scan_of file text >>= reading) (sym (append-nil (json_text node ++ codes "\n")))
    ∙ ap (λ r. r >>= reading) (scan_is file bytes clean (no_mark (json_text node) [] json.low))
    ∙ read_back lines (decoded node) json.readable (subst IsWithinLimits (sym json.spelled) within) (chars_are 1 bytes (json_text (decoded node) ∷ []) clean (ap (λ (t : List ℕ). t ∷ []) json.same))
    ∙ ap (λ tree. Ok tree) json.spelled

-- and both are the node's tree
pub printed_agree : PagesAndJsonAgree
printed_agree file node printable within = pages.printed_back file node printable within ∙ sym (printed_back file node printable within)
