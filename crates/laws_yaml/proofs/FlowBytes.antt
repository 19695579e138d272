-- A file that is a node as a flow, byte for byte, is read as the node's tree.
use Rattle.std.proofs.Common.{◌≡◌, ◌∙◌, ℕ, ◌&&◌, true, All, List, [], ◌∷◌, ◌++◌, Ok, codes, flat_map, map, refl, sym, ap, subst, append-nil}
use Rattle.std.proofs.lemmas.Bool.{and_parts}
use Rattle.std.proofs.lemmas.List.Elements.{All-cons, All-head, All-nil, All-tail}
use Rattle.std.proofs.lemmas.Str.{IsUtf8-from_is_utf8, encodes-append, encodes-chars}
use Rattle.std.specs.List.{list_all}
use Rattle.std.specs.Str.{chars, encode_utf8_all, is_utf8}
use Rattle.project_print.specs.declared.node.Node.{Node}
use Rattle.project_print.specs.declared.node.Node.TheVariants.{Map, Null, Seq, Text, Word}
use Rattle.project_print.specs.Pages.{Shown, shown}
use Rattle.project_print.specs.Scalars.{scalar}
use Rattle.laws_yaml.specs.BlockLaws.{IsWithinLimits}
use Rattle.yaml_lines.specs.declared.lines.Lines.{Lines}
use Rattle.yaml_lines.specs.Scan.{numbered, scan_of}
use Rattle.yaml_nodes.specs.Progress.{◌>>=◌}
use Rattle.yaml_tree.specs.Reading.{reading}
use Rattle.laws_yaml.specs.Readable.{are_distinct, is_so}
use Rattle.laws_yaml.proofs.Induction.{OfAll, of_every}
use Rattle.laws_yaml.proofs.Layers.{shown_null, shown_text, shown_word}
use Rattle.laws_yaml.proofs.Bytes.{low_same}
use Rattle.laws_yaml.proofs.CleanLines.{joined_line, low_line, scalar_line}
use Rattle.laws_yaml.proofs.Decoded.{IsDecoded, begins_low, decoded, decoded_entry, decoded_map, decoded_null, decoded_seq, decoded_text, decoded_word, is_decoded, keys_in, printable_in, printable_map, printable_seq}
use Rattle.laws_yaml.proofs.PrintedPages.{no_mark}
use Rattle.laws_yaml.proofs.PrintedPages as pages
use Rattle.laws_yaml.proofs.Scanned.{IsCleanLine, chars_are, scan_is}
use Rattle.laws_yaml.proofs.ShownBytes.{key_bytes, low_before}
use Rattle.laws_yaml.specs.Printed.{is_printable}
use Rattle.laws_yaml.proofs.FlowLines.{read_back}
use Rattle.laws_yaml.proofs.FlowTrees.{map_text, null_text, pair_of, seq_text, text_text, word_text}
use Rattle.laws_yaml.specs.Flows.{behind_comma, flow_text, separated}
use Rattle.laws_yaml.specs.FlowLaws.{PrintedBlocksAndFlowsAgree, PrintedFlowsReadBack}

-- a node as a flow is the UTF-8 of the node of characters as a flow, on one clean line
record IsFlowOf (node : Node) : Type 0 where
  same : encode_utf8_all (flow_text (decoded node)) ≡ flow_text node
  clean : IsCleanLine (flow_text node)
  low : begins_low (flow_text node) ≡ true

abbrev Claim : Node → Type 0
Claim node = is_printable node ≡ true → IsFlowOf node

-- a scalar is a flow as a page has it
scalar_of : (node other : Node) → decoded node ≡ other → flow_text node ≡ (shown node).first
    → flow_text other ≡ (shown other).first → IsDecoded node → IsFlowOf node
scalar_of node other e f g is = record {
  same = ap (λ n. encode_utf8_all (flow_text n)) e ∙ ap encode_utf8_all g ∙ ap (λ n. encode_utf8_all (shown n).first) (sym e) ∙ sym (ap (λ (s : Shown). s.first) is.shows) ∙ sym f;
  clean = subst IsCleanLine (sym f) (All-head IsCleanLine (shown node).first (shown node).more is.clean);
  low = ap begins_low f ∙ is.low;
}

null_first : flow_text Null ≡ (shown Null).first
null_first = null_text ∙ sym (ap (λ (s : Shown). s.first) shown_null)

word_first : (text : List ℕ) → flow_text (Word text) ≡ (shown (Word text)).first
word_first text = word_text text ∙ sym (ap (λ (s : Shown). s.first) (shown_word text))

text_first : (text : List ℕ) → flow_text (Text text) ≡ (shown (Text text)).first
text_first text = text_text text ∙ sym (ap (λ (s : Shown). s.first) (shown_text text))

-- parts with a comma and a space between each two, in UTF-8
behind_bytes : (ps : List (List ℕ))
    → encode_utf8_all (flat_map behind_comma ps) ≡ flat_map behind_comma (map encode_utf8_all ps)
behind_bytes [] = refl
behind_bytes (p ∷ ps) = encodes-append (44 ∷ 32 ∷ p) (flat_map behind_comma ps) ∙ (λ i. low_before (44 ∷ 32 ∷ []) p refl i ++ behind_bytes ps i)

separated_bytes : (ps : List (List ℕ)) → encode_utf8_all (separated ps) ≡ separated (map encode_utf8_all ps)
separated_bytes [] = refl
separated_bytes (p ∷ ps) = encodes-append p (flat_map behind_comma ps) ∙ ap (λ l. encode_utf8_all p ++ l) (behind_bytes ps)

behind_clean : (ps : List (List ℕ)) → All IsCleanLine ps → IsCleanLine (flat_map behind_comma ps)
behind_clean [] all = low_line [] refl refl refl
behind_clean (p ∷ ps) all =
    joined_line (44 ∷ 32 ∷ p) (flat_map behind_comma ps) (joined_line (44 ∷ 32 ∷ []) p (low_line (44 ∷ 32 ∷ []) refl refl refl) (All-head IsCleanLine p ps all)) (behind_clean ps (All-tail IsCleanLine p ps all))

separated_clean : (ps : List (List ℕ)) → All IsCleanLine ps → IsCleanLine (separated ps)
separated_clean [] all = low_line [] refl refl refl
separated_clean (p ∷ ps) all = joined_line p (flat_map behind_comma ps) (All-head IsCleanLine p ps all) (behind_clean ps (All-tail IsCleanLine p ps all))

-- a collection, by its parts
module _ (opens closes : ℕ) (low : encode_utf8_all (opens ∷ []) ≡ opens ∷ []) (end : encode_utf8_all (closes ∷ []) ≡ closes ∷ []) where
  collection_bytes : (others parts : List (List ℕ)) → map encode_utf8_all others ≡ parts
      → encode_utf8_all (opens ∷ (separated others ++ closes ∷ [])) ≡ opens ∷ (separated parts ++ closes ∷ [])
  collection_bytes others parts are =
      encodes-append (opens ∷ []) (separated others ++ closes ∷ [])
      ∙ (λ i. low i ++ encodes-append (separated others) (closes ∷ []) i)
      ∙ (λ i. opens ∷ (separated_bytes others i ++ end i))
      ∙ ap (λ l. opens ∷ (separated l ++ closes ∷ [])) are

  collection_clean : IsCleanLine (opens ∷ []) → IsCleanLine (closes ∷ []) → (parts : List (List ℕ))
      → All IsCleanLine parts → IsCleanLine (opens ∷ (separated parts ++ closes ∷ []))
  collection_clean first last parts all = joined_line (opens ∷ []) (separated parts ++ closes ∷ []) first (joined_line (separated parts) (closes ∷ []) (separated_clean parts all) last)

record AreFlows (parts others : List (List ℕ)) : Type 0 where
  same : map encode_utf8_all others ≡ parts
  clean : All IsCleanLine parts

entries_are : (es : List (List ℕ × Node)) → OfAll (λ (e : List ℕ × Node). Claim e.1) es
    → list_all is_utf8 (keys_in es) ≡ true → list_all is_so (printable_in es) ≡ true
    → AreFlows (map pair_of es) (map pair_of (map decoded_entry es))
entries_are [] claims utf8 printable = record { same = refl; clean = All-nil IsCleanLine }
entries_are (e ∷ es) claims utf8 printable =
    let texts = and_parts (is_utf8 e.0) (list_all is_utf8 (keys_in es)) utf8 in
    let values = and_parts (is_printable e.1) (list_all is_so (printable_in es)) printable in
    let key = IsUtf8-from_is_utf8 e.0 texts.0 in
    let one = claims.0 values.0 in
    let more = entries_are es claims.1 texts.1 values.1 in
    record {
      same = λ i. (key_bytes (chars e.0) (58 ∷ 32 ∷ []) (flow_text (decoded e.1)) refl ∙ (λ j. scalar (encodes-chars e.0 key j) ++ 58 ∷ 32 ∷ one.same j)) i ∷ more.same i;
      clean = All-cons IsCleanLine (pair_of e) (map pair_of es)
          (joined_line (scalar e.0) (58 ∷ 32 ∷ flow_text e.1) (scalar_line e.0 key) (joined_line (58 ∷ 32 ∷ []) (flow_text e.1) (low_line (58 ∷ 32 ∷ []) refl refl refl) one.clean)) more.clean;
    }

items_are : (xs : List Node) → OfAll Claim xs → list_all is_so (map is_printable xs) ≡ true
    → AreFlows (map flow_text xs) (map flow_text (map decoded xs))
items_are [] claims printable = record { same = refl; clean = All-nil IsCleanLine }
items_are (x ∷ xs) claims printable =
    let values = and_parts (is_printable x) (list_all is_so (map is_printable xs)) printable in
    let one = claims.0 values.0 in
    let more = items_are xs claims.1 values.1 in
    record { same = λ i. one.same i ∷ more.same i; clean = All-cons IsCleanLine (flow_text x) (map flow_text xs) one.clean more.clean }

map_flow : (es : List (List ℕ × Node)) → OfAll (λ (e : List ℕ × Node). Claim e.1) es → Claim (Map es)
map_flow es claims printable =
    let all = and_parts (list_all is_utf8 (keys_in es)) (are_distinct (keys_in es) && list_all is_so (printable_in es)) (sym (printable_map es) ∙ printable) in
    let rest = and_parts (are_distinct (keys_in es)) (list_all is_so (printable_in es)) all.1 in
    let are = entries_are es claims all.0 rest.1 in
    let opens = low_same (123 ∷ []) refl in
    let ends = low_same (125 ∷ []) refl in
    record {
      same = ap (λ n. encode_utf8_all (flow_text n)) (decoded_map es) ∙ ap encode_utf8_all (map_text (map decoded_entry es)) ∙ collection_bytes 123 125 opens ends (map pair_of (map decoded_entry es)) (map pair_of es) are.same ∙ sym (map_text es);
      clean = subst IsCleanLine (sym (map_text es)) (collection_clean 123 125 opens ends (low_line (123 ∷ []) refl refl refl) (low_line (125 ∷ []) refl refl refl) (map pair_of es) are.clean);
      low = ap begins_low (map_text es);
    }

seq_flow : (xs : List Node) → OfAll Claim xs → Claim (Seq xs)
seq_flow xs claims printable =
    let are = items_are xs claims (sym (printable_seq xs) ∙ printable) in
    let opens = low_same (91 ∷ []) refl in
    let ends = low_same (93 ∷ []) refl in
    record {
      same = ap (λ n. encode_utf8_all (flow_text n)) (decoded_seq xs) ∙ ap encode_utf8_all (seq_text (map decoded xs)) ∙ collection_bytes 91 93 opens ends (map flow_text (map decoded xs)) (map flow_text xs) are.same ∙ sym (seq_text xs);
      clean = subst IsCleanLine (sym (seq_text xs)) (collection_clean 91 93 opens ends (low_line (91 ∷ []) refl refl refl) (low_line (93 ∷ []) refl refl refl) (map flow_text xs) are.clean);
      low = ap begins_low (seq_text xs);
    }

flow_is : (node : Node) → Claim node
flow_is =
    of_every Claim (λ printable. scalar_of Null Null decoded_null null_first null_first (is_decoded Null printable))
    (λ text printable. scalar_of (Word text) (Word (chars text)) (decoded_word text) (word_first text) (word_first (chars text)) (is_decoded (Word text) printable))
    (λ text printable. scalar_of (Text text) (Text (chars text)) (decoded_text text) (text_first text) (text_first (chars text)) (is_decoded (Text text) printable))
    map_flow seq_flow

pub printed_back : PrintedFlowsReadBack
printed_back file node printable within =
    let is = is_decoded node printable in
    let flow = flow_is node printable in
    let bytes : List (List ℕ) = flow_text node ∷ [] in
    let lines : Lines = record { file = file; lines = numbered 1 bytes } in
    let clean = All-cons IsCleanLine (flow_text node) [] flow.clean (All-nil IsCleanLine) in
    ap (λ text. scan_of file text >>= reading) (sym (append-nil (flow_text node ++ codes "\n")))
    ∙ ap (λ r. r >>= reading) (scan_is file bytes clean (no_mark (flow_text node) [] flow.low))
    ∙ read_back lines (decoded node) is.readable (subst IsWithinLimits (sym is.spelled) within) (chars_are 1 bytes (flow_text (decoded node) ∷ []) clean (ap (λ (t : List ℕ). t ∷ []) flow.same))
    ∙ ap (λ tree. Ok tree) is.spelled

-- and both are the node's tree
pub printed_agree : PrintedBlocksAndFlowsAgree
printed_agree file node printable within = pages.printed_back file node printable within ∙ sym (printed_back file node printable within)
