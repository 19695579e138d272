-- Lines that are a word, a colon, a space and a word each, with different keys, spell the mapping of the pairs.
use Rattle.std.proofs.Common.{◌≡◌, ◌≢◌, ℕ, suc, ◌+◌, ◌<◌, ◌≤◌, Bool, cond, List, [], ◌∷◌, ◌++◌, true, false, All, Ok, None, Result, drop, length, map, arith, refl, sym, ap, subst, ◌∙◌, append_assoc}
use Rattle.std.proofs.lemmas.Bool.{cond-false}
use Rattle.std.proofs.lemmas.List.{append-nil, length-map}
use Rattle.std.proofs.lemmas.List.Elements.{All-head, All-tail, All-weaker, All-from_recursion}
use Rattle.std.proofs.lemmas.List.Sums.{sum_by-cons}
use Rattle.std.proofs.lemmas.Map.Keys.{IsDistinct-head, IsDistinct-tail}
use Rattle.std.specs.List.{IsDistinct}
use Rattle.std.specs.Str.{bytes_eq, encode_utf8_all}
use Rattle.yaml_groups.specs.declared.line.LogicalLine.{LogicalLine}
use Rattle.yaml_groups.specs.Grouped.{grouped}
use Rattle.tree_base.specs.Entries.{value_at}
use Rattle.tree_base.specs.declared.tree.Tree.{Tree}
use Rattle.tree_base.specs.declared.tree.Tree.TheVariants.{Map}
use Rattle.yaml_lines.specs.Blanks.{tab_indent}
use Rattle.yaml_lines.specs.Block.{lines_of_rows}
use Rattle.yaml_lines.specs.declared.lines.Line.{Line}
use Rattle.yaml_lines.specs.declared.plain.Context.TheVariants.{Block}
use Rattle.yaml_lines.specs.declared.refusal.YamlRefusal.{YamlRefusal}
use Rattle.yaml_lines.specs.Rows.{row_of}
use Rattle.yaml_nodes.specs.declared.entries.Entries.{Entries}
use Rattle.yaml_nodes.specs.declared.progress.Progress.{Progress}
use Rattle.yaml_nodes.specs.Mappings.{Pairs, merged, no_entries}
use Rattle.yaml_nodes.specs.Marks.{is_item, is_key_behind, is_left_out}
use Rattle.yaml_nodes.specs.Progress.{◌>>=◌, at_start}
use Rattle.yaml_nodes.specs.Properties.{finished, no_properties}
use Rattle.yaml_tree.specs.Blocks.{Reader, below, block_entry, block_mapping, block_or_inline, node}
use Rattle.yaml_tree.specs.Inline.{Owned}
use Rattle.laws_yaml.specs.BlockLaws.{IsWord, MappingsReadBack, bytes_of, entry_line, scalar_of}
use Rattle.yaml_tree.specs.Parts.{PartReader, begins_entry, begun, block, is_entry_at, later_parts}
use Rattle.yaml_tree.specs.Reading.{document, no_owner}
use Rattle.laws_yaml.proofs.EntryLines.{IsEntryLine, entry_is_one, is_entry_line}
use Rattle.laws_yaml.proofs.EntryValues.{entries_with, entry_is}
use Rattle.laws_yaml.proofs.NewKeys.{still_new}
use Rattle.laws_yaml.proofs.NumberedLines.{All-from_map, IsOneLine, Reads, grouped_are, line_at, parted_are, parts_of, row_at, rows_are}
use Rattle.laws_yaml.proofs.OneLine.{counted, grown, node_fits, node_is}

-- pairs with the numbers of their lines
abbrev Numbered : Type 0
Numbered = List (ℕ × (List ℕ × List ℕ))

abbrev pairs_in : Numbered → List (List ℕ × List ℕ)
pairs_in xs = map (λ x. x.1) xs

abbrev keys_in : List (List ℕ × List ℕ) → List (List ℕ)
keys_in pairs = map (λ pair. encode_utf8_all pair.0) pairs

-- the bytes of keys and values
abbrev bytes_in : List (List ℕ × List ℕ) → ℕ
bytes_in pairs = bytes_of (map (λ pair. pair.0) pairs) + bytes_of (map (λ pair. pair.1) pairs)

abbrev entry_of : List ℕ × List ℕ → List ℕ × Tree
entry_of pair = (encode_utf8_all pair.0, scalar_of pair.1)

-- the lines may be read behind others: their keys are new, and the limits leave room for them
record IsRoom (own : Pairs) (p : Progress) (xs : Numbered) : Type 0 where
  words : All (λ x. IsWord x.1.0 × IsWord x.1.1) xs
  new : All (λ x. value_at own (encode_utf8_all x.1.0) ≡ None) xs
  distinct : IsDistinct bytes_eq (keys_in (pairs_in xs))
  nodes : p.nodes + length xs ≤ 200000
  text : p.text + bytes_in (pairs_in xs) ≤ 16777216

begun_is : (p : Progress) (line : LogicalLine) → IsEntryLine line.row.chars → begun p line ≡ Ok p
begun_is p line is = rw (is.untabbed, is.kept)

part_is : {A : Type 0} (belongs : LogicalLine → Bool) (read : PartReader A) (done : A × Progress) (line : LogicalLine) (more : List LogicalLine) (parts : List (LogicalLine × List LogicalLine)) → IsEntryLine line.row.chars → belongs line ≡ true
    → later_parts belongs read done ((line, more) ∷ parts) ≡ (read done line more >>= λ done. later_parts belongs read done parts)
part_is belongs read done line more parts is here = rw (begun_is done.1 line is, here)

-- the second of three cases
second_of_three : {A : Type 0} (a b : Bool) (x second z : A) → a ≡ false → b ≡ true → cond a x (cond b second z) ≡ second
second_of_three a b x second z p q = rw (p, q)

mapping_by : (levels under : ℕ) (read : Reader) (owner : Owned) (p : Progress) (at : ℕ) (line : LogicalLine) (more : List LogicalLine) → is_item (drop at line.row.chars) ≡ false
    → is_key_behind Block (drop at line.row.chars) ≡ true
    → block_or_inline levels under read owner no_properties p at line more ≡ block_mapping levels under read no_properties p at line more
mapping_by levels under read owner p at line more undashed begins = second_of_three _ _ _ _ _ undashed begins

begins_is : (line : LogicalLine) → IsEntryLine line.row.chars → line.row.indent ≡ 0 → begins_entry 0 line ≡ true
begins_is line is first = rw (first, is.undashed)

-- what is left behind a first entry
room_left : (own : Pairs) (p : Progress) (x : ℕ × (List ℕ × List ℕ)) (xs : Numbered) → IsRoom own p (x ∷ xs)
    → IsRoom (own ++ entry_of x.1 ∷ []) (grown (counted p (length (encode_utf8_all x.1.0))) 1 (length (encode_utf8_all x.1.1))) xs
room_left own p x xs room =
    let key = encode_utf8_all x.1.0 in
    let apart = All-from_recursion (λ k. bytes_eq key k ≡ false) (keys_in (pairs_in xs)) (IsDistinct-head bytes_eq key (keys_in (pairs_in xs)) room.distinct) in
    let differs = All-from_map (λ (pair : List ℕ × List ℕ). bytes_eq key (encode_utf8_all pair.0) ≡ false) (λ x. x.1) xs (All-from_map (λ k. bytes_eq key k ≡ false) (λ (pair : List ℕ × List ℕ). encode_utf8_all pair.0) (pairs_in xs) apart) in
    let new = All-tail (λ x. value_at own (encode_utf8_all x.1.0) ≡ None) x xs room.new in
    let keys = sum_by-cons (λ (cs : List ℕ). length (encode_utf8_all cs)) x.1.0 (map (λ pair. pair.0) (pairs_in xs)) in
    let values = sum_by-cons (λ (cs : List ℕ). length (encode_utf8_all cs)) x.1.1 (map (λ pair. pair.1) (pairs_in xs)) in
    record {
      words = All-tail (λ x. IsWord x.1.0 × IsWord x.1.1) x xs room.words;
      new = λ k d lt. still_new own key (scalar_of x.1.1) _ (differs k d lt) (new k d lt);
      distinct = IsDistinct-tail bytes_eq key (keys_in (pairs_in xs)) room.distinct;
      nodes = omega (arith, room.nodes);
      text = omega (arith, room.text);
    }

module _ (levels : ℕ) where
  entries_from : Entries × Progress → Numbered → Result (Entries × Progress) YamlRefusal
  entries_from done xs = later_parts (is_entry_at 0) (block_entry 0 (suc levels) (node (suc levels))) done (parts_of entry_line xs)

  first_is : (done : Entries × Progress) (x : ℕ × (List ℕ × List ℕ)) (xs : Numbered) → IsWord x.1.0
      → entries_from done (x ∷ xs) ≡ (block_entry 0 (suc levels) (node (suc levels)) done (line_at entry_line x) [] >>= λ done. entries_from done xs)
  unfolding entries_from
  first_is done x xs word =
      let is = is_entry_line x.1.0 x.1.1 word in
      part_is (is_entry_at 0) (block_entry 0 (suc levels) (node (suc levels))) done (line_at entry_line x) [] (parts_of entry_line xs) is (rw is.first)

  none_is : (own : Pairs) (p : Progress) → entries_from (entries_with own, p) [] ≡ Ok (entries_with (own ++ []), p)
  unfolding entries_from
  none_is own p = ap (λ l. Ok (entries_with l, p)) (sym (append-nil own))

  entries_are : (own : Pairs) (p : Progress) (xs : Numbered) → IsRoom own p xs → Reads (entries_from (entries_with own, p) xs) (entries_with (own ++ map entry_of (pairs_in xs)))
  entries_are own p [] room = (p, none_is own p)
  entries_are own p (x ∷ xs) room =
      let words = All-head (λ x. IsWord x.1.0 × IsWord x.1.1) x xs room.words in
      let new = All-head (λ x. value_at own (encode_utf8_all x.1.0) ≡ None) x xs room.new in
      let keys = sum_by-cons (λ (cs : List ℕ). length (encode_utf8_all cs)) x.1.0 (map (λ pair. pair.0) (pairs_in xs)) in
      let values = sum_by-cons (λ (cs : List ℕ). length (encode_utf8_all cs)) x.1.1 (map (λ pair. pair.1) (pairs_in xs)) in
      let one = entry_is levels (node (suc levels)) own p x.0 x.1.0 x.1.1 words.0 words.1 new (omega (arith, room.nodes)) (omega (arith, room.text)) in
      let more = entries_are (own ++ entry_of x.1 ∷ []) (grown (counted p (length (encode_utf8_all x.1.0))) 1 (length (encode_utf8_all x.1.1))) xs (room_left own p x xs room) in (
        more.0,
        first_is (entries_with own, p) x xs words.0 ∙ ap (λ r. r >>= λ done. entries_from done xs) one ∙ more.1
            ∙ ap (λ l. Ok (entries_with l, more.0)) (append_assoc own (entry_of x.1 ∷ []) (map entry_of (pairs_in xs))),
      )

  entries_block : ℕ × (List ℕ × List ℕ) → Numbered → Progress → Result (Entries × Progress) YamlRefusal
  entries_block x xs p = block (begins_entry 0) (is_entry_at 0) (block_entry 0 (suc levels) (node (suc levels))) (no_entries, p) (line_at entry_line x) (map (line_at entry_line) xs)

  -- a block is its first entry and the later ones
  block_is : (p : Progress) (x : ℕ × (List ℕ × List ℕ)) (xs : Numbered) → All (λ x. IsWord x.1.0 × IsWord x.1.1) (x ∷ xs) → entries_block x xs p ≡ entries_from (no_entries, p) (x ∷ xs)
  unfolding entries_from entries_block
  block_is p x xs words =
      let word = (All-head (λ x. IsWord x.1.0 × IsWord x.1.1) x xs words).0 in
      let begins : All (λ x. begins_entry 0 (line_at entry_line x) ≡ true) xs =
      All-weaker (λ x. IsWord x.1.0 × IsWord x.1.1) (λ x. begins_entry 0 (line_at entry_line x) ≡ true)
      (λ x is. let line = is_entry_line x.1.0 x.1.1 is.0 in begins_is (line_at entry_line x) line line.first) xs (All-tail (λ x. IsWord x.1.0 × IsWord x.1.1) x xs words) in
      ap (λ parts. block_entry 0 (suc levels) (node (suc levels)) (no_entries, p) (line_at entry_line x) parts.0 >>= λ done. later_parts (is_entry_at 0) (block_entry 0 (suc levels) (node (suc levels))) done parts.1)
      (parted_are entry_line (begins_entry 0) xs begins)
      ∙ sym (first_is (no_entries, p) x xs word)

  mapping_is : (p : Progress) (x : ℕ × (List ℕ × List ℕ)) (xs : Numbered) → IsRoom [] (grown p 1 0) (x ∷ xs)
      → Reads (block_mapping (suc (suc levels)) (suc levels) (node (suc levels)) no_properties p 0 (line_at entry_line x) (map (line_at entry_line) xs)) (Map (map entry_of (pairs_in (x ∷ xs))))
  unfolding entries_block
  mapping_is p x xs room =
      let entries = entries_are [] (grown p 1 0) (x ∷ xs) room in
      let counts = node_fits (suc (suc levels)) p (row_at entry_line x) 0 0 (omega arith) (omega (arith, room.nodes)) (omega (arith, room.text)) in
      let whole = λ (r : Result (Entries × Progress) YamlRefusal). r >>= λ got. merged got.1 (row_at entry_line x) got.0 >>= λ tree. Ok (finished no_properties tree) in
      (entries.0, ap (λ r. r >>= λ q. whole (entries_block x xs q)) counts ∙ ap whole (block_is (grown p 1 0) x xs room.words ∙ entries.1))

  root_is : (p : Progress) (x : ℕ × (List ℕ × List ℕ)) (xs : Numbered) → IsWord x.1.0
      → below (node (suc (suc levels))) no_owner no_properties p (line_at entry_line x ∷ map (line_at entry_line) xs) ≡ block_mapping (suc (suc levels)) (suc levels) (node (suc levels)) no_properties p 0 (line_at entry_line x) (map (line_at entry_line) xs)
  root_is p x xs word =
      let is = is_entry_line x.1.0 x.1.1 word in
      ap (λ at. node (suc (suc levels)) no_owner no_properties p at (line_at entry_line x ∷ map (line_at entry_line) xs)) is.first
      ∙ node_is (suc (suc levels)) (suc levels) (node (suc levels)) no_owner p 0 (line_at entry_line x) (map (line_at entry_line) xs) (begun_is p (line_at entry_line x) is) is.bare
      ∙ mapping_by (suc (suc levels)) (suc levels) (node (suc levels)) no_owner p 0 (line_at entry_line x) (map (line_at entry_line) xs) is.undashed is.begins

  document_is : (file : ℕ) (x : ℕ × (List ℕ × List ℕ)) (xs : Numbered) → IsRoom [] (grown (at_start file) 1 0) (x ∷ xs)
      → document (suc (suc levels)) file (map (line_at entry_line) (x ∷ xs)) ≡ Ok (Map (map entry_of (pairs_in (x ∷ xs))))
  document_is file x xs room =
      let word = (All-head (λ x. IsWord x.1.0 × IsWord x.1.1) x xs room.words).0 in
      let inside = (is_entry_line x.1.0 x.1.1 word).inside in
      ap (λ lines. below (node (suc (suc levels))) no_owner no_properties (at_start file) lines >>= λ got. Ok got.0) (cond-false _ _ _ inside)
      ∙ ap (λ r. r >>= λ got. Ok got.0) (root_is (at_start file) x xs word ∙ (mapping_is (at_start file) x xs room).1)

  numbered_read_back : (file : ℕ) (xs : Numbered) → pairs_in xs ≢ [] → All (λ pair. IsWord pair.0 × IsWord pair.1) (pairs_in xs) → IsDistinct bytes_eq (keys_in (pairs_in xs)) → length (pairs_in xs) < 200000 → bytes_in (pairs_in xs) ≤ 16777216
      → document (suc (suc levels)) file (grouped 0 0 (map (row_at entry_line) xs)) ≡ Ok (Map (map entry_of (pairs_in xs)))
  numbered_read_back file [] some are apart few small = absurd (some refl)
  numbered_read_back file (x ∷ xs) some are apart few small =
      let each = All-from_map (λ (pair : List ℕ × List ℕ). IsWord pair.0 × IsWord pair.1) (λ (x : ℕ × (List ℕ × List ℕ)). x.1) (x ∷ xs) are in
      let len = length-map xs (λ (x : ℕ × (List ℕ × List ℕ)). x.1) in
      let room : IsRoom [] (grown (at_start file) 1 0) (x ∷ xs) = record { words = each; new = λ k d lt. refl; distinct = apart; nodes = omega arith; text = omega arith } in
      let ones = All-weaker (λ x. IsWord x.1.0 × IsWord x.1.1) (λ x. IsOneLine (entry_line x.1)) (λ x is. entry_is_one x.1.0 x.1.1 is.0 is.1) (x ∷ xs) each in
      ap (document (suc (suc levels)) file) (grouped_are entry_line (x ∷ xs) ones) ∙ document_is file x xs room

  lines_read_back : (file : ℕ) (lines : List Line) (pairs : List (List ℕ × List ℕ)) → pairs ≢ [] → All (λ pair. IsWord pair.0 × IsWord pair.1) pairs → IsDistinct bytes_eq (keys_in pairs) → length pairs < 200000 → bytes_in pairs ≤ 16777216
      → lines_of_rows (map row_of lines) ≡ map entry_line pairs → document (suc (suc levels)) file (grouped 0 0 (map row_of lines)) ≡ Ok (Map (map entry_of pairs))
  lines_read_back file lines pairs some are apart few small spelled =
      let found = rows_are entry_line lines pairs spelled in
      let Back : List (List ℕ × List ℕ) → Type 0 =
      λ ps. ps ≢ [] → All (λ pair. IsWord pair.0 × IsWord pair.1) ps → IsDistinct bytes_eq (keys_in ps) → length ps < 200000 → bytes_in ps ≤ 16777216 → document (suc (suc levels)) file (grouped 0 0 (map (row_at entry_line) found.0)) ≡ Ok (Map (map entry_of ps)) in
      ap (λ rows. document (suc (suc levels)) file (grouped 0 0 rows)) found.1 ∙ subst Back (sym found.2) (numbered_read_back file found.0) some are apart few small

pub read_back : MappingsReadBack
read_back lines pairs some are apart few small spelled = lines_read_back 62 lines.file lines.lines pairs some are apart few small spelled
