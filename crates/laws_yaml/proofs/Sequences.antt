-- Lines that are a dash, a space and a word each spell the sequence of the words.
use Rattle.std.proofs.Common.{◌≡◌, ◌≢◌, ℕ, suc, ◌+◌, ◌<◌, ◌≤◌, List, [], ◌∷◌, ◌++◌, true, All, Ok, Result, drop, length, map, arith, refl, sym, ap, subst, ◌∙◌, append_assoc}
use Rattle.std.proofs.lemmas.Bool.{cond-true}
use Rattle.std.proofs.lemmas.List.{append-nil, length-map}
use Rattle.std.proofs.lemmas.List.Elements.{All-head, All-tail, All-weaker}
use Rattle.std.proofs.lemmas.List.Sums.{sum_by-cons}
use Rattle.std.specs.Str.{encode_utf8_all}
use Rattle.yaml_groups.specs.declared.line.LogicalLine.{LogicalLine}
use Rattle.yaml_groups.specs.Grouped.{grouped}
use Rattle.tree_base.specs.declared.tree.Tree.{Tree}
use Rattle.tree_base.specs.declared.tree.Tree.TheVariants.{Seq}
use Rattle.yaml_lines.specs.declared.lines.Line.{Line}
use Rattle.yaml_lines.specs.declared.refusal.YamlRefusal.{YamlRefusal}
use Rattle.yaml_lines.specs.Block.{lines_of_rows}
use Rattle.yaml_lines.specs.Rows.{row_of}
use Rattle.yaml_nodes.specs.declared.progress.Progress.{Progress}
use Rattle.yaml_nodes.specs.Marks.{is_item}
use Rattle.yaml_nodes.specs.Progress.{◌>>=◌, at_start}
use Rattle.yaml_nodes.specs.Properties.{no_properties}
use Rattle.yaml_tree.specs.Blocks.{Reader, block_item, block_or_inline, block_sequence, node}
use Rattle.yaml_tree.specs.Inline.{Owned}
use Rattle.laws_yaml.specs.BlockLaws.{IsWord, SequencesReadBack, bytes_of, item_line, scalar_of}
use Rattle.yaml_tree.specs.Parts.{begins_item, block, is_item_at, later_parts}
use Rattle.yaml_tree.specs.Reading.{document, no_owner}
use Rattle.laws_yaml.proofs.ItemLines.{item_is, item_is_one}
use Rattle.laws_yaml.proofs.NumberedLines.{All-from_map, IsOneLine, Reads, grouped_are, line_at, parted_are, parts_of, row_at, rows_are}
use Rattle.laws_yaml.proofs.OneLine.{grown, node_fits, node_is}

-- words with the numbers of their lines
abbrev Numbered : Type 0
Numbered = List (ℕ × List ℕ)

abbrev words_of : Numbered → List (List ℕ)
words_of xs = map (λ x. x.1) xs

-- the lines may be read behind others: the limits leave room for them
record IsRoom (p : Progress) (xs : Numbered) : Type 0 where
  words : All (λ x. IsWord x.1) xs
  nodes : p.nodes + length xs ≤ 200000
  text : p.text + bytes_of (words_of xs) ≤ 16777216

pub sequence_by : (levels under : ℕ) (read : Reader) (owner : Owned) (p : Progress) (at : ℕ) (line : LogicalLine) (more : List LogicalLine) → is_item (drop at line.row.chars) ≡ true
    → block_or_inline levels under read owner no_properties p at line more ≡ block_sequence levels read no_properties p at line more
sequence_by levels under read owner p at line more dash = cond-true _ _ _ dash

module _ (levels : ℕ) where
  items_from : List Tree × Progress → Numbered → Result (List Tree × Progress) YamlRefusal
  items_from done xs = later_parts (is_item_at 0) (block_item 0 (node (suc levels))) done (parts_of item_line xs)

  items_are : (items : List Tree) (p : Progress) (xs : Numbered) → IsRoom p xs → Reads (items_from (items, p) xs) (items ++ map scalar_of (words_of xs))
  unfolding items_from
  items_are items p [] room = (p, ap (λ l. Ok (l, p)) (sym (append-nil items)))
  items_are items p (x ∷ xs) room =
      let bytes = sum_by-cons (λ (cs : List ℕ). length (encode_utf8_all cs)) x.1 (words_of xs) in
      let one = item_is levels items p x.0 x.1 (All-head (λ x. IsWord x.1) x xs room.words) (omega (arith, room.nodes)) (omega (arith, room.text)) in
      let rest : IsRoom (grown p 1 (length (encode_utf8_all x.1))) xs = record { words = All-tail (λ x. IsWord x.1) x xs room.words; nodes = omega (arith, room.nodes); text = omega (arith, room.text) } in
      let more = items_are (items ++ scalar_of x.1 ∷ []) (grown p 1 (length (encode_utf8_all x.1))) xs rest in
      (more.0, ap (λ r. r >>= λ done. items_from done xs) one ∙ more.1 ∙ ap (λ l. Ok (l, more.0)) (append_assoc items (scalar_of x.1 ∷ []) (map scalar_of (words_of xs))))

  items_block : ℕ × List ℕ → Numbered → Progress → Result (List Tree × Progress) YamlRefusal
  items_block x xs p = block (begins_item 0) (is_item_at 0) (block_item 0 (node (suc levels))) ([], p) (line_at item_line x) (map (line_at item_line) xs)

  -- a block is its first item and the later ones
  block_is : (p : Progress) (x : ℕ × List ℕ) (xs : Numbered) → items_block x xs p ≡ items_from ([], p) (x ∷ xs)
  unfolding items_from items_block
  block_is p x xs =
      ap (λ parts. block_item 0 (node (suc levels)) ([], p) (line_at item_line x) parts.0 >>= λ done. later_parts (is_item_at 0) (block_item 0 (node (suc levels))) done parts.1)
      (parted_are item_line (begins_item 0) xs (λ k d lt. refl))

  sequence_is : (p : Progress) (x : ℕ × List ℕ) (xs : Numbered) → IsRoom (grown p 1 0) (x ∷ xs)
      → Reads (block_sequence (suc (suc levels)) (node (suc levels)) no_properties p 0 (line_at item_line x) (map (line_at item_line) xs)) (Seq (map scalar_of (words_of (x ∷ xs))))
  unfolding items_block
  sequence_is p x xs room =
      let items = items_are [] (grown p 1 0) (x ∷ xs) room in
      let counts = node_fits (suc (suc levels)) p (row_at item_line x) 0 0 (omega arith) (omega (arith, room.nodes)) (omega (arith, room.text)) in
      let whole = λ (r : Result (List Tree × Progress) YamlRefusal). r >>= λ got. Ok (Seq got.0, got.1) in
      (items.0, ap (λ r. r >>= λ q. whole (items_block x xs q)) counts ∙ ap whole (block_is (grown p 1 0) x xs ∙ items.1))

  root_is : (p : Progress) (x : ℕ × List ℕ) (xs : Numbered)
      → node (suc (suc levels)) no_owner no_properties p 0 (line_at item_line x ∷ map (line_at item_line) xs) ≡ block_sequence (suc (suc levels)) (node (suc levels)) no_properties p 0 (line_at item_line x) (map (line_at item_line) xs)
  root_is p x xs =
      node_is (suc (suc levels)) (suc levels) (node (suc levels)) no_owner p 0 (line_at item_line x) (map (line_at item_line) xs) refl refl
      ∙ sequence_by (suc (suc levels)) (suc levels) (node (suc levels)) no_owner p 0 (line_at item_line x) (map (line_at item_line) xs) refl

  document_is : (file : ℕ) (x : ℕ × List ℕ) (xs : Numbered) → IsRoom (grown (at_start file) 1 0) (x ∷ xs)
      → document (suc (suc levels)) file (map (line_at item_line) (x ∷ xs)) ≡ Ok (Seq (map scalar_of (words_of (x ∷ xs))))
  document_is file x xs room = ap (λ r. r >>= λ got. Ok got.0) (root_is (at_start file) x xs ∙ (sequence_is (at_start file) x xs room).1)

  numbered_read_back : (file : ℕ) (xs : Numbered) → words_of xs ≢ [] → All IsWord (words_of xs) → length (words_of xs) < 200000 → bytes_of (words_of xs) ≤ 16777216
      → document (suc (suc levels)) file (grouped 0 0 (map (row_at item_line) xs)) ≡ Ok (Seq (map scalar_of (words_of xs)))
  numbered_read_back file [] some are few small = absurd (some refl)
  numbered_read_back file (x ∷ xs) some are few small =
      let each = All-from_map IsWord (λ (x : ℕ × List ℕ). x.1) (x ∷ xs) are in
      let len = length-map xs (λ (x : ℕ × List ℕ). x.1) in
      let room : IsRoom (grown (at_start file) 1 0) (x ∷ xs) = record { words = each; nodes = omega arith; text = omega arith } in
      let ones = All-weaker (λ x. IsWord x.1) (λ x. IsOneLine (item_line x.1)) (λ x is. item_is_one x.1 is) (x ∷ xs) each in
      ap (document (suc (suc levels)) file) (grouped_are item_line (x ∷ xs) ones) ∙ document_is file x xs room

  lines_read_back : (file : ℕ) (lines : List Line) (words : List (List ℕ)) → words ≢ [] → All IsWord words → length words < 200000 → bytes_of words ≤ 16777216
      → lines_of_rows (map row_of lines) ≡ map item_line words → document (suc (suc levels)) file (grouped 0 0 (map row_of lines)) ≡ Ok (Seq (map scalar_of words))
  lines_read_back file lines words some are few small spelled =
      let found = rows_are item_line lines words spelled in
      let Back : List (List ℕ) → Type 0 = λ ws. ws ≢ [] → All IsWord ws → length ws < 200000 → bytes_of ws ≤ 16777216 → document (suc (suc levels)) file (grouped 0 0 (map (row_at item_line) found.0)) ≡ Ok (Seq (map scalar_of ws)) in
      ap (λ rows. document (suc (suc levels)) file (grouped 0 0 rows)) found.1 ∙ subst Back (sym found.2) (numbered_read_back file found.0) some are few small

pub read_back : SequencesReadBack
read_back lines words some are few small spelled = lines_read_back 62 lines.file lines.lines words some are few small spelled
