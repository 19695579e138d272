-- Entries of a page, one below the other, are read as the mapping of what they spell.
use Rattle.std.proofs.Common.{◌≡◌, ◌∙◌, ℕ, suc, ◌+◌, ◌≤◌, ◌++◌, ◌&&◌, not, Bool, true, false, cond, eqb, nat_le, List, [], ◌∷◌, All, None, Ok, Result, codes, length, map, flat_map, sum_by, take, drop, refl, sym, ap, subst, arith, add-zero, append_assoc}
use Rattle.std.proofs.lemmas.Bool.{and_from, and_parts, and_right, eq-eqb, le-leb, not-true, or_parts}
use Rattle.std.proofs.lemmas.List.{append-nil, drop-drop, drop_all, drop_at, take_all}
use Rattle.std.proofs.lemmas.List.Elements.{All-cons, All-nil}
use Rattle.std.proofs.lemmas.List.Sums.{sum_by-cons}
use Rattle.std.specs.List.{list_any}
use Rattle.std.specs.Str.{bytes_eq, encode_utf8_all}
use Rattle.yaml_groups.specs.declared.line.LogicalLine.{LogicalLine}
use Rattle.project_print.specs.declared.node.Node.{Node}
use Rattle.project_print.specs.Pages.{Shown, block, deeper, entry, lines_of, shown, word}
use Rattle.project_print.specs.Scalars.{scalar}
use Rattle.tree_base.specs.Entries.{value_at, with_entry}
use Rattle.tree_base.specs.Trees.{depth, node_count, text_size}
use Rattle.tree_base.specs.declared.tree.Tree.{Tree}
use Rattle.tree_base.specs.declared.tree.Tree.TheVariants.{Map}
use Rattle.yaml_lines.specs.Blanks.{blanks, is_rest_blank, spaces}
use Rattle.yaml_lines.specs.declared.plain.Context.TheVariants.{Block}
use Rattle.yaml_lines.specs.declared.refusal.YamlRefusal.{YamlRefusal}
use Rattle.yaml_lines.specs.declared.row.Row.{Row}
use Rattle.yaml_lines.specs.Plain.{is_colon, is_space_or_end}
use Rattle.yaml_nodes.specs.declared.entries.Entries.{Entries}
use Rattle.yaml_nodes.specs.declared.key.Key.{Key}
use Rattle.yaml_nodes.specs.declared.progress.Progress.{Progress}
use Rattle.yaml_nodes.specs.declared.spot.Spot.TheVariants.{Here}
use Rattle.yaml_nodes.specs.Mappings.{Pairs, key_at, merged, new_key, no_entries}
use Rattle.yaml_nodes.specs.Marks.{before_colon, is_item, is_key_behind, is_property, properties_len}
use Rattle.yaml_nodes.specs.Progress.{◌>>=◌}
use Rattle.yaml_nodes.specs.Properties.{finished, no_properties, properties_from}
use Rattle.yaml_tree.specs.Blocks.{Reader, below, block_entry, block_mapping, block_or_inline, block_value, node, stands_behind}
use Rattle.yaml_tree.specs.Inline.{Owned, inline_alone}
use Rattle.yaml_tree.specs.Parts.{begins_entry, is_entry_at, later_parts, parted, value_len}
use Rattle.yaml_tree.specs.Parts as parts
use Rattle.laws_yaml.proofs.EntryValues.{entries_with}
use Rattle.laws_yaml.proofs.NewKeys.{put_last, still_new}
use Rattle.laws_yaml.proofs.NumberedLines.{row_with}
use Rattle.laws_yaml.proofs.OneLine.{counted, grown, node_fits, node_is, text_fits}
use Rattle.laws_yaml.proofs.Sizes.{map_sizes}
use Rattle.laws_yaml.proofs.Keys.{IsKeyLine, key_line, page_key}
use Rattle.laws_yaml.proofs.Layers.{entry_is, keyed, more_of, part_of_entry, rest_of, spelled_entry, spelled_keys}
use Rattle.laws_yaml.proofs.PageLines.{ArePageLines, IsPageLine, begun_is, block_lines, entry_of_block, entry_of_word, value_lines}
use Rattle.laws_yaml.proofs.PageParts.{no_entry_begins, parted_more, parted_part, value_len_is}
use Rattle.laws_yaml.proofs.Spells.{Spells, begins_at_once, counted_grown, first_line, grown_none, grown_to, here_is, indent_is, no_rows, part_is, row_is}
use Rattle.laws_yaml.proofs.Standing.{Stand, lone_line, margin, stand_deeper, stand_split}
use Rattle.laws_yaml.proofs.Values.{IsValue, empty_map_value}
use Rattle.laws_yaml.specs.Readable.{are_distinct, spelled_by}

-- each value of some entries spells its tree
abbrev pub AreSpelled : ℕ → List (List ℕ × Node) → Type 0
AreSpelled levels [] = Unit {0}
AreSpelled levels (e ∷ es) = Spells levels (shown e.1) (spelled_by e.1) × AreSpelled levels es

-- the key of each of some entries is in no pair
abbrev AreUnread : Pairs → List (List ℕ × Node) → Type 0
AreUnread own [] = Unit {0}
AreUnread own (e ∷ es) = (value_at own (encode_utf8_all e.0) ≡ None) × AreUnread own es

none_read : (es : List (List ℕ × Node)) → AreUnread [] es
none_read [] = tt
none_read (e ∷ es) = (refl, none_read es)

-- behind an entry the keys that differ from its own are new still
still_unread : (own : Pairs) (key : List ℕ) (tree : Tree) (es : List (List ℕ × Node)) → list_any (bytes_eq key) (spelled_keys es) ≡ false → AreUnread own es → AreUnread (own ++ (key, tree) ∷ []) es
still_unread own key tree [] apart are = tt
still_unread own key tree (e ∷ es) apart are =
    let each = or_parts (bytes_eq key (encode_utf8_all e.0)) (list_any (bytes_eq key) (spelled_keys es)) apart in
    (still_new own key tree (encode_utf8_all e.0) each.0 are.0, still_unread own key tree es each.1 are.1)

-- the lines of entries
abbrev entry_lines_of : List (List ℕ × Node) → List (List ℕ)
entry_lines_of es = flat_map lines_of (map part_of_entry es)

abbrev nodes_in : List (List ℕ × Node) → ℕ
nodes_in es = sum_by (λ (pair : List ℕ × Tree). node_count pair.1) (map spelled_entry es)

abbrev text_in : List (List ℕ × Node) → ℕ
text_in es = sum_by (λ (pair : List ℕ × Tree). length pair.0 + text_size pair.1) (map spelled_entry es)

ends_key : (value : Shown) → is_space_or_end (rest_of value) ≡ true
ends_key value = by value.is_block
  where
    by : (b : Bool) → is_space_or_end (cond b [] (32 ∷ value.first)) ≡ true
    by true = refl
    by false = refl

line_of : (key : List ℕ) (value : Shown) → IsKeyLine key (rest_of value)
line_of key value = key_line key (rest_of value) (ends_key value)

-- a value on its key's line
value_beside : (levels : ℕ) (read : Reader) (owner : Owned) (p : Progress) (line : LogicalLine) (behind start : ℕ) (more : List LogicalLine) → behind + blanks (drop behind line.row.chars) ≡ start
    → properties_from true p line.row start no_properties 0 (drop start line.row.chars) ≡ Ok no_properties → properties_len 0 (drop start line.row.chars) ≡ 0 → is_rest_blank true (drop start line.row.chars) ≡ false
    → block_value levels read owner p line behind more ≡ inline_alone levels (owner.column + 1) owner.column no_properties p line start more
value_beside levels read owner p line behind start more begins unmarked none black = rw (begins, unmarked, none, add-zero start, black)

-- a value below its key
value_below : (levels : ℕ) (read : Reader) (owner : Owned) (p : Progress) (line : LogicalLine) (behind start : ℕ) (more : List LogicalLine) → behind + blanks (drop behind line.row.chars) ≡ start
    → properties_from true p line.row start no_properties 0 (drop start line.row.chars) ≡ Ok no_properties → properties_len 0 (drop start line.row.chars) ≡ 0 → is_rest_blank true (drop start line.row.chars) ≡ true
    → block_value levels read owner p line behind more ≡ below read owner no_properties p more
value_below levels read owner p line behind start more begins unmarked none blank = rw (begins, unmarked, none, add-zero start, blank)

entry_by : (column levels : ℕ) (read : Reader) (entries : Entries) (p q r : Progress) (line : LogicalLine) (more : List LogicalLine) (len : ℕ) (key : Key) (tree : Tree)
    → before_colon Block (drop column line.row.chars) ≡ len → key_at Block p line.row column ≡ Ok key → is_colon (drop (column + len) line.row.chars) ≡ true → new_key entries p line.row column key ≡ Ok q
    → ((stands : Bool) → value_len column stands more ≡ length more) → take (length more) more ≡ more → drop (length more) more ≡ []
    → block_value levels read (record { row = line.row; column = column; is_key = true }) q line (column + len + 1) more ≡ Ok (tree, r) → key.is_merge ≡ false
    → block_entry column levels read (entries, p) line more ≡ Ok (record entries { own = with_entry entries.own key.text tree }, r)
entry_by column levels read entries p q r line more len key tree before reads colon new lens all none value plain = rw (before, reads, colon, new, lens (stands_behind line.row (column + len + 1)), all, value, plain, none)

new_is : (own : Pairs) (p : Progress) (row : Row) (at : ℕ) (key : List ℕ) → value_at own (encode_utf8_all key) ≡ None → p.text + length (encode_utf8_all key) ≤ 16777216
    → new_key (entries_with own) p row at (page_key key) ≡ Ok (counted p (length (encode_utf8_all key)))
new_is own p row at key new fits = rw new (text_fits p row (Here at) (length (encode_utf8_all key)) fits)

mapping_by : (levels under : ℕ) (read : Reader) (owner : Owned) (p : Progress) (at : ℕ) (line : LogicalLine) (more : List LogicalLine) → is_item (drop at line.row.chars) ≡ false
    → is_key_behind Block (drop at line.row.chars) ≡ true → block_or_inline levels under read owner no_properties p at line more ≡ block_mapping levels under read no_properties p at line more
mapping_by levels under read owner p at line more undashed begins = second_of_three _ _ _ _ _ undashed begins
  where
    second_of_three : {A : Type 0} (a b : Bool) (x second z : A) → a ≡ false → b ≡ true → cond a x (cond b second z) ≡ second
    second_of_three a b x second z p q = rw (p, q)

entry_begins : (column : ℕ) (row : Row) (line : List ℕ) → row ≡ row_with row.number (margin column line) → spaces line ≡ 0 → is_item line ≡ false → begins_entry column (lone_line row) ≡ true
entry_begins column row line is first undashed =
    let indent = indent_is column row line is first in
    let none : is_item (drop column row.chars) ≡ false = ap is_item (here_is column row line is) ∙ undashed in
    and_from (nat_le row.indent column) (not (eqb row.indent column && is_item (drop column row.chars))) (ap (λ n. nat_le n column) indent ∙ le-leb column column (omega arith))
    (ap not (and_right (eqb row.indent column) (is_item (drop column row.chars)) none))

entry_belongs : (column : ℕ) (row : Row) (line : List ℕ) → row ≡ row_with row.number (margin column line) → spaces line ≡ 0 → is_entry_at column (lone_line row) ≡ true
entry_belongs column row line is first = eq-eqb row.indent column (indent_is column row line is first)

-- the line of an entry
abbrev line_with : List ℕ → Shown → List ℕ
line_with key value = scalar key ++ 58 ∷ rest_of value

begins_here : (column : ℕ) (row : Row) (e : List ℕ × Node) → row ≡ row_with row.number (margin column (line_with e.0 (shown e.1))) → begins_entry column (lone_line row) ≡ true
begins_here column row e is =
    let line = line_of e.0 (shown e.1) in
    entry_begins column row (line_with e.0 (shown e.1)) is line.unindented line.undashed

none_before : (column : ℕ) (es : List (List ℕ × Node)) (rows : List Row) → Stand column (entry_lines_of es) rows → (parted (begins_entry column) (map lone_line rows)).0 ≡ []
none_before column [] [] stand = refl
none_before column [] (row ∷ rows) stand = absurd stand
none_before column (e ∷ es) [] stand = absurd stand
none_before column (e ∷ es) (row ∷ rows) stand = begins_at_once (begins_entry column) (lone_line row) (map lone_line rows) (begins_here column row e stand.0)

-- the lines of an entry are lines of a page
entry_lines : (levels : ℕ) (key : List ℕ) (value : Shown) (tree : Tree) → Spells levels value tree → ArePageLines (keyed key value)
entry_lines levels key value tree spells = subst ArePageLines (entry_is key value) (by value.is_block refl)
  where
    by : (b : Bool) → value.is_block ≡ b → ArePageLines (entry (key, value))
    by true e = entry_of_block key value e spells.lines
    by false e =
        let is = spells.value e in
        let same : word value.first ≡ value = λ i. record { is_block = sym e i; first = value.first; more = sym is.0 i } in
        subst (λ v. ArePageLines (entry (key, v))) same (entry_of_word key value.first is.1)

module _ (levels : ℕ) where
  -- a value whose lines stand below its key
  lines_below : (value : Shown) (tree : Tree) → Spells levels value tree → (owner : Owned) (column : ℕ) (q : Progress) (rows : List Row) → Stand column (map deeper (lines_of value)) rows
      → q.nodes + node_count tree ≤ 200000 → q.text + text_size tree ≤ 16777216
      → below (node levels) owner no_properties q (map lone_line rows) ≡ Ok (tree, grown q (node_count tree) (text_size tree))
  lines_below value tree spells owner column q [] stand nodes text = absurd stand
  lines_below value tree spells owner column q (row ∷ rows) stand nodes text =
      let deep = stand_deeper column (lines_of value) (row ∷ rows) stand in
      ap (λ n. node levels owner no_properties q n (lone_line row ∷ map lone_line rows)) (indent_is (suc (suc column)) row value.first deep.0 spells.unindented)
      ∙ spells.reads owner q (suc (suc column)) row rows (here_is (suc (suc column)) row value.first deep.0) (row_is (suc (suc column)) row value.first deep.0 (first_line value spells.lines)) deep.1 nodes text

  -- the value of a key, on its line or below it
  value_is : (value : Shown) (tree : Tree) → Spells levels value tree → (owner : Owned) (column : ℕ) (q : Progress) (row : Row) (rows : List Row) (behind : ℕ) → drop behind row.chars ≡ rest_of value → Stand column (map deeper (more_of value)) rows
      → q.nodes + node_count tree ≤ 200000 → q.text + text_size tree ≤ 16777216
      → block_value levels (node levels) owner q (lone_line row) behind (map lone_line rows) ≡ Ok (tree, grown q (node_count tree) (text_size tree))
  value_is value tree spells owner column q row rows behind rest stand nodes text = by value.is_block refl rest stand
    where
      beside : (is : IsValue value.first tree) → drop behind row.chars ≡ 32 ∷ value.first → block_value levels (node levels) owner q (lone_line row) behind [] ≡ Ok (tree, grown q (node_count tree) (text_size tree))
      beside is rest =
          let start : drop (behind + 1) row.chars ≡ value.first = sym (drop-drop 1 behind row.chars) ∙ ap (drop 1) rest in
          value_beside levels (node levels) owner q (lone_line row) behind (behind + 1) []
          (ap (λ n. behind + n) (ap blanks rest ∙ ap (λ n. n + 1) is.unblanked)) (ap (properties_from true q row (behind + 1) no_properties 0) start ∙ is.none_from true q row (behind + 1))
          (ap (properties_len 0) start ∙ is.no_run) (ap (is_rest_blank true) start ∙ is.black true)
          ∙ is.alone levels (owner.column + 1) owner.column q (lone_line row) (behind + 1) start spells.deep nodes text

      by : (b : Bool) → value.is_block ≡ b → drop behind row.chars ≡ cond b [] (32 ∷ value.first) → Stand column (map deeper (cond b (lines_of value) value.more)) rows
          → block_value levels (node levels) owner q (lone_line row) behind (map lone_line rows) ≡ Ok (tree, grown q (node_count tree) (text_size tree))
      by true e rest stand =
          value_below levels (node levels) owner q (lone_line row) behind behind (map lone_line rows)
          (ap (λ n. behind + n) (ap blanks rest) ∙ add-zero behind) (ap (properties_from true q row behind no_properties 0) rest) (ap (properties_len 0) rest) (ap (is_rest_blank true) rest)
          ∙ lines_below value tree spells owner column q rows stand nodes text
      by false e rest stand =
          let is = spells.value e in
          let none = no_rows column rows (subst (λ ls. Stand column (map deeper ls) rows) is.0 stand) in
          ap (λ rs. block_value levels (node levels) owner q (lone_line row) behind (map lone_line rs)) none ∙ beside is.1 rest

  -- an entry, whose key stands at a column
  entry_reads : (key : List ℕ) (value : Shown) (tree : Tree) → Spells levels value tree → (column : ℕ) (own : Pairs) (p : Progress) (row : Row) (rows : List Row) → value_at own (encode_utf8_all key) ≡ None
      → drop column row.chars ≡ line_with key value → Stand column (map deeper (more_of value)) rows → p.nodes + node_count tree ≤ 200000 → p.text + (length (encode_utf8_all key) + text_size tree) ≤ 16777216
      → block_entry column levels (node levels) (entries_with own, p) (lone_line row) (map lone_line rows)
      ≡ Ok (entries_with (own ++ (encode_utf8_all key, tree) ∷ []), grown p (node_count tree) (length (encode_utf8_all key) + text_size tree))
  entry_reads key value tree spells column own p row rows new here stand nodes text =
      let line = line_of key value in
      let len = length (scalar key) in
      let bytes = length (encode_utf8_all key) in
      let more = map lone_line rows in
      let at_colon : drop (column + len) row.chars ≡ 58 ∷ rest_of value = sym (drop-drop len column row.chars) ∙ ap (drop len) here ∙ drop_at (scalar key) (58 ∷ rest_of value) len refl in
      let behind : drop (column + len + 1) row.chars ≡ rest_of value = sym (drop-drop 1 (column + len) row.chars) ∙ ap (drop 1) at_colon in
      let owner : Owned = record { row = row; column = column; is_key = true } in
      entry_by column levels (node levels) (entries_with own) p (counted p bytes) (grown (counted p bytes) (node_count tree) (text_size tree)) (lone_line row) more len (page_key key) tree
      (ap (before_colon Block) here ∙ line.before) (line.reads p row column here) (ap is_colon at_colon ∙ ends_key value) (new_is own p row column key new (omega (arith, text)))
      (λ stands. value_len_is column stands (more_of value) rows stand) (take_all (length more) more (omega arith)) (drop_all (length more) more (omega arith))
      (value_is value tree spells owner column (counted p bytes) row rows (column + len + 1) behind stand nodes (omega (arith, text))) refl
      ∙ (λ i. Ok (entries_with (put_last own (encode_utf8_all key) tree new i), counted_grown p bytes (node_count tree) (text_size tree) (bytes + text_size tree) refl i))

  entries_from : ℕ → Entries × Progress → List Row → Result (Entries × Progress) YamlRefusal
  entries_from column done rows = later_parts (is_entry_at column) (block_entry column levels (node levels)) done (parted (begins_entry column) (map lone_line rows)).1

  none_is : (column : ℕ) (own : Pairs) (p : Progress) → entries_from column (entries_with own, p) [] ≡ Ok (entries_with (own ++ []), grown p 0 0)
  unfolding entries_from
  none_is column own p = λ i. Ok (entries_with (sym (append-nil own) i), sym (grown_none p) i)

  -- the first of some entries, and the later ones
  first_is : (column : ℕ) (done : Entries × Progress) (row : Row) (rows mine later : List Row) (e : List ℕ × Node) (es : List (List ℕ × Node)) → row ≡ row_with row.number (margin column (line_with e.0 (shown e.1))) → IsPageLine row.chars
      → rows ≡ mine ++ later → Stand column (map deeper (more_of (shown e.1))) mine → Stand column (entry_lines_of es) later
      → entries_from column done (row ∷ rows) ≡ (block_entry column levels (node levels) done (lone_line row) (map lone_line mine) >>= λ done. entries_from column done later)
  unfolding entries_from
  first_is column done row rows mine later e es is line cut own stand =
      let here = line_of e.0 (shown e.1) in
      ap (λ rs. later_parts (is_entry_at column) (block_entry column levels (node levels)) done (parted (begins_entry column) (lone_line row ∷ map lone_line rs)).1) cut
      ∙ ap (λ found. later_parts (is_entry_at column) (block_entry column levels (node levels)) done found.1)
      (parted_part (begins_entry column) row mine later (begins_here column row e is) (no_entry_begins column (more_of (shown e.1)) mine own) (none_before column es later stand))
      ∙ part_is (is_entry_at column) (block_entry column levels (node levels)) done (lone_line row) (map lone_line mine) (parted (begins_entry column) (map lone_line later)).1
      (begun_is done.1 (lone_line row) line) (entry_belongs column row (line_with e.0 (shown e.1)) is here.unindented)

  -- an entry and those behind it count together
  counts : (p : Progress) (e : List ℕ × Node) (es : List (List ℕ × Node))
      → grown (grown p (node_count (spelled_by e.1)) (length (encode_utf8_all e.0) + text_size (spelled_by e.1))) (nodes_in es) (text_in es) ≡ grown p (nodes_in (e ∷ es)) (text_in (e ∷ es))
  counts p e es =
      grown_to p (node_count (spelled_by e.1)) (length (encode_utf8_all e.0) + text_size (spelled_by e.1)) (nodes_in es) (text_in es) (nodes_in (e ∷ es)) (text_in (e ∷ es))
      (sym (sum_by-cons (λ (pair : List ℕ × Tree). node_count pair.1) (spelled_entry e) (map spelled_entry es)))
      (sym (sum_by-cons (λ (pair : List ℕ × Tree). length pair.0 + text_size pair.1) (spelled_entry e) (map spelled_entry es)))

  entries_are : (column : ℕ) (es : List (List ℕ × Node)) → AreSpelled levels es → (own : Pairs) → AreUnread own es → are_distinct (spelled_keys es) ≡ true → (p : Progress) (rows : List Row) → Stand column (entry_lines_of es) rows
      → p.nodes + nodes_in es ≤ 200000 → p.text + text_in es ≤ 16777216
      → entries_from column (entries_with own, p) rows ≡ Ok (entries_with (own ++ map spelled_entry es), grown p (nodes_in es) (text_in es))
  entries_are column [] are own unread distinct p [] stand nodes text = none_is column own p
  entries_are column [] are own unread distinct p (row ∷ rows) stand nodes text = absurd stand
  entries_are column (e ∷ es) are own unread distinct p [] stand nodes text = absurd stand
  entries_are column (e ∷ es) are own unread distinct p (row ∷ rows) stand nodes text =
      let cut = stand_split column (map deeper (more_of (shown e.1))) (entry_lines_of es) rows stand.1 in
      let many = sum_by-cons (λ (pair : List ℕ × Tree). node_count pair.1) (spelled_entry e) (map spelled_entry es) in
      let long = sum_by-cons (λ (pair : List ℕ × Tree). length pair.0 + text_size pair.1) (spelled_entry e) (map spelled_entry es) in
      let line = row_is column row (line_with e.0 (shown e.1)) stand.0 (first_line (part_of_entry e) (entry_lines levels e.0 (shown e.1) (spelled_by e.1) are.0)) in
      let apart = and_parts (not (list_any (bytes_eq (encode_utf8_all e.0)) (spelled_keys es))) (are_distinct (spelled_keys es)) distinct in
      let next = grown p (node_count (spelled_by e.1)) (length (encode_utf8_all e.0) + text_size (spelled_by e.1)) in
      let unread_left = still_unread own (encode_utf8_all e.0) (spelled_by e.1) es (not-true (list_any (bytes_eq (encode_utf8_all e.0)) (spelled_keys es)) apart.0) unread.1 in
      first_is column (entries_with own, p) row rows cut.0 cut.1 e es stand.0 line cut.2 cut.3 cut.4
      ∙ ap (λ r. r >>= λ done. entries_from column done cut.1)
      (entry_reads e.0 (shown e.1) (spelled_by e.1) are.0 column own p row cut.0 unread.0 (here_is column row (line_with e.0 (shown e.1)) stand.0) cut.3 (omega (arith, nodes, many)) (omega (arith, text, long)))
      ∙ entries_are column es are.1 (own ++ spelled_entry e ∷ []) unread_left apart.1 next cut.1 cut.4 (omega (arith, nodes, many)) (omega (arith, text, long))
      ∙ (λ i. Ok (entries_with (append_assoc own (spelled_entry e ∷ []) (map spelled_entry es) i), counts p e es i))

  entries_block : ℕ → Row → List Row → Progress → Result (Entries × Progress) YamlRefusal
  entries_block column row rows p = parts.block (begins_entry column) (is_entry_at column) (block_entry column levels (node levels)) (no_entries, p) (lone_line row) (map lone_line rows)

  block_is : (column : ℕ) (p : Progress) (row : Row) (rows mine later : List Row) (e : List ℕ × Node) (es : List (List ℕ × Node)) → rows ≡ mine ++ later → Stand column (map deeper (more_of (shown e.1))) mine → Stand column (entry_lines_of es) later
      → entries_block column row rows p ≡ (block_entry column levels (node levels) (entries_with [], p) (lone_line row) (map lone_line mine) >>= λ done. entries_from column done later)
  unfolding entries_from entries_block
  block_is column p row rows mine later e es cut own stand =
      ap (λ rs. parts.block (begins_entry column) (is_entry_at column) (block_entry column levels (node levels)) (no_entries, p) (lone_line row) (map lone_line rs)) cut
      ∙ ap (λ found. block_entry column levels (node levels) (no_entries, p) (lone_line row) found.0 >>= λ done. later_parts (is_entry_at column) (block_entry column levels (node levels)) done found.1)
      (parted_more (begins_entry column) mine later (no_entry_begins column (more_of (shown e.1)) mine own) (none_before column es later stand))

  mapping_is : (column : ℕ) (e : List ℕ × Node) (es : List (List ℕ × Node)) → AreSpelled levels (e ∷ es) → are_distinct (spelled_keys (e ∷ es)) ≡ true → (p : Progress) (row : Row) (rows : List Row)
      → drop column row.chars ≡ line_with e.0 (shown e.1) → Stand column (map deeper (more_of (shown e.1)) ++ entry_lines_of es) rows → p.nodes + (1 + nodes_in (e ∷ es)) ≤ 200000 → p.text + text_in (e ∷ es) ≤ 16777216
      → block_mapping (suc levels) levels (node levels) no_properties p column (lone_line row) (map lone_line rows) ≡ Ok (Map (map spelled_entry (e ∷ es)), grown p (1 + nodes_in (e ∷ es)) (text_in (e ∷ es)))
  unfolding entries_block
  mapping_is column e es are distinct p row rows here stand nodes text =
      let cut = stand_split column (map deeper (more_of (shown e.1))) (entry_lines_of es) rows stand in
      let many = sum_by-cons (λ (pair : List ℕ × Tree). node_count pair.1) (spelled_entry e) (map spelled_entry es) in
      let long = sum_by-cons (λ (pair : List ℕ × Tree). length pair.0 + text_size pair.1) (spelled_entry e) (map spelled_entry es) in
      let apart = and_parts (not (list_any (bytes_eq (encode_utf8_all e.0)) (spelled_keys es))) (are_distinct (spelled_keys es)) distinct in
      let count = node_fits (suc levels) p row column 0 (omega arith) (omega (arith, nodes)) (omega (arith, text)) in
      let q = grown p 1 0 in
      let next = grown q (node_count (spelled_by e.1)) (length (encode_utf8_all e.0) + text_size (spelled_by e.1)) in
      let unread_left = still_unread [] (encode_utf8_all e.0) (spelled_by e.1) es (not-true (list_any (bytes_eq (encode_utf8_all e.0)) (spelled_keys es)) apart.0) (none_read es) in
      let whole = λ (r : Result (Entries × Progress) YamlRefusal). r >>= λ got. merged got.1 row got.0 >>= λ tree. Ok (finished no_properties tree) in
      ap (λ r. r >>= λ q. whole (entries_block column row rows q)) count
      ∙ ap whole
      (block_is column q row rows cut.0 cut.1 e es cut.2 cut.3 cut.4
      ∙ ap (λ r. r >>= λ done. entries_from column done cut.1)
      (entry_reads e.0 (shown e.1) (spelled_by e.1) are.0 column [] q row cut.0 refl here cut.3 (omega (arith, nodes, many)) (omega (arith, text, long)))
      ∙ entries_are column es are.1 (spelled_entry e ∷ []) unread_left apart.1 next cut.1 cut.4 (omega (arith, nodes, many)) (omega (arith, text, long)))
      ∙ ap (λ s. Ok (Map (map spelled_entry (e ∷ es)), s)) (counts q e es ∙ grown_to p 1 0 (nodes_in (e ∷ es)) (text_in (e ∷ es)) (1 + nodes_in (e ∷ es)) (text_in (e ∷ es)) refl (omega arith))

  parts_are : (es : List (List ℕ × Node)) → AreSpelled levels es → All ArePageLines (map part_of_entry es)
  parts_are [] are = All-nil ArePageLines
  parts_are (e ∷ es) are = All-cons ArePageLines (part_of_entry e) (map part_of_entry es) (entry_lines levels e.0 (shown e.1) (spelled_by e.1) are.0) (parts_are es are.1)

  -- entries spell their mapping
  pub entries_spell : (e : List ℕ × Node) (es : List (List ℕ × Node)) → AreSpelled levels (e ∷ es) → are_distinct (spelled_keys (e ∷ es)) ≡ true → depth (Map (map spelled_entry (e ∷ es))) ≤ suc levels
      → Spells (suc levels) (block (codes "{}") (map part_of_entry (e ∷ es))) (Map (map spelled_entry (e ∷ es)))
  entries_spell e es are distinct deep =
      let sizes = map_sizes (map spelled_entry (e ∷ es)) in
      let line_is = line_of e.0 (shown e.1) in
      record {
        deep = deep;
        lines = block_lines (codes "{}") (map part_of_entry (e ∷ es)) (first_line (word (codes "{}")) (value_lines (codes "{}") empty_map_value)) (parts_are (e ∷ es) are);
        unindented = line_is.unindented;
        inside = line_is.inside;
        value = λ no. absurd (cc);
        reads = λ owner p column row rows here line stand nodes text.
            node_is (suc levels) levels (node levels) owner p column (lone_line row) (map lone_line rows) (begun_is p (lone_line row) line) (ap is_property here ∙ line_is.bare)
            ∙ mapping_by (suc levels) levels (node levels) owner p column (lone_line row) (map lone_line rows) (ap is_item here ∙ line_is.undashed) (ap (is_key_behind Block) here ∙ line_is.begins)
            ∙ mapping_is column e es are distinct p row rows here stand (omega (arith, nodes, sizes.nodes)) (omega (arith, text, sizes.text))
            ∙ (λ i. Ok (Map (map spelled_entry (e ∷ es)), grown p (sym sizes.nodes i) (sym sizes.text i)));
      }
