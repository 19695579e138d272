-- A file whose one line is JSON is read as the tree that it spells.
use Rattle.std.proofs.Common.{◌≡◌, ◌∙◌, ℕ, zero, suc, ◌+◌, ◌≤◌, Bool, true, false, cond, List, [], ◌∷◌, None, Ok, length, map, take, refl, sym, ap, subst, append-nil, arith}
use Rattle.std.proofs.lemmas.Bool.{cond-false, cond-true}
use Rattle.std.proofs.lemmas.List.{drop_all}
use Rattle.std.specs.Str.{chars, encode_utf8_all}
use Rattle.yaml_groups.specs.declared.line.LogicalLine.{LogicalLine}
use Rattle.yaml_groups.specs.Grouped.{begins_flow, belonging, grouped, head_of, with_lines}
use Rattle.project_print.specs.declared.node.Node.{Node}
use Rattle.project_print.specs.declared.node.Node.TheVariants as nodes
use Rattle.project_print.specs.Pages.{lines_of}
use Rattle.tree_base.specs.declared.tree.Tree.{Tree}
use Rattle.tree_base.specs.declared.tree.Tree.TheVariants as trees
use Rattle.tree_base.specs.Trees.{node_count, text_size}
use Rattle.yaml_lines.specs.Blanks.{is_rest_blank, spaces, tab_indent}
use Rattle.yaml_lines.specs.Block.{lines_of_rows}
use Rattle.yaml_lines.specs.declared.lines.Line.{Line}
use Rattle.yaml_lines.specs.declared.lines.Lines.{Lines}
use Rattle.yaml_lines.specs.declared.plain.Context.TheVariants.{Block}
use Rattle.yaml_lines.specs.declared.row.Row.{Row}
use Rattle.yaml_lines.specs.Rows.{row_of}
use Rattle.yaml_nodes.specs.declared.progress.Progress.{Progress}
use Rattle.yaml_nodes.specs.Marks.{is_item, is_key_behind, is_left_out, is_property}
use Rattle.yaml_nodes.specs.Progress.{◌>>=◌, at_start}
use Rattle.yaml_nodes.specs.Properties.{no_properties}
use Rattle.yaml_tree.specs.Blocks.{below, node}
use Rattle.yaml_tree.specs.Inline.{goes_on_at}
use Rattle.yaml_tree.specs.Parts.{begun}
use Rattle.yaml_tree.specs.Reading.{document, is_start, no_owner, reading}
use Rattle.laws_yaml.proofs.NumberedLines.{row_with}
use Rattle.laws_yaml.proofs.OneLine.{alone_by, last_of_three, node_is}
use Rattle.laws_yaml.specs.BlockLaws.{IsWithinLimits, chars_of}
use Rattle.laws_yaml.proofs.Values.{IsValue}
use Rattle.laws_yaml.proofs.Words.{word_value}
use Rattle.laws_yaml.specs.Readable.{is_readable, spelled_by}
use Rattle.laws_yaml.proofs.Layers.{of_each, readable_word, shown_null, spelled_text, spelled_word}
use Rattle.project_print.specs.Scalars.{doubled}
use Rattle.laws_yaml.proofs.Pages as pages
use Rattle.laws_yaml.proofs.FlowTexts.{IsFlowText}
use Rattle.laws_yaml.proofs.JsonTrees.{json_are, json_text, map_text, null_text, seq_text, text_text, word_text}
use Rattle.laws_yaml.proofs.TextLines.{string_value, value_page}
use Rattle.laws_yaml.specs.JsonLaws.{JsonReadsBack}

-- no mark of a block stands in front of a line, and the value of the line begins there
record IsBare (text : List ℕ) : Type 0 where
  black : is_rest_blank true text ≡ false
  head : head_of 0 0 0 text ≡ (0, 0)
  untabbed : tab_indent text ≡ None
  kept : is_left_out text ≡ false
  inside : is_start text ≡ false
  first : spaces text ≡ 0
  plain : is_property text ≡ false
  undashed : is_item text ≡ false
  unkeyed : is_key_behind Block text ≡ false
  begins : begins_flow text ≡ true

square_bare : (cs : List ℕ) → IsBare (91 ∷ cs)
square_bare cs = record { black = refl; head = refl; untabbed = refl; kept = refl; inside = refl; first = refl; plain = refl; undashed = refl; unkeyed = refl; begins = refl }

curly_bare : (cs : List ℕ) → IsBare (123 ∷ cs)
curly_bare cs = record { black = refl; head = refl; untabbed = refl; kept = refl; inside = refl; first = refl; plain = refl; undashed = refl; unkeyed = refl; begins = refl }

take_none : (n : ℕ) → ◌≡◌ {A = List Row} (take n []) []
take_none zero = refl
take_none (suc n) = refl

grouped_none : (owner n : ℕ) → grouped owner n [] ≡ []
grouped_none owner zero = refl
grouped_none owner (suc n) = refl

same_both : {A : Type 0} (b : Bool) (x : A) → cond b x x ≡ x
same_both true x = refl
same_both false x = refl

module _ (levels file number : ℕ) (text : List ℕ) (tree : Tree) (bare : IsBare text) (is : IsFlowText (suc levels) text tree) (nodes : node_count tree ≤ 200000) (bytes : text_size tree ≤ 16777216) where
  abbrev line : LogicalLine
  line = record { row = row_with number text; content = [] }

  -- the line is read alone: there are none that could belong to it
  grouped_is : grouped 0 0 (row_with number text ∷ []) ≡ line ∷ []
  grouped_is =
      let row = row_with number text in
      cond-false (is_rest_blank true text) _ _ bare.black
      ∙ ap (λ (head : ℕ × ℕ). with_lines head.1 row (take (belonging head row []) []) ∷ grouped head.0 (belonging head row []) []) bare.head
      ∙ (λ i. with_lines 0 row (take_none (belonging (0, 0) row []) i) ∷ grouped_none 0 (belonging (0, 0) row []) i)
      ∙ ap (λ l. l ∷ []) (same_both (begins_flow text) line)

  begun_is : (p : Progress) → begun p line ≡ Ok p
  begun_is p = rw (bare.untabbed, bare.kept) refl

  -- a document of one line
  document_is : document (suc levels) file (grouped 0 0 (row_with number text ∷ [])) ≡ Ok tree
  document_is =
      let p = at_start file in
      let one = is.reads p (row_with number text) 0 [] (sym (append-nil text)) refl (omega (arith, nodes)) (omega (arith, bytes)) in
      ap (document (suc levels) file) grouped_is
      ∙ ap (λ lines. below (node (suc levels)) no_owner no_properties p lines >>= λ got. Ok got.0) (cond-false _ _ _ bare.inside)
      ∙ ap (λ at. node (suc levels) no_owner no_properties p at (line ∷ []) >>= λ got. Ok got.0) bare.first
      ∙ ap (λ r. r >>= λ got. Ok got.0)
      (node_is (suc levels) levels (node levels) no_owner p 0 line [] (begun_is p) bare.plain
      ∙ last_of_three _ _ _ _ _ bare.undashed bare.unkeyed
      ∙ alone_by (suc levels) (goes_on_at no_owner line 0) 0 p one.after line 0 (0 + length text) tree (cond-true (begins_flow text) _ _ bare.begins ∙ one.is) (drop_all (0 + length text) text (omega arith)))

one_line : (levels file : ℕ) (lines : List Line) (text : List ℕ) (tree : Tree) → IsBare text
    → IsFlowText (suc levels) text tree → node_count tree ≤ 200000 → text_size tree ≤ 16777216
    → lines_of_rows (map row_of lines) ≡ text ∷ []
    → document (suc levels) file (grouped 0 0 (map row_of lines)) ≡ Ok tree
one_line levels file [] text tree bare is nodes bytes are = absurd (cc)
one_line levels file (line ∷ next ∷ lines) text tree bare is nodes bytes are = absurd (cc)
one_line levels file (line ∷ []) text tree bare is nodes bytes are =
    let here : chars line.text ≡ text = cc in
    ap (λ cs. document (suc levels) file (grouped 0 0 (row_with line.number cs ∷ []))) here ∙ document_is levels file line.number text tree bare is nodes bytes

-- what a file of one line with the JSON of a node spells
abbrev Back : Node → Type 0
Back node = (lines : Lines) → is_readable node ≡ true → IsWithinLimits (spelled_by node) → chars_of lines ≡ json_text node ∷ [] → reading lines ≡ Ok (spelled_by node)

-- a node that begins with a bracket
collection_is : (node : Node) (text : List ℕ) → json_text node ≡ text → IsBare text → Back node
collection_is node text e bare lines readable within are =
    one_line 63 lines.file lines.lines (json_text node) (spelled_by node) (rw e bare) (json_are 64 node readable within.levels) within.nodes within.text are

-- null
null_is : Back nodes.Null
null_is lines readable within are =
    pages.read_back lines nodes.Null readable within (are ∙ ap (λ t. t ∷ []) null_text ∙ sym (ap lines_of shown_null))

-- a scalar, whose one line is a value
value_is : (node : Node) (word bytes : List ℕ) → json_text node ≡ word → spelled_by node ≡ trees.Scalar bytes
    → IsValue word (trees.Scalar bytes) → Back node
value_is node word bytes e same value lines readable within are =
    let spelled = subst IsWithinLimits same within in
    value_page 63 lines.file lines.lines word bytes value spelled.text (are ∙ ap (λ t. t ∷ []) e) ∙ ap (λ tree. Ok tree) (sym same)

word_is : (text : List ℕ) → Back (nodes.Word text)
word_is text lines readable =
    value_is (nodes.Word text) text (encode_utf8_all text) (word_text text) (spelled_word text) (word_value text (sym (readable_word text) ∙ readable)) lines readable

each_is : (node : Node) → Back node
each_is =
    of_each Back null_is word_is
    (λ text. value_is (nodes.Text text) _ (encode_utf8_all (doubled text)) (text_text text) (spelled_text text) (string_value (doubled text)))
    (λ entries. collection_is (nodes.Map entries) _ (map_text entries) (curly_bare _))
    (λ items. collection_is (nodes.Seq items) _ (seq_text items) (square_bare _))

pub read_back : JsonReadsBack
read_back lines node = each_is node lines
