-- Words of a page that stand for a tree: as the value of a key, as an item, or alone.
use Rattle.std.proofs.Common.{◌≡◌, ◌∙◌, ℕ, zero, suc, ◌+◌, ◌<◌, ◌≤◌, ◌&&◌, Bool, true, false, List, [], ◌∷◌, Ok, codes, drop, length, refl, sym, ap, subst, add-zero, arith}
use Rattle.std.proofs.lemmas.Bool.{cond-false, cond-true}
use Rattle.std.proofs.lemmas.List.{append-nil, drop_all}
use Rattle.std.specs.Prelude.{nat_lt}
use Rattle.std.specs.Str.{encode_utf8_all}
use Rattle.yaml_groups.specs.declared.line.LogicalLine.{LogicalLine}
use Rattle.yaml_groups.specs.Grouped.{begins_flow, belonging, head_of}
use Rattle.project_print.specs.Scalars.{scalar}
use Rattle.tree_base.specs.Trees.{depth, node_count, text_size}
use Rattle.tree_base.specs.declared.tree.Tree.{Tree}
use Rattle.tree_base.specs.declared.tree.Tree.TheVariants.{Map, Null, Scalar, Seq}
use Rattle.yaml_flow.specs.Flow.{flow}
use Rattle.yaml_lines.specs.Blanks.{blanks, is_rest_blank, is_tab_first, spaces}
use Rattle.yaml_lines.specs.declared.plain.Context.TheVariants.{Block}
use Rattle.yaml_lines.specs.declared.row.Row.{Row}
use Rattle.yaml_nodes.specs.declared.progress.Progress.{Progress}
use Rattle.yaml_nodes.specs.Marks.{before_colon, is_colon_of, is_item, is_key, is_key_behind, is_left_out, is_property, key_len, properties_len}
use Rattle.yaml_nodes.specs.Properties.{no_properties, properties_from}
use Rattle.yaml_nodes.specs.Scalars.{scalar_at}
use Rattle.yaml_nodes.specs.Scalars as nodes
use Rattle.yaml_tree.specs.Inline.{inline, inline_alone}
use Rattle.yaml_tree.specs.Reading.{is_start}
use Rattle.laws_yaml.proofs.OneLine.{alone_by, grown, last_of_four}
use Rattle.laws_yaml.proofs.Sizes.{IsOfSizes, map_sizes, null_sizes, scalar_sizes, seq_sizes}
use Rattle.laws_yaml.specs.Readable.{is_unsigned_word}
use Rattle.laws_yaml.proofs.Empties.{empty_map, empty_seq, lone_map, lone_seq}
use Rattle.laws_yaml.proofs.Firsts.{is_first, no_alias, no_blanks, no_block, no_colon, no_document_start, no_flow, no_item, no_properties_len, no_property, no_property_from, no_spaces, no_tab, not_blank, not_left_out, not_white}
use Rattle.laws_yaml.proofs.LoneScalars.{alone_is, lone_is, nothing_behind}
use Rattle.laws_yaml.proofs.Spelled.{IsSpelled, scalar_spelled, word_spelled}
use Rattle.laws_yaml.proofs.PageTokens.{len_is, null_scalar, scalar_is}

-- a word of a page that stands for a tree: as the value of a key, as an item, or alone
pub record IsValue (word : List ℕ) (tree : Tree) : Type 0 where
  pub black : (white : Bool) → is_rest_blank white word ≡ false
  pub unindented : spaces word ≡ 0
  pub unblanked : blanks word ≡ 0
  pub untabbed : is_tab_first word ≡ false
  pub kept : is_left_out word ≡ false
  pub inside : is_start word ≡ false
  pub bare : is_property word ≡ false
  pub no_run : properties_len 0 word ≡ 0
  pub none_from : (may_be_marked : Bool) (p : Progress) (row : Row) (at : ℕ) → properties_from may_be_marked p row at no_properties 0 word ≡ Ok no_properties
  pub undashed : is_item word ≡ false
  pub unkeyed : is_key_behind Block word ≡ false
  pub head : (owner at : ℕ) → head_of owner at 0 word ≡ (owner, at)
  pub lone : (owner at : ℕ) (row : Row) (rows : List Row) → drop at row.chars ≡ word → belonging (owner, at) row rows ≡ 0
  pub alone : (levels indent column : ℕ) (p : Progress) (line : LogicalLine) (at : ℕ) → drop at line.row.chars ≡ word → depth tree ≤ levels
      → p.nodes + node_count tree ≤ 200000 → p.text + text_size tree ≤ 16777216
      → inline_alone levels indent column no_properties p line at [] ≡ Ok (tree, grown p (node_count tree) (text_size tree))

and_false : (b : Bool) → (b && false) ≡ false
and_false true = refl
and_false false = refl

-- a scalar that takes all of a text is no key
no_key_whole : (cs : List ℕ) → key_len Block cs ≡ length cs → is_key Block cs ≡ false
no_key_whole cs len =
    let all : drop (length cs) cs ≡ [] = drop_all (length cs) cs (omega arith) in
    let before : before_colon Block cs ≡ length cs = ap (λ n. n + blanks (drop n cs)) len ∙ ap (λ l. length cs + blanks l) all ∙ add-zero (length cs) in
    ap (λ l. nat_lt 0 (key_len Block cs) && is_colon_of Block cs l) (ap (λ n. drop n cs) before ∙ all) ∙ and_false (nat_lt 0 (key_len Block cs))

-- a scalar of a page that takes the rest of its line
module _ (c : ℕ) (cs : List ℕ) (first : is_first c ≡ true) (tree : Tree) (bytes : List ℕ) (sizes : IsOfSizes tree 1 1 (length bytes)) (len : key_len Block (c ∷ cs) ≡ length (c ∷ cs))
    (reads : (p : Progress) (row : Row) (at : ℕ) → drop at row.chars ≡ c ∷ cs → scalar_at Block no_properties p row at ≡ nodes.scalar no_properties p row at tree bytes (length (c ∷ cs))) where
  unkeyed_front : is_key_behind Block (c ∷ cs) ≡ false
  unkeyed_front = rw (no_properties_len c cs first, no_key_whole (c ∷ cs) len, no_colon c cs first) refl

  head_front : (owner at : ℕ) → head_of owner at 0 (c ∷ cs) ≡ (owner, at)
  head_front owner at = cond-false _ _ _ (not_white c cs first) ∙ last_of_four _ _ _ _ _ _ _ (no_item c cs first) (no_property c cs first) (no_key_whole (c ∷ cs) len)

  value_front : IsValue (c ∷ cs) tree
  value_front =
      record {
        black = not_blank c cs first;
        unindented = no_spaces c cs first;
        unblanked = no_blanks c cs first;
        untabbed = no_tab c cs first;
        kept = not_left_out c cs first;
        inside = no_document_start c cs first;
        bare = no_property c cs first;
        no_run = no_properties_len c cs first;
        none_from = no_property_from c cs first;
        undashed = no_item c cs first;
        unkeyed = unkeyed_front;
        head = head_front;
        lone = lone_is (c ∷ cs) bytes tree sizes (no_flow c cs first) (no_block c cs first) (no_alias c cs first) reads;
        alone = alone_is (c ∷ cs) bytes tree sizes (no_flow c cs first) (no_block c cs first) (no_alias c cs first) reads;
      }

-- a text that is spelled stands for itself
pub value_spelled : (word text : List ℕ) → IsSpelled Block word text (length word) → IsValue word (Scalar (encode_utf8_all text))
value_spelled word text is =
    let tree = Scalar (encode_utf8_all text) in
    let same : length word ≡ length (is.front ∷ is.more) = ap length is.is in
    subst (λ w. IsValue w tree) (sym is.is)
    (value_front is.front is.more is.first tree (encode_utf8_all text) (scalar_sizes (encode_utf8_all text))
    (ap (key_len Block) (sym is.is) ∙ len_is Block word text (length word) is ∙ same)
    (λ p row at here. scalar_is Block word text (length word) is p row at (here ∙ sym is.is) ∙ ap (nodes.scalar no_properties p row at tree (encode_utf8_all text)) same))

-- a text, in quotes or not
pub text_value : (text : List ℕ) → IsValue (scalar text) (Scalar (encode_utf8_all text))
text_value text = value_spelled (scalar text) text (subst (λ l. IsSpelled Block l text (length (scalar text))) (append-nil (scalar text)) (scalar_spelled Block text [] refl))

-- the word for null
pub null_value : IsValue (codes "null") Null
null_value = value_front 110 (117 ∷ 108 ∷ 108 ∷ []) refl Null [] null_sizes refl (λ p row at here. null_scalar Block [] refl p row at here)

-- a word without a minus
pub unsigned_value : (text : List ℕ) → is_unsigned_word text ≡ true → IsValue text (Scalar (encode_utf8_all text))
unsigned_value text reads = value_spelled text text (subst (λ l. IsSpelled Block l text (length text)) (append-nil text) (word_spelled Block text [] reads refl))

module _ (opening close : ℕ) (opens : begins_flow (opening ∷ close ∷ []) ≡ true) (tree : Tree) (sizes : IsOfSizes tree 1 1 0)
    (reads : (levels : ℕ) (p : Progress) (row : Row) (at : ℕ) → p.nodes < 200000 → p.text ≤ 16777216 → drop at row.chars ≡ opening ∷ close ∷ [] → flow (suc levels) no_properties p row at ≡ Ok ((tree, at + 1 + 1), grown p 1 0)) where
  -- a collection without parts that takes the rest of its line
  alone_flow : (levels indent column : ℕ) (p : Progress) (line : LogicalLine) (at : ℕ) → drop at line.row.chars ≡ opening ∷ close ∷ [] → depth tree ≤ levels
      → p.nodes + node_count tree ≤ 200000 → p.text + text_size tree ≤ 16777216 → inline_alone levels indent column no_properties p line at [] ≡ Ok (tree, grown p (node_count tree) (text_size tree))
  alone_flow zero indent column p line at here deep room fits = absurd (omega (arith, deep, sizes.levels))
  alone_flow (suc levels) indent column p line at here deep room fits =
      let flat : begins_flow (drop at line.row.chars) ≡ true = ap begins_flow here ∙ opens in
      let one : p.nodes < 200000 = omega (arith, room, sizes.nodes) in
      let long : p.text ≤ 16777216 = omega (arith, fits, sizes.text) in
      let end : at + 1 + 1 ≡ at + 2 = omega arith in
      let read : inline (suc levels) column no_properties p line at ≡ Ok ((tree, at + 1 + 1), grown p 1 0) = cond-true _ _ _ flat ∙ reads levels p line.row at one long here in
      alone_by (suc levels) indent column p (grown p 1 0) line at (at + 1 + 1) tree read (ap (λ n. drop n line.row.chars) end ∙ nothing_behind at line.row.chars (opening ∷ close ∷ []) here)
      ∙ (λ i. Ok (tree, grown p (sym sizes.nodes i) (sym sizes.text i)))

-- the mapping without entries
pub empty_map_value : IsValue (codes "{}") (Map [])
empty_map_value =
    record {
      black = λ white. refl;
      unindented = refl;
      unblanked = refl;
      untabbed = refl;
      kept = refl;
      inside = refl;
      bare = refl;
      no_run = refl;
      none_from = λ may_be_marked p row at. refl;
      undashed = refl;
      unkeyed = refl;
      head = λ owner at. refl;
      lone = lone_map;
      alone = alone_flow 123 125 refl (Map []) (map_sizes []) empty_map;
    }

-- the sequence without items
pub empty_seq_value : IsValue (codes "[]") (Seq [])
empty_seq_value =
    record {
      black = λ white. refl;
      unindented = refl;
      unblanked = refl;
      untabbed = refl;
      kept = refl;
      inside = refl;
      bare = refl;
      no_run = refl;
      none_from = λ may_be_marked p row at. refl;
      undashed = refl;
      unkeyed = refl;
      head = λ owner at. refl;
      lone = lone_seq;
      alone = alone_flow 91 93 refl (Seq []) (seq_sizes []) empty_seq;
    }
