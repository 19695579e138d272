-- A line that begins with a key of a page and its colon.
use Rattle.std.proofs.Common.{◌≡◌, ◌∙◌, ℕ, zero, suc, ◌+◌, ◌≤◌, ◌||◌, Bool, true, false, List, [], ◌∷◌, ◌++◌, Ok, drop, length, refl, sym, ap, add-one, add-zero, length-append, arith}
use Rattle.std.proofs.lemmas.Bool.{cond-false}
use Rattle.std.proofs.lemmas.List.{drop-drop, drop_at}
use Rattle.std.specs.Str.{encode_utf8_all}
use Rattle.yaml_groups.specs.Grouped.{head_of}
use Rattle.project_print.specs.Scalars.{scalar}
use Rattle.yaml_lines.specs.Blanks.{is_rest_blank, is_tab_first, is_white, spaces}
use Rattle.yaml_lines.specs.declared.plain.Context.TheVariants.{Block}
use Rattle.yaml_lines.specs.declared.row.Row.{Row}
use Rattle.yaml_lines.specs.Plain.{ends_plain, is_space_or_end}
use Rattle.yaml_nodes.specs.declared.key.Key.{Key}
use Rattle.yaml_nodes.specs.declared.progress.Progress.{Progress}
use Rattle.yaml_nodes.specs.Mappings.{key_at}
use Rattle.yaml_nodes.specs.Marks.{before_colon, is_item, is_key, is_key_behind, is_left_out, is_property}
use Rattle.yaml_tree.specs.Reading.{is_start}
use Rattle.laws_yaml.proofs.Firsts.{no_document_start, no_item, no_property, no_spaces, no_tab, not_blank, not_left_out, not_white}
use Rattle.laws_yaml.proofs.Spelled.{IsSpelled, scalar_spelled}
use Rattle.laws_yaml.proofs.PageTokens.{before_is, is_key_before, key_is}
use Rattle.laws_yaml.proofs.EntryLines.{third_of_four}

-- the key of a page, as it is read: never the merge key
abbrev pub page_key : List ℕ → Key
page_key key = record { is_merge = false; text = encode_utf8_all key; len = length (scalar key) }

-- a line that begins with a key and its colon
pub record IsKeyLine (key rest : List ℕ) : Type 0 where
  pub black : (white : Bool) → is_rest_blank white (scalar key ++ 58 ∷ rest) ≡ false
  pub unindented : spaces (scalar key ++ 58 ∷ rest) ≡ 0
  pub untabbed : is_tab_first (scalar key ++ 58 ∷ rest) ≡ false
  pub kept : is_left_out (scalar key ++ 58 ∷ rest) ≡ false
  pub inside : is_start (scalar key ++ 58 ∷ rest) ≡ false
  pub bare : is_property (scalar key ++ 58 ∷ rest) ≡ false
  pub undashed : is_item (scalar key ++ 58 ∷ rest) ≡ false
  pub begins : is_key_behind Block (scalar key ++ 58 ∷ rest) ≡ true
  pub before : before_colon Block (scalar key ++ 58 ∷ rest) ≡ length (scalar key)
  pub reads : (p : Progress) (row : Row) (at : ℕ) → drop at row.chars ≡ scalar key ++ 58 ∷ rest → key_at Block p row at ≡ Ok (page_key key)
  pub head : (owner at : ℕ) → head_of owner at 0 (scalar key ++ 58 ∷ rest) ≡ head_of at (at + length (scalar key) + 1) 0 rest

-- characters that belong to a key are passed over
passed : (owner at n : ℕ) (cs : List ℕ) → n ≤ length cs → head_of owner at n cs ≡ head_of owner (at + n) 0 (drop n cs)
passed owner at zero cs within = ap (λ k. head_of owner k 0 cs) (sym (add-zero at))
passed owner at (suc n) [] within = absurd (omega (arith, within))
passed owner at (suc n) (c ∷ cs) within =
    let e : at + 1 + n ≡ at + suc n = omega arith in
    passed owner (at + 1) n cs (omega (arith, within)) ∙ ap (λ k. head_of owner k 0 (drop n cs)) e

key_head : (owner at c : ℕ) (cs : List ℕ) → is_white c ≡ false → is_item (c ∷ cs) ≡ false → is_property (c ∷ cs) ≡ false → is_key Block (c ∷ cs) ≡ true
    → head_of owner at 0 (c ∷ cs) ≡ head_of at (at + 1) (before_colon Block (c ∷ cs)) cs
key_head owner at c cs black undashed bare keyed = cond-false _ _ _ black ∙ third_of_four _ _ _ _ _ _ _ undashed bare keyed

ends : (rest : List ℕ) → is_space_or_end rest ≡ true → ends_plain Block false (58 ∷ rest) ≡ true
ends rest space = ap (λ b. b || false) space

module _ (key rest : List ℕ) (space : is_space_or_end rest ≡ true) (is : IsSpelled Block (scalar key ++ 58 ∷ rest) key (length (scalar key))) where
  abbrev line : List ℕ
  line = scalar key ++ 58 ∷ rest

  behind : drop (length (scalar key)) line ≡ 58 ∷ rest
  behind = drop_at (scalar key) (58 ∷ rest) (length (scalar key)) refl

  before_line : before_colon Block line ≡ length (scalar key)
  before_line = before_is Block line key (length (scalar key)) is (58 ∷ rest) behind refl

  both_keys : (is_key Block line ≡ true) × (is_key_behind Block line ≡ true)
  both_keys = is_key_before Block line key (length (scalar key)) is (58 ∷ rest) behind refl space

  -- what stands behind the colon
  rest_is : drop (length (scalar key)) is.more ≡ rest
  rest_is =
      let n = length (scalar key) in
      ap (drop (suc n)) (sym is.is) ∙ ap (λ k. drop k line) (sym (add-one n)) ∙ sym (drop-drop 1 n line) ∙ ap (drop 1) behind

  within : length (scalar key) ≤ length is.more
  within = let whole : length (scalar key ++ 58 ∷ rest) ≡ suc (length is.more) = ap length is.is in omega (arith, whole, length-append (scalar key) (58 ∷ rest))

  head_line : (owner at : ℕ) → head_of owner at 0 line ≡ head_of at (at + length (scalar key) + 1) 0 rest
  head_line owner at =
      let n = length (scalar key) in
      let e : at + 1 + n ≡ at + n + 1 = omega arith in
      ap (head_of owner at 0) is.is
      ∙ key_head owner at is.front is.more (not_white is.front is.more is.first) (no_item is.front is.more is.first) (no_property is.front is.more is.first) (ap (is_key Block) (sym is.is) ∙ both_keys.0)
      ∙ ap (λ k. head_of at (at + 1) k is.more) (ap (before_colon Block) (sym is.is) ∙ before_line)
      ∙ passed at (at + 1) n is.more within
      ∙ ap (λ l. head_of at (at + 1 + n) 0 l) rest_is
      ∙ ap (λ k. head_of at k 0 rest) e

  line_is : IsKeyLine key rest
  line_is =
      record {
        black = λ white. ap (is_rest_blank white) is.is ∙ not_blank is.front is.more is.first white;
        unindented = ap spaces is.is ∙ no_spaces is.front is.more is.first;
        untabbed = ap is_tab_first is.is ∙ no_tab is.front is.more is.first;
        kept = ap is_left_out is.is ∙ not_left_out is.front is.more is.first;
        inside = ap is_start is.is ∙ no_document_start is.front is.more is.first;
        bare = ap is_property is.is ∙ no_property is.front is.more is.first;
        undashed = ap is_item is.is ∙ no_item is.front is.more is.first;
        begins = both_keys.1;
        before = before_line;
        reads = key_is Block line key (length (scalar key)) is;
        head = head_line;
      }

-- a key in quotes or not, a colon and a space or the line's end
pub key_line : (key rest : List ℕ) → is_space_or_end rest ≡ true → IsKeyLine key rest
key_line key rest space = line_is key rest space (scalar_spelled Block key (58 ∷ rest) (ends rest space))
