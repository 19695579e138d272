-- The lines of a page: spaces before a dash, a key or a value that ends on its line, so that no later row belongs to one of them.
use Rattle.std.proofs.Common.{◌≡◌, ◌∙◌, ℕ, zero, suc, ◌+◌, ◌||◌, Bool, true, false, cond, All, List, [], ◌∷◌, ◌++◌, None, Ok, codes, drop, take, flat_map, length, map, refl, sym, ap, subst, arith}
use Rattle.std.proofs.lemmas.Bool.{cond-false, or_parts}
use Rattle.std.proofs.lemmas.List.{drop-drop, drop_at}
use Rattle.std.proofs.lemmas.List.Elements.{All-append, All-cons, All-head, All-map, All-nil, All-tail, All-weaker}
use Rattle.yaml_groups.specs.declared.line.LogicalLine.{LogicalLine}
use Rattle.yaml_groups.specs.Grouped.{begins_flow, belonging, grouped, head_of, with_lines}
use Rattle.project_print.specs.Pages.{Shown, block, deeper, entry, item, lines_of, word}
use Rattle.project_print.specs.Scalars.{scalar}
use Rattle.tree_base.specs.declared.tree.Tree.{Tree}
use Rattle.yaml_lines.specs.Blanks.{is_blank, is_rest_blank, is_tab_first, spaces, tab_indent}
use Rattle.yaml_lines.specs.declared.row.Row.{Row}
use Rattle.yaml_nodes.specs.declared.progress.Progress.{Progress}
use Rattle.yaml_nodes.specs.Marks.{is_left_out, starts, starts_with}
use Rattle.yaml_tree.specs.Parts.{begun}
use Rattle.laws_yaml.proofs.Keys.{IsKeyLine, key_line}
use Rattle.laws_yaml.proofs.Standing.{Stand, lone_line, margin}
use Rattle.laws_yaml.proofs.Values.{IsValue}

-- a line of a page: none that is blank, left out or begins with a tab, and no later row belongs to it
pub record IsPageLine (cs : List ℕ) : Type 0 where
  pub black : (white : Bool) → is_rest_blank white cs ≡ false
  pub untabbed : is_tab_first cs ≡ false
  pub kept : is_left_out cs ≡ false
  pub lone : (owner at : ℕ) (row : Row) (rows : List Row) → drop at row.chars ≡ cs → belonging (head_of owner at 0 cs) row rows ≡ 0

abbrev pub ArePageLines : Shown → Type 0
ArePageLines shown = All IsPageLine (lines_of shown)

no_tab : (cs : List ℕ) → IsPageLine cs → tab_indent cs ≡ None
no_tab cs is = rw (is.black true, is.untabbed)

-- such a line keeps a line's own rules
pub begun_is : (p : Progress) (line : LogicalLine) → IsPageLine line.row.chars → begun p line ≡ Ok p
begun_is p line is = rw (no_tab line.row.chars is, is.kept)

-- a row with no lines that belong to it is alone, with an empty flow collection too
row_alone : (at : ℕ) (row : Row) → with_lines at row [] ≡ lone_line row
row_alone at row = by (begins_flow (drop at row.chars))
  where
    by : (b : Bool) → cond b (lone_line row) (lone_line row) ≡ lone_line row
    by true = refl
    by false = refl

-- the line of a row with a head, and those of the rows behind it
abbrev headed : Row → List Row → ℕ × ℕ → List LogicalLine
headed row rows head = with_lines head.1 row (take (belonging head row rows) rows) ∷ grouped head.0 (belonging head row rows) rows

grouped_one : (owner : ℕ) (row : Row) (rows : List Row) → IsPageLine row.chars → grouped owner 0 (row ∷ rows) ≡ lone_line row ∷ grouped (head_of owner 0 0 row.chars).0 0 rows
grouped_one owner row rows is =
    let head = head_of owner 0 0 row.chars in
    cond-false (is_blank row.chars) (grouped owner 0 rows) (headed row rows head) (is.black true)
    ∙ ap (λ n. with_lines head.1 row (take n rows) ∷ grouped head.0 n rows) (is.lone owner 0 row rows refl)
    ∙ ap (λ line. line ∷ grouped head.0 0 rows) (row_alone head.1 row)

-- rows of a page are lines each for itself
pub grouped_are : (owner : ℕ) (rows : List Row) → All (λ row. IsPageLine row.chars) rows → grouped owner 0 rows ≡ map lone_line rows
grouped_are owner [] all = refl
grouped_are owner (row ∷ rows) all =
    grouped_one owner row rows (All-head (λ (row : Row). IsPageLine row.chars) row rows all)
    ∙ ap (λ lines. lone_line row ∷ lines) (grouped_are (head_of owner 0 0 row.chars).0 rows (All-tail (λ (row : Row). IsPageLine row.chars) row rows all))

one_further : (n c : ℕ) (cs : List ℕ) → drop (n + 1) (c ∷ cs) ≡ drop n cs
one_further n c cs = let next : n + 1 ≡ suc n = omega arith in ap (λ k. drop k (c ∷ cs)) next

-- what stands behind a character
behind : (at c : ℕ) (cs line : List ℕ) → drop at line ≡ c ∷ cs → drop (at + 1) line ≡ cs
behind at c cs line here = sym (drop-drop 1 at line) ∙ ap (drop 1) here

-- no line behind spaces is left out, where it isn't by itself
unasked : (cs : List ℕ) → is_left_out cs ≡ false → starts_with (codes "? ") (drop (spaces cs) cs) ≡ false
unasked cs kept =
    let asked = starts_with (codes "? ") (drop (spaces cs) cs) in
    let marked = (or_parts (starts_with (codes "---") cs) (starts_with (codes "...") cs || (starts 37 cs || asked)) kept).1 in
    let directive = (or_parts (starts_with (codes "...") cs) (starts 37 cs || asked) marked).1 in
    (or_parts (starts 37 cs) asked directive).1

-- a line with a space in front
space_line : (cs : List ℕ) → IsPageLine cs → IsPageLine (32 ∷ cs)
space_line cs is = record {
  black = λ white. is.black true;
  untabbed = is.untabbed;
  kept = ap (starts_with (codes "? ")) (one_further (spaces cs) 32 cs) ∙ unasked cs is.kept;
  lone = λ owner at row rows here. is.lone owner (at + 1) row rows (behind at 32 cs row.chars here);
}

deeper_lines : (lines : List (List ℕ)) → All IsPageLine lines → All IsPageLine (map deeper lines)
deeper_lines lines all = All-map IsPageLine deeper lines (All-weaker IsPageLine (λ cs. IsPageLine (deeper cs)) (λ cs is. space_line (32 ∷ cs) (space_line cs is)) lines all)

margin_line : (column : ℕ) (cs : List ℕ) → IsPageLine cs → IsPageLine (margin column cs)
margin_line zero cs is = is
margin_line (suc column) cs is = space_line (margin column cs) (margin_line column cs is)

-- rows with lines of a page
pub rows_are : (column : ℕ) (lines : List (List ℕ)) (rows : List Row) → All IsPageLine lines → Stand column lines rows → All (λ row. IsPageLine row.chars) rows
rows_are column [] [] all stand = All-nil (λ (row : Row). IsPageLine row.chars)
rows_are column [] (row ∷ rows) all stand = absurd stand
rows_are column (line ∷ lines) [] all stand = absurd stand
rows_are column (line ∷ lines) (row ∷ rows) all stand =
    let chars : row.chars ≡ margin column line = ap (λ (r : Row). r.chars) stand.0 in
    All-cons (λ (row : Row). IsPageLine row.chars) row rows
    (subst IsPageLine (sym chars) (margin_line column line (All-head IsPageLine line lines all)))
    (rows_are column lines rows (All-tail IsPageLine line lines all) stand.1)

-- a value alone
value_line : {tree : Tree} (text : List ℕ) → IsValue text tree → IsPageLine text
value_line text is = record {
  black = is.black;
  untabbed = is.untabbed;
  kept = is.kept;
  lone = λ owner at row rows here. ap (λ head. belonging head row rows) (is.head owner at) ∙ is.lone owner at row rows here;
}

-- a dash and a space before a line
dash_line : (cs : List ℕ) → IsPageLine cs → IsPageLine (45 ∷ 32 ∷ cs)
dash_line cs is = record {
  black = λ white. refl;
  untabbed = refl;
  kept = refl;
  lone = λ owner at row rows here. is.lone at (at + 1 + 1) row rows (behind (at + 1) 32 cs row.chars (behind at 45 (32 ∷ cs) row.chars here));
}

-- what stands behind a key and its colon
behind_key : (at : ℕ) (key rest line : List ℕ) → drop at line ≡ key ++ 58 ∷ rest → drop (at + length key + 1) line ≡ rest
behind_key at key rest line here =
    let colon : drop (at + length key) line ≡ 58 ∷ rest = sym (drop-drop (length key) at line) ∙ ap (drop (length key)) here ∙ drop_at key (58 ∷ rest) (length key) refl in
    behind (at + length key) 58 rest line colon

-- a line that begins with a key and its colon, where no later row belongs to what stands behind them
key_front : (key rest : List ℕ) → IsKeyLine key rest
    → ((owner at : ℕ) (row : Row) (rows : List Row) → drop at row.chars ≡ rest → belonging (head_of owner at 0 rest) row rows ≡ 0)
    → IsPageLine (scalar key ++ 58 ∷ rest)
key_front key rest is lone = record {
  black = is.black;
  untabbed = is.untabbed;
  kept = is.kept;
  lone = λ owner at row rows here. ap (λ head. belonging head row rows) (is.head owner at) ∙ lone at (at + length (scalar key) + 1) row rows (behind_key at (scalar key) rest row.chars here);
}

-- nothing stands behind the key above a block
nothing_belongs : (owner at : ℕ) (row : Row) (rows : List Row) → drop at row.chars ≡ [] → belonging (head_of owner at 0 []) row rows ≡ 0
nothing_belongs owner at row rows here = rw here

key_above : (key : List ℕ) → IsPageLine (scalar key ++ 58 ∷ [])
key_above key = key_front key [] (key_line key [] refl) nothing_belongs

key_before : (key text : List ℕ) → IsPageLine text → IsPageLine (scalar key ++ 58 ∷ 32 ∷ text)
key_before key text is = key_front key (32 ∷ text) (key_line key (32 ∷ text) refl) (space_line text is).lone

one_line : (cs : List ℕ) → IsPageLine cs → All IsPageLine (cs ∷ [])
one_line cs is = All-cons IsPageLine cs [] is (All-nil IsPageLine)

-- the line of a word
pub value_lines : {tree : Tree} (text : List ℕ) → IsValue text tree → ArePageLines (word text)
value_lines text is = one_line text (value_line text is)

-- the lines of an item
pub item_lines : (value : Shown) → ArePageLines value → ArePageLines (item value)
item_lines value all =
    All-cons IsPageLine (45 ∷ 32 ∷ value.first) (map deeper value.more)
    (dash_line value.first (All-head IsPageLine value.first value.more all)) (deeper_lines value.more (All-tail IsPageLine value.first value.more all))

-- the line of a key before a word
pub entry_of_word : {tree : Tree} (key text : List ℕ) → IsValue text tree → ArePageLines (entry (key, word text))
entry_of_word key text is = one_line (scalar key ++ 58 ∷ 32 ∷ text) (key_before key text (value_line text is))

-- the lines of a key above a block
pub entry_of_block : (key : List ℕ) (value : Shown) → value.is_block ≡ true → ArePageLines value → ArePageLines (entry (key, value))
entry_of_block key value is_block all =
    subst (λ b. ArePageLines (cond b above before)) (sym is_block)
    (All-cons IsPageLine (scalar key ++ 58 ∷ []) (map deeper (lines_of value)) (key_above key) (deeper_lines (lines_of value) all))
  where
    above : Shown
    above = record { is_block = true; first = scalar key ++ codes ":"; more = map deeper (lines_of value) }

    before : Shown
    before = record { is_block = true; first = scalar key ++ (codes ": " ++ value.first); more = map deeper value.more }

all_lines : (parts : List Shown) → All ArePageLines parts → All IsPageLine (flat_map lines_of parts)
all_lines [] all = All-nil IsPageLine
all_lines (part ∷ parts) all = All-append IsPageLine (lines_of part) (flat_map lines_of parts) (All-head ArePageLines part parts all) (all_lines parts (All-tail ArePageLines part parts all))

-- the lines of parts below one another
pub block_lines : (empty : List ℕ) (parts : List Shown) → IsPageLine empty → All ArePageLines parts → ArePageLines (block empty parts)
block_lines empty [] is all = one_line empty is
block_lines empty (part ∷ parts) is all = all_lines (part ∷ parts) all
