-- Texts that are nodes of flow collections: what is read where one stands, and how the cuts go over it.
use Rattle.std.proofs.Common.{◌≡◌, ℕ, ◌+◌, ◌≤◌, ◌||◌, Bool, true, false, eqb, List, ◌∷◌, ◌++◌, Ok, drop, length, refl, sym, ap, ◌∙◌}
use Rattle.std.proofs.lemmas.List.{drop-drop, drop_at}
use Rattle.tree_base.specs.declared.tree.Tree.{Tree}
use Rattle.tree_base.specs.Trees.{node_count, text_size}
use Rattle.yaml_flow.specs.Flow.{flow}
use Rattle.yaml_flow.specs.Gaps.{next_place, past_gap}
use Rattle.yaml_lines.specs.Blanks.{is_white}
use Rattle.yaml_lines.specs.declared.plain.Context.TheVariants.{Flow}
use Rattle.yaml_lines.specs.declared.row.Row.{Row}
use Rattle.yaml_nodes.specs.declared.progress.Progress.{Progress}
use Rattle.yaml_nodes.specs.Marks.{is_key_behind}
use Rattle.yaml_nodes.specs.Properties.{no_properties}
use Rattle.laws_yaml.proofs.Ends.{is_end}
use Rattle.laws_yaml.proofs.Taken.{Took}
use Rattle.laws_yaml.proofs.FlowTokens.{Goes}

-- a character that is no white space, and begins no line, no comment and no property
pub record IsSolid (c : ℕ) : Type 0 where
  pub feed : eqb c 10 ≡ false
  pub white : is_white c ≡ false
  pub hash : eqb c 35 ≡ false
  pub property : (eqb c 38 || eqb c 33) ≡ false

-- a text reads as a tree wherever it stands in a flow collection, with so many levels left
pub record IsFlowText (levels : ℕ) (text : List ℕ) (tree : Tree) : Type 0 where
  pub front : ℕ
  pub more : List ℕ
  pub is : text ≡ front ∷ more
  pub solid : IsSolid front
  pub goes : (n : ℕ) (rest : List ℕ) → is_end rest ≡ true → Goes n n text rest
  pub no_key : (rest : List ℕ) → is_end rest ≡ true → is_key_behind Flow (text ++ rest) ≡ false
  pub reads : (p : Progress) (row : Row) (at : ℕ) (rest : List ℕ) → drop at row.chars ≡ text ++ rest
      → is_end rest ≡ true → p.nodes + node_count tree ≤ 200000 → p.text + text_size tree ≤ 16777216
      → Took (flow levels no_properties p row at) (tree, at + length text) p (node_count tree) (text_size tree)

-- what stands behind a text in a row
pub behind_text : (row : Row) (at : ℕ) (text rest : List ℕ) → drop at row.chars ≡ text ++ rest
    → drop (at + length text) row.chars ≡ rest
behind_text row at text rest here = sym (drop-drop (length text) at row.chars) ∙ ap (drop (length text)) here ∙ drop_at text rest (length text) refl

gap_ends : (p : Progress) (row : Row) (at : ℕ) (white : Bool) (c : ℕ) (cs : List ℕ) → IsSolid c
    → past_gap p row at false white (c ∷ cs) ≡ Ok at
gap_ends p row at white c cs is = rw (is.feed, is.white, is.hash) refl

-- the next place is the one at which a text begins
pub place_is : (p : Progress) (row : Row) (at : ℕ) (white : Bool) (c : ℕ) (cs : List ℕ)
    → drop at row.chars ≡ c ∷ cs → IsSolid c → next_place p row white at ≡ Ok at
place_is p row at white c cs here is = ap (past_gap p row at false white) here ∙ gap_ends p row at white c cs is

-- and so it is from the space before it on
pub place_behind_space : (p : Progress) (row : Row) (at c : ℕ) (cs : List ℕ) → drop at row.chars ≡ 32 ∷ c ∷ cs
    → IsSolid c → next_place p row false at ≡ Ok (at + 1)
place_behind_space p row at c cs here is = ap (past_gap p row at false false) here ∙ gap_ends p row (at + 1) true c cs is
