-- Lines that spell one thing each: they are read by themselves, and each begins a part of its block.
use Rattle.std.proofs.Common.{◌≡◌, ℕ, List, [], ◌∷◌, Bool, true, false, All, Ok, Result, map, drop, refl, ap, subst, ◌∙◌}
use Rattle.std.proofs.lemmas.List.{get_or-map, length-map}
use Rattle.std.proofs.lemmas.List.Elements.{All-head, All-tail}
use Rattle.yaml_groups.specs.declared.line.LogicalLine.{LogicalLine}
use Rattle.yaml_groups.specs.Grouped.{begins_block, begins_flow, grouped, head_of}
use Rattle.yaml_lines.specs.Blanks.{is_blank, spaces}
use Rattle.yaml_lines.specs.Block.{lines_of_rows}
use Rattle.yaml_lines.specs.declared.lines.Line.{Line}
use Rattle.yaml_lines.specs.declared.refusal.YamlRefusal.{YamlRefusal}
use Rattle.yaml_lines.specs.declared.row.Row.{Row}
use Rattle.yaml_lines.specs.Rows.{row_of}
use Rattle.std.specs.Str.{chars}
use Rattle.yaml_nodes.specs.declared.progress.Progress.{Progress}
use Rattle.yaml_tree.specs.Parts.{parted}

-- a row of characters
abbrev pub row_with : ℕ → List ℕ → Row
row_with number cs = record { number = number; indent = spaces cs; chars = cs }

-- the value of a line begins at a place of it, behind a dash or a key at the first column, and no other line belongs to it
pub record IsOneLine (cs : List ℕ) : Type 0 where
  pub black : is_blank cs ≡ false
  pub at : ℕ
  pub head : head_of 0 0 0 cs ≡ (0, at)
  pub flat : begins_flow (drop at cs) ≡ false
  pub bare : begins_block (drop at cs) ≡ false

grouped_one : (row : Row) (rows : List Row) → IsOneLine row.chars → grouped 0 0 (row ∷ rows) ≡ record { row = row; content = [] } ∷ grouped 0 0 rows
grouped_one row rows one = rw (one.black, one.head, one.flat, one.bare)

-- something is read
abbrev pub Reads : {A : Type 0} → Result (A × Progress) YamlRefusal → A → Type 0
Reads r a = (q : Progress) × (r ≡ Ok (a, q))

-- a fact on each image is one on each thing
pub All-from_map : {X Y : Type 0} (P : Y → Type 0) (f : X → Y) (xs : List X) → All P (map f xs) → All (λ x. P (f x)) xs
All-from_map P f xs all k d lt = subst P (get_or-map f xs k d (f d) lt) (all k (f d) (rw (length-map xs f) lt))

module _ {X : Type 0} (spell : X → List ℕ) where
  -- the row that spells a thing, with its number
  abbrev pub row_at : ℕ × X → Row
  row_at x = row_with x.0 (spell x.1)

  -- the line that spells a thing, with its number
  abbrev pub line_at : ℕ × X → LogicalLine
  line_at x = record { row = row_at x; content = [] }

  -- lines that spell things are these with numbers
  pub rows_are : (lines : List Line) (xs : List X) → lines_of_rows (map row_of lines) ≡ map spell xs
      → (numbered : List (ℕ × X)) × (map row_of lines ≡ map row_at numbered) × (xs ≡ map (λ x. x.1) numbered)
  rows_are [] [] e = ([], refl, refl)
  rows_are [] (x ∷ xs) e = absurd cc
  rows_are (line ∷ lines) [] e = absurd cc
  rows_are (line ∷ lines) (x ∷ xs) e =
      let first : chars line.text ≡ spell x = cc in
      let later : lines_of_rows (map row_of lines) ≡ map spell xs = cc in
      let rest = rows_are lines xs later in
      ((line.number, x) ∷ rest.0, (λ i. row_with line.number (first i) ∷ rest.1 i), ap (λ l. x ∷ l) rest.2)

  pub grouped_are : (xs : List (ℕ × X)) → All (λ x. IsOneLine (spell x.1)) xs → grouped 0 0 (map row_at xs) ≡ map line_at xs
  grouped_are [] ones = refl
  grouped_are (x ∷ xs) ones =
      grouped_one (row_at x) (map row_at xs) (All-head (λ x. IsOneLine (spell x.1)) x xs ones)
      ∙ ap (λ lines. line_at x ∷ lines) (grouped_are xs (All-tail (λ x. IsOneLine (spell x.1)) x xs ones))

  -- the parts of a block in which each line begins one
  abbrev pub parts_of : List (ℕ × X) → List (LogicalLine × List LogicalLine)
  parts_of xs = map (λ x. (line_at x, [])) xs

  pub parted_are : (begins : LogicalLine → Bool) (xs : List (ℕ × X)) → All (λ x. begins (line_at x) ≡ true) xs → parted begins (map line_at xs) ≡ ([], parts_of xs)
  parted_are begins [] all = refl
  parted_are begins (x ∷ xs) all =
      let here = All-head (λ x. begins (line_at x) ≡ true) x xs all in
      let rest = parted_are begins xs (All-tail (λ x. begins (line_at x) ≡ true) x xs all) in
      rw (here, rest)
