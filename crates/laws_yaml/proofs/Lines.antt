-- Lines belong together alike without the numbers of their rows.
use Rattle.std.proofs.Common.{◌≡◌, ◌∙◌, ℕ, zero, suc, ◌+◌, List, [], ◌∷◌, ◌++◌, Bool, true, false, take, drop, map, refl, sym, ap, if◌then◌else◌}
use Rattle.std.proofs.lemmas.List.{length-map, take-map}
use Rattle.yaml_groups.specs.declared.line.LogicalLine.{LogicalLine}
use Rattle.yaml_groups.specs.Grouped.{begins_block, begins_flow, belonging, flow_lines, grouped, head_of, joined_chars, with_lines}
use Rattle.yaml_lines.specs.Blanks.{is_blank}
use Rattle.yaml_lines.specs.Block.{block_of}
use Rattle.yaml_lines.specs.declared.block_style.Chomp.TheVariants.{Clip}
use Rattle.yaml_lines.specs.declared.row.Row.{Row}
use Rattle.laws_yaml.proofs.LineNodes.{lines_bare}
use Rattle.laws_yaml.proofs.LineParts.{bare_line}
use Rattle.laws_yaml.proofs.Places.{bare}

joined_bare : (chars : List ℕ) (rows : List Row) → joined_chars chars (map bare rows) ≡ joined_chars chars rows
joined_bare chars [] = refl
joined_bare chars (row ∷ rows) = ap (λ cs. chars ++ 10 ∷ cs) (joined_bare row.chars rows)

belonging_bare : (head : ℕ × ℕ) (row : Row) (rows : List Row) → belonging head (bare row) (map bare rows) ≡ belonging head row rows
belonging_bare head row rows =
    let joined = joined_bare row.chars rows in
    let len = length-map rows bare in
    let lines = lines_bare rows in
    λ i. if begins_flow (drop head.1 row.chars) then flow_lines (drop (head.1 + 1) (joined i)) (len i)
    else (if begins_block (drop head.1 row.chars) then (block_of false Clip head.0 (lines i)).1 else 0)

-- a line with those that belong to it, by whether it begins a flow collection
abbrev flow_or_block : Bool → Row → List ℕ → List Row → LogicalLine
flow_or_block flow row joined lines = if flow then record { row = record row { chars = joined }; content = [] } else record { row = row; content = lines }

flow_or_block_bare : (flow : Bool) (row : Row) (joined : List ℕ) (lines : List Row) → bare_line (flow_or_block flow row joined lines) ≡ flow_or_block flow (bare row) joined (map bare lines)
flow_or_block_bare true row joined lines = refl
flow_or_block_bare false row joined lines = refl

with_lines_bare : (value : ℕ) (row : Row) (lines : List Row) → bare_line (with_lines value row lines) ≡ with_lines value (bare row) (map bare lines)
with_lines_bare value row lines =
    flow_or_block_bare (begins_flow (drop value row.chars)) row (joined_chars row.chars lines) lines
    ∙ ap (λ joined. flow_or_block (begins_flow (drop value row.chars)) (bare row) joined (map bare lines)) (sym (joined_bare row.chars lines))

one_of : {A B : Type 0} (f : A → B) (b : Bool) (x y : A) (x' y' : B) → f x ≡ x' → f y ≡ y' → f (if b then x else y) ≡ (if b then x' else y')
one_of f true x y x' y' h k = h
one_of f false x y x' y' h k = k

-- the lines that are read
pub grouped_bare : (owner skip : ℕ) (rows : List Row) → map bare_line (grouped owner skip rows) ≡ grouped owner skip (map bare rows)
grouped_bare owner skip [] = refl
grouped_bare owner (suc skip) (row ∷ rows) = grouped_bare owner skip rows
grouped_bare owner zero (row ∷ rows) =
    let head = head_of owner 0 0 row.chars in
    let n = belonging head row rows in
    let line = with_lines_bare head.1 row (take n rows) in
    let rest = grouped_bare head.0 n rows in
    one_of (map bare_line) (is_blank row.chars) (grouped owner 0 rows) (with_lines head.1 row (take n rows) ∷ grouped head.0 n rows) _ _
    (grouped_bare owner 0 rows)
    ((λ i. line i ∷ rest i)
    ∙ ap (λ taken. with_lines head.1 (bare row) taken ∷ grouped head.0 n (map bare rows)) (sym (take-map bare n rows))
    ∙ ap (λ m. with_lines head.1 (bare row) (take m (map bare rows)) ∷ grouped head.0 m (map bare rows)) (sym (belonging_bare head row rows)))
