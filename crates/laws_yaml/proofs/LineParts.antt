-- Lines without the numbers of their rows: how they are cut into parts, and what is read alike of each.
use Rattle.std.proofs.Common.{◌≡◌, ◌∙◌, ℕ, ◌+◌, List, [], ◌∷◌, Bool, true, false, ◌||◌, not, Option, Some, None, map, refl, sym, ap, if◌then◌else◌}
use Rattle.std.proofs.lemmas.List.{length-map}
use Rattle.yaml_groups.specs.declared.line.LogicalLine.{LogicalLine}
use Rattle.yaml_lines.specs.Blanks.{tab_indent}
use Rattle.yaml_lines.specs.declared.refusal.YamlFault.TheVariants.{BadIndent, TabIndent, Unsupported}
use Rattle.yaml_nodes.specs.declared.progress.Progress.{Progress}
use Rattle.yaml_nodes.specs.Marks.{is_left_out}
use Rattle.yaml_tree.specs.Parts.{PartReader, begun, block, first_indent, is_bare, is_item_at, later_parts, parted, untabbed, value_len}
use Rattle.laws_yaml.proofs.Alike.{Alike, Same, beside, either, either_by, gives, followed, followed_beside}
use Rattle.laws_yaml.proofs.Places.{bad_same, bare}

-- a line without the numbers of its rows
abbrev pub bare_line : LogicalLine → LogicalLine
bare_line line = record { row = bare line.row; content = map bare line.content }

abbrev pub bare_lines : List LogicalLine → List LogicalLine
bare_lines lines = map bare_line lines

abbrev bare_part : LogicalLine × List LogicalLine → LogicalLine × List LogicalLine
bare_part part = (bare_line part.0, bare_lines part.1)

abbrev Cut : Type 0
Cut = List LogicalLine × List (LogicalLine × List LogicalLine)

abbrev bare_cut : Cut → Cut
bare_cut cut = (bare_lines cut.0, map bare_part cut.1)

-- a line before the parts that are cut behind it
abbrev put : Bool → LogicalLine → Cut → Cut
put begins line rest = if begins then ([], (line, rest.0) ∷ rest.1) else (line ∷ rest.0, rest.1)

put_bare : (begins : Bool) (line : LogicalLine) (rest : Cut) → put begins (bare_line line) (bare_cut rest) ≡ bare_cut (put begins line rest)
put_bare true line rest = refl
put_bare false line rest = refl

parted_bare : (begins : LogicalLine → Bool) → ((line : LogicalLine) → begins (bare_line line) ≡ begins line) → (lines : List LogicalLine) → parted begins (bare_lines lines) ≡ bare_cut (parted begins lines)
parted_bare begins same [] = refl
parted_bare begins same (line ∷ lines) =
    ap (λ b. put b (bare_line line) (parted begins (bare_lines lines))) (same line)
    ∙ ap (put (begins line) (bare_line line)) (parted_bare begins same lines)
    ∙ put_bare (begins line) line (parted begins lines)

untabbed_same : (p : Progress) (line : LogicalLine) (tab : Option ℕ) → Same (untabbed p line tab) (untabbed p (bare_line line) tab)
untabbed_same p line (Some tab) = bad_same TabIndent p line.row tab
untabbed_same p line None = either (is_left_out line.row.chars) (bad_same Unsupported p line.row line.row.indent) (gives refl)

-- a line's own rules
pub begun_same : (p : Progress) (line : LogicalLine) → Same (begun p line) (begun p (bare_line line))
begun_same p line = untabbed_same p line (tab_indent line.row.chars)

-- what two readers read of a part is alike
abbrev pub AlikeParts : {A B : Type 0} → (A → B) → PartReader A → Type 0
AlikeParts {A = A} keep read = (x y : A) (p : Progress) (line : LogicalLine) (more : List LogicalLine) → keep x ≡ keep y → Alike (beside keep) (read (x, p) line more) (read (y, p) (bare_line line) (bare_lines more))

module _ {A B : Type 0} (keep : A → B) (read : PartReader A) (same : AlikeParts keep read) (belongs : LogicalLine → Bool) (belongs_same : (line : LogicalLine) → belongs (bare_line line) ≡ belongs line) where
  later_same : (x y : A) (p : Progress) (parts : List (LogicalLine × List LogicalLine)) → keep x ≡ keep y
      → Alike (beside keep) (later_parts belongs read (x, p) parts) (later_parts belongs read (y, p) (map bare_part parts))
  later_same x y p [] h = gives (λ i. (h i, p))
  later_same x y p ((line, more) ∷ parts) h =
      followed (begun_same p line)
      (λ q. either_by (belongs line) (belongs (bare_line line)) (sym (belongs_same line))
      (followed_beside keep _ _ (same x y p line more h) (λ a b r k. later_same a b r parts k))
      (bad_same BadIndent q line.row line.row.indent))

  -- a block, part by part
  pub block_same : (begins : LogicalLine → Bool) → ((line : LogicalLine) → begins (bare_line line) ≡ begins line) → (x y : A) (p : Progress) (line : LogicalLine) (more : List LogicalLine) → keep x ≡ keep y
      → Alike (beside keep) (block begins belongs read (x, p) line more) (block begins belongs read (y, p) (bare_line line) (bare_lines more))
  block_same begins begins_same x y p line more h =
      rw (parted_bare begins begins_same more)
      (followed_beside keep _ _ (same x y p line (parted begins more).0 h) (λ a b q k. later_same a b q (parted begins more).1 k))

-- how many lines of an entry come before an item that comes too late
pub value_len_bare : (column : ℕ) (stands : Bool) (lines : List LogicalLine) → value_len column stands (bare_lines lines) ≡ value_len column stands lines
value_len_bare column stands [] = refl
value_len_bare column stands (line ∷ more) =
    let len = length-map more bare_line in
    let rest = value_len_bare column (stands || not (is_bare line)) more in
    λ i. if is_item_at column line then (if stands then 0 else 1 + len i) else 1 + rest i

pub first_bare : (lines : List LogicalLine) → first_indent (bare_lines lines) ≡ first_indent lines
first_bare [] = refl
first_bare (line ∷ lines) = refl
