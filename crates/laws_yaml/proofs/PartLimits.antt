-- What every part of a block keeps.
use Rattle.std.proofs.Common.{◌≡◌, ℕ, List, [], ◌∷◌, Bool, Option, Some, None, refl}
use Rattle.yaml_groups.specs.declared.line.LogicalLine.{LogicalLine}
use Rattle.yaml_lines.specs.Blanks.{tab_indent}
use Rattle.yaml_nodes.specs.declared.progress.Progress.{Progress}
use Rattle.yaml_nodes.specs.Marks.{is_left_out}
use Rattle.laws_yaml.proofs.Chains.{Yields, given, refused, either, chained, followed}
use Rattle.yaml_tree.specs.Parts.{PartReader, begun, block, later_parts, parted, untabbed}

untabbed_same : (p : Progress) (line : LogicalLine) (tab : Option ℕ) → Yields (λ q. p ≡ q) (untabbed p line tab)
untabbed_same p line (Some tab) = refused _
untabbed_same p line None = either (is_left_out line.row.chars) _ _ (refused _) (given p refl)

-- a line's own rules change nothing
pub begun_same : (p : Progress) (line : LogicalLine) → Yields (λ q. p ≡ q) (begun p line)
begun_same p line = untabbed_same p line (tab_indent line.row.chars)

module _ {A : Type 0} (R : A × Progress → Type 0) (read : PartReader A)
    (keeps : (done : A × Progress) (line : LogicalLine) (more : List LogicalLine) → R done → Yields R (read done line more)) where
  later_parts_keep : (belongs : LogicalLine → Bool) (done : A × Progress) (parts : List (LogicalLine × List LogicalLine)) → R done → Yields R (later_parts belongs read done parts)
  later_parts_keep belongs done [] h = given done h
  later_parts_keep belongs done ((line, more) ∷ parts) h =
      followed (begun done.1 line) _
      (λ p. either (belongs line) _ _ (chained _ _ (keeps done line more h) (λ after k. later_parts_keep belongs after parts k)) (refused _))

  -- what holds before the first part, and is kept by each, holds behind a block
  pub block_keeps : (begins belongs : LogicalLine → Bool) (none : A × Progress) (line : LogicalLine) (more : List LogicalLine) → R none → Yields R (block begins belongs read none line more)
  block_keeps begins belongs none line more h =
      chained _ _ (keeps none line (parted begins more).0 h) (λ done k. later_parts_keep belongs done (parted begins more).1 k)
