-- A node of a flow collection, one level opened.
use Rattle.std.proofs.Common.{◌≡◌, ◌∙◌, ℕ, zero, suc, ◌-◌, true, false, refl, arith}
use Rattle.yaml_flow.specs.Flow.{flow, flow_mapping, flow_sequence, flow_with}
use Rattle.yaml_lines.specs.declared.plain.Context.TheVariants.{Flow}
use Rattle.yaml_lines.specs.declared.row.Row.{Row}
use Rattle.yaml_lines.specs.Rows.{text_at}
use Rattle.yaml_nodes.specs.declared.progress.Progress.{Progress}
use Rattle.yaml_nodes.specs.declared.properties.Properties.{Properties}
use Rattle.yaml_nodes.specs.Marks.{starts}
use Rattle.yaml_nodes.specs.Progress.{◌>>=◌}
use Rattle.yaml_nodes.specs.Properties.{unspelled}
use Rattle.yaml_nodes.specs.Scalars.{word}

-- no node takes a level where none is left, so its content has one level less in any case
opened : (levels : ℕ) (found : Properties) (p : Progress) (row : Row) (at : ℕ) → flow levels found p row at ≡ flow_with levels (levels - 1) (flow (levels - 1)) found p row at
opened zero found p row at = refl
opened (suc levels) found p row at = let e : suc levels - 1 ≡ levels = omega arith in rw e refl

module _ (levels : ℕ) (found : Properties) (p : Progress) (row : Row) (at : ℕ) where
  pub at_sequence : starts 91 (text_at row at) ≡ true → flow levels found p row at ≡ (unspelled p row found >>= λ found. flow_sequence levels (levels - 1) (flow (levels - 1)) found p row at)
  at_sequence square = opened levels found p row at ∙ rw square refl

  pub at_mapping : starts 91 (text_at row at) ≡ false → starts 123 (text_at row at) ≡ true → flow levels found p row at ≡ (unspelled p row found >>= λ found. flow_mapping levels (levels - 1) (flow (levels - 1)) found p row at)
  at_mapping other curly = opened levels found p row at ∙ rw (other, curly) refl

  pub at_word : starts 91 (text_at row at) ≡ false → starts 123 (text_at row at) ≡ false → flow levels found p row at ≡ word Flow levels found p row at
  at_word other another = opened levels found p row at ∙ rw (other, another) refl
