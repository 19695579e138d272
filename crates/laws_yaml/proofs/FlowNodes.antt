-- A node in a piece of a flow collection: what is read of it, and that nothing stands behind it.
use Rattle.std.proofs.Common.{◌≡◌, ◌∙◌, ℕ, ◌<◌, Bool, true, false, cond, eqb, nat_le, List, ◌∷◌, Ok, drop, ap, sym}
use Rattle.std.proofs.lemmas.Bool.{cond-false, cond-true, eq-eqb, lt-leb}
use Rattle.yaml_flow.specs.declared.piece.Piece.{Piece}
use Rattle.yaml_flow.specs.Flow.{FlowReader, at_stop, flow_node, flow_properties, nothing_before}
use Rattle.yaml_flow.specs.Gaps.{past_gap}
use Rattle.yaml_lines.specs.declared.refusal.YamlFault.TheVariants.{BadFlow}
use Rattle.yaml_lines.specs.declared.row.Row.{Row}
use Rattle.yaml_nodes.specs.declared.progress.Progress.{Progress}
use Rattle.yaml_nodes.specs.Marks.{is_property}
use Rattle.yaml_nodes.specs.Progress.{◌>>=◌, bad}
use Rattle.yaml_nodes.specs.Properties.{no_properties}
use Rattle.laws_yaml.proofs.Ends.{is_end, no_gap_behind}
use Rattle.laws_yaml.proofs.FlowTexts.{IsSolid}

-- a node without properties
pub node_by : (levels : ℕ) (read : FlowReader) (may_be_marked : Bool) (row : Row) (piece : Piece) (owner : ℕ) (p : Progress) (at c : ℕ) (cs : List ℕ)
    → drop at row.chars ≡ c ∷ cs → IsSolid c → at < piece.stop
    → flow_node levels read may_be_marked row piece owner p at ≡ read no_properties p row at
node_by levels read may_be_marked row piece owner p at c cs here solid more =
    let none : flow_properties 3 may_be_marked p row no_properties at ≡ Ok (no_properties, at) = cond-false (is_property (drop at row.chars)) _ _ (ap is_property here ∙ solid.property) in
    ap (λ r. r >>= λ found. cond (nat_le piece.stop found.1) (nothing_before levels found.0 p row owner found.1) (read found.0 p row found.1)) none
    ∙ cond-false _ _ _ (lt-leb piece.stop at more)

-- its piece ends behind it
pub stop_is : (row : Row) (piece : Piece) (p : Progress) (end : ℕ) (rest : List ℕ) → drop end row.chars ≡ rest
    → is_end rest ≡ true → piece.stop ≡ end → at_stop row piece p end ≡ Ok p
stop_is row piece p end rest here ends stop =
    ap (λ r. r >>= λ at. cond (eqb at piece.stop) (Ok p) (bad BadFlow p row piece.bracket)) (ap (past_gap p row end false false) here ∙ no_gap_behind p row end rest ends)
    ∙ cond-true _ _ _ (eq-eqb end piece.stop (sym stop))
