use Rattle.std.proofs.Common.{◌∙◌, Option, ap, sym}
use Rattle.tree_base.specs.declared.Tree.{Tree}
use Rattle.merge_tables.specs.declared.rules.Standing.TheVariants.{Value}
use Rattle.merge_tables.specs.Answers.{turned, within}
use Rattle.merge_tables.specs.Attributes.{overlay_rules}
use Rattle.merge_rules.specs.Overlay.{laid, over_files}
use Rattle.merge_tables.specs.Parts.{or_null}
use Rattle.merge_tables.proofs.Answering.{fails_on, gives_same, goes_on}
use Rattle.merge_rules.proofs.layers.overlay_onto.Goals as goal

pub returns-in-Ok : goal.returns-in-Ok
unfolding over_files
returns-in-Ok c =
    let answer = goes_on (laid c.args.over.now Value overlay_rules c.args.base) (λ (tree : Option Tree). within (or_null tree)) c.in-Ok.tree c.in-Ok.ensures in
    gives_same c.within.result _ (answer ∙ ap within (sym c.or_null.ensures) ∙ sym c.within.ensures)

pub returns-in-Err : goal.returns-in-Err
unfolding over_files
returns-in-Err c =
    rw c.from_root.ensures (fails_on (turned c.in-Err.refusal) (laid c.args.over.now Value overlay_rules c.args.base) (λ (tree : Option Tree). within (or_null tree)) c.in-Err.ensures)
