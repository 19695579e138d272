use Rattle.std.proofs.Common.{Option, []}
use Rattle.tree_base.specs.declared.Tree.{Tree, Null}
use Rattle.merge_tables.specs.declared.rules.Standing.TheVariants.{Value}
use Rattle.merge_tables.specs.Answers.{turned}
use Rattle.merge_rules.specs.Overlay.{laid, over_files, overlaid}
use Rattle.merge_tables.specs.Parts.{or_null}
use Rattle.merge_tables.proofs.Answering.{fails_on, goes_on}
use Rattle.merge_rules.proofs.layers.overlay.Goals as goal

pub returns-in-Ok : goal.returns-in-Ok
unfolding overlaid
returns-in-Ok c =
    let over = c.args.over.now in
    let answer = goes_on (laid c.args.base.now Value [] Null) (λ (tree : Option Tree). over_files (or_null tree) over) c.in-Ok.bare c.in-Ok.ensures in
    rw (answer, ← c.or_null.ensures) c.overlay_onto.ensures

pub returns-in-Err : goal.returns-in-Err
unfolding overlaid
returns-in-Err c =
    rw c.from_root.ensures (fails_on (turned c.in-Err.refusal) (laid c.args.base.now Value [] Null) (λ (tree : Option Tree). over_files (or_null tree) c.args.over.now) c.in-Err.ensures)
