use Rattle.std.proofs.Common.{◌∙◌, sym, ap}
use Rattle.project_print.specs.Pages.{shown}
use Rattle.project_print.proofs.Blocks.{map_is_block, seq_is_block}
use Rattle.project_print.proofs.node.Node.is_block.Goals as goal

pub returns-in-Map : goal.returns-in-Map
returns-in-Map c = map_is_block c.is_empty.result c.in-Map.entries c.is_empty.ensures ∙ ap (λ n. (shown n).is_block) (sym c.in-Map.is)

pub returns-in-Seq : goal.returns-in-Seq
returns-in-Seq c = seq_is_block c.is_empty-in-Seq.result c.in-Seq.items c.is_empty-in-Seq.ensures ∙ ap (λ n. (shown n).is_block) (sym c.in-Seq.is)
