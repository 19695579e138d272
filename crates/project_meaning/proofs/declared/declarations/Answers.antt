use Rattle.std.proofs.Common.{◌∙◌, List, ap, map, sym}
use Rattle.tree_base.specs.Answers.{◌>>=◌}
use Rattle.tree_base.specs.declared.Tree.{out-Tree}
use Rattle.attribute_scalars.specs.Views.{seen_entry}
use Rattle.attribute_scalars.specs.Walks.{Entries, Read}
use Rattle.attribute_scalars.specs.declared.entries.Entry.{Entry}
use Rattle.project_meaning.specs.Meaning.{declarations, of_attributes}
use Rattle.project_meaning.specs.Parts.{declared_by}
use Rattle.project_meaning.proofs.Finishing.{gives_same}
use Rattle.project_meaning.proofs.declared.declarations.Goals as goal

pub returns-in-Ok-clause-value : goal.returns-in-Ok-clause-value
returns-in-Ok-clause-value c =
    let name = c.args.name.now in
    gives_same c.declared_by.result (declared_by name (map seen_entry c.as_slice.result.now)) (declarations name (out-Tree c.args.tree.now))
    (ap (λ (l : List Entry). declared_by name (map seen_entry l)) c.as_slice.ensures.value ∙ sym (ap (λ (x : Read Entries). of_attributes x >>= declared_by name) c.in-Ok.ensures))
    c.declared_by.ensures.value
