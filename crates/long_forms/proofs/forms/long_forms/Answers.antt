use Rattle.std.proofs.Common.{◌∙◌, sym}
use Rattle.merge_tables.specs.Answers.{turned, within}
use Rattle.merge_tables.specs.Attributes.{short_rules}
use Rattle.long_forms.specs.LongForms.{lengthened, long_forms}
use Rattle.merge_tables.proofs.Answering.{fails_on, gives_same, goes_on}
use Rattle.long_forms.proofs.forms.long_forms.Goals as goal

pub returns-in-Ok : goal.returns-in-Ok
unfolding long_forms
returns-in-Ok c =
    gives_same c.within.result (long_forms c.args.tree) (goes_on (lengthened c.args.tree short_rules) within c.in-Ok.long c.in-Ok.ensures ∙ sym c.within.ensures)

pub returns-in-Err : goal.returns-in-Err
unfolding long_forms
returns-in-Err c =
    rw c.from_root.ensures (fails_on (turned c.in-Err.refusal) (lengthened c.args.tree short_rules) within c.in-Err.ensures)
