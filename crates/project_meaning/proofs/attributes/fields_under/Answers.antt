use Rattle.project_meaning.proofs.Ordered.{none_distinct}
use Rattle.project_meaning.proofs.attributes.fields_under.Goals as goal

pub fields_of-requires : goal.fields_of-requires
fields_of-requires c = none_distinct
