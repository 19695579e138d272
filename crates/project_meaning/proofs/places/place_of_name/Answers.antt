use Rattle.std.proofs.Common.{not, sym}
use Rattle.attribute_types.specs.declared.attribute.Attribute.{Attribute}
use Rattle.tree_base.specs.ByteOrder.{is_before}
use Rattle.project_meaning.proofs.Inserting.{found_at, none_found}
use Rattle.project_meaning.proofs.places.place_of_name.Goals as goal

pub returns-in-Some-clause-value : goal.returns-in-Some-clause-value
returns-in-Some-clause-value c =
    found_at (λ (other : Attribute). not (is_before other.name c.args.name.now)) c.args.attributes.now c.in-Some.at (sym c.in-Some.ensures)

pub returns-in-None-clause-value : goal.returns-in-None-clause-value
returns-in-None-clause-value c =
    none_found (λ (other : Attribute). not (is_before other.name c.args.name.now)) c.args.attributes.now (sym c.in-None.ensures)
