-- What the JSON of a node gives once it is read and its scalars have their values.
use Rattle.laws_pages.proofs.Values.{printed_value}
use Rattle.laws_yaml.proofs.JsonFiles.{printed_back}
use Rattle.laws_yaml.specs.Printed.{tree_of}
use Rattle.laws_pages.specs.JsonPageLaws.{JsonGivesValues}

pub values_given : JsonGivesValues
values_given env file node printable within = (tree_of node, printed_back file node printable within, printed_value env node printable within.text)
