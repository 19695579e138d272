use Rattle.project_keys.proofs.Meanings.{given_keyed}
use Rattle.project_keys.proofs.keyed.keyed_project.Goals as goal

pub returns-clause-keyed : goal.returns-clause-keyed
returns-clause-keyed c = given_keyed c.args.name.now c.args.tree.now c.show_own_keys.ensures c.project_of.result c.project_of.ensures
