use Rattle.std.specs.Prelude.{Some}
use Rattle.compose_cli.proofs.Circles.{spelled_acyclic}
use Rattle.cases_calls.proofs.call_answers.wanted_of.Goals as goal

pub wanted_for-wanted-requires-clause-acyclic : goal.wanted_for-wanted-requires-clause-acyclic
wanted_for-wanted-requires-clause-acyclic c = spelled_acyclic c.args.scene.now.words c.args.scene.now.env c.args.scene.now.directory (Some c.args.files.now.files) c.in-Ok.asked.loaded c.in-Ok.ensures.text
