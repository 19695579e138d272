use Rattle.run_model.specs.Rolling.{has_name_of_another}
use Rattle.rolling_update.proofs.Found.{any_by}
use Rattle.rolling_update.proofs.finder.Finder.strays.Goals as goal

pub returns-in-Some : goal.returns-in-Some
returns-in-Some c =
    any_by c.args.self.now.scene (has_name_of_another c.args.self.now.scene.declared) c.in-Some.slot.now c.args.number c.any_strays.result c.rows_under.result.now c.in-Some.ensures c.rows_under.ensures c.any_strays.ensures
