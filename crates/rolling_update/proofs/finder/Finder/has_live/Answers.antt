use Rattle.run_model.specs.EngineRules.{is_live}
use Rattle.rolling_update.proofs.Found.{any_by}
use Rattle.rolling_update.proofs.finder.Finder.has_live.Goals as goal

pub returns-in-Some : goal.returns-in-Some
returns-in-Some c =
    any_by c.args.self.now.scene (λ slot row. is_live row.state) c.in-Some.slot.now c.args.number c.any_live.result c.rows_under.result.now c.in-Some.ensures c.rows_under.ensures c.any_live.ensures
