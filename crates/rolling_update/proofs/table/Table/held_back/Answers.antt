-- The starts for which the container's slots wait.
use Rattle.std.proofs.Common.{◌≡◌, ◌∙◌, false, slice_get, subst, sym, true}
use Rattle.std.specs.Option.{option_map_or}
use Rattle.engine_types.specs.declared.Listed.{Listed}
use Rattle.run_model.specs.EngineRules.{is_live}
use Rattle.rolling_update.specs.Needs.{Given}
use Rattle.rolling_update.proofs.Added.{by_owners}
use Rattle.rolling_update.proofs.table.Table.held_back.Goals as goal

pub returns : goal.returns
returns c =
    by_owners c.args.self.now c.args.container c.all_before.result c.as_slice.result.now (c.as_slice.ensures.value ∙ c.in_ok-owners.ensures)
    (subst (λ (given : Given). option_map_or (λ (row : Listed). is_live row.state) (slice_get given.scene.seen.containers c.args.container) false ≡ true)
    c.self.view_is (sym c.is_live_at.ensures ∙ c.if-not-is_live_at.false))
    c.all_before.ensures
