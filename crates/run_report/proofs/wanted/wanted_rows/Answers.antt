-- The needs of one action more.
use Rattle.std.proofs.Common.{◌∙◌, List, get_or, ap, subst}
use Rattle.engine_types.specs.declared.Need.{Need}
use Rattle.run_model.specs.Plans.{slot_needs}
use Rattle.run_requests.specs.Setups.{setup_of}
use Rattle.run_report.specs.Rows.{AreWanted}
use Rattle.run_report.proofs.Wanting.{wanted_more}
use Rattle.run_report.proofs.wanted.wanted_rows.Goals as goal

pub loop-at-preserved : goal.loop-at-preserved
loop-at-preserved c =
    let run = c.args.run.now in
    let needs = c.needs_of-needs.ensures ∙ ap (slot_needs run.declared.now) c.kind_of.ensures in
    wanted_more (setup_of run) c.args.claims.now c.loop-at.rows.items c.want_all.new.rows.items c.loop-at.at c.loop-at.invariant c.want_all.ensures.grown
    (subst (λ (xs : List Need). AreWanted c.want_all.new.rows.items xs (get_or c.args.claims.now c.loop-at.at 0)) needs c.want_all.ensures.wanted)
