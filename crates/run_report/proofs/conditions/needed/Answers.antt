-- Where the slot's row says no, no start's need is failed.
use Rattle.std.proofs.Common.{◌≡◌, ◌∙◌, length, sym, ap, false}
use Rattle.std.specs.Prelude.{List, reverse}
use Rattle.run_requests.specs.Setups.{setup_of}
use Rattle.run_report.specs.Rows.{may_fail}
use Rattle.run_report.specs.declared.wanted.Wanted.{Wanted}
use Rattle.run_report.proofs.Sparing.{starts_spared}
use Rattle.run_report.proofs.conditions.needed.Goals as goal

pub returns-else-may_fail : goal.returns-else-may_fail
returns-else-may_fail c =
    let run = c.args.run.now in
    let none : may_fail c.args.rows.now.wanted.items c.args.slot c.args.report.now (length c.args.past.now) ≡ false =
    ap (λ (rows : List Wanted). may_fail rows c.args.slot c.args.report.now (length c.args.past.now)) (sym c.as_slice.ensures.value) ∙ sym c.may_fail.ensures ∙ c.if-may_fail.false in
    starts_spared (setup_of run) (reverse c.args.past.now) (length c.args.past.now) c.args.rows.now c.args.slot c.args.report.now c.requires none
