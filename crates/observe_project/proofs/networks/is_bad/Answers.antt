use Rattle.std.proofs.Common.{is_some, ap, sym, ◌∙◌}
use Rattle.std.specs.Option.{option_copied}
use Rattle.observe_project.proofs.Judged.{fault-by}
use Rattle.observe_project.proofs.networks.is_bad.Goals as goal

pub returns : goal.returns
returns c =
    let least = c.two_least-least.result in
    c.is_bad_by.ensures
    ∙ ap is_some (sym (fault-by c.args.declared.now c.args.purpose c.args.rows.now c.args.network.now (option_copied least.first) (option_copied least.second)
    c.two_least-least.ensures.first c.two_least-least.ensures.second))
