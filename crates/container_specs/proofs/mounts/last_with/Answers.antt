use Rattle.std.proofs.Common.{rules, tests}
use Rattle.std.proofs.lemmas.Iterator.Adapters.{YieldsList-from_rev_slice}
use Rattle.std.proofs.lemmas.Iterator.Search.{find_from_yields_List}
use Rattle.std.specs.Str.{bytes_eq}
use Rattle.tree_base.specs.declared.Var.{Var}
use Rattle.container_specs.proofs.mounts.last_with.Goals as goal

pub returns : goal.returns
returns c =
    find_from_yields_List (λ (var : Var). bytes_eq var.name c.args.name.now) _ _ _ c.find.ensures.ran (YieldsList-from_rev_slice c.args.vars.now (cc))
    (λ x b q k. search (rules, tests))
