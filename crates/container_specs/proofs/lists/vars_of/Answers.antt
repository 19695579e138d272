use Rattle.std.proofs.Common.{◌∷◌, [], ℕ, List, Option, arith}
use Rattle.std.proofs.lemmas.List.{map_push}
use Rattle.tree_base.specs.declared.Var.{Var}
use Rattle.container_specs.specs.Lists.{var_of, vars_of}
use Rattle.container_specs.proofs.Walks.{one_walked}
use Rattle.container_specs.proofs.lists.vars_of.Goals as goal

abbrev made : List ℕ × Option (List ℕ) → Var
made pair = var_of pair.0 pair.1

pub loop-at-preserved : goal.loop-at-preserved
loop-at-preserved c =
    one_walked _ (λ pair. made pair ∷ []) vars_of (map_push made) c.args.pairs.now c.loop-at.at c.pair.result c.loop-at.vars _ (omega arith) c.pair.ensures c.loop-at.invariant c.in_ok-put_var.ensures
