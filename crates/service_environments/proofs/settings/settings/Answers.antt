use Rattle.std.proofs.Common.{◌≡◌, ◌∙◌, ap, map, subst}
use Rattle.std.specs.Result.{IfOk}
use Rattle.file_paths.specs.Resolving.{Entries}
use Rattle.tree_base.specs.declared.Tree.{Map, Scalar}
use Rattle.service_environments.proofs.Values.{as_scalars}
use Rattle.service_environments.proofs.settings.settings.Goals as goal

pub returns : goal.returns
returns c =
    let values = c.args.values.now in
    subst (λ (entries : Entries). IfOk c.mapping.result (λ tree. tree ≡ Map entries))
    (c.in_ok-with_values.ensures ∙ as_scalars values c.in_ok-scalars.scalars (c.in_ok-scalars.ensures ∙ ap (map Scalar) c.values.ensures)) c.mapping.ensures
