use Rattle.std.proofs.Common.{◌≡◌, ◌∙◌, ℕ, List, ap, map}
use Rattle.tree_base.specs.declared.Var.{Var}
use Rattle.container_specs.specs.Lists.{each_once, unless_empty}
use Rattle.container_specs.specs.Mounts.{last_value, memory_paths}
use Rattle.container_specs.proofs.mounts.tmpfs_of.Goals as goal

abbrev named : List Var → List (List ℕ)
named vars = map (λ var. var.name) vars

abbrev latest : List Var → List (List ℕ) → List Var
latest vars names = map (λ path. record { name = path; value = last_value vars path }) names

pub returns : goal.returns
returns c =
    let paths = memory_paths c.args.service.now.attributes in
    let first : c.as_slice.result.now ≡ paths = c.as_slice.ensures ∙ c.in_ok-paths.ensures in
    let third : c.as_slice-3.result.now ≡ paths = c.as_slice-3.ensures ∙ c.in_ok-paths.ensures in
    let names : c.as_slice-4.result.now ≡ each_once (named paths) =
    c.as_slice-4.ensures ∙ c.in_ok-names-2.ensures ∙ ap each_once (c.as_slice-2.ensures ∙ c.in_ok-names.ensures ∙ ap named first) in
    c.unless_empty.ensures ∙ ap unless_empty (c.in_ok-last.ensures ∙ ap (λ (vars : List Var). latest vars c.as_slice-4.result.now) third ∙ ap (latest paths) names)
