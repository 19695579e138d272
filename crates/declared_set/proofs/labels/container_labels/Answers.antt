use Rattle.std.proofs.Common.{◌∙◌, ℕ, List, ap, map, subst, sym}
use Rattle.std.specs.List.{IsDistinct}
use Rattle.std.specs.Str.{bytes_eq}
use Rattle.tree_base.specs.declared.place.Var.{Var}
use Rattle.declared_resources.proofs.Variables.{names_are}
use Rattle.declared_set.proofs.labels.container_labels.Goals as goal

pub in_byte_order-requires : goal.in_byte_order-requires
in_byte_order-requires c =
    subst (λ (names : List (List ℕ)). IsDistinct bytes_eq names) (sym (ap (map (λ (v : Var). v.name)) c.in_ok-variables_of.ensures.value ∙ names_are _)) c.in_ok-variables_of.ensures.distinct
