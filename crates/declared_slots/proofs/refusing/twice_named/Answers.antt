use Rattle.std.proofs.Common.{◌∙◌, ap, rules, sym}
use Rattle.std.specs.Option.{option_copied}
use Rattle.tree_base.proofs.Sorting.{sorted_is}
use Rattle.declared_slots.specs.Refusing.{twice_in_order}
use Rattle.declared_slots.proofs.refusing.twice_named.Goals as goal

pub returns-in-Some : goal.returns-in-Some
returns-in-Some c =
    search rules
    ∙ c.twice_in_order.ensures
    ∙ ap twice_in_order (c.as_slice.ensures.value ∙ sorted_is c.args.names.items c.sort.new.self.items c.in_ok-sort.ensures.permutation c.in_ok-sort.ensures.sorted)

pub returns : goal.returns
returns c =
    sym (ap option_copied c.in-None.is)
    ∙ c.twice_in_order.ensures
    ∙ ap twice_in_order (c.as_slice.ensures.value ∙ sorted_is c.args.names.items c.sort.new.self.items c.in_ok-sort.ensures.permutation c.in_ok-sort.ensures.sorted)
