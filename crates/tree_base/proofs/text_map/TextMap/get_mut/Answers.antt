use Rattle.std.proofs.Common.{◌≡◌, ◌∙◌, Option, Some, None, slice_set, refl, sym, ap}
use Rattle.std.specs.List.{zip}
use Rattle.std.specs.Option.{OnSome}
use Rattle.std.specs.Str.{bytes_eq}
use Rattle.tree_base.specs.Entries.{with_entry}
use Rattle.tree_base.proofs.Pairs.{lookup-found, lookup-missing, put-found}
use Rattle.tree_base.proofs.text_map.TextMap.get_mut.Goals as goal

on_some : {X : Type 0} (found : Option X) (P : Type 0) → P → OnSome found P
on_some (Some x) P p = p
on_some None P p = tt

pub returns-in_err-at : goal.returns-in_err-at
returns-in_err-at g c =
    let missing = lookup-missing bytes_eq c.args.key.now c.self.inside.keys.keys c.self.inside.values c.self.invariant (sym c.in_err-at.ensures.index) in
    rw c.from_residual.ensures ((refl, (λ w. tt), c.self.view_is), record { value = rw (← c.self.view_is) (sym missing); writes_back = tt })

pub returns : goal.returns
returns g c =
    let place = sym c.in_ok-at.ensures.index in
    let ks = c.self.inside.keys.keys in
    let vs = c.self.inside.values in
    let found = lookup-found bytes_eq c.args.key.now ks vs c.self.invariant c.in_ok-at.at place in (
      (refl, (λ w. on_some c.get_mut.result _ (put-found bytes_eq c.args.key.now ks vs c.self.invariant c.in_ok-at.at w place ∙ ap (λ s. with_entry s c.args.key.now w) c.self.view_is)), c.self.view_is),
      record { value = c.get_mut.ensures.value ∙ rw (← c.self.view_is) (sym found); writes_back = tt },
    )
