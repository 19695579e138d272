use Rattle.std.proofs.Common.{◌≡◌, ◌∙◌, sym, ap}
use Rattle.std.specs.List.{zip}
use Rattle.std.specs.Str.{bytes_eq}
use Rattle.tree_base.specs.Entries.{without_entry}
use Rattle.tree_base.proofs.Pairs.{lookup-found, lookup-missing, remove-found, remove-missing}
use Rattle.tree_base.proofs.text_map.TextMap.remove.Goals as goal

pub returns-in-None-clause-value : goal.returns-in-None-clause-value
returns-in-None-clause-value g c =
    rw (← c.self.view_is) (sym (lookup-missing bytes_eq c.args.key.now c.self.inside.keys.keys c.self.inside.values c.self.invariant (sym c.in-None.ensures.index)))

pub returns-in-None-clause-rest : goal.returns-in-None-clause-rest
returns-in-None-clause-rest g c =
    let ks = c.self.inside.keys.keys in
    ap (λ l. zip l c.self.inside.values) c.in-None.ensures.unchanged
    ∙ remove-missing bytes_eq c.args.key.now ks c.self.inside.values c.self.invariant (sym c.in-None.ensures.index)
    ∙ ap (λ s. without_entry s c.args.key.now) c.self.view_is

pub returns-in-Some-clause-value : goal.returns-in-Some-clause-value
returns-in-Some-clause-value g c =
    rw (← c.self.view_is) (sym (lookup-found bytes_eq c.args.key.now c.self.inside.keys.keys c.self.inside.values c.self.invariant c.in-Some.at (sym c.in-Some.ensures.index) ∙ c.remove.ensures.item))

pub returns-in-Some-clause-rest : goal.returns-in-Some-clause-rest
returns-in-Some-clause-rest g c =
    let ks = c.self.inside.keys.keys in
    (λ i. zip (c.in-Some.ensures.keys i) (c.remove.ensures.rest i))
    ∙ remove-found bytes_eq c.args.key.now ks c.self.inside.values c.self.invariant c.in-Some.at (sym c.in-Some.ensures.index)
    ∙ ap (λ s. without_entry s c.args.key.now) c.self.view_is
