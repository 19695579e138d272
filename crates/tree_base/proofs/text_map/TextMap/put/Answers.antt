use Rattle.std.proofs.Common.{◌≡◌, ◌∙◌, ◌++◌, ◌∷◌, [], sym, ap}
use Rattle.std.specs.List.{zip}
use Rattle.std.specs.Str.{bytes_eq}
use Rattle.tree_base.specs.Entries.{with_entry}
use Rattle.tree_base.proofs.Pairs.{lookup-found, lookup-missing, put-found, put-missing, insert_key-absent}
use Rattle.tree_base.proofs.text_map.TextMap.put.Goals as goal

pub returns-in-Some-clause-old : goal.returns-in-Some-clause-old
returns-in-Some-clause-old g c =
    rw (← c.replace.ensures.old, ← c.self.view_is) (sym (lookup-found bytes_eq c.args.key c.self.inside.keys.keys c.self.inside.values c.self.invariant c.in-Some.at (sym c.in-Some.ensures.index)))

pub returns-in-Some-clause-ok : goal.returns-in-Some-clause-ok
returns-in-Some-clause-ok g c =
    let ks = c.self.inside.keys.keys in
    ap (zip ks) c.replace.ensures.new
    ∙ put-found bytes_eq c.args.key ks c.self.inside.values c.self.invariant c.in-Some.at c.args.value (sym c.in-Some.ensures.index)
    ∙ ap (λ s. with_entry s c.args.key c.args.value) c.self.view_is

pub returns-in_ok-push-in-None-clause-old : goal.returns-in_ok-push-in-None-clause-old
returns-in_ok-push-in-None-clause-old g c =
    rw (← c.self.view_is) (sym (lookup-missing bytes_eq c.args.key c.self.inside.keys.keys c.self.inside.values c.self.invariant (sym c.in-None.ensures.index)))

pub returns-in_ok-push-in-None-clause-ok : goal.returns-in_ok-push-in-None-clause-ok
returns-in_ok-push-in-None-clause-ok g c =
    let ks = c.self.inside.keys.keys in
    let reserved : c.reserve.new.self.keys ≡ ks = c.in_ok-reserve-in-None.ensures.keys in
    let inserted : c.insert.new.self.keys ≡ ks ++ c.args.key ∷ [] =
    (rw c.unwrap.ensures at c.insert.ensures.keys) ∙ rw reserved (insert_key-absent bytes_eq ks c.args.key (sym c.in-None.ensures.found)) in
    (λ i. zip (inserted i) (c.in_ok-push-in-None.ensures.ok i))
    ∙ put-missing bytes_eq c.args.key ks c.self.inside.values c.self.invariant c.args.value (sym c.in-None.ensures.index)
    ∙ ap (λ s. with_entry s c.args.key c.args.value) c.self.view_is
