use Rattle.std.proofs.Common.{sym}
use Rattle.std.specs.Str.{bytes_eq}
use Rattle.tree_base.proofs.Pairs.{lookup-found, lookup-missing}
use Rattle.tree_base.proofs.text_map.TextMap.find.Goals as goal

pub returns-in_err-at : goal.returns-in_err-at
returns-in_err-at g c =
    rw (c.from_residual.ensures, ← c.self.view_is) (sym (lookup-missing bytes_eq c.args.key.now c.self.inside.keys.keys c.self.inside.values c.self.invariant (sym (rw c.as_slice.ensures.keys at c.in_err-at.ensures))))

pub returns : goal.returns
returns g c =
    rw (c.item_at.ensures, c.as_slice-2.ensures, ← c.self.view_is) (sym (lookup-found bytes_eq c.args.key.now c.self.inside.keys.keys c.self.inside.values c.self.invariant c.in_ok-at.at (sym (rw c.as_slice.ensures.keys at c.in_ok-at.ensures))))
