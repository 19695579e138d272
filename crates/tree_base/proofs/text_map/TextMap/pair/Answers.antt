use Rattle.std.proofs.Common.{sym}
use Rattle.indexmap.proofs.ReorderLemmas.{slice_get-zip_some}
use Rattle.tree_base.proofs.Pairs.{no_key-zip, no_value-zip}
use Rattle.tree_base.proofs.text_map.TextMap.pair.Goals as goal

pub returns-in_err-key : goal.returns-in_err-key
returns-in_err-key g c = rw (c.from_residual.ensures, ← c.self.view_is) (no_key-zip c.self.inside.keys.keys c.self.inside.values c.args.at (rw c.as_slice.ensures.keys at c.in_err-key.ensures))

pub returns-in_err-value : goal.returns-in_err-value
returns-in_err-value g c = rw (c.from_residual-in_err-value.ensures, ← c.self.view_is) (no_value-zip c.self.inside.keys.keys c.self.inside.values c.args.at (rw c.as_slice-2.ensures at c.in_err-value.ensures))

pub returns : goal.returns
returns g c =
    rw (← c.self.view_is) (sym (slice_get-zip_some c.self.inside.keys.keys c.self.inside.values c.args.at c.in_ok-key.key.now c.in_ok-value.value.now
    (sym (rw c.as_slice.ensures.keys at c.in_ok-key.ensures)) (sym (rw c.as_slice-2.ensures at c.in_ok-value.ensures))))
