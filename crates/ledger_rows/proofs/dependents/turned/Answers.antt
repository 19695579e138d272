use Rattle.std.proofs.Common.{◌≡◌, ◌<◌, ℕ, List, length, slice_get, sym, ap, ◌∙◌, arith}
use Rattle.ledger_rows.proofs.Carrying.{row_read}
use Rattle.ledger_rows.proofs.dependents.turned.Goals as goal

pub add_to_all-requires : goal.add_to_all-requires
add_to_all-requires c =
    let l : c.loop-at.at < length c.args.needs.now = omega arith in
    let e = c.as_slice.ensures ∙ row_read c.args.needs.now c.loop-at.at c.index-needs-at.result l c.index-needs-at.is in
    let v : length c.deref_mut.result.now ≡ length c.loop-at.rows.items = ap length c.deref_mut.ensures.value in
    λ i b h. let k = c.requires.there c.loop-at.at i b (ap (λ (xs : List ℕ). slice_get xs i) (sym e) ∙ h) in omega (arith, k, v, c.loop-at.invariant.size)
