use Rattle.std.proofs.Common.{◌≡◌, ℕ, [], List, length, get_or, slice_get, sym, ap, ◌∙◌, arith}
use Rattle.start_rows.proofs.Depending.{waits_there}
use Rattle.start_rows.proofs.dependents.dependent_rows.Goals as goal

pub turned-requires-clause-there : goal.turned-requires-clause-there
turned-requires-clause-there c = λ a i b e.
    let k = waits_there c.args.wait c.args.declared.now c.args.actions.now c.args.starts.now c.in_ok-waits.waits c.requires.needs c.requires.starts c.in_ok-waits.ensures.each a i b
    (ap (λ (waits : List (List ℕ)). slice_get (get_or waits a []) i) (sym c.as_slice.ensures) ∙ e) in
    let n : length c.as_slice.result.now ≡ length c.in_ok-waits.waits = ap length c.as_slice.ensures in
    omega (arith, k, n, c.in_ok-waits.ensures.size)
