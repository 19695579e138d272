-- A stable sort by the ids.
use Rattle.std.proofs.Common.{◌≡◌, ◌∙◌, ℕ, List, ap, is_lt, nat_cmp, rules}
use Rattle.std.specs.Cmp.Lexicographic.{slice_cmp}
use Rattle.std.proofs.lemmas.Fn.{always_returns_same}
use Rattle.tree_base.specs.ByteOrder.{by_key}
use Rattle.plan_core.specs.Rows.{id_at}
use Rattle.plan_core.proofs.ByKey.{less, order, sorted_is_by_key}
use Rattle.plan_core.proofs.kinds.places_by_id.Goals as goal

pub returns : goal.returns
returns c =
    let key : ℕ → List ℕ = id_at c.args.rows.now in
    sorted_is_by_key key c.in_ok-order.order.items c.sort_by.new.self.items
    (c.in_ok-sort_by.ensures.sorted (less key) (order key) (always_returns_same _ _ _ (λ a r f' k.
    let e : r ≡ slice_cmp nat_cmp (key a.0.now) (key a.1.0.now) = search rules in (ap is_lt e, search rules))))
    (c.in_ok-sort_by.ensures.stable (less key) (order key) (always_returns_same _ _ _ (λ a r f' k.
    let e : r ≡ slice_cmp nat_cmp (key a.0.now) (key a.1.0.now) = search rules in (ap is_lt e, search rules))))
    ∙ ap (by_key key) c.in_ok-order.ensures
