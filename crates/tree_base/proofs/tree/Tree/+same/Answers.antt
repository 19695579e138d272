use Rattle.std.proofs.Common.{◌≡◌, ◌∙◌, ap, sym, true≢false}
use Rattle.std.specs.Cmp.Lexicographic.{pointwise_decides, bytes_decides}
use Rattle.std.specs.Map.{keys_of, values_of}
use Rattle.tree_base.proofs.Pairs.{entries_same}
use Rattle.tree_base.proofs.tree.Tree.+same.Goals as goal

pub same_entries-returns-then-eq : goal.same_entries-returns-then-eq
same_entries-returns-then-eq t c =
    let same = (pointwise_decides bytes_decides c.keys.result.now c.keys-2.result.now).0 (sym c.eq.ensures ∙ c.if-eq.true) in
    let keys : keys_of c.args.entries.now ≡ keys_of c.args.others.now = sym c.keys.ensures ∙ same ∙ c.keys-2.ensures in (
      (λ h. entries_same c.args.entries.now c.args.others.now keys (sym c.values.ensures ∙ c.all_same.ensures.0 h ∙ c.values-then-eq.ensures)),
      λ e. c.all_same.ensures.1 (c.values.ensures ∙ ap values_of e ∙ sym c.values-then-eq.ensures),
    )

pub same_entries-returns-else-eq : goal.same_entries-returns-else-eq
same_entries-returns-else-eq t c = (
  (λ h. absurd (true≢false (sym h ∙ c.if-eq.false))),
  λ e. c.eq.ensures ∙ (pointwise_decides bytes_decides c.keys.result.now c.keys-2.result.now).1 (c.keys.ensures ∙ ap keys_of e ∙ sym c.keys-2.ensures),
)
