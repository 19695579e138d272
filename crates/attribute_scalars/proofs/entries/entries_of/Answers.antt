use Rattle.std.proofs.Common.{◌≡◌, ◌∙◌, ℕ, List, Some, length, slice_get, refl, ap, sym, arith}
use Rattle.std.proofs.lemmas.Option.{slice_get_read}
use Rattle.tree_base.specs.declared.Tree.{Tree}
use Rattle.tree_base.proofs.Pairs.{entry_at}
use Rattle.attribute_scalars.specs.Views.{seen_entry}
use Rattle.attribute_scalars.proofs.EntryOrder.{as_long}
use Rattle.attribute_scalars.proofs.Walks.{one_more}
use Rattle.attribute_scalars.proofs.entries.entries_of.Goals as goal

pub loop-at-preserved : goal.loop-at-preserved
loop-at-preserved c =
    let entries = c.args.entries.now in
    let keys = c.keys-keys.result.now in
    let values = c.values-values.result.now in
    let i = c.loop-at.at in
    let key = c.as_str-key.result.now in
    let text = c.index-keys-at.result in
    let value = c.index-values-at.result in
    let same : length keys ≡ length values = as_long entries keys values c.keys-keys.ensures c.values-values.ensures in
    let key_at : slice_get keys i ≡ Some key = slice_get_read keys (length keys) i text refl (omega arith) c.index-keys-at.is ∙ ap Some (sym c.as_str-key.ensures.value) in
    let value_at : slice_get values i ≡ Some value = slice_get_read values (length values) i value refl (omega arith) c.index-values-at.is in
    let at : slice_get entries i ≡ Some (key, value) =
    entry_at entries i key value (sym (ap (λ (l : List (List ℕ)). slice_get l i) c.keys-keys.ensures) ∙ key_at) (sym (ap (λ (l : List Tree). slice_get l i) c.values-values.ensures) ∙ value_at) in
    one_more seen_entry c.loop-at.list.items c.push.new.self.items _ entries i c.in_ok-push.ensures.items c.loop-at.invariant at
