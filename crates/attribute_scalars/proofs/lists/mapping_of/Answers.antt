use Rattle.std.proofs.Common.{◌≡◌, ◌∙◌, List, Some, ℕ, length, slice_get, refl, ap, arith}
use Rattle.std.proofs.lemmas.Option.{slice_get_read}
use Rattle.tree_base.specs.Entries.{with_entry}
use Rattle.tree_base.specs.declared.Tree.{Tree}
use Rattle.attribute_scalars.specs.Views.{seen_entry}
use Rattle.attribute_scalars.proofs.Pairs.{entry_put}
use Rattle.attribute_scalars.proofs.Walks.{all_seen}
use Rattle.attribute_scalars.proofs.lists.mapping_of.Goals as goal

pub loop-entry-preserved : goal.loop-entry-preserved
loop-entry-preserved c =
    let items = c.args.entries.now in
    let i = c.loop-entry.entry-index in
    let entry = c.entry-item.result in
    let at : slice_get items i ≡ Some entry = slice_get_read items (length items) i entry refl (omega arith) c.entry-item.is in
    c.in_ok-put_copy.ensures
    ∙ ap (λ (entries : List (List ℕ × Tree)). with_entry entries entry.key.now entry.value.now) c.loop-entry.invariant
    ∙ entry_put seen_entry items i entry c.requires at

pub returns : goal.returns
returns c = c.loop-entry.invariant ∙ all_seen seen_entry c.args.entries.now c.loop-entry.entry-index (omega arith)
