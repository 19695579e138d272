use Rattle.std.proofs.Common.{◌∙◌, sym, rules, tests}
use Rattle.std.proofs.lemmas.Iterator.{YieldsList-from_slice}
use Rattle.std.proofs.lemmas.Iterator.Search.{all_from_yields_List}
use Rattle.std.proofs.lemmas.List.Folds.{list_all-map}
use Rattle.tree_base.specs.declared.Tree.{out-Tree}
use Rattle.attribute_scalars.specs.Lists.{is_nullable}
use Rattle.attribute_scalars.specs.Views.{seen_entry}
use Rattle.attribute_scalars.specs.declared.entries.Entry.{Entry}
use Rattle.attribute_scalars.proofs.lists.are_nullable.Goals as goal

pub returns : goal.returns
returns c =
    let entries = c.args.entries.now in
    all_from_yields_List (λ (entry : Entry). is_nullable (out-Tree entry.value.now)) _ _ c.all.result c.all.ensures.ran (YieldsList-from_slice entries cc) (λ x b q k. search (rules, tests))
    ∙ sym (list_all-map (λ entry. is_nullable (out-Tree entry.1)) seen_entry entries)
