use Rattle.std.proofs.Common.{◌≡◌, take}
use Rattle.loaded_files.specs.Fields.{item_texts}
use Rattle.loaded_files.proofs.fields.item_texts.Given as goal

abbrev pub invariant-loop-item : goal.invariant-loop-item
invariant-loop-item l = l.texts ≡ item_texts (take l.item-index l.items)
