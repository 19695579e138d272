use Rattle.std.proofs.Common.{◌≡◌, ◌++◌, take}
use Rattle.include_extends.proofs.include_item.all_begun.Given as goal

abbrev pub invariant-loop-file : goal.invariant-loop-file
invariant-loop-file l = l.all ≡ l.begun ++ take l.file-index l.files
