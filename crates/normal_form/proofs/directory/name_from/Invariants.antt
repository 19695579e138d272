use Rattle.std.proofs.Common.{◌≡◌, take}
use Rattle.normal_form.specs.ProjectNames.{name_from}
use Rattle.normal_form.proofs.directory.name_from.Given as goal

abbrev pub invariant-loop-byte : goal.invariant-loop-byte
invariant-loop-byte l = l.name ≡ name_from (take l.byte-index l.byte-items)
