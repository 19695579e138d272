use Rattle.std.proofs.Common.{◌≡◌, map, take}
use Rattle.attribute_types.specs.Tables.{seen_line}
use Rattle.hints.specs.Attributes.{names_of}
use Rattle.hints.proofs.attributes.names_of.Given as goal

abbrev pub invariant-loop-line : goal.invariant-loop-line
invariant-loop-line l =
    map (λ name. name.now) l.names.items ≡ names_of (map seen_line (take l.line-index l.lines))
