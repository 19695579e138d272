use Rattle.std.proofs.Common.{◌≡◌, drop, map}
use Rattle.attribute_types.specs.Tables.{line_of, seen_line}
use Rattle.attribute_types.proofs.table.plain_of.Given as goal

abbrev pub invariant-loop-line : goal.invariant-loop-line
invariant-loop-line l =
    line_of (map seen_line (drop l.line-index l.lines)) l.name ≡ line_of (map seen_line l.lines) l.name
