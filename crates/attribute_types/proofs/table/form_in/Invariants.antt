use Rattle.std.proofs.Common.{◌≡◌, drop, map}
use Rattle.attribute_types.specs.Tables.{line_of, seen_service_line}
use Rattle.attribute_types.proofs.table.form_in.Given as goal

abbrev pub invariant-loop-line : goal.invariant-loop-line
invariant-loop-line l =
    line_of (map seen_service_line (drop l.line-index l.lines)) l.name ≡ line_of (map seen_service_line l.lines) l.name
