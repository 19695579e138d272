use Rattle.std.proofs.Common.{◌≡◌, drop, map}
use Rattle.std.specs.Prelude.{find}
use Rattle.compose_words.specs.Table.{is_named, names_of, option_table}
use Rattle.compose_words.proofs.table.option_named.Given as goal

abbrev pub invariant-loop-line : goal.invariant-loop-line
invariant-loop-line l = find (is_named l.word) (map names_of (drop l.line-index l.line-items)) ≡ find (is_named l.word) option_table
