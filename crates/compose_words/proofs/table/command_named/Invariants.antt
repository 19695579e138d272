use Rattle.std.proofs.Common.{◌≡◌, drop, map}
use Rattle.std.specs.Prelude.{find}
use Rattle.compose_words.specs.Table.{is_word, word_of, command_table}
use Rattle.compose_words.proofs.table.command_named.Given as goal

abbrev pub invariant-loop-line : goal.invariant-loop-line
invariant-loop-line l = find (is_word l.word) (map word_of (drop l.line-index l.line-items)) ≡ find (is_word l.word) command_table
