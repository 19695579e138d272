use Rattle.std.proofs.Common.{◌≡◌, drop, map}
use Rattle.std.specs.Prelude.{find}
use Rattle.compose_words.specs.Table.{CommandNames, command_table, same_command, word_of}
use Rattle.compose_words.proofs.usage.word_of.Given as goal

abbrev pub invariant-loop-line : goal.invariant-loop-line
invariant-loop-line l =
    find (λ (names : CommandNames). same_command names.rule.name l.name) (map word_of (drop l.line-index l.line-items)) ≡ find (λ (names : CommandNames). same_command names.rule.name l.name) command_table
