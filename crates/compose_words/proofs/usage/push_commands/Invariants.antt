use Rattle.std.proofs.Common.{◌≡◌, ◌++◌, drop, map}
use Rattle.compose_words.specs.Table.{word_of}
use Rattle.compose_words.specs.Usage.{command_text, lines_of, shown_command}
use Rattle.compose_words.proofs.usage.push_commands.Given as goal

abbrev pub invariant-loop-line : goal.invariant-loop-line
invariant-loop-line l =
    l.text ++ lines_of command_text (map word_of (drop l.line-index l.lines)) (map shown_command (drop l.line-index l.lines)) ≡ l.initial.text ++ lines_of command_text (map word_of l.lines) (map shown_command l.lines)
