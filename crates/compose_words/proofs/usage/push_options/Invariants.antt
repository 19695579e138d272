use Rattle.std.proofs.Common.{◌≡◌, ◌++◌, drop, map}
use Rattle.compose_words.specs.Table.{names_of}
use Rattle.compose_words.specs.Usage.{lines_of, option_text, shown_option}
use Rattle.compose_words.proofs.usage.push_options.Given as goal

abbrev pub invariant-loop-line : goal.invariant-loop-line
invariant-loop-line l =
    l.text ++ lines_of option_text (map names_of (drop l.line-index l.lines)) (map shown_option (drop l.line-index l.lines)) ≡ l.initial.text ++ lines_of option_text (map names_of l.lines) (map shown_option l.lines)
