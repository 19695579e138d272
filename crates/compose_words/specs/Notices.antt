-- Command lines that ask about the program.
use Rattle.std.specs.Prelude.{ℕ, Bool, ◌||◌, ◌&&◌, List, [], ◌∷◌, Option, Some, None, codes, is_some, if◌then◌else◌}
use Rattle.std.specs.Str.{bytes_eq}
use Rattle.compose_words.specs.Table.{command_named}
use Rattle.compose_words.specs.declared.notice.Notice.{Notice}

-- a word asks for the usage text
abbrev pub asks_help : List ℕ → Bool
asks_help word = bytes_eq (codes "--help") word || bytes_eq (codes "-h") word

-- the usage text is asked for as the only word, or as the only word behind a command; the version as the
-- only word
abbrev pub notice_of : List (List ℕ) → Option Notice
notice_of [] = None
notice_of (word ∷ []) =
    if asks_help word then Some Notice.Help
    else (if bytes_eq (codes "--version") word then Some Notice.Version else None)
notice_of (word ∷ next ∷ []) = if is_some (command_named word) && asks_help next then Some Notice.Help else None
notice_of (word ∷ next ∷ other ∷ words) = None
