-- What a call is at, in words.
use Rattle.std.specs.Prelude.{ℕ, List, ◌++◌, Option, codes}
use Rattle.engine_types.specs.declared.Request.{Request}
use Rattle.run_model.specs.Lines.{request_words}
use Rattle.run_model.specs.Shown.{shown}
use Rattle.progress_board.specs.Subjects.{named}

-- an exchange, by what it asks
abbrev pub said_words : Request → Option (List ℕ) → List ℕ
said_words request name = shown (request_words (named request name))

-- a container that is waited for
abbrev pub waited_words : List ℕ → List ℕ
waited_words name = codes "wait for " ++ shown name
