-- What is printed of a refusal, and of the program's version.
use Rattle.std.specs.Prelude.{ℕ, List, ◌++◌, codes, decimal}
use Rattle.compose_words.specs.declared.refusal.WordsRefusal.{WordsRefusal}

-- the line of a refusal, without the program's name before it: the place of its word, where it has one, and its name
abbrev pub refusal_text : WordsRefusal → List ℕ
refusal_text (WordsRefusal.UnknownWord at) = codes "word " ++ decimal at ++ codes ": UnknownWord"
refusal_text (WordsRefusal.MissingValue at) = codes "word " ++ decimal at ++ codes ": MissingValue"
refusal_text (WordsRefusal.BadNumber at) = codes "word " ++ decimal at ++ codes ": BadNumber"
refusal_text (WordsRefusal.BadChoice at) = codes "word " ++ decimal at ++ codes ": BadChoice"
refusal_text (WordsRefusal.Twice at) = codes "word " ++ decimal at ++ codes ": Twice"
refusal_text WordsRefusal.NoCommand = codes "no command"
refusal_text WordsRefusal.BadHost = codes "bad host"
refusal_text WordsRefusal.Memory = codes "memory"

-- the line of the version
abbrev pub version : List ℕ
version = codes "compose 0.1.0\n"
