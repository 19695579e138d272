-- The pages of projects as JSON.
use Rattle.std.proofs.Common.{codes}
use Rattle.std.proofs.lemmas.List.{append_cancel_right}
use Rattle.laws_pages.proofs.JsonNodeDigits.{words_pass}
use Rattle.laws_pages.proofs.JsonNodePageWords.{project_words}
use Rattle.laws_pages.proofs.Tells.{tells}
use Rattle.laws_pages.specs.JsonNodeLaws.{JsonPagesTellNodes, PageWordsAreNumbersAndFlags}
use Rattle.laws_pages.specs.Words.{is_word}
use Rattle.project_pages.specs.AttributePages.{project_node}
use Rattle.project_print.specs.Json.{json_of}
use Rattle.project_print.specs.declared.compact_json.Dollars.{Dollars}

pub page_words : PageWordsAreNumbersAndFlags
page_words test project passes = project_words test passes project

pub pages_tell : JsonPagesTellNodes
pages_tell project other e =
    tells Dollars.Twice (project_node project) (project_node other) (project_words is_word words_pass project) (project_words is_word words_pass other)
    (append_cancel_right (json_of Dollars.Twice (project_node project)) (json_of Dollars.Twice (project_node other)) (codes "\n") e)
