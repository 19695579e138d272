-- What the JSON of a node tells of it, and which words stand in pages.
use Rattle.std.specs.Prelude.{◌≡◌, ℕ, Bool, true, List}
use Rattle.laws_pages.specs.Words.{PassesWords, all_words, has_words}
use Rattle.project_pages.specs.AttributePages.{page_json, project_node}
use Rattle.project_print.specs.Json.{json_of}
use Rattle.project_print.specs.declared.compact_json.Dollars.{Dollars}
use Rattle.project_print.specs.declared.node.Node.{Node}
use Rattle.typed_project.specs.declared.project.Project.{Project}

-- nodes of the same JSON are the same, where their words are numbers and flags
abbrev pub JsonTellsNodes : Type 0
JsonTellsNodes =
    (dollars : Dollars) (node other : Node) → has_words node ≡ true → has_words other ≡ true
    → json_of dollars node ≡ json_of dollars other → node ≡ other

-- the words in the page of a project are numbers and flags: they pass each test that these pass
abbrev pub PageWordsAreNumbersAndFlags : Type 0
PageWordsAreNumbersAndFlags =
    (test : List ℕ → Bool) (project : Project) → PassesWords test → all_words test (project_node project) ≡ true

-- projects with the same page as JSON have the same node on their page
abbrev pub JsonPagesTellNodes : Type 0
JsonPagesTellNodes =
    (project other : Project) → page_json project ≡ page_json other → project_node project ≡ project_node other
