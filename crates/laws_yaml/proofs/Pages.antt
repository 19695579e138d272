-- The page of a node is read as the tree that it spells.
use Rattle.std.proofs.Common.{map}
use Rattle.project_print.specs.Pages.{lines_of, shown}
use Rattle.yaml_lines.specs.Rows.{row_of}
use Rattle.laws_yaml.proofs.Documents.{page_is}
use Rattle.laws_yaml.proofs.NodeNodes.{spells}
use Rattle.laws_yaml.proofs.Standing.{stand_first}
use Rattle.laws_yaml.specs.NodeLaws.{PagesReadBack}
use Rattle.laws_yaml.specs.Readable.{spelled_by}

pub read_back : PagesReadBack
read_back lines n readable within are =
    let spelled = spells 64 n readable within.levels in
    let stand = stand_first lines.lines (lines_of (shown n)) are in
    page_is 64 lines.file (shown n) (spelled_by n) (map row_of lines.lines) spelled stand within.nodes within.text
