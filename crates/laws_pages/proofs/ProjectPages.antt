-- The pages of a project are read as one tree, which means the project.
use Rattle.laws_pages.proofs.PagesMean.{pages_mean as trees_mean}
use Rattle.laws_pages.proofs.WordPageWords.{pages_printable}
use Rattle.laws_pages.proofs.Values.{printed_value}
use Rattle.project_pages.specs.AttributePages.{project_node}
use Rattle.project_print.specs.Values.{value_of}
use Rattle.laws_yaml.proofs.JsonFiles.{printed_agree, printed_back}
use Rattle.laws_yaml.proofs.PrintedPages as pages
use Rattle.laws_yaml.specs.Printed.{tree_of}
use Rattle.laws_pages.specs.JsonPageLaws.{JsonPagesMeanTheirProjects, PrintedPagesMeanTheirProjects, ProjectPagesAgree}

-- as JSON
pub pages_mean : JsonPagesMeanTheirProjects
pages_mean env file name merged project unmarked own means held within =
    let node = project_node project in
    let printable = pages_printable project held in
    (tree_of node, value_of node, printed_back file node printable within, printed_value env node printable within.text, trees_mean name merged project unmarked own means)

-- as YAML
pub printed_mean : PrintedPagesMeanTheirProjects
printed_mean env file name merged project unmarked own means held within =
    let node = project_node project in
    let printable = pages_printable project held in
    (tree_of node, value_of node, pages.printed_back file node printable within, printed_value env node printable within.text, trees_mean name merged project unmarked own means)

pub both_agree : ProjectPagesAgree
both_agree file project held within = printed_agree file (project_node project) (pages_printable project held) within
