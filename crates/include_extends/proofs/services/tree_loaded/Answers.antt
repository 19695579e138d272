use Rattle.std.proofs.Common.{◌∙◌, sym, ap}
use Rattle.include_extends.proofs.Completed.{map_loaded}
use Rattle.include_extends.proofs.services.tree_loaded.Goals as goal
use Rattle.tree_base.specs.declared.Tree.{Map}

-- a mapping has its services loaded; another tree stays
pub returns-in_ok-top-in-Map-clause-given : goal.returns-in_ok-top-in-Map-clause-given
returns-in_ok-top-in-Map-clause-given g c =
    let a = c.args in
    map_loaded (g.F.Files.told a.files.now) a.env.now a.file.now a.tree a.left c.in_ok-top-in-Map.top c.elements_loaded.result (c.in-Map.is ∙ ap Map (sym c.in_ok-top-in-Map.ensures)) c.elements_loaded.ensures.given
