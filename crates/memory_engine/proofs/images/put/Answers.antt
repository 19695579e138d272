-- An image keeps its place, or goes last.
use Rattle.std.proofs.Common.{rules}
use Rattle.memory_engine.proofs.Places.{with_image-at, with_image-last}
use Rattle.memory_engine.proofs.images.put.Goals as goal

pub returns-in-Some-clause-ok : goal.returns-in-Some-clause-ok
returns-in-Some-clause-ok c =
    let placed = with_image-at c.args.row.name c.args.row.id c.args.images.now c.in-Some.at (cc) in
    cc

pub returns-in-None-clause-ok : goal.returns-in-None-clause-ok
returns-in-None-clause-ok c =
    rw (with_image-last c.args.row.name c.args.row.id c.args.images.now (cc)) (search rules)
