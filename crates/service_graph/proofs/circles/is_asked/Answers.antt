use Rattle.std.proofs.Common.{◌≡◌, Bool, true, false, not, refl}
use Rattle.service_graph.proofs.Ranking.{apart_none}
use Rattle.service_graph.proofs.circles.is_asked.Goals as goal

is_true : (b : Bool) → not b ≡ false → b ≡ true
is_true true e = refl
is_true false e = absurd (cc e)

pub returns-then-ranked : goal.returns-then-ranked
returns-then-ranked c e =
    apart_none c.args.links.now c.args.ranks.now (c.requires c.if-ranked.true) c.args.start (c.is_apart.ensures (is_true c.is_apart.result e))
