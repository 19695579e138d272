use Rattle.std.proofs.Common.{arith, ◌∙◌, ◌≡◌, ◌<◌, ℕ, List, Option, Some, None, length, subst}
use Rattle.rank_rows.specs.Ranks.{IsFound, child}
use Rattle.rank_rows.proofs.Trees.{found_none, found_some, root_none, root_some}
use Rattle.rank_rows.proofs.rank_row.RankRow.first.Goals as goal

pub returns-in-Some : goal.returns-in-Some
returns-in-Some c =
    let e : child c.self.inside.nodes.items c.self.inside.keys.items 1 ≡ Some c.in-Some.rank = cc (c.deref.ensures.value, c.deref-2.ensures.value, c.child.ensures, c.in-Some.is) in
    let l : 0 < length c.self.inside.keys.items = omega arith in
    record {
      least = root_some c.self.inside.nodes.items c.self.inside.keys.items c.self.invariant c.in-Some.rank l e ∙ (cc);
      found = subst (λ (keys : List (Option ℕ)). IsFound keys (Some c.in-Some.rank.at)) c.self.view_is (found_some c.self.inside.nodes.items c.self.inside.keys.items c.self.invariant c.in-Some.rank l e);
    }

pub returns-in-None : goal.returns-in-None
returns-in-None c =
    let e : child c.self.inside.nodes.items c.self.inside.keys.items 1 ≡ None = cc (c.deref.ensures.value, c.deref-2.ensures.value, c.child.ensures, c.in-None.is) in
    record {
      least = root_none c.self.inside.nodes.items c.self.inside.keys.items c.self.invariant e ∙ (cc);
      found = subst (λ (keys : List (Option ℕ)). IsFound keys None) c.self.view_is (found_none c.self.inside.nodes.items c.self.inside.keys.items c.self.invariant e);
    }
