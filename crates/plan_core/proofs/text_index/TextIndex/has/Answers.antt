-- Something stands under a text where something is found there.
use Rattle.std.proofs.Common.{◌<◌, ◌≤◌, ℕ, List, length, subst, sym}
use Rattle.plan_core.proofs.SlotRows.{under_none, under_some}
use Rattle.plan_core.proofs.text_index.TextIndex.has.Goals as goal

pub returns-in-empty : goal.returns-in-empty
returns-in-empty c = sym (under_none c.args.self.now c.args.text.now (subst (λ (ns : List ℕ). length ns < 1) c.find.ensures c.in-empty.len_below))

pub returns-in-len1-up : goal.returns-in-len1-up
returns-in-len1-up c = sym (under_some c.args.self.now c.args.text.now (subst (λ (ns : List ℕ). 1 ≤ length ns) c.find.ensures c.in-len1-up.len_at_least))
