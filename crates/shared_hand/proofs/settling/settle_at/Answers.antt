-- The container that was found makes its change, and its look is noted.
use Rattle.std.proofs.Common.{◌≡◌, ◌∙◌, ℕ, List, Some, true, ap, rules}
use Rattle.run_model.specs.EngineRules.{container_at}
use Rattle.tree_base.specs.Entries.{with_entry}
use Rattle.shared_hand.specs.Settling.{settles}
use Rattle.shared_hand.proofs.Settles.{notes_at, settles_at}
use Rattle.shared_hand.proofs.settling.settle_at.Goals as goal

pub returns-clause-engine : goal.returns-clause-engine
returns-clause-engine c =
    let row = c.in-Some.row.now in
    let found : container_at c.args.memory.now.engine c.args.id.now ≡ Some row = search rules in
    let may : settles c.args.memory.now.script row ≡ true = cc in
    c.make.ensures.engine ∙ settles_at c.args.looked.now c.args.memory.now.script c.args.memory.now.engine c.args.id.now row c.was_looked_at.result c.change_at-change.result
    found may c.was_looked_at.ensures c.change_at-change.ensures

pub returns-clause-looked : goal.returns-clause-looked
returns-clause-looked c =
    let row = c.in-Some.row.now in
    let found : container_at c.args.memory.now.engine c.args.id.now ≡ Some row = search rules in
    let may : settles c.args.memory.now.script row ≡ true = cc in
    c.in_ok-put.ensures.ok ∙ ap (λ (key : List ℕ). with_entry c.args.looked.now key tt) c.in_ok-copy.ensures
    ∙ notes_at c.args.looked.now c.args.memory.now.script c.args.memory.now.engine c.args.id.now row found may
