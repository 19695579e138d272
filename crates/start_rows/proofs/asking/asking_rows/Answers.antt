use Rattle.std.proofs.Common.{◌≡◌, ◌+◌, ◌==◌, ℕ, [], List, length, get_or, sym, ap, ◌∙◌, subst, arith}
use Rattle.ledger_rows.specs.Counts.{counted}
use Rattle.start_rows.proofs.Askers.{Asked, action_more_by, asked_all, written}
use Rattle.start_rows.proofs.asking.asking_rows.Goals as goal

pub loop-at-preserved : goal.loop-at-preserved
loop-at-preserved c =
    let v : length c.deref_mut.result.now ≡ length c.loop-at.rows.items = ap length c.deref_mut.ensures.value in
    let size : length c.add_asks.new.rows ≡ length c.deref_mut.result.now = omega (arith, c.add_asks.auto.rows) in
    let n : c.loop-at.rows.len ≡ length c.loop-at.rows.items = omega (arith, c.loop-at.rows.ok) in
    subst (λ (rows : List (List ℕ)). Asked c.args.ask c.args.condition c.args.declared.now c.args.actions.now rows (c.loop-at.at + 1)) (sym (written c.add_asks.new.rows c.loop-at.rows.items c.loop-at.rows.len (size ∙ v) n))
    (action_more_by c.args.ask c.args.condition c.args.declared.now c.args.actions.now c.loop-at.rows.items c.add_asks.new.rows c.deref_mut.result.now c.slot_needs-needs.result.now c.loop-at.at c.index-actions-at.result
    c.loop-at-test.true c.index-actions-at.is c.loop-at.invariant c.deref_mut.ensures.value c.slot_needs-needs.ensures size c.in_ok-add_asks.ensures.ok)

pub returns-clause-each : goal.returns-clause-each
returns-clause-each c = λ s a l.
    ap (λ (rows : List (List ℕ)). counted (λ b. b == a) (get_or rows s [])) c.from_vec.ensures
    ∙ asked_all c.args.ask c.args.condition c.args.declared.now c.args.actions.now c.loop-at.rows.items c.loop-at.at (omega arith) c.loop-at.invariant s a l
