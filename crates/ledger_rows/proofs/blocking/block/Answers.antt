use Rattle.std.proofs.Common.{◌+◌, ℕ, get_or, arith, sym, ap, ◌∙◌, subst, take, List, Option}
use Rattle.std.proofs.lemmas.Option.{slice_get-get_or}
use Rattle.ledger_rows.specs.ActionRows.Values.{Actions}
use Rattle.ledger_rows.specs.Rows.{Blocks}
use Rattle.ledger_rows.proofs.Marking.{blocks_more, blocks_not}
use Rattle.ledger_rows.proofs.blocking.block.Goals.{in-Free, in_default}
use Rattle.ledger_rows.proofs.blocking.block.Goals as goal

pub loop-action-preserved : goal.loop-action-preserved
loop-action-preserved c =
    let h = c.requires.there c.loop-action.action-index (get_or c.args.stopped.now c.loop-action.action-index 0) (slice_get-get_or c.args.stopped.now c.loop-action.action-index 0 c.loop-action-test.true) in
    elim c.match-state.branch [
      | in-Free w ↦ blocks_more c.args.stopped.now c.loop-action.action-index c.args.rows.now c.loop-action.rows c.args.pending.now c.loop-action.pending c.loop-action-test.true c.loop-action.invariant
          c.match-state.rows c.match-state.pending (omega (arith, h, c.loop-action.invariant.size)) (omega (arith, c.loop-action.invariant.size, c.loop-action.invariant.pending_size, c.requires.same))
          (sym c.state.ensures ∙ w.in-Free.is)
          (ap (λ (rows : Actions). rows.states) w.rows-is ∙ w.set_state.ensures.states) (ap (λ (rows : Actions). rows.lacks) w.rows-is ∙ w.set_state.ensures.lacks) (w.pending-is ∙ w.put.ensures)
      | in_default w ↦ subst (λ (rows : Actions). Blocks (take (c.loop-action.action-index + 1) c.args.stopped.now) c.args.rows.now rows c.args.pending.now c.match-state.pending) (sym w.rows-is)
          (subst (λ (later : List (Option ℕ)). Blocks (take (c.loop-action.action-index + 1) c.args.stopped.now) c.args.rows.now c.loop-action.rows c.args.pending.now later) (sym w.pending-is)
          (blocks_not c.args.stopped.now c.loop-action.action-index c.args.rows.now c.loop-action.rows c.args.pending.now c.loop-action.pending c.loop-action-test.true c.loop-action.invariant
          (λ k. w.in_default.not-Free (c.state.ensures ∙ k))))
    ]
