use Rattle.std.proofs.Common.{◌≡◌, ◌∙◌, sym, ap, length, set, arith}
use Rattle.std.proofs.lemmas.Grind.{common_steps}
use Rattle.ledger_rows.specs.declared.action_rows.State.{State}
use Rattle.ledger_rows.proofs.Freshening.{ended_before}
use Rattle.ledger_rows.proofs.Turns.{begins_to_lose, is_not_blocked, sound_after}
use Rattle.ledger_rows.proofs.entries.end_badly.Goals as goal

pub lose-requires : goal.lose-requires
lose-requires g c = (
  c.requires.1.1.1.1.0,
  (
    sound_after g.run.setup g.run.journal c.args.rows.now c.args.action g.run.worker g.run.outcome c.requires.0 c.requires.1.0 c.requires.1.1.0 c.requires.1.1.1.0,
    (
      begins_to_lose g.run.setup g.run.journal c.args.rows.now c.args.action g.run.worker g.run.outcome c.requires.0 c.requires.1.0 c.requires.1.1.0 c.requires.1.1.1.0
          c.set_state.new.self c.args.pending.now c.put.new.self c.set_state.ensures.states c.set_state.ensures.lacks c.put.ensures c.requires.1.1.1.1.1.0 c.requires.1.1.1.1.1.1.0,
      c.requires.1.1.1.1.1.1.1 ∙ sym (let k : length (set c.args.rows.now.states c.args.action State.Badly) ≡ length c.args.rows.now.states = grind (arith, common_steps) in ap length c.set_state.ensures.states ∙ k),
    ),
  ),
)

pub returns-clause-before : goal.returns-clause-before
returns-clause-before g c =
    λ a. c.lose.ensures.before a ∙ ended_before c.args.rows.now c.set_state.new.self c.args.pending.now c.put.new.self c.args.fresh.now c.args.action c.requires.1.0 c.set_state.ensures.states c.put.ensures
    c.requires.1.1.1.1.1.0 (is_not_blocked g.run.setup g.run.journal c.args.rows.now c.args.action g.run.worker c.requires.0 c.requires.1.0 c.requires.1.1.0) a
