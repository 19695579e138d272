use Rattle.std.proofs.Common.{◌≡◌, ℕ, List, length, get_or, ap, ◌∙◌, arith}
use Rattle.ledger_rows.specs.ActionRows.{lack_at}
use Rattle.ledger_rows.proofs.Turns.{ended_well, kept}
use Rattle.ledger_rows.proofs.entries.end_well.Goals as goal

pub release-requires-clause-kept : goal.release-requires-clause-kept
release-requires-clause-kept g c =
    λ b. let k = kept g.run.setup g.run.journal c.args.rows.now c.args.action g.run.worker g.run.reply c.requires.0 c.requires.1.0 c.requires.1.1.0 c.requires.1.1.1.0 b in
    let e = c.requires.1.1.1.1.1.each b in
    let l : lack_at c.set_state.new.self b ≡ lack_at c.args.rows.now b = ap (λ (ns : List ℕ). get_or ns b 0) c.set_state.ensures.lacks in
    omega (arith, k, e, l)

pub returns : goal.returns
returns g c =
    ended_well g.run.setup g.run.journal c.args.rows.now c.args.action g.run.worker g.run.reply c.requires.0 c.requires.1.0 c.requires.1.1.0 c.requires.1.1.1.0 c.args.at c.requires.1.1.1.1.0 c.release.new.rows
    (c.release.ensures.states ∙ c.set_state.ensures.states) (c.release.ensures.size ∙ ap length c.set_state.ensures.lacks)
    (λ b. let f = c.release.ensures.lacks b in
    let e = c.requires.1.1.1.1.1.each b in
    let l : lack_at c.set_state.new.self b ≡ lack_at c.args.rows.now b = ap (λ (ns : List ℕ). get_or ns b 0) c.set_state.ensures.lacks in
    omega (arith, f, e, l))
