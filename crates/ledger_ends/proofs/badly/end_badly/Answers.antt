use Rattle.std.proofs.Common.{◌≡◌, ℕ, length, reverse, refl, sym, ap, ◌∙◌}
use Rattle.ledger_rows.specs.Entries.{Ending}
use Rattle.ledger_ends.proofs.Losing.{asking, gone}
use Rattle.ledger_ends.proofs.badly.end_badly.Goals as goal

pub retire_fresh-requires : goal.retire_fresh-requires
retire_fresh-requires g c =
    let actions = c.as_slice-actions.ensures ∙ sym (ap (λ (r : Ending). r.setup.actions) c.requires.0) in
    let size = c.end_badly.ensures.said.size ∙ sym (ap length actions) in (
      sym (ap (λ (r : Ending). r.setup.declared) c.requires.0),
      (
        actions,
        (
          c.requires.1.1.0,
          (
            c.end_badly.ensures.fresh_size ∙ size,
            (
              size,
              (
                gone g.run.setup g.run.journal c.args.rows.now c.end_badly.new.rows c.args.slots.now c.args.losses.now.fresh c.end_badly.new.fresh c.args.action g.run.worker g.run.outcome
                    c.requires.1.0 c.requires.1.1.1.0 c.requires.1.1.1.1.0 c.requires.1.1.1.1.1.1.1.0 c.requires.1.1.1.1.1.1.1.1.0 c.requires.1.1.1.1.1.1.1.1.1
                    c.end_badly.ensures.said c.end_badly.ensures.before c.requires.1.1.1.1.1.0.no_fresh,
                asking g.run.setup g.run.journal c.args.rows.now c.end_badly.new.rows c.args.slots.now c.args.losses.now.fresh c.end_badly.new.fresh c.args.action g.run.worker g.run.outcome
                    c.requires.1.0 c.requires.1.1.1.0 c.requires.1.1.1.1.0 c.requires.1.1.1.1.1.1.1.0 c.requires.1.1.1.1.1.1.1.1.0 c.requires.1.1.1.1.1.1.1.1.1
                    c.end_badly.ensures.said c.end_badly.ensures.before c.requires.1.1.1.1.1.0.no_fresh,
              ),
            ),
          ),
        ),
      ),
    )
