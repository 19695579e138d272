use Rattle.std.proofs.Common.{◌≡◌, ℕ, sym, ◌∙◌, subst}
use Rattle.engine_types.specs.declared.Condition.{Condition}
use Rattle.run_model.specs.declared.verdict.Verdict.{Verdict}
use Rattle.ledger_rows.specs.Facts.{AreSound}
use Rattle.ledger_rows.specs.Rows.{AreRows}
use Rattle.ledger_polls.specs.Verdicts.{facts_by, facts_with}
use Rattle.ledger_polls.proofs.News.{same_verdict}
use Rattle.ledger_polls.proofs.turning.turn.Goals as goal

pub meet_open-requires : goal.meet_open-requires
meet_open-requires g c =
    (c.requires.0, (subst (λ (v : ℕ → Condition → Verdict). AreRows g.news.setup (facts_by g.news.stands v) g.news.journal c.args.rows.now) (sym (same_verdict g.news.verdicts g.news.slot g.news.condition Verdict.NotYet (sym c.in-NotYet-Met.is-0 ∙ c.requires.1.0))) c.requires.1.1.1.0, (c.requires.1.1.1.1.0, (c.requires.1.1.1.1.1.0, (c.requires.1.1.1.1.1.1.1.0, c.requires.1.1.1.1.1.1.1.1.0)))))

pub fail_open-requires : goal.fail_open-requires
fail_open-requires g c =
    (c.requires.0, (subst (λ (v : ℕ → Condition → Verdict). AreRows g.news.setup (facts_by g.news.stands v) g.news.journal c.args.rows.now) (sym (same_verdict g.news.verdicts g.news.slot g.news.condition Verdict.NotYet (sym c.in-NotYet-Failed.is-0 ∙ c.requires.1.0))) c.requires.1.1.1.0, (c.requires.1.1.1.1.0, (c.requires.1.1.1.1.1.0, (subst (λ (x : Verdict). AreSound g.news.setup (facts_with g.news x)) c.in-NotYet-Failed.is-1 c.requires.1.1.1.1.1.1.0, (c.requires.1.1.1.1.1.1.1.0, (c.requires.1.1.1.1.1.1.1.1.0, (c.requires.1.1.1.1.1.1.1.1.1.0, c.requires.1.1.1.1.1.1.1.1.1.1.0))))))))

pub fail_met-requires : goal.fail_met-requires
fail_met-requires g c =
    (c.requires.0, (subst (λ (v : ℕ → Condition → Verdict). AreRows g.news.setup (facts_by g.news.stands v) g.news.journal c.args.rows.now) (sym (same_verdict g.news.verdicts g.news.slot g.news.condition Verdict.Met (sym c.in-Met-Failed.is-0 ∙ c.requires.1.0))) c.requires.1.1.1.0, (c.requires.1.1.1.1.0, (c.requires.1.1.1.1.1.0, (subst (λ (x : Verdict). AreSound g.news.setup (facts_with g.news x)) c.in-Met-Failed.is-1 c.requires.1.1.1.1.1.1.0, (c.requires.1.1.1.1.1.1.1.0, (c.requires.1.1.1.1.1.1.1.1.0, (c.requires.1.1.1.1.1.1.1.1.1.0, (c.requires.1.1.1.1.1.1.1.1.1.1.0, c.requires.1.1.1.1.1.1.1.1.1.1.1)))))))))

pub returns-in-NotYet-NotYet-clause-said : goal.returns-in-NotYet-NotYet-clause-said
returns-in-NotYet-NotYet-clause-said g c =
    subst (λ (v : ℕ → Condition → Verdict). AreRows g.news.setup (facts_by g.news.stands v) g.news.journal c.args.rows.now)
    (sym (same_verdict g.news.verdicts g.news.slot g.news.condition c.args.after (c.in-NotYet-NotYet.is-1 ∙ sym c.in-NotYet-NotYet.is-0 ∙ c.requires.1.0))) c.requires.1.1.1.0

pub returns-in-Met-Met-clause-said : goal.returns-in-Met-Met-clause-said
returns-in-Met-Met-clause-said g c =
    subst (λ (v : ℕ → Condition → Verdict). AreRows g.news.setup (facts_by g.news.stands v) g.news.journal c.args.rows.now)
    (sym (same_verdict g.news.verdicts g.news.slot g.news.condition c.args.after (c.in-Met-Met.is-1 ∙ sym c.in-Met-Met.is-0 ∙ c.requires.1.0))) c.requires.1.1.1.0

pub returns-in-Failed-Failed-clause-said : goal.returns-in-Failed-Failed-clause-said
returns-in-Failed-Failed-clause-said g c =
    subst (λ (v : ℕ → Condition → Verdict). AreRows g.news.setup (facts_by g.news.stands v) g.news.journal c.args.rows.now)
    (sym (same_verdict g.news.verdicts g.news.slot g.news.condition c.args.after (c.in-Failed-Failed.is-1 ∙ sym c.in-Failed-Failed.is-0 ∙ c.requires.1.0))) c.requires.1.1.1.0
