use Rattle.std.proofs.Common.{◌∙◌, sym, arith}
use Rattle.short_forms.proofs.AmountLemmas.{amounts_cut, amounts_end, amounts_on}
use Rattle.short_forms.proofs.durations.amount_len.Goals as goal

pub returns-then-ends_amount-clause-first : goal.returns-then-ends_amount-clause-first
returns-then-ends_amount-clause-first c =
    c.loop-last.invariant ∙ amounts_cut c.args.text.now c.loop-last.last (omega arith) (sym c.ends_amount.ensures ∙ c.if-ends_amount.true)

pub loop-last-preserved : goal.loop-last-preserved
loop-last-preserved c =
    c.loop-last.invariant ∙ amounts_on c.args.text.now c.loop-last.last (omega arith) (sym c.ends_amount.ensures ∙ c.if-ends_amount.false)

pub returns-clause-first : goal.returns-clause-first
returns-clause-first c = c.loop-last.invariant ∙ amounts_end c.args.text.now c.loop-last.last (omega arith)
