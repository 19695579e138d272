use Rattle.std.proofs.Common.{◌≡◌, ◌<◌, ℕ, Option, List, length, set, ap, ◌∙◌, arith}
use Rattle.slot_rows.specs.Keys.{slot_key}
use Rattle.slot_rows.proofs.Opening.{opened_all, opened_more}
use Rattle.slot_rows.proofs.slot_rows.SlotRows.new.Goals as goal

pub loop-at-preserved : goal.loop-at-preserved
loop-at-preserved c =
    opened_more c.args.rows.items c.loop-at.watch c.put.new.self c.loop-at.at c.index.result.now (omega arith) c.index.ensures c.loop-at.invariant
    (c.put.ensures ∙ ap (λ (o : Option ℕ). set c.loop-at.watch c.loop-at.at o) c.key_of.ensures)

pub invariant_of-result : goal.invariant_of-result
invariant_of-result c = opened_all c.args.rows.items c.loop-at.watch c.loop-at.invariant.size (λ s l. c.loop-at.invariant.each s (omega (arith, l)))
