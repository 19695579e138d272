use Rattle.std.proofs.Common.{◌∙◌, ◌<◌, length, arith, rules, sym}
use Rattle.declared_slots.proofs.Twice.{twice_here, twice_later}
use Rattle.declared_slots.proofs.refusing.twice_in_order.Goals as goal

pub returns-then-eq : goal.returns-then-eq
returns-then-eq c =
    let within : c.loop-name.name-index < length c.in_ok-first.others.now = omega arith in
    sym (twice_here c.loop-name.before.now c.in_ok-first.others.now c.loop-name.name-index c.name-item.result within c.name-item.is (sym c.eq.ensures ∙ c.if-eq.true)) ∙ c.loop-name.invariant

pub loop-name-preserved : goal.loop-name-preserved
loop-name-preserved c =
    let within : c.loop-name.name-index < length c.in_ok-first.others.now = omega arith in
    sym (twice_later c.loop-name.before.now c.in_ok-first.others.now c.loop-name.name-index c.name-item.result within c.name-item.is (sym c.eq.ensures ∙ c.if-eq.false)) ∙ c.loop-name.invariant
