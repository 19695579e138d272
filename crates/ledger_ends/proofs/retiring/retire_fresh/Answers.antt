use Rattle.std.proofs.Common.{◌≡◌, ◌<◌, ℕ, Bool, true, false, List, Option, None, length, set, slice_get, refl, sym, ap, ◌∙◌, subst, arith}
use Rattle.std.proofs.lemmas.Grind.{common_steps}
use Rattle.std.specs.Prelude.{is_some}
use Rattle.engine_types.specs.declared.Need.{Need}
use Rattle.run_model.specs.Plans.{kind_of, slot_needs}
use Rattle.ledger_rows.specs.ActionRows.{state_at}
use Rattle.ledger_rows.specs.Counts.{counted}
use Rattle.ledger_rows.specs.Facts.{asks_of}
use Rattle.ledger_rows.specs.Rows.{blocked_in, is_blocked_state}
use Rattle.ledger_rows.proofs.Marking.{work_less}
use Rattle.ledger_ends.specs.Retiring.{AreSlotsWhile, Retires, still_asks}
use Rattle.ledger_ends.proofs.Askers.{needs_enough, needs_same, needs_there, of_while}
use Rattle.ledger_ends.proofs.Freshening.{asked_before, asks_no_more, never_asked, none_fresh, not_blocked}
use Rattle.ledger_ends.proofs.retiring.retire_fresh.Goals as goal

pub retire-requires-clause-there : goal.retire-requires-clause-there
retire-requires-clause-there g c = λ i need h.
    let e : c.needs_of.result.now ≡ slot_needs g.run.setup.declared (kind_of g.run.setup.actions c.in-Some.action)
    = needs_same c.args.declared.now g.run.setup.declared c.args.actions.now g.run.setup.actions c.in-Some.action c.needs_of.result.now c.needs_of.ensures c.requires.0 c.requires.1.0 in
    let k = needs_there g.run.setup.declared (kind_of g.run.setup.actions c.in-Some.action) i need c.requires.1.1.0 (ap (λ (ns : List Need). slice_get ns i) (sym e) ∙ h) in
    let z = c.loop-action.invariant.asking.size in
    omega (arith, k, z)

pub retire-requires-clause-asked : goal.retire-requires-clause-asked
retire-requires-clause-asked g c = λ s d m r.
    let e : c.needs_of.result.now ≡ slot_needs g.run.setup.declared (kind_of g.run.setup.actions c.in-Some.action)
    = needs_same c.args.declared.now g.run.setup.declared c.args.actions.now g.run.setup.actions c.in-Some.action c.needs_of.result.now c.needs_of.ensures c.requires.0 c.requires.1.0 in
    let size : length c.loop-action.fresh ≡ length g.run.setup.actions = c.loop-action.invariant.size ∙ c.requires.1.1.1.0 ∙ ap length c.requires.1.0 in
    let h : blocked_in c.args.rows.now c.in-Some.action ≡ true = ap is_blocked_state (sym c.state.ensures ∙ c.in-Blocked.is) in
    let was = asked_before g.run c.args.rows.now c.loop-action.fresh c.in-Some.action c.loop-action.slots c.in-Some.ensures.found.0 size c.in-Some.ensures.found.1 c.requires.1.1.1.1.1.0 c.loop-action.invariant.asking h in
    let k = needs_enough g.run.setup g.run.past (still_asks g.run c.args.rows.now c.loop-action.fresh) c.in-Some.action c.loop-action.slots (omega (arith, c.in-Some.ensures.found.0, size)) was c.loop-action.invariant.asking s d m r in
    let t : counted (asks_of s d) c.needs_of.result.now ≡ counted (asks_of s d) (slot_needs g.run.setup.declared (kind_of g.run.setup.actions c.in-Some.action)) = ap (counted (asks_of s d)) e in
    omega (arith, k, t)

pub loop-action-smaller-in-Blocked : goal.loop-action-smaller-in-Blocked
loop-action-smaller-in-Blocked g c =
    let k = work_less c.args.rows.now c.loop-action.fresh c.in-Some.action c.in-Some.ensures.found.0 c.in-Some.ensures.found.1 in
    let e : counted is_some c.put.new.self ≡ counted is_some (set c.loop-action.fresh c.in-Some.action None) = ap (λ (os : List (Option ℕ)). counted is_some os) c.put.ensures in
    omega (arith, k, e)

pub loop-action-smaller : goal.loop-action-smaller
loop-action-smaller g c =
    let k = work_less c.args.rows.now c.loop-action.fresh c.in-Some.action c.in-Some.ensures.found.0 c.in-Some.ensures.found.1 in
    let e : counted is_some c.put.new.self ≡ counted is_some (set c.loop-action.fresh c.in-Some.action None) = ap (λ (os : List (Option ℕ)). counted is_some os) c.put.ensures in
    let less : counted is_some c.put.new.self < counted is_some c.loop-action.fresh = omega (arith, k, e) in
    less

pub loop-action-preserved-in-Blocked : goal.loop-action-preserved-in-Blocked
loop-action-preserved-in-Blocked g c =
    let e : c.needs_of.result.now ≡ slot_needs g.run.setup.declared (kind_of g.run.setup.actions c.in-Some.action)
    = needs_same c.args.declared.now g.run.setup.declared c.args.actions.now g.run.setup.actions c.in-Some.action c.needs_of.result.now c.needs_of.ensures c.requires.0 c.requires.1.0 in
    let size : length c.loop-action.fresh ≡ length g.run.setup.actions = c.loop-action.invariant.size ∙ c.requires.1.1.1.0 ∙ ap length c.requires.1.0 in
    let h : blocked_in c.args.rows.now c.in-Some.action ≡ true = ap is_blocked_state (sym c.state.ensures ∙ c.in-Blocked.is) in
    record {
      size = let k : length (set c.loop-action.fresh c.in-Some.action None) ≡ length c.loop-action.fresh = grind (arith, common_steps) in ap length c.put.ensures ∙ k ∙ c.loop-action.invariant.size;
      asking = subst (λ (os : List (Option ℕ)). AreSlotsWhile g.run.setup g.run.past (still_asks g.run c.args.rows.now os) c.retire.new.slots) (sym c.put.ensures)
          (asks_no_more g.run c.args.rows.now c.loop-action.fresh c.in-Some.action c.loop-action.slots c.in-Some.ensures.found.0 size c.in-Some.ensures.found.1 c.requires.1.1.1.1.1.0 c.loop-action.invariant.asking c.retire.new.slots h
          (subst (λ (ns : List Need). Retires ns c.loop-action.slots c.retire.new.slots) e c.retire.ensures));
    }

pub loop-action-preserved : goal.loop-action-preserved
loop-action-preserved g c =
    let size : length c.loop-action.fresh ≡ length g.run.setup.actions = c.loop-action.invariant.size ∙ c.requires.1.1.1.0 ∙ ap length c.requires.1.0 in
    let h : blocked_in c.args.rows.now c.in-Some.action ≡ false = not_blocked (state_at c.args.rows.now c.in-Some.action) (λ k. c.in_default-state.not-Blocked (c.state.ensures ∙ k)) in
    record {
      size = let k : length (set c.loop-action.fresh c.in-Some.action None) ≡ length c.loop-action.fresh = grind (arith, common_steps) in ap length c.put.ensures ∙ k ∙ c.loop-action.invariant.size;
      asking = subst (λ (os : List (Option ℕ)). AreSlotsWhile g.run.setup g.run.past (still_asks g.run c.args.rows.now os) c.loop-action.slots) (sym c.put.ensures)
          (never_asked g.run c.args.rows.now c.loop-action.fresh c.in-Some.action c.loop-action.slots c.in-Some.ensures.found.0 size c.in-Some.ensures.found.1 c.requires.1.1.1.1.1.0 c.loop-action.invariant.asking h);
    }

pub returns-clause-watched : goal.returns-clause-watched
returns-clause-watched g c =
    of_while g.run.setup g.run.past c.loop-action.slots
    (none_fresh g.run c.args.rows.now c.loop-action.fresh c.loop-action.slots (λ a. ap (λ (o : Option ℕ). is_some o) (c.in_default.ensures.found a)) c.loop-action.invariant.asking)
