use Rattle.std.proofs.Common.{◌∷◌, ◌≡◌, ◌<◌, ℕ, Bool, true, List, Option, length, get_or, set, reverse, refl, sym, ap, ◌∙◌, subst, arith}
use Rattle.std.specs.Prelude.{option_map}
use Rattle.engine_types.specs.declared.Condition.{Condition}
use Rattle.engine_types.specs.declared.Entry.{Entry}
use Rattle.engine_types.specs.declared.Outcome.{Outcome}
use Rattle.run_model.specs.Conditions.{judge, report_of}
use Rattle.run_model.specs.Journals.{standing}
use Rattle.run_model.specs.declared.verdict.Verdict.{Verdict}
use Rattle.ledger_rows.specs.Entries.{Ending}
use Rattle.ledger_rows.specs.Facts.{AreSound}
use Rattle.ledger_rows.specs.Rows.{AreRows}
use Rattle.slot_rows.specs.Keys.{no_slot}
use Rattle.slot_rows.specs.Reports.{reported, verdict_after}
use Rattle.slot_rows.specs.Slots.{verdict_in}
use Rattle.slot_rows.specs.declared.slot_row.SlotRow.{SlotRow}
use Rattle.ledger_ends.specs.Retiring.{AreSlotsWhile, still_asks}
use Rattle.ledger_polls.specs.Verdicts.{facts_by, may_follow, with_healthy, with_verdict}
use Rattle.ledger_polls.proofs.Polled.{asking, by_verdicts, counts_now, follows, gone, said_now, second_sound, third_sound, with_apart}
use Rattle.ledger_polls.proofs.polling.end_poll.Goals as goal

pub turn_healthy-requires : goal.turn_healthy-requires
turn_healthy-requires g c =
    let l : c.args.slot < length g.run.setup.declared.slots = let z = c.requires.1.1.1.1.1.1.1.0.size in let k = c.requires.1.1.1.1.1.1.1.1.1.1 in omega (arith, z, k) in
    let row = c.requires.1.1.1.1.1.1.1.0.each c.args.slot l in
    let out : g.run.outcome ≡ c.args.outcome.now = ap (λ (r : Ending). r.outcome) c.requires.0 in
    let old_H : c.row-before.result.healthy ≡ verdict_in g.run.setup (reverse g.run.journal) c.args.slot Condition.Healthy = ap (λ (r : SlotRow). r.healthy) c.row-before.ensures ∙ row.healthy_is in
    let old_C : c.row-before.result.completed ≡ verdict_in g.run.setup (reverse g.run.journal) c.args.slot Condition.Completed = ap (λ (r : SlotRow). r.completed) c.row-before.ensures ∙ row.completed_is in
    let told_H : c.reported-after.result.healthy ≡ verdict_after Condition.Healthy g.run.outcome c.row-before.result.healthy
    = ap (λ (r : SlotRow). r.healthy) c.reported-after.ensures ∙ ap (λ (o : Outcome). verdict_after Condition.Healthy o c.row-before.result.healthy) (sym out) in
    let told_C : c.reported-after.result.completed ≡ verdict_after Condition.Completed g.run.outcome c.row-before.result.completed
    = ap (λ (r : SlotRow). r.completed) c.reported-after.ensures ∙ ap (λ (o : Outcome). verdict_after Condition.Completed o c.row-before.result.completed) (sym out) in
    let new_H = told_H ∙ ap (verdict_after Condition.Healthy g.run.outcome) old_H in
    let new_C = told_C ∙ ap (verdict_after Condition.Completed g.run.outcome) old_C in (
      refl,
      (
        old_H,
        (
          ap (may_follow c.row-before.result.healthy) told_H ∙ follows (option_map (judge Condition.Healthy) (report_of g.run.outcome)) c.row-before.result.healthy,
          (
            by_verdicts c.requires.1.0.0 g.run.setup g.run.journal g.run.worker c.args.slot g.run.outcome c.requires.1.0.1 c.requires.1.1.0 c.requires.1.1.1.1.0 c.args.rows.now c.requires.1.1.1.1.1.1.0,
            (
              refl,
              (
                counts_now c.requires.1.0.0 g.run.setup g.run.journal g.run.worker c.args.slot g.run.outcome c.requires.1.0.1 c.requires.1.1.0 c.requires.1.1.1.1.0,
                (
                  subst (λ (x : Verdict). AreSound g.run.setup (facts_by (standing g.run.setup (reverse g.run.journal)) (with_verdict (verdict_in g.run.setup (reverse g.run.journal)) c.args.slot Condition.Healthy x))) (sym new_H) (second_sound c.requires.1.0.0 g.run.setup g.run.journal g.run.worker c.args.slot g.run.outcome c.requires.1.0.1 c.requires.1.1.0 c.requires.1.1.1.1.0),
                  (
                    l,
                    (
                      c.requires.1.1.1.1.1.1.1.1.1.0.healthy,
                      (
                        c.requires.1.1.1.1.1.1.1.1.1.0.net,
                        (record { pending_size = c.requires.1.1.1.1.1.1.1.1.0.pending_size; no_pending = c.requires.1.1.1.1.1.1.1.1.0.no_pending; fresh_size = c.requires.1.1.1.1.1.1.1.1.0.fresh_size }, c.requires.1.1.1.1.1.0),
                      ),
                    ),
                  ),
                ),
              ),
            ),
          ),
        ),
      ),
    )

pub turn_completed-requires : goal.turn_completed-requires
turn_completed-requires g c =
    let l : c.args.slot < length g.run.setup.declared.slots = let z = c.requires.1.1.1.1.1.1.1.0.size in let k = c.requires.1.1.1.1.1.1.1.1.1.1 in omega (arith, z, k) in
    let row = c.requires.1.1.1.1.1.1.1.0.each c.args.slot l in
    let out : g.run.outcome ≡ c.args.outcome.now = ap (λ (r : Ending). r.outcome) c.requires.0 in
    let old_H : c.row-before.result.healthy ≡ verdict_in g.run.setup (reverse g.run.journal) c.args.slot Condition.Healthy = ap (λ (r : SlotRow). r.healthy) c.row-before.ensures ∙ row.healthy_is in
    let old_C : c.row-before.result.completed ≡ verdict_in g.run.setup (reverse g.run.journal) c.args.slot Condition.Completed = ap (λ (r : SlotRow). r.completed) c.row-before.ensures ∙ row.completed_is in
    let told_H : c.reported-after.result.healthy ≡ verdict_after Condition.Healthy g.run.outcome c.row-before.result.healthy
    = ap (λ (r : SlotRow). r.healthy) c.reported-after.ensures ∙ ap (λ (o : Outcome). verdict_after Condition.Healthy o c.row-before.result.healthy) (sym out) in
    let told_C : c.reported-after.result.completed ≡ verdict_after Condition.Completed g.run.outcome c.row-before.result.completed
    = ap (λ (r : SlotRow). r.completed) c.reported-after.ensures ∙ ap (λ (o : Outcome). verdict_after Condition.Completed o c.row-before.result.completed) (sym out) in
    let new_H = told_H ∙ ap (verdict_after Condition.Healthy g.run.outcome) old_H in
    let new_C = told_C ∙ ap (verdict_after Condition.Completed g.run.outcome) old_C in
    let mid = subst (λ (x : Verdict). AreRows g.run.setup (facts_by (standing g.run.setup (reverse g.run.journal)) (with_verdict (verdict_in g.run.setup (reverse g.run.journal)) c.args.slot Condition.Healthy x)) g.run.journal c.turn_healthy.new.rows) new_H c.turn_healthy.ensures.said in (
      refl,
      (
        old_C ∙ sym (with_apart (verdict_in g.run.setup (reverse g.run.journal)) c.args.slot c.args.slot Condition.Healthy Condition.Completed _ refl),
        (
          ap (may_follow c.row-before.result.completed) told_C ∙ follows (option_map (judge Condition.Completed) (report_of g.run.outcome)) c.row-before.result.completed,
          (
            mid,
            (
              refl,
              (
                counts_now c.requires.1.0.0 g.run.setup g.run.journal g.run.worker c.args.slot g.run.outcome c.requires.1.0.1 c.requires.1.1.0 c.requires.1.1.1.1.0,
                (
                  subst (λ (x : Verdict). AreSound g.run.setup (facts_by (standing g.run.setup (reverse g.run.journal)) (with_verdict (with_healthy g.run c.args.slot) c.args.slot Condition.Completed x))) (sym new_C) (third_sound c.requires.1.0.0 g.run.setup g.run.journal g.run.worker c.args.slot g.run.outcome c.requires.1.0.1 c.requires.1.1.0 c.requires.1.1.1.1.0),
                  (l, (c.requires.1.1.1.1.1.1.1.1.1.0.completed, (c.requires.1.1.1.1.1.1.1.1.1.0.net, (c.turn_healthy.ensures.ready, c.requires.1.1.1.1.1.0)))),
                ),
              ),
            ),
          ),
        ),
      ),
    )

pub retire_fresh-requires : goal.retire_fresh-requires
retire_fresh-requires g c =
    let l : c.args.slot < length g.run.setup.declared.slots = let z = c.requires.1.1.1.1.1.1.1.0.size in let k = c.requires.1.1.1.1.1.1.1.1.1.1 in omega (arith, z, k) in
    let row = c.requires.1.1.1.1.1.1.1.0.each c.args.slot l in
    let out : g.run.outcome ≡ c.args.outcome.now = ap (λ (r : Ending). r.outcome) c.requires.0 in
    let old_H : c.row-before.result.healthy ≡ verdict_in g.run.setup (reverse g.run.journal) c.args.slot Condition.Healthy = ap (λ (r : SlotRow). r.healthy) c.row-before.ensures ∙ row.healthy_is in
    let old_C : c.row-before.result.completed ≡ verdict_in g.run.setup (reverse g.run.journal) c.args.slot Condition.Completed = ap (λ (r : SlotRow). r.completed) c.row-before.ensures ∙ row.completed_is in
    let told_H : c.reported-after.result.healthy ≡ verdict_after Condition.Healthy g.run.outcome c.row-before.result.healthy
    = ap (λ (r : SlotRow). r.healthy) c.reported-after.ensures ∙ ap (λ (o : Outcome). verdict_after Condition.Healthy o c.row-before.result.healthy) (sym out) in
    let told_C : c.reported-after.result.completed ≡ verdict_after Condition.Completed g.run.outcome c.row-before.result.completed
    = ap (λ (r : SlotRow). r.completed) c.reported-after.ensures ∙ ap (λ (o : Outcome). verdict_after Condition.Completed o c.row-before.result.completed) (sym out) in
    let new_H = told_H ∙ ap (verdict_after Condition.Healthy g.run.outcome) old_H in
    let new_C = told_C ∙ ap (verdict_after Condition.Completed g.run.outcome) old_C in
    let mid = subst (λ (x : Verdict). AreRows g.run.setup (facts_by (standing g.run.setup (reverse g.run.journal)) (with_verdict (verdict_in g.run.setup (reverse g.run.journal)) c.args.slot Condition.Healthy x)) g.run.journal c.turn_healthy.new.rows) new_H c.turn_healthy.ensures.said in
    let last = subst (λ (x : Verdict). AreRows g.run.setup (facts_by (standing g.run.setup (reverse g.run.journal)) (with_verdict (with_healthy g.run c.args.slot) c.args.slot Condition.Completed x)) g.run.journal c.turn_completed.new.rows) new_C c.turn_completed.ensures.said in
    let actions = c.as_slice-actions.ensures ∙ sym (ap (λ (r : Ending). r.setup.actions) c.requires.0) in
    let slots : c.set.new.self ≡ set c.args.slots.now c.args.slot (reported (get_or c.args.slots.now c.args.slot no_slot) g.run.outcome)
    = c.set.ensures ∙ ap (set c.args.slots.now c.args.slot) (c.reported-after.ensures ∙ ap (λ (r : SlotRow). reported r c.args.outcome.now) c.row-before.ensures
    ∙ ap (reported (get_or c.args.slots.now c.args.slot no_slot)) (sym out)) in (
      sym (ap (λ (r : Ending). r.setup.declared) c.requires.0),
      (
        actions,
        (
          c.requires.1.1.1.1.0,
          (
            c.turn_completed.ensures.ready.fresh_size ∙ sym (ap length actions),
            (
              last.size ∙ sym (ap length actions),
              (
                gone c.requires.1.0.0 g.run.setup g.run.journal g.run.worker c.args.slot g.run.outcome c.requires.1.0.1 c.requires.1.1.0 c.requires.1.1.1.1.0 c.requires.1.1.1.0 c.turn_completed.new.rows last,
                subst (λ (rows : List SlotRow). AreSlotsWhile g.run.setup (Entry.Ended g.run.worker g.run.outcome ∷ reverse g.run.journal) (still_asks (record { setup = g.run.setup; past = Entry.Ended g.run.worker g.run.outcome ∷ reverse g.run.journal }) c.turn_completed.new.rows c.turn_completed.new.losses.fresh) rows) (sym slots)
                    (asking c.requires.1.0.0 g.run.setup g.run.journal g.run.worker c.args.slot g.run.outcome c.requires.1.0.1 c.requires.1.1.0 c.requires.1.1.1.1.0 c.args.slots.now c.requires.1.1.1.1.1.1.1.0 c.requires.1.1.1.1.1.1.1.1.1.1 c.requires.1.1.1.0 c.args.rows.now c.turn_completed.new.rows c.args.losses.now.fresh c.turn_completed.new.losses.fresh
                    c.requires.1.1.1.1.1.1.0 last (λ a. c.turn_completed.ensures.turned a ∙ c.turn_healthy.ensures.turned a) c.requires.1.1.1.1.1.1.1.1.0.no_fresh),
              ),
            ),
          ),
        ),
      ),
    )

pub returns-clause-said : goal.returns-clause-said
returns-clause-said g c =
    let l : c.args.slot < length g.run.setup.declared.slots = let z = c.requires.1.1.1.1.1.1.1.0.size in let k = c.requires.1.1.1.1.1.1.1.1.1.1 in omega (arith, z, k) in
    let row = c.requires.1.1.1.1.1.1.1.0.each c.args.slot l in
    let out : g.run.outcome ≡ c.args.outcome.now = ap (λ (r : Ending). r.outcome) c.requires.0 in
    let old_H : c.row-before.result.healthy ≡ verdict_in g.run.setup (reverse g.run.journal) c.args.slot Condition.Healthy = ap (λ (r : SlotRow). r.healthy) c.row-before.ensures ∙ row.healthy_is in
    let old_C : c.row-before.result.completed ≡ verdict_in g.run.setup (reverse g.run.journal) c.args.slot Condition.Completed = ap (λ (r : SlotRow). r.completed) c.row-before.ensures ∙ row.completed_is in
    let told_H : c.reported-after.result.healthy ≡ verdict_after Condition.Healthy g.run.outcome c.row-before.result.healthy
    = ap (λ (r : SlotRow). r.healthy) c.reported-after.ensures ∙ ap (λ (o : Outcome). verdict_after Condition.Healthy o c.row-before.result.healthy) (sym out) in
    let told_C : c.reported-after.result.completed ≡ verdict_after Condition.Completed g.run.outcome c.row-before.result.completed
    = ap (λ (r : SlotRow). r.completed) c.reported-after.ensures ∙ ap (λ (o : Outcome). verdict_after Condition.Completed o c.row-before.result.completed) (sym out) in
    let new_H = told_H ∙ ap (verdict_after Condition.Healthy g.run.outcome) old_H in
    let new_C = told_C ∙ ap (verdict_after Condition.Completed g.run.outcome) old_C in
    let last = subst (λ (x : Verdict). AreRows g.run.setup (facts_by (standing g.run.setup (reverse g.run.journal)) (with_verdict (with_healthy g.run c.args.slot) c.args.slot Condition.Completed x)) g.run.journal c.turn_completed.new.rows) new_C c.turn_completed.ensures.said in
    said_now c.requires.1.0.0 g.run.setup g.run.journal g.run.worker c.args.slot g.run.outcome c.requires.1.0.1 c.requires.1.1.0 c.requires.1.1.1.1.0 c.turn_completed.new.rows last
