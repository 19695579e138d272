use Rattle.std.proofs.Common.{◌≡◌, ◌<◌, ℕ, List, length, reverse, slice_get, refl, sym, ap, ◌∙◌, subst, arith}
use Rattle.engine_types.specs.declared.Need.{Need}
use Rattle.run_model.specs.Conditions.{is_pending}
use Rattle.run_model.specs.Plans.{kind_of, slot_needs}
use Rattle.ledger_rows.specs.Counts.{counted}
use Rattle.ledger_rows.specs.Facts.{asks_of}
use Rattle.ledger_ends.specs.Entries.{Claiming}
use Rattle.ledger_ends.specs.Retiring.{Retires}
use Rattle.ledger_ends.proofs.Askers.{needs_enough, needs_same, needs_there}
use Rattle.ledger_ends.proofs.Claims.{asking, claimed, there, was_pending}
use Rattle.ledger_ends.proofs.claiming.claim.Goals as goal

pub retire-requires-clause-there : goal.retire-requires-clause-there
retire-requires-clause-there g c = λ i need h.
    let e : c.needs_of.result.now ≡ slot_needs g.run.setup.declared (kind_of g.run.setup.actions c.args.action)
    = needs_same c.args.so_far.declared.now g.run.setup.declared c.as_slice-actions.result.now g.run.setup.actions c.args.action c.needs_of.result.now c.needs_of.ensures
    (sym (ap (λ (r : Claiming). r.setup.declared) c.requires.0)) (c.as_slice-actions.ensures ∙ sym (ap (λ (r : Claiming). r.setup.actions) c.requires.0)) in
    let k = needs_there g.run.setup.declared (kind_of g.run.setup.actions c.args.action) i need c.requires.1.1.0 (ap (λ (ns : List Need). slice_get ns i) (sym e) ∙ h) in
    let z = c.requires.1.1.1.1.0.size in
    omega (arith, k, z)

pub retire-requires-clause-asked : goal.retire-requires-clause-asked
retire-requires-clause-asked g c = λ s d m r.
    let e : c.needs_of.result.now ≡ slot_needs g.run.setup.declared (kind_of g.run.setup.actions c.args.action)
    = needs_same c.args.so_far.declared.now g.run.setup.declared c.as_slice-actions.result.now g.run.setup.actions c.args.action c.needs_of.result.now c.needs_of.ensures
    (sym (ap (λ (r : Claiming). r.setup.declared) c.requires.0)) (c.as_slice-actions.ensures ∙ sym (ap (λ (r : Claiming). r.setup.actions) c.requires.0)) in
    let l = there g.run.setup g.run.journal c.args.rows.now c.args.slots.now c.args.action g.run.worker c.requires.1.0 c.requires.1.1.1.0 c.requires.1.1.1.1.0 c.requires.1.1.1.1.1.0 c.requires.1.1.1.1.1.1.0 c.requires.1.1.1.1.1.1.1 in
    let was = was_pending g.run.setup g.run.journal c.args.rows.now c.args.slots.now c.args.action g.run.worker c.requires.1.0 c.requires.1.1.1.0 c.requires.1.1.1.1.0 c.requires.1.1.1.1.1.0 c.requires.1.1.1.1.1.1.0 c.requires.1.1.1.1.1.1.1 in
    let are = asking g.run.setup g.run.journal c.args.rows.now c.args.slots.now c.args.action g.run.worker c.requires.1.0 c.requires.1.1.1.0 c.requires.1.1.1.1.0 c.requires.1.1.1.1.1.0 c.requires.1.1.1.1.1.1.0 c.requires.1.1.1.1.1.1.1 in
    let k = needs_enough g.run.setup (reverse g.run.journal) (is_pending g.run.setup (reverse g.run.journal)) c.args.action c.args.slots.now l was are s d m r in
    let t : counted (asks_of s d) c.needs_of.result.now ≡ counted (asks_of s d) (slot_needs g.run.setup.declared (kind_of g.run.setup.actions c.args.action)) = ap (counted (asks_of s d)) e in
    omega (arith, k, t)

pub returns-clause-said : goal.returns-clause-said
returns-clause-said g c = c.claim.ensures g.run.worker

pub returns-clause-watched : goal.returns-clause-watched
returns-clause-watched g c =
    let e : c.needs_of.result.now ≡ slot_needs g.run.setup.declared (kind_of g.run.setup.actions c.args.action)
    = needs_same c.args.so_far.declared.now g.run.setup.declared c.as_slice-actions.result.now g.run.setup.actions c.args.action c.needs_of.result.now c.needs_of.ensures
    (sym (ap (λ (r : Claiming). r.setup.declared) c.requires.0)) (c.as_slice-actions.ensures ∙ sym (ap (λ (r : Claiming). r.setup.actions) c.requires.0)) in
    claimed g.run.setup g.run.journal c.args.rows.now c.args.slots.now c.args.action g.run.worker c.requires.1.0 c.requires.1.1.1.0 c.requires.1.1.1.1.0 c.requires.1.1.1.1.1.0 c.requires.1.1.1.1.1.1.0 c.requires.1.1.1.1.1.1.1
    c.retire.new.slots (subst (λ (ns : List Need). Retires ns c.args.slots.now c.retire.new.slots) e c.retire.ensures)
