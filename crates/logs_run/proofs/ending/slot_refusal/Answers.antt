use Rattle.std.proofs.Common.{ℕ, Option, Some, None, subst, sym}
use Rattle.logs_run.specs.Refusing.{IsFirstTerminal, SlotRefusedBy}
use Rattle.logs_run.specs.declared.fetching.Fault.{Fault}
use Rattle.logs_run.proofs.Refusals.{fault_alone, fault_first, no_refusal, terminal_alone, terminal_first}
use Rattle.logs_run.proofs.ending.slot_refusal.Goals as goal

pub returns-in-None-None : goal.returns-in-None-None
returns-in-None-None c =
    let declared = c.args.declared.now in let rows = c.args.rows.now in
    subst (λ (f : Option Fault). SlotRefusedBy declared rows f None) (sym c.in-None-None.is-1)
    (no_refusal declared rows (subst (λ (t : Option ℕ). IsFirstTerminal declared rows t) c.in-None-None.is-0 c.in_ok-terminal.ensures))

pub returns-in_ok-fault_refusal-in-None-Some : goal.returns-in_ok-fault_refusal-in-None-Some
returns-in_ok-fault_refusal-in-None-Some c =
    let declared = c.args.declared.now in let rows = c.args.rows.now in let said = c.in_ok-fault_refusal-in-None-Some.field-0 in
    subst (λ (f : Option Fault). SlotRefusedBy declared rows f (Some said)) (sym c.in-None-Some.is-1)
    (fault_alone declared rows c.in-None-Some.fault said (subst (λ (t : Option ℕ). IsFirstTerminal declared rows t) c.in-None-Some.is-0 c.in_ok-terminal.ensures) c.in_ok-fault_refusal-in-None-Some.ensures)

pub returns-in_ok-terminal_refusal-in-Some-None : goal.returns-in_ok-terminal_refusal-in-Some-None
returns-in_ok-terminal_refusal-in-Some-None c =
    let declared = c.args.declared.now in let rows = c.args.rows.now in let said = c.in_ok-terminal_refusal-in-Some-None.field-0 in
    subst (λ (f : Option Fault). SlotRefusedBy declared rows f (Some said)) (sym c.in-Some-None.is-1)
    (terminal_alone declared rows c.in-Some-None.slot said (subst (λ (t : Option ℕ). IsFirstTerminal declared rows t) c.in-Some-None.is-0 c.in_ok-terminal.ensures) c.in_ok-terminal_refusal-in-Some-None.ensures)

pub returns-in_ok-fault_refusal-in-Some-Some : goal.returns-in_ok-fault_refusal-in-Some-Some
returns-in_ok-fault_refusal-in-Some-Some c =
    let declared = c.args.declared.now in let rows = c.args.rows.now in let said = c.in_ok-fault_refusal-in-Some-Some.field-0 in
    subst (λ (f : Option Fault). SlotRefusedBy declared rows f (Some said)) (sym c.in-Some-Some.is-1)
    (fault_first declared rows c.in-Some-Some.slot c.in-Some-Some.fault said (subst (λ (t : Option ℕ). IsFirstTerminal declared rows t) c.in-Some-Some.is-0 c.in_ok-terminal.ensures)
    c.if-fault-slot.true c.in_ok-fault_refusal-in-Some-Some.ensures)

pub returns-in_ok-terminal_refusal-in-Some-Some : goal.returns-in_ok-terminal_refusal-in-Some-Some
returns-in_ok-terminal_refusal-in-Some-Some c =
    let declared = c.args.declared.now in let rows = c.args.rows.now in let said = c.in_ok-terminal_refusal-in-Some-Some.field-0 in
    subst (λ (f : Option Fault). SlotRefusedBy declared rows f (Some said)) (sym c.in-Some-Some.is-1)
    (terminal_first declared rows c.in-Some-Some.slot c.in-Some-Some.fault said (subst (λ (t : Option ℕ). IsFirstTerminal declared rows t) c.in-Some-Some.is-0 c.in_ok-terminal.ensures)
    c.if-fault-slot.false c.in_ok-terminal_refusal-in-Some-Some.ensures)
