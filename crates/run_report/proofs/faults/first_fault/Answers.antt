-- The entry at the place may be the first that fails.
use Rattle.std.proofs.Common.{◌≡◌, ◌∙◌, List, take, sym, ap, arith}
use Rattle.std.specs.Prelude.{reverse}
use Rattle.std.proofs.lemmas.List.{take_all}
use Rattle.engine_types.specs.declared.Entry.{Entry}
use Rattle.run_model.specs.Ending.{first_fault}
use Rattle.run_requests.specs.Setups.{setup_of}
use Rattle.run_report.proofs.Firsts.{first_here, none_yet}
use Rattle.run_report.proofs.Numbers.{none_from}
use Rattle.run_report.proofs.Sparing.{rows_before}
use Rattle.run_report.proofs.faults.first_fault.Goals as goal

pub fault_of-requires-clause-rows : goal.fault_of-requires-clause-rows
fault_of-requires-clause-rows c =
    let run = c.args.run.now in
    rows_before (setup_of run) c.args.journal.now c.earlier.result.now c.loop-at.at c.args.rows.now c.earlier.ensures (omega arith) c.requires

pub fault_of-requires-clause-none : goal.fault_of-requires-clause-none
fault_of-requires-clause-none c =
    let run = c.args.run.now in
    ap (λ (p : List Entry). first_fault (setup_of run) (reverse p)) c.earlier.ensures ∙ c.loop-at.invariant

pub loop-at-preserved : goal.loop-at-preserved
loop-at-preserved c =
    let run = c.args.run.now in
    none_yet (setup_of run) c.args.journal.now c.earlier.result.now c.loop-at.at c.index-journal-at.result c.earlier.ensures (omega arith) c.index-journal-at.is c.loop-at.invariant
    (sym (none_from c.in_ok-fault.field-0 c.in_default.not-Some) ∙ c.in_ok-fault.ensures)

pub returns-in-Some : goal.returns-in-Some
returns-in-Some c =
    let run = c.args.run.now in
    first_here (setup_of run) c.args.journal.now c.earlier.result.now c.loop-at.at c.index-journal-at.result c.earlier.ensures (omega arith) c.index-journal-at.is c.loop-at.invariant c.in-Some.fault
    (sym c.in-Some.is ∙ c.in_ok-fault.ensures)

pub returns : goal.returns
returns c =
    let run = c.args.run.now in
    let all : take c.loop-at.at c.args.journal.now ≡ c.args.journal.now = take_all _ _ (omega arith) in
    sym (ap (λ (p : List Entry). first_fault (setup_of run) (reverse p)) (sym all) ∙ c.loop-at.invariant)
