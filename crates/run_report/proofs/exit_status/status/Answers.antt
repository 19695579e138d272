-- From the oldest entry on, the first that gives a status.
use Rattle.std.proofs.Common.{◌≡◌, ◌∙◌, List, Option, take, sym, ap, arith}
use Rattle.std.specs.Option.{option_map_or}
use Rattle.std.specs.Prelude.{reverse}
use Rattle.std.proofs.lemmas.List.{take_all}
use Rattle.engine_types.specs.declared.Entry.{Entry}
use Rattle.engine_types.specs.declared.RunFault.{RunFault}
use Rattle.run_model.specs.Ending.{fault_of, fault_status, first_fault}
use Rattle.run_requests.specs.Setups.{setup_of}
use Rattle.run_report.proofs.Firsts.{first_here, none_yet}
use Rattle.run_report.proofs.StatusLaws.{first_is, none_is}
use Rattle.run_report.proofs.exit_status.status.Goals as goal

pub entry_status-status-requires : goal.entry_status-status-requires
entry_status-status-requires c =
    let run = c.args.run.now in
    ap (λ (p : List Entry). first_fault (setup_of run) (reverse p)) c.earlier.ensures ∙ c.loop-at.invariant

pub loop-at-preserved : goal.loop-at-preserved
loop-at-preserved c =
    let run = c.args.run.now in
    none_yet (setup_of run) c.args.journal.now c.earlier.result.now c.loop-at.at c.index-journal-at.result c.earlier.ensures (omega arith) c.index-journal-at.is c.loop-at.invariant
    (none_is (fault_of (setup_of run) (reverse c.earlier.result.now) c.index-journal-at.result) c.entry_status-status.result c.entry_status-status.ensures
    (let z = c.if-status-gt0.false in omega (arith, z)))

pub returns-then-status-gt0 : goal.returns-then-status-gt0
returns-then-status-gt0 c =
    let run = c.args.run.now in
    first_is (fault_of (setup_of run) (reverse c.earlier.result.now) c.index-journal-at.result) (first_fault (setup_of run) (reverse c.args.journal.now))
    c.entry_status-status.result c.entry_status-status.ensures (let z = c.if-status-gt0.true in omega (arith, z))
    (first_here (setup_of run) c.args.journal.now c.earlier.result.now c.loop-at.at c.index-journal-at.result c.earlier.ensures (omega arith) c.index-journal-at.is c.loop-at.invariant)

pub returns : goal.returns
returns c =
    let run = c.args.run.now in
    let all : take c.loop-at.at c.args.journal.now ≡ c.args.journal.now = take_all _ _ (omega arith) in
    ap (λ (o : Option RunFault). option_map_or fault_status o 0)
    (sym (ap (λ (p : List Entry). first_fault (setup_of run) (reverse p)) (sym all) ∙ c.loop-at.invariant))
