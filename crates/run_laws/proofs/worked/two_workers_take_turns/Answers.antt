use Rattle.std.proofs.Common.{◌≡◌, ℕ, zero, suc, ◌<◌, List, true, refl, inl, inr, reverse, arith}
use Rattle.engine_types.specs.declared.Entry.{Entry}
use Rattle.run_model.specs.Journals.{Nothing, Setup, has_left, holding}
use Rattle.run_model.specs.Legal.{IsLegal}
use Rattle.run_model.specs.Ending.{IsFinal}
use Rattle.run_laws.specs.OneService.{shop, to_up, upping_by_two}
use Rattle.run_model.specs.Runs.{run_setup}
use Rattle.run_laws.specs.TwoWorkers.{take_turns}
use Rattle.run_laws.proofs.Ready.{ready_for}
use Rattle.run_laws.proofs.worked.two_workers_take_turns.Goals as goal

abbrev past : List Entry
past = reverse take_turns

abbrev setup : Setup
setup = run_setup (upping_by_two shop) take_turns

legal : IsLegal to_up setup past
legal =
    (((((((((tt, (refl, inl refl, refl)), (ready_for setup _ 0 (omega arith) refl refl refl, refl)), (ready_for setup _ 1 (omega arith) refl refl refl, refl)), refl), (ready_for setup _ 1 (omega arith) refl refl refl, refl)), (ready_for setup _ 0 (omega arith) refl refl refl, refl)), refl), (ready_for setup _ 0 (omega arith) refl refl refl, refl)), (ready_for setup _ 1 (omega arith) refl refl refl, refl))

none_out : (w : ℕ) → w < 2 → holding past w ≡ Nothing
none_out zero h = refl
none_out (suc zero) h = refl
none_out (suc (suc w)) h = absurd (omega (arith, h))

all_left : (w : ℕ) → w < 2 → has_left past w ≡ true
all_left zero h = refl
all_left (suc zero) h = refl
all_left (suc (suc w)) h = absurd (omega (arith, h))

over : IsFinal setup past
over = inr (record { none_out = none_out; left = refl; over = inr (refl, refl) })

pub returns : goal.returns
returns c = record { run = record { legal = legal; over = over }; left = λ good. all_left; status = refl; report = refl; first = refl; second = refl }
