use Rattle.std.proofs.Common.{◌≡◌, ℕ, zero, suc, ◌<◌, List, refl, inl, inr, reverse, arith}
use Rattle.std.specs.Fmt.{digits}
use Rattle.engine_types.specs.declared.Entry.{Entry}
use Rattle.run_model.specs.Journals.{Nothing, Setup, holding}
use Rattle.run_model.specs.Legal.{IsLegal}
use Rattle.run_model.specs.Ending.{IsFinal}
use Rattle.run_laws.specs.OneService.{to_up, upping}
use Rattle.run_laws.specs.ThreeServices.{falls_ill, shop}
use Rattle.run_model.specs.Runs.{run_setup}
use Rattle.run_laws.proofs.Ready.{ready}
use Rattle.run_laws.proofs.worked.failed_condition_is_refused.Goals as goal

abbrev past : List Entry
past = reverse falls_ill

abbrev setup : Setup
setup = run_setup (upping shop) falls_ill

legal : IsLegal to_up setup past
legal = ((((((((((((((((((tt, (refl, inl refl, refl)), (ready setup _ (omega arith) refl refl refl, refl)), refl), (ready setup _ (omega arith) refl refl refl, refl)), refl), (ready setup _ (omega arith) refl refl refl, refl)), refl), (ready setup _ (omega arith) refl refl refl, refl)), refl), (ready setup _ (omega arith) refl refl refl, refl)), refl), (ready setup _ (omega arith) refl refl refl, refl)), refl), (ready setup _ (omega arith) refl refl refl, refl)), refl), (ready setup _ (omega arith) refl refl refl, refl)), refl), (ready setup _ (omega arith) refl refl refl, refl))

none_out : (w : ℕ) → w < 1 → holding past w ≡ Nothing
none_out zero h = refl
none_out (suc w) h = absurd (omega arith)

over : IsFinal setup past
over = inr (record { none_out = none_out; left = refl; over = inr (refl, refl) })

pub returns : goal.returns
unfolding digits
returns c = record { entries = refl; run = record { legal = legal; over = over }; status = refl; fault = refl }
