use Rattle.std.proofs.Common.{◌≡◌, ℕ, zero, suc, ◌<◌, List, refl, inl, inr, reverse, arith}
use Rattle.std.specs.Char.{encode_utf8}
use Rattle.std.specs.Fmt.{digits}
use Rattle.std.specs.Str.{chars}
use Rattle.engine_types.specs.declared.Entry.{Entry}
use Rattle.run_model.specs.Journals.{Nothing, Setup, holding}
use Rattle.run_model.specs.Legal.{IsLegal}
use Rattle.run_model.specs.Ending.{IsFinal}
use Rattle.run_laws.specs.OneService.{to_up, upping}
use Rattle.run_laws.specs.Updates.{restarting, restarts}
use Rattle.run_model.specs.Runs.{run_setup}
use Rattle.run_laws.proofs.Ready.{ready}
use Rattle.run_laws.proofs.worked.needed_service_is_updated.Goals as goal

abbrev past : List Entry
past = reverse restarts

abbrev setup : Setup
setup = run_setup (upping restarting) restarts

legal : IsLegal to_up setup past
unfolding digits
legal = ((((((((((((((tt, (refl, inl refl, refl)), (ready setup _ (omega arith) refl refl refl, refl)), refl), (ready setup _ (omega arith) refl refl refl, refl)), refl), (ready setup _ (omega arith) refl refl refl, refl)), refl), (ready setup _ (omega arith) refl refl refl, refl)), refl), (ready setup _ (omega arith) refl refl refl, refl)), refl), (ready setup _ (omega arith) refl refl refl, refl)), refl), (ready setup _ (omega arith) refl refl refl, refl))

none_out : (w : ℕ) → w < 1 → holding past w ≡ Nothing
none_out zero h = refl
none_out (suc w) h = absurd (omega arith)

over : IsFinal setup past
unfolding digits
over = inr (record { none_out = none_out; left = refl; over = inr (refl, refl) })

pub returns : goal.returns
unfolding digits chars encode_utf8
returns c = record { plan = refl; run = record { legal = legal; over = over }; status = refl; report = refl }
