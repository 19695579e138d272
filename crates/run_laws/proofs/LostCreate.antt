-- A run whose create is lost and the next run are legal and final.
use Rattle.std.proofs.Common.{◌≡◌, ℕ, zero, suc, ◌<◌, List, refl, inl, inr, reverse, arith}
use Rattle.std.specs.Fmt.{digits}
use Rattle.engine_types.specs.declared.Entry.{Entry}
use Rattle.run_model.specs.Journals.{Nothing, Setup, holding}
use Rattle.run_model.specs.Legal.{IsLegal}
use Rattle.run_model.specs.Ending.{IsFinal}
use Rattle.run_laws.specs.OneService.{to_up, upping}
use Rattle.run_laws.specs.TwoNetworks.{connects, loses_create, shop}
use Rattle.run_model.specs.Runs.{run_setup}
use Rattle.run_laws.proofs.Ready.{ready}

abbrev pub lost : List Entry
lost = reverse loses_create

abbrev pub first : Setup
first = run_setup (upping shop) loses_create

pub first_legal : IsLegal to_up first lost
first_legal = ((((((((tt, (refl, inl refl, refl)), (ready first _ (omega arith) refl refl refl, refl)), refl), (ready first _ (omega arith) refl refl refl, refl)), refl), (ready first _ (omega arith) refl refl refl, refl)), refl), (ready first _ (omega arith) refl refl refl, refl))

first_none_out : (w : ℕ) → w < 1 → holding lost w ≡ Nothing
first_none_out zero h = refl
first_none_out (suc w) h = absurd (omega arith)

pub first_over : IsFinal first lost
first_over = inr (record { none_out = first_none_out; left = refl; over = inr (refl, refl) })

abbrev pub past : List Entry
past = reverse connects

abbrev pub second : Setup
second = run_setup (upping shop) connects

pub legal : IsLegal to_up second past
unfolding digits
legal = ((((((tt, (refl, inl refl, refl)), (ready second _ (omega arith) refl refl refl, refl)), refl), (ready second _ (omega arith) refl refl refl, refl)), refl), (ready second _ (omega arith) refl refl refl, refl))

none_out : (w : ℕ) → w < 1 → holding past w ≡ Nothing
none_out zero h = refl
none_out (suc w) h = absurd (omega arith)

pub over : IsFinal second past
unfolding digits
over = inr (record { none_out = none_out; left = refl; over = inr (refl, refl) })
