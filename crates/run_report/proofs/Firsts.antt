-- The first fault of a journal, entry by entry.
use Rattle.std.proofs.Common.{◌≡◌, ℕ, ◌+◌, ◌<◌, List, [], ◌∷◌, ◌++◌, Option, Some, None, length, get_or, take, drop, sym, ap, ◌∙◌}
use Rattle.std.proofs.lemmas.List.{reverse-append, take-append-drop}
use Rattle.std.specs.Prelude.{reverse}
use Rattle.std.specs.Option.{option_or}
use Rattle.engine_types.specs.declared.Entry.{Entry}
use Rattle.engine_types.specs.declared.RunFault.{RunFault}
use Rattle.run_model.specs.Ending.{fault_of, first_fault}
use Rattle.run_model.specs.Journals.{Setup}
use Rattle.run_report.proofs.Newest.{newest}

-- the first fault stays the first
stays : (setup : Setup) (later past : List Entry) (fault : RunFault) → first_fault setup past ≡ Some fault → first_fault setup (later ++ past) ≡ Some fault
stays setup [] past fault e = e
stays setup (entry ∷ later) past fault e = ap (λ (o : Option RunFault). option_or o (fault_of setup (later ++ past) entry)) (stays setup later past fault e)

module _ (setup : Setup) (journal past : List Entry) (i : ℕ) (entry : Entry) (same : past ≡ take i journal) (within : i < length journal) (is : entry ≡ get_or journal i entry)
    (none : first_fault setup (reverse (take i journal)) ≡ None) where
  here : first_fault setup (reverse (take (i + 1) journal)) ≡ fault_of setup (reverse past) entry
  here =
      ap (first_fault setup) (newest journal i entry within is)
      ∙ ap (λ (o : Option RunFault). option_or o (fault_of setup (reverse (take i journal)) entry)) none
      ∙ ap (λ (p : List Entry). fault_of setup (reverse p) entry) (sym same)

  -- no entry failed so far
  pub none_yet : None ≡ fault_of setup (reverse past) entry → first_fault setup (reverse (take (i + 1) journal)) ≡ None
  none_yet e = here ∙ sym e

  -- this entry is the first that fails
  pub first_here : (fault : RunFault) → Some fault ≡ fault_of setup (reverse past) entry → Some fault ≡ first_fault setup (reverse journal)
  first_here fault e =
      sym (ap (λ (p : List Entry). first_fault setup (reverse p)) (sym (take-append-drop (i + 1) journal))
      ∙ ap (first_fault setup) (reverse-append (take (i + 1) journal) (drop (i + 1) journal))
      ∙ stays setup (reverse (drop (i + 1) journal)) (reverse (take (i + 1) journal)) fault (here ∙ sym e))
