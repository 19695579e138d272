use Rattle.std.proofs.Common.{◌≡◌, ℕ, List, Option, None, Some, get_or, slice_get, sym, ap, ◌∙◌, subst}
use Rattle.engine_types.specs.declared.Entry.{Entry}
use Rattle.engine_types.specs.declared.Listed.{Listed}
use Rattle.engine_types.specs.declared.Seen.{Seen}
use Rattle.run_model.specs.Journals.{Setup}
use Rattle.run_model.specs.Plans.{AreKeptPlaces}
use Rattle.run_model.specs.Requests.{stop_seconds}
use Rattle.journal_laws.specs.Courses.{first_seen}
use Rattle.ledger_rows.specs.Entries.{RowsSay}
use Rattle.ledger_core.specs.Seeing.{seen_at}
use Rattle.ledger_core.proofs.Seeing.{begins_well}
use Rattle.ledger_core.proofs.ledger.Ledger.sources.Goals as goal

pub unreachable-requires : goal.unreachable-requires
unreachable-requires c =
    let bad : None ≡ Some (first_seen c.self.inside.journal.items) = c.in_default.ensures ∙ ap (λ (js : List Entry). seen_at (slice_get js 0)) c.as_slice-journal.ensures
    ∙ begins_well c.self.invariant.0.aim (record { declared = c.self.inside.declared; seen = first_seen c.self.inside.journal.items; actions = c.self.inside.plan.actions; limits = c.self.inside.limits }) c.self.inside.journal.items c.self.invariant.0.legal c.self.invariant.0.begun in
    cc bad

pub returns-clause-sources : goal.returns-clause-sources
returns-clause-sources c =
    let same : Some c.in-Some.seen.now ≡ Some (first_seen c.self.inside.journal.items) = c.in-Some.ensures ∙ ap (λ (js : List Entry). seen_at (slice_get js 0)) c.as_slice-journal.ensures
    ∙ begins_well c.self.invariant.0.aim (record { declared = c.self.inside.declared; seen = first_seen c.self.inside.journal.items; actions = c.self.inside.plan.actions; limits = c.self.inside.limits }) c.self.inside.journal.items c.self.invariant.0.legal c.self.invariant.0.begun in
    let seen : c.in-Some.seen.now ≡ first_seen c.self.inside.journal.items = cc same in
    record {
      said = subst (λ (js : List Entry). RowsSay (record { declared = c.self.inside.declared; seen = c.in-Some.seen.now; actions = c.self.inside.plan.actions; limits = c.self.inside.limits }) js c.self.inside.rows) (sym c.as_slice-journal.ensures)
          (subst (λ (s : Seen). RowsSay (record { declared = c.self.inside.declared; seen = s; actions = c.self.inside.plan.actions; limits = c.self.inside.limits }) c.self.inside.journal.items c.self.inside.rows) (sym seen) c.self.invariant.0.actions);
      kept = subst (λ (s : Seen). AreKeptPlaces c.self.inside.declared s c.self.inside.plan.kept) (sym seen) c.self.invariant.1.kept;
      creates = λ s. ap (λ (places : List (Option ℕ)). get_or places s None) c.as_slice.ensures ∙ c.self.invariant.1.creates s;
      makes = λ n. ap (λ (places : List (Option ℕ)). get_or places n None) c.as_slice-2.ensures ∙ c.self.invariant.1.makes n;
      seconds = subst (λ (ns : List ℕ). (k : ℕ) (row : Listed) → slice_get c.in-Some.seen.now.containers k ≡ Some row → slice_get ns k ≡ Some (stop_seconds (record { declared = c.self.inside.declared; seen = c.in-Some.seen.now; actions = c.self.inside.plan.actions; limits = c.self.inside.limits }) row)) (sym c.as_slice-3.ensures)
          (subst (λ (s : Seen). (k : ℕ) (row : Listed) → slice_get s.containers k ≡ Some row → slice_get c.self.inside.places.seconds k ≡ Some (stop_seconds (record { declared = c.self.inside.declared; seen = s; actions = c.self.inside.plan.actions; limits = c.self.inside.limits }) row)) (sym seen) c.self.invariant.1.seconds);
    }

pub returns-clause-setup : goal.returns-clause-setup
returns-clause-setup c =
    let same : Some c.in-Some.seen.now ≡ Some (first_seen c.self.inside.journal.items) = c.in-Some.ensures ∙ ap (λ (js : List Entry). seen_at (slice_get js 0)) c.as_slice-journal.ensures
    ∙ begins_well c.self.invariant.0.aim (record { declared = c.self.inside.declared; seen = first_seen c.self.inside.journal.items; actions = c.self.inside.plan.actions; limits = c.self.inside.limits }) c.self.inside.journal.items c.self.invariant.0.legal c.self.invariant.0.begun in
    let seen : c.in-Some.seen.now ≡ first_seen c.self.inside.journal.items = cc same in
    let made : Seen → Setup = λ s. record { declared = c.self.inside.declared; seen = s; actions = c.self.inside.plan.actions; limits = c.self.inside.limits } in
    rw (← c.self.view_is) (ap made seen)
