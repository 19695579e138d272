-- One entry more of a report.
use Rattle.std.proofs.Common.{◌≡◌, ℕ, ◌+◌, ◌<◌, List, ◌∷◌, ◌++◌, length, get_or, take, refl, sym, ap, ◌∙◌}
use Rattle.std.specs.Prelude.{OnOk, Result, reverse}
use Rattle.std.proofs.lemmas.List.{append-nil}
use Rattle.std.proofs.lemmas.Result.{on_ok_weaker}
use Rattle.engine_types.specs.declared.Entry.{Entry}
use Rattle.run_model.specs.Journals.{Setup}
use Rattle.run_model.specs.Lines.{report_text}
use Rattle.run_report.specs.Reports.{entry_line}
use Rattle.run_report.proofs.Newest.{newest}

pub report_more : (setup : Setup) (past : List Entry) (entry : Entry) → report_text setup (entry ∷ past) ≡ report_text setup past ++ entry_line setup past entry
report_more setup past (Entry.Ended w outcome) = refl
report_more setup past (Entry.Claim v a) = sym (append-nil (report_text setup past))
report_more setup past (Entry.Poll v s) = sym (append-nil (report_text setup past))
report_more setup past (Entry.Seen observed) = sym (append-nil (report_text setup past))
report_more setup past (Entry.Idle v) = sym (append-nil (report_text setup past))
report_more setup past (Entry.Leave v) = sym (append-nil (report_text setup past))
report_more setup past (Entry.Stop v) = sym (append-nil (report_text setup past))
report_more setup past (Entry.Late v why) = sym (append-nil (report_text setup past))
report_more setup past (Entry.Short v) = sym (append-nil (report_text setup past))

-- a report of the first entries of a journal becomes one of the next entry too
pub report_step : {T E : Type 0} (setup : Setup) (journal past : List Entry) (i : ℕ) (entry : Entry) (old new : List ℕ) (r : Result T E)
    → past ≡ take i journal → i < length journal → entry ≡ get_or journal i entry
    → OnOk r (new ≡ old ++ entry_line setup (reverse past) entry)
    → OnOk r (old ≡ report_text setup (reverse (take i journal)) → new ≡ report_text setup (reverse (take (i + 1) journal)))
report_step setup journal past i entry old new r same within is h =
    on_ok_weaker r
    (λ (grown : new ≡ old ++ entry_line setup (reverse past) entry) (so_far : old ≡ report_text setup (reverse (take i journal))).
    grown ∙ ap (λ (t : List ℕ). t ++ entry_line setup (reverse past) entry) so_far
    ∙ ap (λ (p : List Entry). report_text setup (reverse (take i journal)) ++ entry_line setup (reverse p) entry) same
    ∙ sym (report_more setup (reverse (take i journal)) entry)
    ∙ ap (report_text setup) (sym (newest journal i entry within is)))
    h
