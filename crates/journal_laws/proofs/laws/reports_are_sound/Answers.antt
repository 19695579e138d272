use Rattle.journal_laws.proofs.Reports.{failed_counts, met_counts, never_fails_started}
use Rattle.journal_laws.proofs.laws.reports_are_sound.Goals as goal

pub returns : goal.returns
returns c = record { started = never_fails_started; failed = failed_counts; met = met_counts }
