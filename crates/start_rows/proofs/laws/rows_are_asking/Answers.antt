use Rattle.start_rows.proofs.Askers.{asking, preferring, requiring}
use Rattle.start_rows.proofs.laws.rows_are_asking.Goals as goal

pub returns : goal.returns
returns c = record { asking = asking; requiring = requiring; preferring = preferring }
