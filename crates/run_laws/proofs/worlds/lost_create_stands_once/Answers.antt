use Rattle.run_laws.proofs.Moments.{pending, stands, waits}
use Rattle.run_laws.proofs.TwoNetworks.{own, whole}
use Rattle.run_laws.proofs.TwoWorlds.{runs}
use Rattle.run_laws.proofs.worlds.lost_create_stands_once.Goals as goal

pub returns : goal.returns
returns c = record { whole = whole; own = own; runs = runs; pending = pending; waits = waits; stands = stands }
