use Rattle.file_paths.proofs.Taken.{homed_stays, joined_stays}
use Rattle.file_paths.proofs.laws.taken_paths_stay.Goals as goal

pub returns : goal.returns
returns c = record { joined = joined_stays; homed = homed_stays }
