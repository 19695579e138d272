use Rattle.std.proofs.Common.{refl}
use Rattle.std.specs.Fmt.{digits}
use Rattle.run_laws.proofs.LostCreate.{first_legal, first_over, legal, over}
use Rattle.run_laws.proofs.worked.lost_create_is_found.Goals as goal

pub returns : goal.returns
unfolding digits
returns c = record {
  first_run = record { legal = first_legal; over = first_over };
  first_status = refl;
  first_fault = refl;
  run = record { legal = legal; over = over };
  status = refl;
  report = refl;
}
