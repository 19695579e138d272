use Rattle.std.proofs.Common.{List, refl, inl, reverse}
use Rattle.std.specs.Char.{encode_utf8}
use Rattle.std.specs.Fmt.{digits}
use Rattle.std.specs.Str.{chars}
use Rattle.engine_types.specs.declared.Entry.{Entry}
use Rattle.run_model.specs.Journals.{Setup}
use Rattle.run_model.specs.Legal.{IsLegal}
use Rattle.run_laws.specs.OneService.{no_image, shop, to_up, upping}
use Rattle.run_model.specs.Runs.{run_setup}
use Rattle.run_laws.proofs.worked.missing_image_is_refused.Goals as goal

abbrev past : List Entry
past = reverse no_image

abbrev setup : Setup
setup = run_setup (upping shop) no_image

legal : IsLegal to_up setup past
legal = (tt, (refl, inl refl, tt))

pub returns : goal.returns
unfolding digits chars encode_utf8
returns c = record { run = record { legal = legal; over = inl refl }; status = refl; fault = refl }
