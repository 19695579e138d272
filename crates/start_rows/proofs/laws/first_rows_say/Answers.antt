use Rattle.start_rows.proofs.Reading.{actions_say, slots_say}
use Rattle.start_rows.proofs.laws.first_rows_say.Goals as goal

pub returns : goal.returns
returns c = record {
  actions = actions_say;
  slots = λ setup observed starts healthy completed rows orderly are h k size each. slots_say setup observed orderly starts healthy completed rows are h k size each;
}
