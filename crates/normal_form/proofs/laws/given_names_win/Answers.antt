use Rattle.normal_form.proofs.NamesGiven.{given_wins}
use Rattle.normal_form.proofs.laws.given_names_win.Goals as goal

pub returns : goal.returns
returns c = given_wins
