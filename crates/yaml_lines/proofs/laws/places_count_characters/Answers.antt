use Rattle.yaml_lines.proofs.PlaceLemmas.{places}
use Rattle.yaml_lines.proofs.laws.places_count_characters.Goals as goal

pub returns : goal.returns
returns c = places
