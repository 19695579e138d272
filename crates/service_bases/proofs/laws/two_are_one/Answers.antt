use Rattle.std.proofs.Common.{◌∷◌, []}
use Rattle.service_bases.specs.Chains.{layer_over, layers_over}
use Rattle.service_bases.proofs.InParts.{from_given}
use Rattle.service_bases.proofs.laws.two_are_one.Goals as goal

pub returns : goal.returns
returns c = λ last middle top base h. from_given (layer_over last.service middle) (λ all. layers_over all (top ∷ [])) base h
