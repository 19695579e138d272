use Rattle.container_specs.proofs.Alike.{described_alike}
use Rattle.container_specs.proofs.laws.services_are_described_alike.Goals as goal

pub returns : goal.returns
returns c = described_alike
