use Rattle.std.proofs.Common.{not, sym}
use Rattle.typed_project.specs.declared.network.Network.{Network}
use Rattle.tree_base.specs.ByteOrder.{is_before}
use Rattle.project_meaning.proofs.Inserting.{found_at, none_found}
use Rattle.project_meaning.proofs.places.place_of_key.Goals as goal

pub returns-in-Some-clause-value : goal.returns-in-Some-clause-value
returns-in-Some-clause-value c =
    found_at (λ (other : Network). not (is_before other.key c.args.key.now)) c.args.networks.now c.in-Some.at (sym c.in-Some.ensures)

pub returns-in-None-clause-value : goal.returns-in-None-clause-value
returns-in-None-clause-value c =
    none_found (λ (other : Network). not (is_before other.key c.args.key.now)) c.args.networks.now (sym c.in-None.ensures)
