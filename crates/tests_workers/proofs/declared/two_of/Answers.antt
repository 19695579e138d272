-- Its slots and its service stand alone.
use Rattle.tests_workers.proofs.Alone.{stands}
use Rattle.tests_workers.proofs.declared.two_of.Goals as goal

pub returns-clause-whole : goal.returns-clause-whole
returns-clause-whole c = (stands c.in_ok-project.project c.args.service.now c.in_ok-slots.slots c.in_ok-services.services c.new-networks.result c.new-volumes.result c.in_ok-slots.ensures c.in_ok-services.ensures c.new-networks.ensures c.new-volumes.ensures).whole

pub returns-clause-small : goal.returns-clause-small
returns-clause-small c = (stands c.in_ok-project.project c.args.service.now c.in_ok-slots.slots c.in_ok-services.services c.new-networks.result c.new-volumes.result c.in_ok-slots.ensures c.in_ok-services.ensures c.new-networks.ensures c.new-volumes.ensures).small

pub returns-clause-acyclic : goal.returns-clause-acyclic
returns-clause-acyclic c = (stands c.in_ok-project.project c.args.service.now c.in_ok-slots.slots c.in_ok-services.services c.new-networks.result c.new-volumes.result c.in_ok-slots.ensures c.in_ok-services.ensures c.new-networks.ensures c.new-volumes.ensures).acyclic

pub returns-clause-needs : goal.returns-clause-needs
returns-clause-needs c = (stands c.in_ok-project.project c.args.service.now c.in_ok-slots.slots c.in_ok-services.services c.new-networks.result c.new-volumes.result c.in_ok-slots.ensures c.in_ok-services.ensures c.new-networks.ensures c.new-volumes.ensures).needs
