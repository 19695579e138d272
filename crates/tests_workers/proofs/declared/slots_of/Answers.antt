use Rattle.tests_workers.proofs.Alone.{first_two}
use Rattle.tests_workers.proofs.declared.slots_of.Goals as goal

pub returns : goal.returns
returns c = first_two c.args.service.now _ _ _ _ _ c.new-slots.ensures c.in_ok-push.ensures.ok c.in_ok-push-2.ensures.ok c.in_ok-one.ensures c.in_ok-two.ensures
