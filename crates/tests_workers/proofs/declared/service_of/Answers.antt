use Rattle.std.proofs.Common.{refl}
use Rattle.tests_workers.proofs.Alone.{lone}
use Rattle.tests_workers.proofs.declared.service_of.Goals as goal

pub returns : goal.returns
returns c = lone c.args.service.now _ _ _ c.new-services.ensures c.in_ok-push.ensures.ok (c.in_ok-key.ensures, c.new-depends_on.ensures, refl)
