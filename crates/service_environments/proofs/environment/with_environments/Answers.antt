use Rattle.service_environments.proofs.environment.with_environments.Goals as goal

pub returns-clause-given : goal.returns-clause-given
returns-clause-given g c = rw (c.as_slice.ensures, c.in_ok-names.ensures) at c.all_with_environments.ensures.given
