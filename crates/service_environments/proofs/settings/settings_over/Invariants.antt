use Rattle.std.proofs.Common.{◌≡◌, drop}
use Rattle.service_environments.specs.Environments.{settings_over}
use Rattle.service_environments.proofs.settings.settings_over.Given as goal

abbrev pub invariant-loop-at : goal.invariant-loop-at
invariant-loop-at l = settings_over l.env (drop l.at l.entries) l.all ≡ settings_over l.env l.entries l.initial.all
