use Rattle.std.proofs.Common.{◌≡◌, take}
use Rattle.active_services.specs.Profiles.{is_enabled, needs_kept}
use Rattle.active_services.proofs.kept.needs_kept.Given as goal

-- those of the dependencies that were gone through
abbrev pub invariant-loop-at : goal.invariant-loop-at
invariant-loop-at l = l.kept ≡ needs_kept (is_enabled l.profiles) l.services (take l.at l.needs)
