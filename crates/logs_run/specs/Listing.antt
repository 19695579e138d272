-- What hand 0 leaves that lists the containers.
use Rattle.std.specs.Prelude.{◌≡◌, List, ◌∷◌, Result}
use Rattle.engine_types.specs.declared.Declared.{Declared}
use Rattle.engine_types.specs.declared.Listed.{Listed}
use Rattle.outside_api.specs.Accounts.{Account}
use Rattle.engine_types.specs.declared.LogsRefusal.{LogsRefusal}
use Rattle.logs_run.specs.Logged.{Lists}

-- the first of these hands listed the containers; its clock is untouched, and the other hands are as they were
pub record ListsWith {H C : Type 0} (tell : H → Account) (clock : H → C) (declared : Declared)
    (result : Result (List Listed) LogsRefusal) (before after : List H) : Type 0 where
  pub first : H
  pub asked : H
  pub others : List H
  pub were : before ≡ first ∷ others
  pub are : after ≡ asked ∷ others
  pub lists : Lists declared result (tell first) (tell asked)
  pub time : clock asked ≡ clock first
