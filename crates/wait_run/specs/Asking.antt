-- Which exchanges a wait makes, and one of them.
use Rattle.std.specs.Prelude.{◌≡◌, ℕ, ◌<◌, false, List, [], ◌∷◌, Result, Ok, Err, length, map, take}
use Rattle.engine_types.specs.declared.Declared.{Declared}
use Rattle.engine_types.specs.declared.Exchange.{Exchange}
use Rattle.engine_types.specs.declared.Request.{Request}
use Rattle.outside_api.specs.Standings.{Makes, Standing}
use Rattle.tree_base.specs.declared.Memory.{Memory}
use Rattle.wait_run.specs.Looks.{requests}
use Rattle.wait_run.specs.Reports.{has_ended}

-- these exchanges were made by a wait that was given so much of the stream's body: their requests are first in the whole list, and
-- none was made behind an end
pub record IsWait (declared : Declared) (body : List ℕ) (made : List Exchange) : Type 0 where
  pub asked : map (λ exchange. exchange.request) made
      ≡ take (length made) (requests declared body made)
  pub goes_on : (k : ℕ) → k < length made → has_ended declared body (take k made) ≡ false

-- a request was sent, or there was no memory for it and nothing was done
abbrev pub Asked : Request → Result Exchange Memory → Standing → Standing → Type 0
Asked request (Ok exchange) old new = (exchange.request ≡ request) × Makes (exchange ∷ []) old new
Asked request (Err memory) old new = new ≡ old
