use Rattle.std.proofs.Common.{◌≡◌, ℕ, ◌<◌, length, replicate, get_or}
use Rattle.rank_rows.specs.Ranks.{key_at}
use Rattle.ledger_rows.specs.ActionRows.{key_of}
use Rattle.ledger_rows.specs.declared.action_rows.State.{State}
use Rattle.ledger_rows.proofs.action_rows.ActionRows.new.Given as goal

-- the actions so far are free, and each has its key
pub record Opened (states : Rattle.std.specs.Prelude.List State) (lacks : Rattle.std.specs.Prelude.List ℕ) (keys : Rattle.std.specs.Prelude.List (Rattle.std.specs.Prelude.Option ℕ)) (at : ℕ) : Type 0 where
  pub states_are : states ≡ replicate at State.Free
  pub keys_same : length keys ≡ length lacks
  pub each : (a : ℕ) → a < at → key_at keys a ≡ key_of State.Free (get_or lacks a 0)

abbrev pub invariant-loop-at : goal.invariant-loop-at
invariant-loop-at l = Opened l.states.items l.lacks.items l.ready l.at
