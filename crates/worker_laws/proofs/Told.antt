-- What a worker's own entries tell.
use Rattle.std.proofs.Common.{ap}
use Rattle.run_model.specs.Journals.{has_left, has_stopped, holding}
use Rattle.run_model.specs.Logs.{asks, late_reading, pauses, was_stopped}
use Rattle.worker_laws.specs.Own.{OwnEntriesTell}
use Rattle.worker_laws.proofs.Telling.{asks_steps, holding_steps, late_steps, left_steps, own_tells, pauses_steps, stop_steps, stopped_steps, unstopped_pair, unstopped_steps}

pub own_entries : OwnEntriesTell
own_entries = record {
  holds = λ past w. own_tells w (λ past. holding past w) (holding_steps w) past;
  left = λ past w. own_tells w (λ past. has_left past w) (left_steps w) past;
  stopped = λ past w. own_tells w (λ past. has_stopped past w) (stopped_steps w) past;
  asks = λ past w. own_tells w (λ past. asks past w) (asks_steps w) past;
  pauses = λ past w. own_tells w (λ past. pauses past w) (pauses_steps w) past;
  asked_to_stop = λ past w. own_tells w (λ past. was_stopped past w) (stop_steps w) past;
  unstopped = λ past w. ap (λ x. x.0) (own_tells w (unstopped_pair w) (unstopped_steps w) past);
  late = λ past w. own_tells w (λ past. late_reading past w) (late_steps w) past;
}
