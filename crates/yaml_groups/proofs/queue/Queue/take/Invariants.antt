use Rattle.std.proofs.Common.{◌≡◌, ◌-◌, ◌++◌, drop, take}
use Rattle.yaml_groups.proofs.queue.Queue.take.Given as goal

abbrev pub invariant-loop : goal.invariant-loop
invariant-loop l = record { is : l.rows ++ take (l.count - l.counter) l.self ≡ take l.count l.initial.self; rest : drop (l.count - l.counter) l.self ≡ drop l.count l.initial.self }
