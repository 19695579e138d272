use Rattle.std.proofs.Common.{rules, ◌≡◌, Some}
use Rattle.memory_wire.proofs.Opening.{new_given}
use Rattle.memory_wire.proofs.memory_doors.MemoryDoors.open.Goals as goal

pub returns-in-Some-clause-fresh : goal.returns-in-Some-clause-fresh
returns-in-Some-clause-fresh c = λ door e.
    let told : c.args.self.now.told ≡ Some c.in-Some.door = search (rules, c.in-Some.ensures.value) in
    new_given c.in-Some.door door e (c.args.self.now.fresh c.in-Some.door told)
