use Rattle.std.proofs.Common.{sym}
use Rattle.declared_slots.specs.Named.{name_of}
use Rattle.declared_set.proofs.Numbering.{one_more}
use Rattle.declared_set.proofs.refusing.put_names.Goals as goal

pub loop-before-preserved : goal.loop-before-preserved
loop-before-preserved c =
    one_more (name_of c.args.project.now c.args.service.now) c.loop-before.before c.in_ok-number_behind.field-0 c.args.names.now.items c.loop-before.names.items c.push.new.self.items c.in_ok-name.field-0
    c.loop-before.invariant c.in_ok-push.ensures.items c.in_ok-name.ensures (sym c.in_ok-number_behind.ensures)
