use Rattle.std.proofs.Common.{subst, sym}
use Rattle.merge_rules.specs.Marks.{AreNoted, ItemIsNoted}
use Rattle.merge_rules.proofs.EntryPlaces.{last_noted}
use Rattle.merge_rules.proofs.places.note_last.Goals as goal

pub returns-clause-noted : goal.returns-clause-noted
returns-clause-noted c =
    subst (AreNoted c.args.kind c.note.new.firsts) (sym c.in_ok-push.ensures.ok)
    (last_noted c.args.kind c.args.firsts.now c.note.new.firsts c.note.ensures.stays c.args.items c.args.item c.requires
    (subst (ItemIsNoted c.args.kind c.note.new.firsts c.args.item) c.len.ensures c.in_ok-note.ensures.noted))
