use Rattle.std.proofs.Common.{◌≡◌, Some, length, slice_get, refl, subst, arith}
use Rattle.std.proofs.lemmas.Option.{slice_get_read}
use Rattle.merge_tables.proofs.Taking.{take_all}
use Rattle.merge_rules.specs.Marks.{AreNoted}
use Rattle.merge_rules.proofs.EntryPlaces.{next_noted}
use Rattle.merge_rules.proofs.places.firsts_among.Goals as goal

pub loop-at-init : goal.loop-at-init
loop-at-init c = λ at item mark got marked. absurd cc

pub loop-at-preserved : goal.loop-at-preserved
loop-at-preserved c =
    let items = c.args.items.now in
    let l = c.loop-at in
    let item = c.index-items-at.result in
    let at : slice_get items l.at ≡ Some item = slice_get_read items (length items) l.at item refl (omega arith) c.index-items-at.is in
    next_noted c.args.kind l.firsts c.note.new.firsts c.note.ensures.stays items l.at item at l.invariant c.in_ok-note.ensures.noted

pub returns : goal.returns
returns c = subst (AreNoted c.args.kind c.loop-at.firsts) (take_all c.args.items.now c.loop-at.at (omega arith)) c.loop-at.invariant
