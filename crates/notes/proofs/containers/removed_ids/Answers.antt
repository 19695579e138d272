use Rattle.std.proofs.Common.{◌≡◌, Some, ap, is_some, length, map, slice_get, refl, subst, sym, arith}
use Rattle.std.proofs.lemmas.Option.{slice_get_read}
use Rattle.notes.specs.Containers.{Knows, removed_ids}
use Rattle.tree_base.specs.Entries.{value_at}
use Rattle.notes.proofs.LeftSteps.{ids_next, take_all}
use Rattle.notes.proofs.containers.removed_ids.Goals as goal

pub loop-exchange-init : goal.loop-exchange-init
loop-exchange-init c = λ id. ap (λ known. is_some (value_at known id)) c.new-known.ensures

pub loop-exchange-preserved : goal.loop-exchange-preserved
loop-exchange-preserved c =
    let xs = c.args.exchanges.now in
    let i = c.loop-exchange.exchange-index in
    let x = c.exchange-item.result in
    let at : slice_get xs i ≡ Some x = slice_get_read xs (length xs) i x refl (omega arith) c.exchange-item.is in
    subst (Knows c.note_removed.new.known) (sym (ids_next (λ exchange. exchange.now) xs i x at)) (c.in_ok-note_removed.ensures _ c.loop-exchange.invariant)

pub returns : goal.returns
returns c =
    subst (λ xs. Knows c.loop-exchange.known (removed_ids (map (λ exchange. exchange.now) xs)))
    (take_all c.args.exchanges.now c.loop-exchange.exchange-index (omega arith)) c.loop-exchange.invariant
