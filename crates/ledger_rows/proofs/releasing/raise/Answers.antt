use Rattle.std.proofs.Common.{◌≡◌, ◌+◌, ℕ, get_or, set, length, length-set, arith, ap, ◌∙◌}
use Rattle.std.proofs.lemmas.Option.{slice_get-get_or}
use Rattle.ledger_rows.specs.ActionRows.{lack_at}
use Rattle.ledger_rows.proofs.Falling.{rose_more, still_small}
use Rattle.ledger_rows.proofs.releasing.raise.Goals as goal

pub overflow_add-lack : goal.overflow_add-lack
overflow_add-lack c =
    let k = still_small c.args.rows.now c.loop-action.rows c.args.kept.now c.loop-action.action-index c.loop-action-test.true c.loop-action.invariant.lacks c.requires.small in
    omega (arith, k, c.lack-lack.ensures)

pub set_lack-requires : goal.set_lack-requires
set_lack-requires c =
    let h = c.requires.there c.loop-action.action-index (get_or c.args.kept.now c.loop-action.action-index 0) (slice_get-get_or c.args.kept.now c.loop-action.action-index 0 c.loop-action-test.true) in
    let e : length c.loop-action.rows.states ≡ length c.args.rows.now.states = ap length c.loop-action.invariant.states in
    omega (arith, h, e)

pub loop-action-preserved : goal.loop-action-preserved
loop-action-preserved c =
    let h = c.requires.there c.loop-action.action-index (get_or c.args.kept.now c.loop-action.action-index 0) (slice_get-get_or c.args.kept.now c.loop-action.action-index 0 c.loop-action-test.true) in
    let e : c.set_lack.new.self.lacks ≡ set c.loop-action.rows.lacks (get_or c.args.kept.now c.loop-action.action-index 0) (lack_at c.loop-action.rows (get_or c.args.kept.now c.loop-action.action-index 0) + 1)
    = c.set_lack.ensures.lacks ∙ ap (λ (n : ℕ). set c.loop-action.rows.lacks (get_or c.args.kept.now c.loop-action.action-index 0) (n + 1)) c.lack-lack.ensures in
    record {
      states = c.set_lack.ensures.states ∙ c.loop-action.invariant.states;
      size = let s : length c.set_lack.new.self.lacks ≡ length c.loop-action.rows.lacks = ap length e ∙ length-set c.loop-action.rows.lacks (get_or c.args.kept.now c.loop-action.action-index 0) (lack_at c.loop-action.rows (get_or c.args.kept.now c.loop-action.action-index 0) + 1) in s ∙ c.loop-action.invariant.size;
      lacks = rose_more c.args.rows.now c.loop-action.rows c.args.kept.now c.set_lack.new.self.lacks c.loop-action.action-index c.loop-action-test.true (omega (arith, h, c.loop-action.invariant.size, c.requires.same)) e c.loop-action.invariant.lacks;
    }
