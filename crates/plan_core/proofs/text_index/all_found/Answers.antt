-- A text more.
use Rattle.std.proofs.Common.{ℕ, List, [], Bor, get_or}
use Rattle.plan_core.specs.Index.{numbers_under}
use Rattle.plan_core.proofs.Index.{found_turn}
use Rattle.plan_core.proofs.Loops.{get_or_same}
use Rattle.plan_core.proofs.text_index.all_found.Goals as goal

-- what stands for a text that isn't there
abbrev no_text : Bor (List ℕ)
no_text = record { ref_ptr = (0, 0); now = [] }

pub loop-text-preserved : goal.loop-text-preserved
loop-text-preserved c =
    let texts = c.args.texts.now in
    let i = c.loop-text.text-index in
    let text = get_or texts i no_text in
    found_turn (numbers_under c.args.index.now) texts i text c.loop-text-test.true (get_or_same texts i no_text text c.loop-text-test.true)
    c.loop-text.found.items _ c.find.result.now c.loop-text.invariant c.in_ok-extend_from_slice.ensures.items c.find.ensures
