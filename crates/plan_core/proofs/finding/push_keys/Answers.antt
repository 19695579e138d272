-- A key more.
use Rattle.std.proofs.Common.{◌∙◌, ◌++◌, ◌+◌, List, ℕ, sym, ap, take}
use Rattle.plan_core.specs.Index.{seen_entries, under_each}
use Rattle.plan_core.proofs.Index.{entries_turn}
use Rattle.plan_core.proofs.Loops.{mapped_itself}
use Rattle.plan_core.proofs.finding.push_keys.Goals as goal

pub loop-key-preserved : goal.loop-key-preserved
loop-key-preserved c =
    let keys = c.args.keys.now in
    let before = seen_entries c.args.entries.now.items in
    let same = λ (ks : List (List ℕ)). ap (λ (texts : List (List ℕ)). before ++ under_each texts c.args.at) (mapped_itself ks) in
    entries_turn (λ (key : List ℕ). key) keys c.loop-key.key-index c.key-item.result c.loop-key-test.true c.key-item.is c.args.at
    c.args.entries.now.items c.loop-key.entries.items _ c.as_str.result (c.loop-key.invariant ∙ sym (same (take c.loop-key.key-index keys))) c.in_ok-push.ensures.items c.as_str.ensures.value
    ∙ same (take (c.loop-key.key-index + 1) keys)
