-- A slot more.
use Rattle.std.proofs.Common.{◌∙◌, Bool, List, false, ap, arith, slice_get, unwrap_or}
use Rattle.plan_core.proofs.Loops.{flag_of}
use Rattle.run_model.specs.Rolling.{is_rolled}
use Rattle.rolling_update.specs.Needs.{rolling}
use Rattle.rolling_update.proofs.Awaits.{all_waited, waited_more}
use Rattle.rolling_update.proofs.waiting.all_waited.Goals as goal

pub waited_for-requires-clause-row : goal.waited_for-requires-clause-row
waited_for-requires-clause-row c = c.as_slice.ensures.value ∙ c.loop-at.invariant.row_is

pub waited_for-requires-clause-rolled : goal.waited_for-requires-clause-rolled
waited_for-requires-clause-rolled c =
    c.flag_at-is_rolled.ensures ∙ ap (λ (flags : List Bool). unwrap_or (slice_get flags c.loop-at.at) false) c.requires.rolled
    ∙ flag_of (is_rolled (rolling c.args.finder.now.scene)) c.args.finder.now.scene.declared.slots c.loop-at.at

pub loop-at-preserved : goal.loop-at-preserved
loop-at-preserved c =
    waited_more c.args.finder.now.scene c.loop-at.waited.items _ c.loop-at.row.items _ c.loop-at.at c.waited_for.result c.flag_at-is_rolled.result c.loop-at.invariant
    c.in_ok-push.ensures.items c.in_ok-push_if.ensures
    (c.flag_at-is_rolled.ensures ∙ ap (λ (flags : List Bool). unwrap_or (slice_get flags c.loop-at.at) false) c.requires.rolled
    ∙ flag_of (is_rolled (rolling c.args.finder.now.scene)) c.args.finder.now.scene.declared.slots c.loop-at.at)
    c.waited_for.ensures

pub returns : goal.returns
returns c = all_waited c.args.finder.now.scene c.loop-at.waited.items c.loop-at.row.items c.loop-at.at (omega arith) c.loop-at.invariant
