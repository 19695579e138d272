use Rattle.compose_words.proofs.UsageLemmas.{blank_step}
use Rattle.compose_words.proofs.usage.push_blanks.Goals as goal

pub loop-preserved : goal.loop-preserved
loop-preserved c = blank_step c.args.text.now c.loop.text _ c.loop.counter c.loop.invariant c.in_ok-push_str.ensures.ok
