use Rattle.compose.proofs.ends.end.Goals as goal

pub returns : goal.returns
returns g c = (c.say_if_any-refusal.result, c.say_if_any-refusal.ensures.refusal, c.status_of-status.ensures, c.say_if_any-refusal.ensures.line)
