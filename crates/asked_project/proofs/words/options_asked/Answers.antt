use Rattle.asked_project.proofs.Refusing.{exactly, words_kind, words_read, words_refused}
use Rattle.asked_project.specs.Asking.{asked_or_not}
use Rattle.asked_project.proofs.words.options_asked.Goals as goal

pub returns-in-Ok-clause-answer : goal.returns-in-Ok-clause-answer
returns-in-Ok-clause-answer c =
    words_read c.args.words.now c.args.env.now c.in-Ok.options c.asked_or_not.result c.in-Ok.ensures.meaning (exactly c.asked_or_not.result (asked_or_not c.args.env.now c.in-Ok.options) c.asked_or_not.ensures.answer)

pub returns-in-Err-clause-answer : goal.returns-in-Err-clause-answer
returns-in-Err-clause-answer c = words_refused c.args.words.now c.args.env.now c.in-Err.refusal c.from.result c.from.ensures.refusal c.in-Err.ensures.meaning

pub returns-in-Err-clause-kind : goal.returns-in-Err-clause-kind
returns-in-Err-clause-kind c = words_kind c.in-Err.refusal c.from.result c.from.ensures.refusal
