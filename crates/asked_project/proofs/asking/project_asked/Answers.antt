use Rattle.std.proofs.Common.{◌≡◌, ◌∙◌, sym}
use Rattle.asked_project.proofs.Answered.{IfSome-all, IfSome-map, is_spelled, means_loaded, means_refused, no_words, refused_answers, refused_exactly, same_options, unrefused_answers}
use Rattle.asked_project.proofs.Refusing.{words_of_asking, words_no_read}
use Rattle.loaded_files.specs.declared.LoadRefusal.{LoadRefusal}
use Rattle.refusals.specs.declared.Refusal.{Refusal}
use Rattle.refusals.proofs.AfterReads.{words_went}
use Rattle.asked_project.proofs.asking.project_asked.Goals as goal

pub returns-in-Ok-clause-told : goal.returns-in-Ok-clause-told
returns-in-Ok-clause-told g c =
    IfSome-map (g.F.Files.told c.args.files.now) _ _ c.project_for.ensures.told (λ contents h. means_loaded c.args.words.now c.args.env.now c.args.cwd.now contents c.in-Ok.options c.project_for.result c.in-Ok.ensures.answer h)

pub returns-in-Ok-clause-words : goal.returns-in-Ok-clause-words
returns-in-Ok-clause-words g c = unrefused_answers c.args.words.now c.args.env.now c.in-Ok.options c.project_for.result c.in-Ok.ensures.answer

pub returns-in-Ok-clause-words_only : goal.returns-in-Ok-clause-words_only
returns-in-Ok-clause-words_only g c = no_words c.args.words.now c.args.env.now c.project_for.result c.project_for.ensures.words

pub returns-in-Ok-clause-options : goal.returns-in-Ok-clause-options
returns-in-Ok-clause-options g c = same_options c.args.words.now c.args.env.now c.in-Ok.options c.project_for.result c.in-Ok.ensures.answer c.project_for.ensures.options

pub returns-in-Ok-clause-text : goal.returns-in-Ok-clause-text
returns-in-Ok-clause-text g c = is_spelled c.args.words.now c.args.env.now c.args.cwd.now (g.F.Files.told c.args.files.now) c.in-Ok.options c.project_for.result c.in-Ok.ensures.answer c.project_for.ensures.text

pub returns-in-Ok-clause-read : goal.returns-in-Ok-clause-read
returns-in-Ok-clause-read g c = λ path e. (c.in-Ok.options, c.in-Ok.ensures.answer, c.project_for.ensures.read path e)

pub returns-in-Err-clause-told : goal.returns-in-Err-clause-told
returns-in-Err-clause-told g c =
    IfSome-all (g.F.Files.told c.args.files.now) _ (λ contents. means_refused c.args.words.now c.args.env.now c.args.cwd.now contents c.in-Err.refusal c.in-Err.ensures.answer)

pub returns-in-Err-clause-words : goal.returns-in-Err-clause-words
returns-in-Err-clause-words g c = refused_answers c.args.words.now c.args.env.now c.in-Err.refusal c.in-Err.ensures.answer

pub returns-in-Err-clause-words_only : goal.returns-in-Err-clause-words_only
returns-in-Err-clause-words_only g c = refused_exactly c.args.words.now c.args.env.now c.in-Err.refusal c.in-Err.ensures.answer

pub returns-in-Err-clause-read : goal.returns-in-Err-clause-read
returns-in-Err-clause-read g c = λ path e.
    let same : c.in-Err.refusal ≡ Refusal.Load (LoadRefusal.ReadFault path) = cc e in
    absurd (words_no_read c.in-Err.refusal path c.in-Err.ensures.kind same)

pub returns-in-Err-clause-kind : goal.returns-in-Err-clause-kind
returns-in-Err-clause-kind g c = words_of_asking c.in-Err.refusal c.in-Err.ensures.kind

pub returns-in-Err-clause-reads : goal.returns-in-Err-clause-reads
returns-in-Err-clause-reads g c = λ well. well ∙ sym (words_went c.in-Err.refusal c.in-Err.ensures.kind)
