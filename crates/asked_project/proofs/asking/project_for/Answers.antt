use Rattle.std.proofs.Common.{◌≡◌, ◌∙◌, Err, ap, subst, sym}
use Rattle.std.specs.Prelude.{IfErr, IfOk, IfSome, IsTrue, Result}
use Rattle.asked_project.specs.Meaning.{IsLoaded}
use Rattle.asked_project.specs.Parts.{MeansFor}
use Rattle.asked_project.specs.declared.asking.Asked.{Asked}
use Rattle.asked_project.proofs.Answered.{is_loaded, load_no_words, loads_project, loads_read, loads_refused, with_kind, with_no_read, with_no_words, with_options, with_keyed, with_went}
use Rattle.loaded_files.specs.declared.LoadRefusal.{LoadRefusal}
use Rattle.refusals.specs.Origins.{IsOfAsking, is_of_words}
use Rattle.refusals.specs.declared.Refusal.{Refusal}
use Rattle.typed_project.specs.DistinctNames.{IsKeyed}
use Rattle.refusals.proofs.AfterReads.{load_went}
use Rattle.asked_project.proofs.asking.project_for.Goals as goal

pub returns-in-Ok-clause-told : goal.returns-in-Ok-clause-told
returns-in-Ok-clause-told g c =
    subst (λ (r : Result Asked Refusal). IfSome (g.F.Files.told c.args.files.now) (λ contents. MeansFor c.args.options c.args.env.now c.args.cwd.now contents r)) (sym c.asked_with.ensures)
    (loads_project c.args.options c.args.env.now c.args.cwd.now (g.F.Files.told c.args.files.now) c.in-Ok.loaded c.project_loaded-project.result c.in-Ok.ensures.given c.project_loaded-project.ensures.told)

pub returns-in-Ok-clause-words : goal.returns-in-Ok-clause-words
returns-in-Ok-clause-words g c = subst (λ (r : Result Asked Refusal). IfErr r (λ refusal. IsTrue (is_of_words refusal) → ⊥)) (sym c.asked_with.ensures) (with_no_words c.args.options c.project_loaded-project.result c.project_loaded-project.ensures.kind)

pub returns-in-Ok-clause-options : goal.returns-in-Ok-clause-options
returns-in-Ok-clause-options g c = subst (λ (r : Result Asked Refusal). IfOk r (λ asked. asked.options ≡ c.args.options)) (sym c.asked_with.ensures) (with_options c.args.options c.project_loaded-project.result)

pub returns-in-Ok-clause-text : goal.returns-in-Ok-clause-text
returns-in-Ok-clause-text g c =
    subst (λ (r : Result Asked Refusal). IfOk r (λ asked. IsLoaded c.args.options c.args.env.now c.args.cwd.now (g.F.Files.told c.args.files.now) asked.loaded)) (sym c.asked_with.ensures)
    (is_loaded c.args.options c.args.env.now c.args.cwd.now (g.F.Files.told c.args.files.now) c.in-Ok.loaded c.project_loaded-project.result c.in-Ok.ensures.given c.project_loaded-project.ensures.told)

pub returns-in-Ok-clause-keyed : goal.returns-in-Ok-clause-keyed
returns-in-Ok-clause-keyed g c = subst (λ (r : Result Asked Refusal). IfOk r (λ asked. IsKeyed asked.loaded.project)) (sym c.asked_with.ensures) (with_keyed c.args.options c.project_loaded-project.result c.project_loaded-project.ensures.keyed)

pub returns-in-Ok-clause-kind : goal.returns-in-Ok-clause-kind
returns-in-Ok-clause-kind g c = subst (λ (r : Result Asked Refusal). IfErr r IsOfAsking) (sym c.asked_with.ensures) (with_kind c.args.options c.project_loaded-project.result c.project_loaded-project.ensures.kind)

pub returns-in-Ok-clause-read : goal.returns-in-Ok-clause-read
returns-in-Ok-clause-read g c = λ path e. absurd (with_no_read c.args.options c.project_loaded-project.result path c.project_loaded-project.ensures.kind (sym c.asked_with.ensures ∙ e))

pub returns-in-Err-clause-told : goal.returns-in-Err-clause-told
returns-in-Err-clause-told g c = loads_refused c.args.options c.args.env.now c.args.cwd.now (g.F.Files.told c.args.files.now) c.in-Err.refusal c.from.result c.from.ensures.refusal c.in-Err.ensures.given

pub returns-in-Err-clause-words : goal.returns-in-Err-clause-words
returns-in-Err-clause-words g c = λ h. load_no_words c.in-Err.refusal (subst (λ (r : Refusal). IsTrue (is_of_words r)) c.from.ensures.refusal h)

pub returns-in-Err-clause-read : goal.returns-in-Err-clause-read
returns-in-Err-clause-read g c = λ path e.
    let same : c.from.result ≡ Refusal.Load (LoadRefusal.ReadFault path) = cc e in
    loads_read c.args.options c.args.env.now c.args.cwd.now (g.F.Files.told c.args.files.now) c.in-Err.refusal c.from.result path _ _ c.from.ensures.refusal same c.in-Err.ensures.given (λ at f. c.in-Err.ensures.fault at (ap Err f))

pub returns-in-Ok-clause-reads : goal.returns-in-Ok-clause-reads
returns-in-Ok-clause-reads g c = λ well. c.in-Ok.ensures.reads well ∙ sym (with_went c.args.options c.project_loaded-project.result c.asked_with.result c.asked_with.ensures c.project_loaded-project.ensures.kind)

pub returns-in-Err-clause-reads : goal.returns-in-Err-clause-reads
returns-in-Err-clause-reads g c = λ well. c.in-Err.ensures.reads well ∙ sym (load_went c.in-Err.refusal c.from.result c.from.ensures.refusal)
