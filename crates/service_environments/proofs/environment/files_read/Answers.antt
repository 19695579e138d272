use Rattle.std.proofs.Common.{◌≡◌, ◌∙◌, ℕ, ◌∷◌, ◌+◌, length, drop, refl, sym, subst, Ok, Err, List, Option, arith}
use Rattle.std.proofs.lemmas.Option.{slice_get_read}
use Rattle.std.proofs.lemmas.Result.{err_from_is_err_and}
use Rattle.service_environments.specs.Environments.{file_read, files_read}
use Rattle.file_paths.specs.Paths.{Variables}
use Rattle.loaded_files.specs.Reads.{Gives, Ran}
use Rattle.loaded_files.proofs.Laid.{next_item, none_left}
use Rattle.service_environments.proofs.Steps.{file_on, file_out}
use Rattle.outside_files.specs.Files.{Contents}
use Rattle.service_environments.specs.declared.env_item.EnvItem.{EnvItem}
use Rattle.service_environments.proofs.environment.files_read.Goals as goal

pub returns-in_err-more-clause-given : goal.returns-in_err-more-clause-given
returns-in_err-more-clause-given g c =
    let told = g.F.Files.told c.args.files.now in
    let l = c.loop-item in
    let item = c.item-item.result in
    let e = c.in_err-more.field-0.0 in
    let p = err_from_is_err_and c.from_residual.result c.from_residual.ensures.1 in
    let next : drop l.item-index c.args.items.now ≡ item ∷ drop (l.item-index + 1) c.args.items.now =
    next_item c.args.items.now l.item-index item (slice_get_read c.args.items.now (length c.args.items.now) l.item-index item refl (omega arith) c.item-item.is) in
    let given = subst (λ (t : Option Contents). Gives {X = Variables × ℕ} t (Err e) (file_read c.args.env.now item.path item.required l.values l.left)) l.invariant.kept c.in_err-more.ensures.given in
    rw (p.1, p.2) (λ n. l.invariant.ran (Err e) (subst (λ (ps : List EnvItem). Ran told (files_read c.args.env.now ps l.values l.left) (Err e)) (sym next)
    (file_out told c.args.env.now item (drop (l.item-index + 1) c.args.items.now) l.values l.left e (given (λ q. n q)))))

pub loop-item-preserved : goal.loop-item-preserved
loop-item-preserved g c =
    let told = g.F.Files.told c.args.files.now in
    let l = c.loop-item in
    let item = c.item-item.result in
    let items = c.args.items.now in
    let values = c.in_ok-more.more in
    let rest = c.in_ok-more.rest in
    let next : drop l.item-index items ≡ item ∷ drop (l.item-index + 1) items =
    next_item items l.item-index item (slice_get_read items (length items) l.item-index item refl (omega arith) c.item-item.is) in
    let given = subst (λ (t : Option Contents). Gives t (Ok (values, rest)) (file_read c.args.env.now item.path item.required l.values l.left)) l.invariant.kept c.in_ok-more.ensures.given in
    record {
      ran = λ r k. l.invariant.ran r (subst (λ (ps : List EnvItem). Ran told (files_read c.args.env.now ps l.values l.left) r) (sym next)
          (file_on told c.args.env.now item (drop (l.item-index + 1) items) l.values l.left values rest r given k));
      counted = omega (arith, l.invariant.counted, c.in_ok-more.ensures.counted);
      kept = c.in_ok-more.ensures.kept ∙ l.invariant.kept;
      reads = λ well. c.in_ok-more.ensures.reads (l.invariant.reads well);
    }

pub returns-clause-given : goal.returns-clause-given
returns-clause-given g c =
    let told = g.F.Files.told c.args.files.now in
    let l = c.loop-item in
    λ n. l.invariant.ran (Ok (l.values, l.left)) (subst (λ (ps : List EnvItem). Ran told (files_read c.args.env.now ps l.values l.left) (Ok (l.values, l.left))) (sym (none_left c.args.items.now l.item-index (omega arith))) refl)

pub returns-in_err-more-clause-reads : goal.returns-in_err-more-clause-reads
returns-in_err-more-clause-reads g c =
    let p = err_from_is_err_and c.from_residual.result c.from_residual.ensures.1 in
    rw (p.1, p.2) (λ well. c.in_err-more.ensures.reads (c.loop-item.invariant.reads well))
