use Rattle.std.proofs.Common.{◌≡◌, ◌∙◌, ℕ, ◌∷◌, ◌+◌, length, drop, refl, sym, subst, Ok, Err, List, Option, arith}
use Rattle.std.proofs.lemmas.Option.{slice_get_read}
use Rattle.std.proofs.lemmas.Result.{err_from_is_err_and}
use Rattle.loaded_files.specs.EnvFiles.{env_files, with_file}
use Rattle.loaded_files.specs.Paths.{Variables}
use Rattle.loaded_files.specs.Reads.{Gives, Ran}
use Rattle.loaded_files.proofs.Laid.{next_item, none_left}
use Rattle.loaded_files.proofs.Steps.{files_on, files_out}
use Rattle.outside_files.specs.Files.{Contents}
use Rattle.loaded_files.proofs.variables.env_files.Goals as goal

pub returns-in_err-more-clause-given : goal.returns-in_err-more-clause-given
returns-in_err-more-clause-given g c =
    let told = g.F.Files.told c.args.files.now in
    let l = c.loop-path in
    let path = c.path-item.result in
    let e = c.in_err-more.field-0.0 in
    let p = err_from_is_err_and c.from_residual.result c.from_residual.ensures.1 in
    let next : drop l.path-index c.args.paths.now ≡ path ∷ drop (l.path-index + 1) c.args.paths.now =
    next_item c.args.paths.now l.path-index path (slice_get_read c.args.paths.now (length c.args.paths.now) l.path-index path refl (omega arith) c.path-item.is) in
    let given = subst (λ (t : Option Contents). Gives {X = Variables × ℕ} t (Err e) (with_file c.args.caller.now path l.values l.left)) l.invariant.kept c.in_err-more.ensures.given in
    rw (p.1, p.2) (λ n. l.invariant.ran (Err e) (subst (λ (ps : List (List ℕ)). Ran told (env_files c.args.caller.now ps l.values l.left) (Err e)) (sym next)
    (files_out told c.args.caller.now path (drop (l.path-index + 1) c.args.paths.now) l.values l.left e (given (λ q. n q)))))

pub loop-path-preserved : goal.loop-path-preserved
loop-path-preserved g c =
    let told = g.F.Files.told c.args.files.now in
    let l = c.loop-path in
    let path = c.path-item.result in
    let paths = c.args.paths.now in
    let values = c.in_ok-more.more in
    let rest = c.in_ok-more.rest in
    let next : drop l.path-index paths ≡ path ∷ drop (l.path-index + 1) paths =
    next_item paths l.path-index path (slice_get_read paths (length paths) l.path-index path refl (omega arith) c.path-item.is) in
    let given = subst (λ (t : Option Contents). Gives t (Ok (values, rest)) (with_file c.args.caller.now path l.values l.left)) l.invariant.kept c.in_ok-more.ensures.given in
    record {
      ran = λ r k. l.invariant.ran r (subst (λ (ps : List (List ℕ)). Ran told (env_files c.args.caller.now ps l.values l.left) r) (sym next)
          (files_on told c.args.caller.now path (drop (l.path-index + 1) paths) l.values l.left values rest r given k));
      counted = omega (arith, l.invariant.counted, c.in_ok-more.ensures.counted);
      kept = c.in_ok-more.ensures.kept ∙ l.invariant.kept;
      reads = λ well. c.in_ok-more.ensures.reads (l.invariant.reads well);
    }

pub returns-clause-given : goal.returns-clause-given
returns-clause-given g c =
    let told = g.F.Files.told c.args.files.now in
    let l = c.loop-path in
    λ n. l.invariant.ran (Ok (l.values, l.left)) (subst (λ (ps : List (List ℕ)). Ran told (env_files c.args.caller.now ps l.values l.left) (Ok (l.values, l.left))) (sym (none_left c.args.paths.now l.path-index (omega arith))) refl)

pub returns-in_err-more-clause-reads : goal.returns-in_err-more-clause-reads
returns-in_err-more-clause-reads g c =
    let p = err_from_is_err_and c.from_residual.result c.from_residual.ensures.1 in
    rw (p.1, p.2) (λ well. c.in_err-more.ensures.reads (c.loop-path.invariant.reads well))
