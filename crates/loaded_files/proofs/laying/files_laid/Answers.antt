use Rattle.std.proofs.Common.{◌≡◌, ◌∙◌, ℕ, ◌∷◌, ◌+◌, length, drop, refl, sym, subst, Ok, Err, List, Option, arith}
use Rattle.std.proofs.lemmas.Option.{slice_get_read}
use Rattle.std.proofs.lemmas.Result.{err_from_is_err_and}
use Rattle.loaded_files.specs.FileTrees.{file_laid, files_laid}
use Rattle.loaded_files.specs.Reads.{Gives, Ran}
use Rattle.loaded_files.proofs.Files.{laid_on, laid_out}
use Rattle.loaded_files.proofs.Laid.{next_item, none_left}
use Rattle.outside_files.specs.Files.{Contents}
use Rattle.tree_base.specs.declared.Tree.{Tree}
use Rattle.loaded_files.proofs.laying.files_laid.Goals as goal

pub returns-in_err-laid-clause-given : goal.returns-in_err-laid-clause-given
returns-in_err-laid-clause-given g c =
    let told = g.F.Files.told c.args.files.now in
    let env = c.args.env.now in
    let paths = c.args.paths.now in
    let l = c.loop-path in
    let path = c.path-item.result in
    let e = c.in_err-laid.field-0.0 in
    let p = err_from_is_err_and c.from_residual.result c.from_residual.ensures.1 in
    let next : drop l.path-index paths ≡ path ∷ drop (l.path-index + 1) paths =
    next_item paths l.path-index path (slice_get_read paths (length paths) l.path-index path refl (omega arith) c.path-item.is) in
    let given = subst (λ (t : Option Contents). Gives {X = Tree × ℕ} t (Err e) (file_laid env path l.found l.tree l.left)) l.invariant.kept c.in_err-laid.ensures.given in
    rw (p.1, p.2) (λ n. l.invariant.ran (Err e) (subst (λ (ps : List (List ℕ)). Ran told (files_laid env ps l.found l.tree l.left) (Err e)) (sym next)
    (laid_out told env path (drop (l.path-index + 1) paths) l.found l.tree l.left e (given (λ q. n q)))))

pub loop-path-preserved : goal.loop-path-preserved
loop-path-preserved g c =
    let told = g.F.Files.told c.args.files.now in
    let env = c.args.env.now in
    let paths = c.args.paths.now in
    let l = c.loop-path in
    let path = c.path-item.result in
    let tree = c.in_ok-laid.laid in
    let rest = c.in_ok-laid.rest in
    let next : drop l.path-index paths ≡ path ∷ drop (l.path-index + 1) paths =
    next_item paths l.path-index path (slice_get_read paths (length paths) l.path-index path refl (omega arith) c.path-item.is) in
    let given = subst (λ (t : Option Contents). Gives t (Ok (tree, rest)) (file_laid env path l.found l.tree l.left)) l.invariant.kept c.in_ok-laid.ensures.given in
    record {
      ran = λ r k. l.invariant.ran r (subst (λ (ps : List (List ℕ)). Ran told (files_laid env ps l.found l.tree l.left) r) (sym next)
          (laid_on told env path (drop (l.path-index + 1) paths) l.found l.tree l.left tree rest r given k));
      counted = omega (arith, l.invariant.counted, c.in_ok-laid.ensures.counted);
      kept = c.in_ok-laid.ensures.kept ∙ l.invariant.kept;
      reads = λ well. c.in_ok-laid.ensures.reads (l.invariant.reads well);
    }

pub returns-clause-given : goal.returns-clause-given
returns-clause-given g c =
    let told = g.F.Files.told c.args.files.now in
    let l = c.loop-path in
    λ n. l.invariant.ran (Ok (l.tree, l.left)) (subst (λ (ps : List (List ℕ)). Ran told (files_laid c.args.env.now ps l.found l.tree l.left) (Ok (l.tree, l.left))) (sym (none_left c.args.paths.now l.path-index (omega arith))) refl)

pub returns-in_err-laid-clause-reads : goal.returns-in_err-laid-clause-reads
returns-in_err-laid-clause-reads g c =
    let p = err_from_is_err_and c.from_residual.result c.from_residual.ensures.1 in
    rw (p.1, p.2) (λ well. c.in_err-laid.ensures.reads (c.loop-path.invariant.reads well))
