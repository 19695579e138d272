use Rattle.std.proofs.Common.{◌≡◌, ◌∙◌, ℕ, ◌∷◌, ◌+◌, length, drop, refl, sym, ap, subst, Ok, Err, List, Option, arith}
use Rattle.std.proofs.lemmas.Option.{slice_get_read}
use Rattle.std.proofs.lemmas.Result.{err_from_is_err_and}
use Rattle.std.specs.Cmp.Lexicographic.{nat_list_eq_equiv}
use Rattle.file_paths.specs.Resolving.{Entries}
use Rattle.loaded_files.specs.Reads.{Gives, Ran}
use Rattle.loaded_files.proofs.Laid.{next_item, none_left}
use Rattle.outside_files.specs.Files.{Contents}
use Rattle.file_paths.specs.Shapes.{entries_at}
use Rattle.service_environments.specs.Environments.{all_with_environments, with_environment}
use Rattle.service_environments.proofs.Steps.{service_on, service_out}
use Rattle.service_environments.proofs.environment.all_with_environments.Goals as goal
use Rattle.tree_base.proofs.Pairs.{put_twice}
use Rattle.tree_base.specs.Entries.{with_entry}
use Rattle.tree_base.specs.declared.Tree.{Map, Null}

pub returns-in_err-whole-clause-given : goal.returns-in_err-whole-clause-given
returns-in_err-whole-clause-given g c =
    let a = c.args in
    let told = g.F.Files.told a.files.now in
    let names = a.names.now in
    let l = c.loop-name in
    let name = c.name-item.result in
    let e = c.in_err-whole.field-0.0 in
    let p = err_from_is_err_and c.from_residual-in_err-whole.result c.from_residual-in_err-whole.ensures.1 in
    let next : drop l.name-index names ≡ name ∷ drop (l.name-index + 1) names =
    next_item names l.name-index name (slice_get_read names (length names) l.name-index name refl (omega arith) c.name-item.is) in
    let given = subst (λ (t : Option Contents). Gives {X = Entries × ℕ} t (Err e) (with_environment a.env.now (entries_at name l.services) l.left)) l.invariant.kept (rw c.in_ok-service.ensures.attributes at c.in_err-whole.ensures.given) in
    rw (p.1, p.2) (λ n. l.invariant.ran (Err e) (subst (λ (ns : List (List ℕ)). Ran told (all_with_environments a.env.now ns l.services l.left) (Err e)) (sym next)
    (service_out told a.env.now name (drop (l.name-index + 1) names) l.services l.left e (given (λ q. n q)))))

pub loop-name-preserved : goal.loop-name-preserved
loop-name-preserved g c =
    let a = c.args in
    let told = g.F.Files.told a.files.now in
    let names = a.names.now in
    let l = c.loop-name in
    let name = c.name-item.result in
    let whole = c.in_ok-whole.whole in
    let rest = c.in_ok-whole.rest in
    let next : drop l.name-index names ≡ name ∷ drop (l.name-index + 1) names =
    next_item names l.name-index name (slice_get_read names (length names) l.name-index name refl (omega arith) c.name-item.is) in
    let put = c.in_ok-put_service.ensures ∙ ap (λ (all : Entries). with_entry all name (Map whole)) c.in_ok-service.ensures.rest
    ∙ put_twice nat_list_eq_equiv l.services name Null (Map whole) in
    let given = subst (λ (t : Option Contents). Gives t (Ok (whole, rest)) (with_environment a.env.now (entries_at name l.services) l.left)) l.invariant.kept (rw c.in_ok-service.ensures.attributes at c.in_ok-whole.ensures.given) in
    record {
      ran = λ r k. l.invariant.ran r (subst (λ (ns : List (List ℕ)). Ran told (all_with_environments a.env.now ns l.services l.left) r) (sym next)
          (service_on told a.env.now name (drop (l.name-index + 1) names) l.services l.left whole c.put_service.new.services rest r given put k));
      counted = omega (arith, l.invariant.counted, c.in_ok-whole.ensures.counted);
      kept = c.in_ok-whole.ensures.kept ∙ l.invariant.kept;
      reads = λ well. c.in_ok-whole.ensures.reads (l.invariant.reads well);
    }

pub returns-clause-given : goal.returns-clause-given
returns-clause-given g c =
    let a = c.args in
    let told = g.F.Files.told a.files.now in
    let l = c.loop-name in
    λ n. l.invariant.ran (Ok (l.services, l.left)) (subst (λ (ns : List (List ℕ)). Ran told (all_with_environments a.env.now ns l.services l.left) (Ok (l.services, l.left))) (sym (none_left a.names.now l.name-index (omega arith))) refl)

pub returns-in_err-whole-clause-reads : goal.returns-in_err-whole-clause-reads
returns-in_err-whole-clause-reads g c =
    let p = err_from_is_err_and c.from_residual-in_err-whole.result c.from_residual-in_err-whole.ensures.1 in
    rw (p.1, p.2) (λ well. c.in_err-whole.ensures.reads (c.loop-name.invariant.reads well))
