use Rattle.std.proofs.Common.{◌≡◌, ◌∙◌, ℕ, ◌∷◌, ◌+◌, length, drop, refl, sym, subst, Ok, Err, List, Option, arith}
use Rattle.std.proofs.lemmas.Option.{slice_get_read}
use Rattle.std.proofs.lemmas.Result.{err_from_is_err_and}
use Rattle.file_paths.specs.Resolving.{Entries}
use Rattle.loaded_files.specs.Reads.{Gives, Ran}
use Rattle.loaded_files.proofs.Laid.{next_item, none_left}
use Rattle.outside_files.specs.Files.{Contents}
use Rattle.service_bases.specs.Extending.{all_extended, extended}
use Rattle.service_bases.proofs.Files.{service_on, service_out}
use Rattle.service_bases.proofs.extending.all_extended.Goals as goal

pub returns-in_err-service-clause-given : goal.returns-in_err-service-clause-given
returns-in_err-service-clause-given g c =
    let a = c.args in
    let told = g.F.Files.told a.files.now in
    let names = a.names.now in
    let l = c.loop-name in
    let name = c.name-item.result in
    let e = c.in_err-service.field-0.0 in
    let p = err_from_is_err_and c.from_residual.result c.from_residual.ensures.1 in
    let next : drop l.name-index names ≡ name ∷ drop (l.name-index + 1) names =
    next_item names l.name-index name (slice_get_read names (length names) l.name-index name refl (omega arith) c.name-item.is) in
    let given = subst (λ (t : Option Contents). Gives {X = Entries × ℕ} t (Err e) (extended a.env.now a.source.now name l.left)) l.invariant.kept c.in_err-service.ensures.given in
    rw (p.1, p.2) (λ n. l.invariant.ran (Err e) (subst (λ (ns : List (List ℕ)). Ran told (all_extended a.env.now a.source.now ns l.services l.left) (Err e)) (sym next)
    (service_out told a.env.now a.source.now name (drop (l.name-index + 1) names) l.services l.left e (given (λ q. n q)))))

pub loop-name-init : goal.loop-name-init
loop-name-init g c = record {
  ran = λ r k. k;
  counted = omega arith;
  kept = refl;
  whole = rw c.new-known.ensures (λ name whole at. absurd cc);
  reads = λ well. well;
}

pub loop-name-preserved : goal.loop-name-preserved
loop-name-preserved g c =
    let a = c.args in
    let told = g.F.Files.told a.files.now in
    let names = a.names.now in
    let l = c.loop-name in
    let name = c.name-item.result in
    let service = c.in_ok-service.service in
    let rest = c.in_ok-service.rest in
    let next : drop l.name-index names ≡ name ∷ drop (l.name-index + 1) names =
    next_item names l.name-index name (slice_get_read names (length names) l.name-index name refl (omega arith) c.name-item.is) in
    let given = subst (λ (t : Option Contents). Gives t (Ok (service, rest)) (extended a.env.now a.source.now name l.left)) l.invariant.kept c.in_ok-service.ensures.given in
    record {
      ran = λ r k. l.invariant.ran r (subst (λ (ns : List (List ℕ)). Ran told (all_extended a.env.now a.source.now ns l.services l.left) r) (sym next)
          (service_on told a.env.now a.source.now name (drop (l.name-index + 1) names) l.services l.left service c.put_service.new.services rest r given c.in_ok-put_service.ensures k));
      counted = omega (arith, l.invariant.counted, c.in_ok-service.ensures.counted);
      kept = c.in_ok-service.ensures.kept ∙ l.invariant.kept;
      whole = c.in_ok-service.ensures.known;
      reads = λ well. c.in_ok-service.ensures.reads (l.invariant.reads well);
    }

pub returns-clause-given : goal.returns-clause-given
returns-clause-given g c =
    let a = c.args in
    let told = g.F.Files.told a.files.now in
    let l = c.loop-name in
    λ n. l.invariant.ran (Ok (l.services, l.left)) (subst (λ (ns : List (List ℕ)). Ran told (all_extended a.env.now a.source.now ns l.services l.left) (Ok (l.services, l.left))) (sym (none_left a.names.now l.name-index (omega arith))) refl)

pub returns-in_err-service-clause-reads : goal.returns-in_err-service-clause-reads
returns-in_err-service-clause-reads g c =
    let p = err_from_is_err_and c.from_residual.result c.from_residual.ensures.1 in
    rw (p.1, p.2) (λ well. c.in_err-service.ensures.reads (c.loop-name.invariant.reads well))
