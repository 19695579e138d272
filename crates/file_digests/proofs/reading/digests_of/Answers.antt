use Rattle.std.proofs.Common.{◌≡◌, ◌∙◌, ◌∷◌, ◌+◌, [], List, Option, Ok, Err, ap, arith, drop, length, refl, subst, sym}
use Rattle.std.proofs.lemmas.List.{append-nil}
use Rattle.std.proofs.lemmas.Option.{slice_get_read}
use Rattle.std.proofs.lemmas.Result.{err_from_is_err_and}
use Rattle.outside_files.specs.Files.{Contents}
use Rattle.service_hashes.specs.declared.digest.FileDigest.{FileDigest}
use Rattle.typed_project.specs.declared.project.FileItem.{FileItem}
use Rattle.file_digests.specs.Digests.{Digested, Given, behind}
use Rattle.file_digests.specs.declared.refusal.DigestRefusal.{DigestRefusal}
use Rattle.file_digests.specs.declared.refusal.DigestRefusal.TheVariants as refusals
use Rattle.file_digests.proofs.Runs.{OneRead, behind_more, behind_none, next_item, none_left, one_on, one_out}
use Rattle.file_digests.proofs.reading.digests_of.Goals as goal

pub loop-item-init : goal.loop-item-init
loop-item-init g c = record {
  ran = λ given k. subst (λ (r : Given). Digested (g.F.Files.told c.args.files.now) c.args.kind c.args.items.now r) (sym (ap (λ (done : List FileDigest). behind done given) c.new-digests.ensures ∙ behind_none given)) k;
  counted = omega arith;
  kept = refl;
  reads = λ well. well;
}

pub returns-in_err-digest-clause-given : goal.returns-in_err-digest-clause-given
returns-in_err-digest-clause-given g c =
    let told = g.F.Files.told c.args.files.now in
    let items = c.args.items.now in
    let l = c.loop-item in
    let item = c.item-item.result in
    let refusal = c.in_err-digest.field-0.0 in
    let p = err_from_is_err_and c.from_residual.result c.from_residual.ensures.1 in
    let next : drop l.item-index items ≡ item ∷ drop (l.item-index + 1) items = next_item items l.item-index item (slice_get_read items (length items) l.item-index item refl (omega arith) c.item-item.is) in
    rw (p.1, p.2) (λ n. l.invariant.ran (Err refusal) (subst (λ (is : List FileItem). Digested told c.args.kind is (Err refusal)) (sym next)
    (one_out told c.args.kind item (drop (l.item-index + 1) items) refusal
    (subst (λ (t : Option Contents). OneRead t c.args.kind item (Err refusal)) l.invariant.kept (c.in_err-digest.ensures.given (λ q. let same : refusal ≡ refusals.Memory = cc q in n (ap (λ (e : DigestRefusal). Err e) same)))))))

pub loop-item-preserved : goal.loop-item-preserved
loop-item-preserved g c =
    let told = g.F.Files.told c.args.files.now in
    let items = c.args.items.now in
    let kind = c.args.kind in
    let l = c.loop-item in
    let item = c.item-item.result in
    let digest = c.in_ok-digest.digest in
    let next : drop l.item-index items ≡ item ∷ drop (l.item-index + 1) items = next_item items l.item-index item (slice_get_read items (length items) l.item-index item refl (omega arith) c.item-item.is) in
    let one = subst (λ (t : Option Contents). OneRead t kind item (Ok digest)) l.invariant.kept (c.in_ok-digest.ensures.given (λ e. cc e)) in
    record {
      ran = λ given k. subst (λ (r : Given). Digested told kind items r) (behind_more l.digests digest given ∙ ap (λ (done : List FileDigest). behind done given) (sym c.in_ok-push.ensures.ok))
          (l.invariant.ran (behind (digest ∷ []) given) (subst (λ (is : List FileItem). Digested told kind is (behind (digest ∷ []) given)) (sym next)
          (one_on told kind item (drop (l.item-index + 1) items) digest one given k)));
      counted = omega (arith, l.invariant.counted, c.in_ok-digest.ensures.counted);
      kept = c.in_ok-digest.ensures.kept ∙ l.invariant.kept;
      reads = λ well. c.in_ok-digest.ensures.reads (l.invariant.reads well);
    }

pub returns-clause-given : goal.returns-clause-given
returns-clause-given g c =
    let told = g.F.Files.told c.args.files.now in
    let l = c.loop-item in
    λ n. subst (λ (done : List FileDigest). Digested told c.args.kind c.args.items.now (Ok done)) (append-nil l.digests)
    (l.invariant.ran (Ok []) (subst (λ (is : List FileItem). Digested told c.args.kind is (Ok [])) (sym (none_left c.args.items.now l.item-index (omega arith))) refl))

pub returns-in_err-digest-clause-reads : goal.returns-in_err-digest-clause-reads
returns-in_err-digest-clause-reads g c =
    let p = err_from_is_err_and c.from_residual.result c.from_residual.ensures.1 in
    rw (p.1, p.2) (λ well. c.in_err-digest.ensures.reads (c.loop-item.invariant.reads well))
