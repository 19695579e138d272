use Rattle.std.proofs.Common.{◌≡◌, ◌<◌, ◌≤◌, ◌==◌, ◌+◌, ◌&&◌, not, Bool, true, false, ℕ, List, Option, Some, None, length, set, slice_get, refl, arith, sym, ap, ◌∙◌, subst}
use Rattle.std.proofs.lemmas.Grind.{common_steps}
use Rattle.std.specs.Prelude.{is_some}
use Rattle.ledger_rows.specs.ActionRows.{lack_at}
use Rattle.ledger_rows.specs.Counts.{counted}
use Rattle.ledger_rows.specs.Rows.{Blocks, CarriesOn, was_blocked}
use Rattle.ledger_rows.proofs.Carrying.{carries, kept, less_work, row_read, still_losing}
use Rattle.ledger_rows.proofs.Freshening.{and_true, carried_before}
use Rattle.ledger_rows.proofs.Losing.{all_carried}
use Rattle.ledger_rows.proofs.blocking.lose.Goals as goal

pub bounds-freed-at : goal.bounds-freed-at
bounds-freed-at g c = omega (arith, c.in-Some.ensures.found.0, c.requires.0.freed_size, c.loop-action.invariant.losing.pending_size)

pub release-requires-clause-there : goal.release-requires-clause-there
release-requires-clause-there g c =
    let l : c.in-Some.action < length c.args.freed.now = omega (arith, c.in-Some.ensures.found.0, c.requires.0.freed_size, c.loop-action.invariant.losing.pending_size) in
    let e = c.as_slice.ensures ∙ row_read c.args.freed.now c.in-Some.action c.index-freed-at.result l c.index-freed-at.is in
    λ i a h. let k = c.requires.0.freed_there c.in-Some.action i a (ap (λ (xs : List ℕ). slice_get xs i) (sym e) ∙ h) in omega (arith, k, c.loop-action.invariant.losing.size)

pub release-requires-clause-kept : goal.release-requires-clause-kept
release-requires-clause-kept g c =
    let l : c.in-Some.action < length c.args.freed.now = omega (arith, c.in-Some.ensures.found.0, c.requires.0.freed_size, c.loop-action.invariant.losing.pending_size) in
    let e = c.as_slice.ensures ∙ row_read c.args.freed.now c.in-Some.action c.index-freed-at.result l c.index-freed-at.is in
    λ a. subst (λ (xs : List ℕ). counted (λ b. b == a) xs ≤ lack_at c.loop-action.rows a) (sym e)
    (kept g.ground.setup g.ground.facts g.ground.journal c.args.stopped.now c.args.freed.now c.requires.0 c.requires.1.0 c.loop-action.rows c.loop-action.pending
    c.loop-action.invariant.losing c.in-Some.action c.in-Some.ensures.found.0 c.in-Some.ensures.found.1 a)

pub block-requires-clause-there : goal.block-requires-clause-there
block-requires-clause-there g c =
    let l : c.in-Some.action < length c.args.stopped.now = omega (arith, c.in-Some.ensures.found.0, c.requires.0.stopped_size, c.loop-action.invariant.losing.pending_size) in
    let e = c.as_slice-in-Some.ensures ∙ row_read c.args.stopped.now c.in-Some.action c.index-stopped-at.result l c.index-stopped-at.is in
    let s : length c.release.new.rows.states ≡ length c.loop-action.rows.states = ap length c.release.ensures.states in
    λ i a h. let k = c.requires.0.stopped_there c.in-Some.action i a (ap (λ (xs : List ℕ). slice_get xs i) (sym e) ∙ h) in omega (arith, k, s, c.loop-action.invariant.losing.size)

pub loop-action-smaller : goal.loop-action-smaller
loop-action-smaller g c =
    let l : c.in-Some.action < length c.args.freed.now = omega (arith, c.in-Some.ensures.found.0, c.requires.0.freed_size, c.loop-action.invariant.losing.pending_size) in
    let m : c.in-Some.action < length c.args.stopped.now = omega (arith, c.in-Some.ensures.found.0, c.requires.0.stopped_size, c.loop-action.invariant.losing.pending_size) in
    let e = c.as_slice.ensures ∙ row_read c.args.freed.now c.in-Some.action c.index-freed-at.result l c.index-freed-at.is in
    let f = c.as_slice-in-Some.ensures ∙ row_read c.args.stopped.now c.in-Some.action c.index-stopped-at.result m c.index-stopped-at.is in
    less_work g.ground.setup g.ground.facts g.ground.journal c.args.stopped.now c.args.freed.now c.requires.0 c.requires.1.0 c.loop-action.rows c.loop-action.pending
    c.loop-action.invariant.losing c.in-Some.action c.in-Some.ensures.found.0 c.in-Some.ensures.found.1
    c.release.new.rows c.block.new.rows c.block.new.pending c.release.ensures.states c.release.ensures.size
    (λ a. ap (λ (xs : List ℕ). lack_at c.release.new.rows a + counted (λ b. b == a) xs) (sym e) ∙ c.release.ensures.lacks a)
    (subst (λ (xs : List ℕ). Blocks xs c.release.new.rows c.block.new.rows (set c.loop-action.pending c.in-Some.action None) c.block.new.pending) f
    (subst (λ (os : List (Option ℕ)). Blocks c.as_slice-in-Some.result.now c.release.new.rows c.block.new.rows os c.block.new.pending) c.put.ensures c.block.ensures))

pub loop-action-preserved : goal.loop-action-preserved
loop-action-preserved g c =
    let l : c.in-Some.action < length c.args.freed.now = omega (arith, c.in-Some.ensures.found.0, c.requires.0.freed_size, c.loop-action.invariant.losing.pending_size) in
    let m : c.in-Some.action < length c.args.stopped.now = omega (arith, c.in-Some.ensures.found.0, c.requires.0.stopped_size, c.loop-action.invariant.losing.pending_size) in
    let e = c.as_slice.ensures ∙ row_read c.args.freed.now c.in-Some.action c.index-freed-at.result l c.index-freed-at.is in
    let f = c.as_slice-in-Some.ensures ∙ row_read c.args.stopped.now c.in-Some.action c.index-stopped-at.result m c.index-stopped-at.is in
    let losing = still_losing g.ground.setup g.ground.facts g.ground.journal c.args.stopped.now c.args.freed.now c.requires.0 c.requires.1.0 c.loop-action.rows c.loop-action.pending
    c.loop-action.invariant.losing c.in-Some.action c.in-Some.ensures.found.0 c.in-Some.ensures.found.1
    c.release.new.rows c.block.new.rows c.block.new.pending c.release.ensures.states c.release.ensures.size
    (λ a. ap (λ (xs : List ℕ). lack_at c.release.new.rows a + counted (λ b. b == a) xs) (sym e) ∙ c.release.ensures.lacks a)
    (subst (λ (xs : List ℕ). Blocks xs c.release.new.rows c.block.new.rows (set c.loop-action.pending c.in-Some.action None) c.block.new.pending) f
    (subst (λ (os : List (Option ℕ)). Blocks c.as_slice-in-Some.result.now c.release.new.rows c.block.new.rows os c.block.new.pending) c.put.ensures c.block.ensures)) in
    let on = carries g.ground.setup g.ground.facts g.ground.journal c.args.stopped.now c.args.freed.now c.requires.0 c.requires.1.0 c.loop-action.rows c.loop-action.pending
    c.loop-action.invariant.losing c.in-Some.action c.in-Some.ensures.found.0 c.in-Some.ensures.found.1
    c.release.new.rows c.block.new.rows c.block.new.pending c.release.ensures.states c.release.ensures.size
    (λ a. ap (λ (xs : List ℕ). lack_at c.release.new.rows a + counted (λ b. b == a) xs) (sym e) ∙ c.release.ensures.lacks a)
    (subst (λ (xs : List ℕ). Blocks xs c.release.new.rows c.block.new.rows (set c.loop-action.pending c.in-Some.action None) c.block.new.pending) f
    (subst (λ (os : List (Option ℕ)). Blocks c.as_slice-in-Some.result.now c.release.new.rows c.block.new.rows os c.block.new.pending) c.put.ensures c.block.ensures)) in
    let within : c.in-Some.action < length c.loop-action.fresh = omega (arith, c.in-Some.ensures.found.0, c.loop-action.invariant.fresh_size, c.loop-action.invariant.losing.pending_size, c.requires.1.1.1, c.requires.1.1.0.size) in
    record {
      losing = losing;
      size = let one = c.loop-action.invariant.size in let two = losing.pending_size in let three = c.loop-action.invariant.losing.pending_size in omega (arith, one, two, three);
      fresh_size = let k : length (set c.loop-action.fresh c.in-Some.action (Some 0)) ≡ length c.loop-action.fresh = grind (arith, common_steps) in ap length c.put-in-Some.ensures ∙ k ∙ c.loop-action.invariant.fresh_size;
      before = λ a. carried_before g.ground.setup c.in-Some.action c.loop-action.rows c.block.new.rows c.loop-action.pending c.block.new.pending c.loop-action.fresh c.put-in-Some.new.self on c.in-Some.ensures.found.1
          c.put-in-Some.ensures within a ∙ c.loop-action.invariant.before a;
    }

pub returns-clause-rows : goal.returns-clause-rows
returns-clause-rows g c = all_carried g.ground.setup g.ground.facts g.ground.journal c.loop-action.rows c.loop-action.pending (λ a. ap (λ (o : Option ℕ). is_some o) (c.in_default.ensures.found a)) c.loop-action.invariant.losing

pub returns-clause-before : goal.returns-clause-before
returns-clause-before g c =
    λ a. sym (ap (λ (o : Option ℕ). was_blocked c.loop-action.rows c.loop-action.fresh a && not (is_some o)) (c.in_default.ensures.found a) ∙ and_true (was_blocked c.loop-action.rows c.loop-action.fresh a)) ∙ c.loop-action.invariant.before a
