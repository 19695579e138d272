use Rattle.std.proofs.Common.{◌≡◌, ◌∙◌, ℕ, ◌∷◌, ◌+◌, ◌-◌, Option, Ok, Err, List, length, drop, refl, sym, subst, arith}
use Rattle.std.proofs.lemmas.Option.{slice_get_read}
use Rattle.std.proofs.lemmas.Result.{err_from_is_err_and}
use Rattle.include_extends.specs.Includes.{item_places, items_included, model, places_included, with_includes}
use Rattle.include_extends.proofs.Included.{add_refused, add_there, is_begun, item_on, item_out, items_refused, items_there, model_refused, no_level, own_refused, own_there, some_level}
use Rattle.loaded_files.proofs.Went.{unread}
use Rattle.include_extends.proofs.includes.+model.Goals as goal
use Rattle.loaded_files.specs.Reads.{Gives, Ran}
use Rattle.loaded_files.proofs.Laid.{next_item, none_left}
use Rattle.outside_files.specs.Files.{Contents}
use Rattle.tree_base.specs.declared.Tree.{Tree, out-Tree}

-- a model: no level is left, what it has without what it includes is refused, or its includes follow
pub model-returns-then-levels-eq0-clause-given : goal.model-returns-then-levels-eq0-clause-given
model-returns-then-levels-eq0-clause-given g t c =
    let a = c.args in
    rw (c.in_ok-copy.ensures, c.first_file.ensures) (no_level (g.F.Files.told a.files.now) a.places.now a.caller.now a.found a.left a.begun.now a.levels c.if-levels-eq0.true)

pub model-returns-in_err-own-clause-given : goal.model-returns-in_err-own-clause-given
model-returns-in_err-own-clause-given g t c =
    let a = c.args in
    let told = g.F.Files.told a.files.now in
    let e = c.in_err-own.field-0.0 in
    let p = err_from_is_err_and c.from_residual-in_err-own.result c.from_residual-in_err-own.ensures.1 in
    rw (p.1, p.2) (some_level told a.places.now a.caller.now a.found a.left a.begun.now a.levels (Err e) c.if-levels-eq0.false
    (own_refused told a.places.now a.caller.now a.found a.left (a.levels - 1) a.begun.now e c.in_err-own.ensures.given))

pub model-returns-clause-given : goal.model-returns-clause-given
model-returns-clause-given g t c =
    let a = c.args in
    let told = g.F.Files.told a.files.now in
    let r = c.with_includes.result in
    let given = subst (λ (s : Option Contents). Gives s r (with_includes (model (a.levels - 1)) a.places.now.directory a.begun.now c.in_ok-own.own)) c.in_ok-own.ensures.kept c.with_includes.ensures.given in
    some_level told a.places.now a.caller.now a.found a.left a.begun.now a.levels r c.if-levels-eq0.false
    (own_there told a.places.now a.caller.now a.found a.left (a.levels - 1) a.begun.now c.in_ok-own.own r c.in_ok-own.ensures.given given)

-- its includes
pub with_includes-returns-in_err-tree-clause-given : goal.with_includes-returns-in_err-tree-clause-given
with_includes-returns-in_err-tree-clause-given g t c =
    let a = c.args in
    let p = err_from_is_err_and c.from_residual-in_err-tree.result c.from_residual-in_err-tree.ensures.1 in
    rw (p.1, p.2) (items_refused (g.F.Files.told a.files.now) (model a.levels) a.directory.now a.begun.now a.own c.in_err-tree.field-0.0
    (rw (c.as_slice.ensures, c.in_ok-items.ensures, c.in_ok-rest.ensures) at c.in_err-tree.ensures.given))

pub with_includes-returns-clause-given : goal.with_includes-returns-clause-given
with_includes-returns-clause-given g t c =
    let a = c.args in
    items_there (g.F.Files.told a.files.now) (model a.levels) a.directory.now a.begun.now a.own c.in_ok-tree.tree c.in_ok-tree.left
    (rw (c.as_slice.ensures, c.in_ok-items.ensures, c.in_ok-rest.ensures) at c.in_ok-tree.ensures.given)

-- one item more
pub items_included-returns-in_err-all-clause-given : goal.items_included-returns-in_err-all-clause-given
items_included-returns-in_err-all-clause-given g t c =
    let a = c.args in
    let told = g.F.Files.told a.files.now in
    let items = a.items.now in
    let l = c.loop-item in
    let item = c.item-item.result in
    let e = c.in_err-all.field-0.0 in
    let p = err_from_is_err_and c.from_residual-in_err-all.result c.from_residual-in_err-all.ensures.1 in
    let next : drop l.item-index items ≡ item ∷ drop (l.item-index + 1) items =
    next_item items l.item-index item (slice_get_read items (length items) l.item-index item refl (omega arith) c.item-item.is) in
    let given = subst (λ (s : Option Contents). Gives {X = Tree × ℕ} s (Err e) (places_included (model a.levels) a.env.now a.begun.now (item_places a.directory.now (out-Tree item)) l.tree l.left)) l.invariant.kept
    (rw c.in_ok-places.ensures at c.in_err-all.ensures.given) in
    rw (p.1, p.2) (λ n. l.invariant.ran (Err e) (subst (λ (is : List Tree). Ran told (items_included (model a.levels) a.directory.now a.env.now a.begun.now is l.tree l.left) (Err e)) (sym next)
    (item_out told (model a.levels) a.directory.now a.env.now a.begun.now item (drop (l.item-index + 1) items) l.tree l.left e (given (λ q. n q)))))

pub items_included-loop-item-preserved : goal.items_included-loop-item-preserved
items_included-loop-item-preserved g t c =
    let a = c.args in
    let told = g.F.Files.told a.files.now in
    let items = a.items.now in
    let l = c.loop-item in
    let item = c.item-item.result in
    let all = c.in_ok-all.all in
    let rest = c.in_ok-all.rest in
    let next : drop l.item-index items ≡ item ∷ drop (l.item-index + 1) items =
    next_item items l.item-index item (slice_get_read items (length items) l.item-index item refl (omega arith) c.item-item.is) in
    let given = subst (λ (s : Option Contents). Gives s (Ok (all, rest)) (places_included (model a.levels) a.env.now a.begun.now (item_places a.directory.now (out-Tree item)) l.tree l.left)) l.invariant.kept
    (rw c.in_ok-places.ensures at c.in_ok-all.ensures.given) in
    record {
      ran = λ r k. l.invariant.ran r (subst (λ (is : List Tree). Ran told (items_included (model a.levels) a.directory.now a.env.now a.begun.now is l.tree l.left) r) (sym next)
          (item_on told (model a.levels) a.directory.now a.env.now a.begun.now item (drop (l.item-index + 1) items) l.tree l.left all rest r given k));
      counted = omega (arith, l.invariant.counted, c.in_ok-all.ensures.counted);
      kept = c.in_ok-all.ensures.kept ∙ l.invariant.kept;
      reads = λ well. c.in_ok-all.ensures.reads (l.invariant.reads well);
    }

pub items_included-returns-clause-given : goal.items_included-returns-clause-given
items_included-returns-clause-given g t c =
    let a = c.args in
    let told = g.F.Files.told a.files.now in
    let l = c.loop-item in
    λ n. l.invariant.ran (Ok (l.tree, l.left))
    (subst (λ (is : List Tree). Ran told (items_included (model a.levels) a.directory.now a.env.now a.begun.now is l.tree l.left) (Ok (l.tree, l.left))) (sym (none_left a.items.now l.item-index (omega arith))) refl)

-- an item's model, and what it declares
pub places_included-returns-in_err-not_begun-clause-given : goal.places_included-returns-in_err-not_begun-clause-given
places_included-returns-in_err-not_begun-clause-given g t c =
    let a = c.args in
    let p = err_from_is_err_and c.from_residual.result c.from_residual.ensures.1 in
    rw (p.1, p.2) (is_begun (g.F.Files.told a.files.now) (model a.levels) a.env.now a.begun.now a.places.now a.tree a.left c.in_err-not_begun.field-0.0 (rw c.as_slice.ensures at c.in_err-not_begun.ensures.given))

pub places_included-returns-in_err-own-clause-given : goal.places_included-returns-in_err-own-clause-given
places_included-returns-in_err-own-clause-given g t c =
    let a = c.args in
    let p = err_from_is_err_and c.from_residual-in_err-own.result c.from_residual-in_err-own.ensures.1 in
    rw (p.1, p.2) (model_refused (g.F.Files.told a.files.now) (model a.levels) a.env.now a.begun.now a.places.now a.tree a.left (rw c.as_slice.ensures at c.in_ok-not_begun.ensures.given) c.in_err-own.field-0.0
    (rw (c.as_slice-3.ensures, c.in_ok-all.ensures, c.as_slice-2.ensures) at c.in_err-own.ensures.given))

pub places_included-returns-in_err-added_to-clause-given : goal.places_included-returns-in_err-added_to-clause-given
places_included-returns-in_err-added_to-clause-given g t c =
    let a = c.args in
    let p = err_from_is_err_and c.from_residual-in_err-added_to.result c.from_residual-in_err-added_to.ensures.1 in
    rw (p.1, p.2) (add_refused (g.F.Files.told a.files.now) (model a.levels) a.env.now a.begun.now a.places.now a.tree a.left (rw c.as_slice.ensures at c.in_ok-not_begun.ensures.given)
    c.in_ok-own.own (rw (c.as_slice-3.ensures, c.in_ok-all.ensures, c.as_slice-2.ensures) at c.in_ok-own.ensures.given) c.in_err-added_to.field-0.0 (rw c.first_file.ensures at c.in_err-added_to.ensures.given))

pub places_included-returns-clause-given : goal.places_included-returns-clause-given
places_included-returns-clause-given g t c =
    let a = c.args in
    add_there (g.F.Files.told a.files.now) (model a.levels) a.env.now a.begun.now a.places.now a.tree a.left (rw c.as_slice.ensures at c.in_ok-not_begun.ensures.given)
    c.in_ok-own.own (rw (c.as_slice-3.ensures, c.in_ok-all.ensures, c.as_slice-2.ensures) at c.in_ok-own.ensures.given) c.in_ok-added_to.field-0 (rw c.first_file.ensures at c.in_ok-added_to.ensures.given)

pub model-returns-in_err-own-clause-reads : goal.model-returns-in_err-own-clause-reads
model-returns-in_err-own-clause-reads g t c =
    let p = err_from_is_err_and c.from_residual-in_err-own.result c.from_residual-in_err-own.ensures.1 in
    rw (p.1, p.2) c.in_err-own.ensures.reads

pub with_includes-returns-in_err-tree-clause-reads : goal.with_includes-returns-in_err-tree-clause-reads
with_includes-returns-in_err-tree-clause-reads g t c =
    let p = err_from_is_err_and c.from_residual-in_err-tree.result c.from_residual-in_err-tree.ensures.1 in
    rw (p.1, p.2) c.in_err-tree.ensures.reads

pub items_included-returns-in_err-all-clause-reads : goal.items_included-returns-in_err-all-clause-reads
items_included-returns-in_err-all-clause-reads g t c =
    let p = err_from_is_err_and c.from_residual-in_err-all.result c.from_residual-in_err-all.ensures.1 in
    rw (p.1, p.2) (λ well. c.in_err-all.ensures.reads (c.loop-item.invariant.reads well))

pub places_included-returns-in_err-not_begun-clause-reads : goal.places_included-returns-in_err-not_begun-clause-reads
places_included-returns-in_err-not_begun-clause-reads g t c =
    let p = err_from_is_err_and c.from_residual.result c.from_residual.ensures.1 in
    rw (p.1, p.2) (λ well. well ∙ sym (unread c.in_err-not_begun.field-0.0 c.in_err-not_begun.ensures.fault))

pub places_included-returns-in_err-own-clause-reads : goal.places_included-returns-in_err-own-clause-reads
places_included-returns-in_err-own-clause-reads g t c =
    let p = err_from_is_err_and c.from_residual-in_err-own.result c.from_residual-in_err-own.ensures.1 in
    rw (p.1, p.2) c.in_err-own.ensures.reads

pub places_included-returns-in_err-added_to-clause-reads : goal.places_included-returns-in_err-added_to-clause-reads
places_included-returns-in_err-added_to-clause-reads g t c =
    let p = err_from_is_err_and c.from_residual-in_err-added_to.result c.from_residual-in_err-added_to.ensures.1 in
    rw (p.1, p.2) (λ well. c.in_ok-own.ensures.reads well ∙ sym (unread c.in_err-added_to.field-0.0 c.in_err-added_to.ensures.fault))
