use Rattle.std.proofs.Common.{refl, sym, ◌∙◌}
use Rattle.tree_base.specs.Entries.{value_at}
use Rattle.observe_project.proofs.Firsts.{known-all, new-all}
use Rattle.engine_types.specs.declared.Listed.{Listed}
use Rattle.observe_project.proofs.listing.keep_new.Goals as goal

pub returns-then-was_known : goal.returns-then-was_known
returns-then-was_known c = λ all are knows.
    known-all (λ (r : Listed). r.id) c.args.ids.now c.args.distinct.now all c.args.row.now c.args.row.now.id (value_at c.args.ids.now c.args.row.now.id) tt
    c.put_key.new.known are knows refl refl c.in_ok-was_known.ensures.put (sym c.in_ok-was_known.ensures.was ∙ c.if-was_known.true)

pub returns : goal.returns
returns c = λ all are knows.
    new-all (λ (r : Listed). r.id) c.args.ids.now c.args.distinct.now all c.args.row.now c.args.row.now.id (value_at c.args.ids.now c.args.row.now.id) tt
    c.put_key.new.known c.push.new.self c.in_ok-copy.copy are knows refl refl c.in_ok-was_known.ensures.put
    (sym c.in_ok-was_known.ensures.was ∙ c.if-was_known.false) c.in_ok-copy.ensures c.in_ok-push.ensures.ok
