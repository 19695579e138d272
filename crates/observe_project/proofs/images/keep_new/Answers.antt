use Rattle.std.proofs.Common.{ℕ, List, refl, sym, ◌∙◌}
use Rattle.tree_base.specs.Entries.{value_at}
use Rattle.observe_project.proofs.Firsts.{known-all, new-all}
use Rattle.observe_project.proofs.images.keep_new.Goals as goal

pub returns-then-was_known : goal.returns-then-was_known
returns-then-was_known c = λ all are knows.
    known-all (λ (t : List ℕ). t) c.args.known.now c.args.images.now.items all c.args.image.now c.args.image.now (value_at c.args.known.now c.args.image.now) tt
    c.put_key.new.known are knows refl refl c.in_ok-was_known.ensures.put (sym c.in_ok-was_known.ensures.was ∙ c.if-was_known.true)

pub returns : goal.returns
returns c = λ all are knows.
    new-all (λ (t : List ℕ). t) c.args.known.now c.args.images.now.items all c.args.image.now c.args.image.now (value_at c.args.known.now c.args.image.now) tt
    c.put_key.new.known c.push.new.self.items c.in_ok-copy.copy are knows refl refl c.in_ok-was_known.ensures.put
    (sym c.in_ok-was_known.ensures.was ∙ c.if-was_known.false) c.in_ok-copy.ensures c.in_ok-push.ensures.items
