-- One byte more is looked at.
use Rattle.std.proofs.Common.{◌≡◌, ◌==◌, ◌+◌, ◌≤◌, ℕ, Bool, false, take, get_or, sym, ◌∙◌, subst, arith, rules}
use Rattle.httparse.specs.Ascii.{line_feed}
use Rattle.http_heads.specs.Searches.{IsAt, IsFollowed}
use Rattle.http_heads.proofs.Following.{one_line_more, step_at}
use Rattle.http_heads.proofs.line_search.LineSearch.follow.Goals as goal

pub loop-found-preserved : goal.loop-found-preserved
loop-found-preserved c =
    let plain : c.loop-found.found ≡ false = search rules in
    let followed : IsFollowed c.loop-found.self.leading (take c.loop-found.self.at c.args.bytes.now) c.loop-found.self.filled c.loop-found.self.line =
    subst (λ (v : Bool). IsAt v c.loop-found.self.leading (take c.loop-found.self.at c.args.bytes.now) c.loop-found.self.filled c.loop-found.self.line)
    plain c.loop-found.invariant.followed in
    let more : c.ends_with-found.new.self.filled ≤ c.loop-found.self.filled + 1 =
    subst (λ (n : ℕ). n ≤ c.loop-found.self.filled + 1) (sym c.ends_with-found.ensures.filled)
    (one_line_more (get_or c.args.bytes.now c.loop-found.self.at 0 == line_feed) c.loop-found.self.line c.loop-found.self.filled) in
    record {
      leading = c.ends_with-found.ensures.leading ∙ c.loop-found.invariant.leading;
      within = omega arith;
      few = omega (arith, more);
      followed =
          step_at c.args.bytes.now c.loop-found.self.at c.loop-found.self.filled c.loop-found.self.leading c.loop-found.self.line
          c.ends_with-found.result c.ends_with-found.new.self.leading c.ends_with-found.new.self.at c.ends_with-found.new.self.filled c.ends_with-found.new.self.line
          (omega arith) followed c.ends_with-found.ensures.ends c.ends_with-found.ensures.leading c.ends_with-found.ensures.at
          c.ends_with-found.ensures.filled c.ends_with-found.ensures.line;
    }
