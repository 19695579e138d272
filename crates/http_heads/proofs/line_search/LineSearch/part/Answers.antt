-- The tests are those of the definition, in its order.
use Rattle.std.proofs.Common.{◌≡◌, Bool, true, length, sym, ap, ◌∙◌, arith, true≢false}
use Rattle.http_heads.specs.Searches.{searched_part}
use Rattle.http_heads.proofs.Parts.{part_at, told_part, told_end, told_open, told_over, told_past}
use Rattle.http_heads.proofs.line_search.LineSearch.part.Goals as goal
use Rattle.http_heads.proofs.line_search.LineSearch.part.Goals.{else-found-via-then-found+else-self-room, else-found-via-else-found}

pub returns-then-self-most-clause-exact : goal.returns-then-self-most-clause-exact
returns-then-self-most-clause-exact c =
    sym (
    ap (λ (l : Bool). searched_part l c.args.room c.args.most c.args.bytes.now) (sym c.follow-found.ensures.leading)
    ∙ part_at c.follow-found.result c.follow-found.new.self.leading c.args.bytes.now c.follow-found.new.self.at c.follow-found.new.self.filled
    c.follow-found.new.self.line c.args.room c.args.most c.follow-found.ensures.within c.follow-found.ensures.all c.follow-found.ensures.at
    ∙ told_past c.follow-found.result c.args.room c.args.most c.follow-found.new.self.filled c.follow-found.new.self.at (length c.args.bytes.now) (omega arith))

pub returns-then-self-room-clause-exact : goal.returns-then-self-room-clause-exact
returns-then-self-room-clause-exact c =
    sym (
    ap (λ (l : Bool). searched_part l c.args.room c.args.most c.args.bytes.now) (sym c.follow-found.ensures.leading)
    ∙ part_at c.follow-found.result c.follow-found.new.self.leading c.args.bytes.now c.follow-found.new.self.at c.follow-found.new.self.filled
    c.follow-found.new.self.line c.args.room c.args.most c.follow-found.ensures.within c.follow-found.ensures.all c.follow-found.ensures.at
    ∙ ap (λ (v : Bool). told_part v c.args.room c.args.most c.follow-found.new.self.filled c.follow-found.new.self.at (length c.args.bytes.now)) c.if-found.true
    ∙ told_end c.args.room c.args.most c.follow-found.new.self.filled c.follow-found.new.self.at (length c.args.bytes.now) (omega arith) (omega arith))

pub returns-then-bytes-room-clause-exact : goal.returns-then-bytes-room-clause-exact
returns-then-bytes-room-clause-exact c =
    sym (
    ap (λ (l : Bool). searched_part l c.args.room c.args.most c.args.bytes.now) (sym c.follow-found.ensures.leading)
    ∙ part_at c.follow-found.result c.follow-found.new.self.leading c.args.bytes.now c.follow-found.new.self.at c.follow-found.new.self.filled
    c.follow-found.new.self.line c.args.room c.args.most c.follow-found.ensures.within c.follow-found.ensures.all c.follow-found.ensures.at
    ∙ told_over c.follow-found.result c.args.room c.args.most c.follow-found.new.self.filled c.follow-found.new.self.at (length c.args.bytes.now) (omega arith) (λ (e : c.follow-found.result ≡ true).
    elim c.else-found.branch [
      | else-found-via-then-found+else-self-room w ↦ omega arith
      | else-found-via-else-found w ↦ absurd (true≢false (sym e ∙ w.if-found.false))
    ]) (omega arith))

pub returns-else-bytes-room-clause-exact : goal.returns-else-bytes-room-clause-exact
returns-else-bytes-room-clause-exact c =
    sym (
    ap (λ (l : Bool). searched_part l c.args.room c.args.most c.args.bytes.now) (sym c.follow-found.ensures.leading)
    ∙ part_at c.follow-found.result c.follow-found.new.self.leading c.args.bytes.now c.follow-found.new.self.at c.follow-found.new.self.filled
    c.follow-found.new.self.line c.args.room c.args.most c.follow-found.ensures.within c.follow-found.ensures.all c.follow-found.ensures.at
    ∙ told_open c.follow-found.result c.args.room c.args.most c.follow-found.new.self.filled c.follow-found.new.self.at (length c.args.bytes.now) (omega arith) (λ (e : c.follow-found.result ≡ true).
    elim c.else-found.branch [
      | else-found-via-then-found+else-self-room w ↦ omega arith
      | else-found-via-else-found w ↦ absurd (true≢false (sym e ∙ w.if-found.false))
    ]) (omega arith))
