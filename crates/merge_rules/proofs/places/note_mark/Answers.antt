use Rattle.std.proofs.Common.{◌∙◌, subst, sym, true≢false}
use Rattle.merge_rules.specs.Marks.{IsNoted, StaysNoted}
use Rattle.merge_rules.proofs.EntryPlaces.{put_noted, put_stays, same_stays}
use Rattle.merge_rules.proofs.places.note_mark.Goals as goal

pub returns-in_err-put-clause-stays : goal.returns-in_err-put-clause-stays
returns-in_err-put-clause-stays c = same_stays c.args.firsts.now c.put.new.self c.in_err-put.ensures.err

pub returns-clause-stays : goal.returns-clause-stays
returns-clause-stays c =
    subst (StaysNoted c.args.firsts.now) (sym c.in_ok-put.ensures.ok)
    (put_stays c.args.firsts.now c.args.mark c.args.at (λ noted. true≢false (sym (c.is_noted.ensures.1 noted) ∙ c.if-is_noted.false)))

pub returns-clause-noted : goal.returns-clause-noted
returns-clause-noted c =
    subst (λ firsts. IsNoted firsts c.args.mark c.args.at) (sym c.in_ok-put.ensures.ok) (put_noted c.args.firsts.now c.args.mark c.args.at)
