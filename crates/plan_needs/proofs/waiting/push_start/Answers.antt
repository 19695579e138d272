use Rattle.std.proofs.Common.{◌≡◌, ◌+◌, ◌==◌, ◌&&◌, ℕ, Bool, true, false, Option, Some, None, get_or, if◌then◌else◌, sym, ap, ◌∙◌}
use Rattle.std.specs.Option.{option_map_or}
use Rattle.ledger_rows.specs.Counts.{counted}
use Rattle.plan_needs.specs.Waits.{is_wanted}
use Rattle.plan_needs.proofs.Counting.{counted_last}
use Rattle.plan_needs.proofs.waiting.push_start.Goals as goal

pub returns-in_ok-push : goal.returns-in_ok-push
returns-in_ok-push c =
    let g : get_or c.args.starts.now c.args.need.now.slot None ≡ Some c.in-Some.start = sym c.start_at.ensures ∙ c.in-Some.is in
    let w : is_wanted c.args.wait c.args.need.now ≡ true = sym c.is_wanted.ensures ∙ c.if-is_wanted.true in
    record {
      ok = λ x. ap (counted (λ b. b == x)) c.in_ok-push.ensures.ok ∙ counted_last (λ b. b == x) c.args.list.now c.in-Some.start
          ∙ ap (λ (t : Bool). counted (λ b. b == x) c.args.list.now + (if t then 1 else 0))
          (sym (ap (λ (t : Bool). t && option_map_or (λ b. b == x) (get_or c.args.starts.now c.args.need.now.slot None) false) w ∙ ap (λ (o : Option ℕ). option_map_or (λ b. b == x) o false) g));
    }
