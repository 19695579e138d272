-- The filter is put as a query's value is.
use Rattle.std.proofs.Common.{◌≡◌, ◌++◌, ℕ, List, OnOk, codes, subst}
use Rattle.std.specs.String.{string_bytes}
use Rattle.http_request.specs.Escapes.{escaped, stays_in_query}
use Rattle.http_request.specs.Events.{project_events}
use Rattle.http_request.proofs.events.push_events_target.Goals as goal

pub returns : goal.returns
returns c =
    let same : c.as_bytes.result.now ≡ project_events c.args.project.now = cc (c.as_bytes.ensures.value, c.in_ok-filter.ensures) in
    subst (λ (value : List ℕ). OnOk c.push_pair.result (string_bytes c.push_pair.new.to ≡ string_bytes c.args.to.now ++ (codes "/v1.43/events?filters=" ++ escaped stays_in_query value)))
    same c.push_pair.ensures
