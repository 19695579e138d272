-- The stream is open, or its head says otherwise.
use Rattle.std.proofs.Common.{◌≡◌, ◌∙◌, Err, ne_eqb, rules, sym}
use Rattle.http_response.specs.declared.ResponseEnd.{ResponseEnd}
use Rattle.wait_run.proofs.Opening.{opens_badly, opens_broken, opens_short, opens_well}
use Rattle.wait_run.proofs.stream.open.Goals as goal

pub returns-then-status-eq200-clause-opens : goal.returns-then-status-eq200-clause-opens
returns-then-status-eq200-clause-opens g c = opens_well _ _ _ _ c.in-Ok.body c.in-Ok.ensures.opens (sym c.status-status.ensures ∙ c.if-status-eq200.true)

pub returns-else-status-eq200-clause-opens : goal.returns-else-status-eq200-clause-opens
returns-else-status-eq200-clause-opens g c =
    opens_badly _ _ _ _ c.in-Ok.body c.status-status.result c.in-Ok.ensures.opens (sym c.status-status.ensures) (ne_eqb c.status-status.result 200 c.if-status-eq200.false)

pub returns-in-Err-Wire-clause-opens : goal.returns-in-Err-Wire-clause-opens
returns-in-Err-Wire-clause-opens g c =
    let is : c.open_response.result ≡ Err (ResponseEnd.Wire c.in-Err-Wire.cause) = first_of (cc, search rules) in
    opens_broken _ _ _ _ c.in-Err-Wire.cause c.open_response.result c.open_response.ensures.opens is

pub returns-in-Err-Memory-clause-opens : goal.returns-in-Err-Memory-clause-opens
returns-in-Err-Memory-clause-opens g c = opens_short _ _ _ _ c.open_response.result c.open_response.ensures.opens
