use Rattle.std.proofs.Common.{arith, sym}
use Rattle.service_bases.proofs.known.over.Goals as goal

pub returns-in-Ok : goal.returns-in-Ok
returns-in-Ok c =
    let room = c.if-length-len.false in
    record {
      laid = sym (c.in-Ok.ensures.given (λ q. cc));
      length_is = omega arith;
      within = omega (arith, room, c.len.ensures.len);
    }
