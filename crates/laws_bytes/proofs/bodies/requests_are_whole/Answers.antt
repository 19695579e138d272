use Rattle.engine_bodies.specs.Requests.{body_of}
use Rattle.laws_bytes.proofs.bodies.requests_are_whole.Goals as goal

pub returns : goal.returns
returns c = λ request fits. c.bytes_are_one_request.ensures request (body_of request) fits
