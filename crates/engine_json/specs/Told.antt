-- What the replies of the Docker Engine API v1.43 have in common: their good statuses, and what a body of JSON tells.
use Rattle.std.specs.Prelude.{ℕ, Bool, true, false, List, [], ◌∷◌, Option, Some, None, option_map, codes, if◌then◌else◌}
use Rattle.engine_types.specs.declared.Reply.{Reply}
use Rattle.engine_types.specs.declared.Request.{Request}
use Rattle.response_rules.specs.Json.{given, rows, text_at}
use Rattle.response_rules.specs.Replies.{container_of, is_blank, network_of, object_on, report_in, volume_names}
use Rattle.serde_json.specs.Data.{Data}
use Rattle.serde_json.specs.Find.{get}

-- the status at which a request was done
abbrev pub good_status : Request → ℕ
good_status (Request.Create name spec) = 201
good_status (Request.MakeNetwork spec) = 201
good_status (Request.MakeVolume spec) = 201
good_status (Request.Start id) = 204
good_status (Request.Stop id seconds) = 204
good_status (Request.Remove id) = 204
good_status (Request.RemoveNetwork id) = 204
good_status (Request.RemoveVolume name) = 204
good_status request = 200

-- a start or a stop, of which 304 says that it was done before
abbrev pub may_be_done : Request → Bool
may_be_done (Request.Start id) = true
may_be_done (Request.Stop id seconds) = true
may_be_done request = false

-- what JSON tells of a request whose reply it is
abbrev pub told_by : Request → Data → Option Reply
told_by (Request.ListContainers project) d = option_map Reply.Containers (rows container_of d)
told_by Request.ListNetworks d = option_map Reply.Networks (rows network_of d)
told_by Request.ListVolumes d =
    option_map Reply.Volumes (given (get (codes "Volumes") d) volume_names)
told_by (Request.Inspect id) d =
    option_map Reply.State (given (get (codes "State") d) report_in)
told_by (Request.Image name) d = option_map Reply.ImageId (text_at (codes "Id") d)
told_by request d = option_map Reply.Made (text_at (codes "Id") d)

-- the first of two messages
abbrev pub first_of : Option (List ℕ) → Option (List ℕ) → Option (List ℕ)
first_of None later = later
first_of (Some message) later = Some message

-- the failure of a pull behind a line of its stream; None where the line is neither blank nor an
-- object
abbrev pub failure_after : Option (List ℕ) → List ℕ → Option (Option (List ℕ))
failure_after failed line =
    if is_blank line then Some failed
    else option_map (λ d. first_of failed (text_at (codes "error") d)) (object_on line)

-- the same behind lines
abbrev pub failure_behind : Option (List ℕ) → List (List ℕ) → Option (Option (List ℕ))
failure_behind failed [] = Some failed
failure_behind failed (line ∷ more) =
    given (failure_after failed line) (λ known. failure_behind known more)

-- the reply to a pull, from its failure
abbrev pub pulled_by : Option (List ℕ) → Reply
pulled_by None = Reply.Pulled
pulled_by (Some message) = Reply.PullFailed message
