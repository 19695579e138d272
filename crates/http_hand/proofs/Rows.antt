-- The reply that a response gives to a request is a reply of that request.
use Rattle.std.proofs.Common.{◌≡◌, ℕ, Bool, true, false, List, [], ◌∷◌, Option, Some, None, subst}
use Rattle.std.specs.Prelude.{codes, filter, filter_map, if◌then◌else◌, not, option_map, ◌==◌}
use Rattle.serde_json.specs.Find.{get}
use Rattle.engine_types.specs.declared.Reply.{Reply}
use Rattle.engine_types.specs.declared.Request.{Request}
use Rattle.outside_api.specs.Rows.{IsOfRow}
use Rattle.response_rules.specs.Json.{given, json_of, of_each, rows, text_at}
use Rattle.response_rules.specs.Lines.{lines}
use Rattle.response_rules.specs.Replies.{container_of, done_or_already, good_at, is_blank, message_in, network_of, object_on, pulled, refused, reply_of, report_in, volume_names}

-- what holds of a reply holds of the one that it is
one : (Fits : Reply → Type 0) (found reply : Reply) → Fits found → Some found ≡ Some reply → Fits reply
one Fits found reply fits e = let same : found ≡ reply = cc e in subst Fits same fits

-- a reply that is made of what a body has
mapped : {X : Type 0} (Fits : Reply → Type 0) (make : X → Reply) (read : Option X) → ((x : X) → Fits (make x)) → (reply : Reply) → option_map make read ≡ Some reply → Fits reply
mapped Fits make None fits reply e = absurd (cc e)
mapped Fits make (Some x) fits reply e = one Fits (make x) reply (fits x) e

module _ (Fits : Reply → Type 0) (refusals : (status : ℕ) (message : List ℕ) → Fits (Reply.Refused status message)) (status : ℕ) (body : List ℕ) (reply : Reply) where
  -- the reply at the one good status, or a refusal
  good_fits : (good : ℕ) (read : Option Reply) → ((found : Reply) → read ≡ Some found → Fits found) → good_at good read status body ≡ Some reply → Fits reply
  good_fits good read fits = at (status == good)
    where
      at : (b : Bool) → (if b then read else refused status body) ≡ Some reply → Fits reply
      at true e = fits reply e
      at false e = one Fits (Reply.Refused status (message_in body)) reply (refusals status (message_in body)) e

  -- the same of a start and a stop, which have two good ones
  done_fits : Fits Reply.Done → Fits Reply.Already → done_or_already status body ≡ Some reply → Fits reply
  done_fits done already = at (status == 304)
    where
      at : (b : Bool) → (if b then Some Reply.Already else good_at 204 (Some Reply.Done) status body) ≡ Some reply → Fits reply
      at true e = one Fits Reply.Already reply already e
      at false e = good_fits 204 (Some Reply.Done) (λ found same. one Fits Reply.Done found done same) e

-- the reply of a pull
pulled_fits : (name : List ℕ) (messages : List (List ℕ)) → IsOfRow (Request.Pull name) (pulled messages)
pulled_fits name [] = tt
pulled_fits name (message ∷ more) = tt

pub reply_fits : (request : Request) (status : ℕ) (body : List ℕ) (reply : Reply) → reply_of request status body ≡ Some reply → IsOfRow request reply
reply_fits (Request.ListContainers project) status body reply =
    good_fits (λ r. IsOfRow (Request.ListContainers project) r) (λ s m. tt) status body reply 200 (option_map Reply.Containers (given (json_of body) (rows container_of))) (mapped (λ r. IsOfRow (Request.ListContainers project) r) Reply.Containers (given (json_of body) (rows container_of)) (λ x. tt))
reply_fits (Request.Inspect id) status body reply =
    good_fits (λ r. IsOfRow (Request.Inspect id) r) (λ s m. tt) status body reply 200 (option_map Reply.State (given (given (json_of body) (get (codes "State"))) report_in)) (mapped (λ r. IsOfRow (Request.Inspect id) r) Reply.State (given (given (json_of body) (get (codes "State"))) report_in) (λ x. tt))
reply_fits (Request.Logs id) status body reply =
    good_fits (λ r. IsOfRow (Request.Logs id) r) (λ s m. tt) status body reply 200 (Some (Reply.Bytes body)) (λ found same. one (λ r. IsOfRow (Request.Logs id) r) (Reply.Bytes body) found tt same)
reply_fits (Request.Create name spec) status body reply =
    good_fits (λ r. IsOfRow (Request.Create name spec) r) (λ s m. tt) status body reply 201 (option_map Reply.Made (given (json_of body) (text_at (codes "Id")))) (mapped (λ r. IsOfRow (Request.Create name spec) r) Reply.Made (given (json_of body) (text_at (codes "Id"))) (λ x. tt))
reply_fits (Request.Start id) status body reply = done_fits (λ r. IsOfRow (Request.Start id) r) (λ s m. tt) status body reply tt tt
reply_fits (Request.Stop id seconds) status body reply = done_fits (λ r. IsOfRow (Request.Stop id seconds) r) (λ s m. tt) status body reply tt tt
reply_fits (Request.Remove id) status body reply =
    good_fits (λ r. IsOfRow (Request.Remove id) r) (λ s m. tt) status body reply 204 (Some Reply.Done) (λ found same. one (λ r. IsOfRow (Request.Remove id) r) Reply.Done found tt same)
reply_fits Request.ListNetworks status body reply =
    good_fits (λ r. IsOfRow Request.ListNetworks r) (λ s m. tt) status body reply 200 (option_map Reply.Networks (given (json_of body) (rows network_of))) (mapped (λ r. IsOfRow Request.ListNetworks r) Reply.Networks (given (json_of body) (rows network_of)) (λ x. tt))
reply_fits (Request.MakeNetwork spec) status body reply =
    good_fits (λ r. IsOfRow (Request.MakeNetwork spec) r) (λ s m. tt) status body reply 201 (option_map Reply.Made (given (json_of body) (text_at (codes "Id")))) (mapped (λ r. IsOfRow (Request.MakeNetwork spec) r) Reply.Made (given (json_of body) (text_at (codes "Id"))) (λ x. tt))
reply_fits (Request.Connect network container aliases) status body reply =
    good_fits (λ r. IsOfRow (Request.Connect network container aliases) r) (λ s m. tt) status body reply 200 (Some Reply.Done) (λ found same. one (λ r. IsOfRow (Request.Connect network container aliases) r) Reply.Done found tt same)
reply_fits (Request.RemoveNetwork id) status body reply =
    good_fits (λ r. IsOfRow (Request.RemoveNetwork id) r) (λ s m. tt) status body reply 204 (Some Reply.Done) (λ found same. one (λ r. IsOfRow (Request.RemoveNetwork id) r) Reply.Done found tt same)
reply_fits Request.ListVolumes status body reply =
    good_fits (λ r. IsOfRow Request.ListVolumes r) (λ s m. tt) status body reply 200 (option_map Reply.Volumes (given (given (json_of body) (get (codes "Volumes"))) volume_names)) (mapped (λ r. IsOfRow Request.ListVolumes r) Reply.Volumes (given (given (json_of body) (get (codes "Volumes"))) volume_names) (λ x. tt))
reply_fits (Request.MakeVolume spec) status body reply =
    good_fits (λ r. IsOfRow (Request.MakeVolume spec) r) (λ s m. tt) status body reply 201 (Some Reply.Done) (λ found same. one (λ r. IsOfRow (Request.MakeVolume spec) r) Reply.Done found tt same)
reply_fits (Request.RemoveVolume name) status body reply =
    good_fits (λ r. IsOfRow (Request.RemoveVolume name) r) (λ s m. tt) status body reply 204 (Some Reply.Done) (λ found same. one (λ r. IsOfRow (Request.RemoveVolume name) r) Reply.Done found tt same)
reply_fits (Request.Image name) status body reply =
    good_fits (λ r. IsOfRow (Request.Image name) r) (λ s m. tt) status body reply 200 (option_map Reply.ImageId (given (json_of body) (text_at (codes "Id")))) (mapped (λ r. IsOfRow (Request.Image name) r) Reply.ImageId (given (json_of body) (text_at (codes "Id"))) (λ x. tt))
reply_fits (Request.Pull name) status body reply =
    good_fits (λ r. IsOfRow (Request.Pull name) r) (λ s m. tt) status body reply 200 (option_map (λ objects. pulled (filter_map (text_at (codes "error")) objects)) (of_each object_on (filter (λ line. not (is_blank line)) (lines body)))) (mapped (λ r. IsOfRow (Request.Pull name) r) (λ objects. pulled (filter_map (text_at (codes "error")) objects)) (of_each object_on (filter (λ line. not (is_blank line)) (lines body))) (λ objects. pulled_fits name (filter_map (text_at (codes "error")) objects)))
