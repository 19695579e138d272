-- The bytes of a reply are a whole response, and are read as the reply.
use Rattle.std.proofs.Common.{◌≡◌, ◌≤◌, ◌∙◌, ℕ, Bool, true, false, not, ◌==◌, List, [], ◌∷◌, if◌then◌else◌, refl, sym, ap, arith, Option, Some, None, IsUtf8, codes, true≢false}
use Rattle.std.proofs.lemmas.Str.{is_utf8-from_IsUtf8}
use Rattle.std.specs.List.{filter, filter_map}
use Rattle.std.specs.Option.{option_map, unwrap_or}
use Rattle.std.specs.Prelude.{⊤}
use Rattle.serde_json.specs.Data.{Data, Members, string}
use Rattle.serde_json.specs.Find.{as_object, get}
use Rattle.serde_json.specs.Read.{read}
use Rattle.serde_json.specs.Written.{compact_text}
use Rattle.engine_types.specs.declared.Reply.{Reply}
use Rattle.engine_types.specs.declared.Request.{Request}
use Rattle.response_rules.specs.Json.{given, json_of, of_each, rows, text_at}
use Rattle.response_rules.specs.Replies.{container_of, good_at, is_blank, network_of, object_on, pulled, refused, reply_of, report_in, volume_names}
use Rattle.http_request.specs.Requests.{body_bytes}
use Rattle.engine_bodies.specs.Json.{array_of, with_member}
use Rattle.engine_replies.specs.Laws.{IsPlain, IsPlainContainer, IsPlainNetwork, RepliesAreWhole, RepliesReadBack}
use Rattle.engine_replies.specs.Replies.{body_of, is_refusing, may_have, status_of}
use Rattle.engine_replies.specs.Values.{listed_value, network_value, object_with, report_value, value_of, volume_value}
use Rattle.engine_replies.proofs.Kept.{KeptIfAny, reply_kept}
use Rattle.engine_replies.proofs.Listing.{container_back, network_back, report_back, rows_back, volumes_back}
use Rattle.engine_replies.proofs.Plain.{PlainIfAny}
use Rattle.engine_replies.proofs.Pulling.{error_line, one_line}
use Rattle.engine_replies.proofs.ReadBack.{reads_back, text_utf8}
use Rattle.engine_replies.proofs.ReplyValues.{reply_plain}
use Rattle.engine_replies.proofs.Statuses.{refusing, status_is}
use Rattle.engine_replies.proofs.Whole.{whole}

pub replies_are_whole : RepliesAreWhole
replies_are_whole request reply can small = whole (status_of request reply) (body_of reply) (status_is request reply can) small

-- ---- JSON

-- the text of a value is its JSON
abbrev ToldIfAny : Option Data → Type 0
ToldIfAny None = ⊤
ToldIfAny (Some d) = json_of (compact_text d) ≡ Some d

told_by : (value : Option Data) → KeptIfAny value → PlainIfAny 5 value → ToldIfAny value
told_by None k p = tt
told_by (Some d) k p =
    let shallow = p.shallow in
    ap (λ (b : Bool). if b then read (compact_text d) else None) (is_utf8-from_IsUtf8 (compact_text d) (text_utf8 d k)) ∙ reads_back d k (omega (arith, shallow))

told : (reply : Reply) → IsPlain reply → ToldIfAny (value_of reply)
told reply p = told_by (value_of reply) (reply_kept reply p) (reply_plain reply)

-- ---- refusals

other_than : (good status : ℕ) (reply : Option Reply) (body : List ℕ) → (status == good) ≡ false → good_at good reply status body ≡ refused status body
other_than good status reply body e = ap (λ (v : Bool). if v then reply else refused status body) e

module _ (status : ℕ) (body : List ℕ) (a : (status == 200) ≡ false) (b : (status == 201) ≡ false) (c : (status == 204) ≡ false) (d : (status == 304) ≡ false) where
  not_done : (if status == 304 then Some Reply.Already else good_at 204 (Some Reply.Done) status body) ≡ refused status body
  not_done = ap (λ (v : Bool). if v then Some Reply.Already else good_at 204 (Some Reply.Done) status body) d ∙ other_than 204 status (Some Reply.Done) body c

  refused_by : (request : Request) → reply_of request status body ≡ refused status body
  refused_by (Request.ListContainers project) = other_than 200 status (option_map Reply.Containers (given (json_of body) (rows container_of))) body a
  refused_by (Request.Inspect id) = other_than 200 status (option_map Reply.State (given (given (json_of body) (get (codes "State"))) report_in)) body a
  refused_by (Request.Logs id) = other_than 200 status (Some (Reply.Bytes body)) body a
  refused_by (Request.Create name spec) = other_than 201 status (option_map Reply.Made (given (json_of body) (text_at (codes "Id")))) body b
  refused_by (Request.Start id) = not_done
  refused_by (Request.Stop id seconds) = not_done
  refused_by (Request.Remove id) = other_than 204 status (Some Reply.Done) body c
  refused_by Request.ListNetworks = other_than 200 status (option_map Reply.Networks (given (json_of body) (rows network_of))) body a
  refused_by (Request.MakeNetwork spec) = other_than 201 status (option_map Reply.Made (given (json_of body) (text_at (codes "Id")))) body b
  refused_by (Request.Connect network container aliases) = other_than 200 status (Some Reply.Done) body a
  refused_by (Request.RemoveNetwork id) = other_than 204 status (Some Reply.Done) body c
  refused_by Request.ListVolumes = other_than 200 status (option_map Reply.Volumes (given (given (json_of body) (get (codes "Volumes"))) volume_names)) body a
  refused_by (Request.MakeVolume spec) = other_than 201 status (Some Reply.Done) body b
  refused_by (Request.RemoveVolume name) = other_than 204 status (Some Reply.Done) body c
  refused_by (Request.Image name) = other_than 200 status (option_map Reply.ImageId (given (json_of body) (text_at (codes "Id")))) body a
  refused_by (Request.Pull name) = other_than 200 status (Rattle.response_rules.specs.Replies.pull_in body) body a

refusal_back : (request : Request) (status : ℕ) (message : List ℕ) → is_refusing status ≡ true → IsUtf8 message
    → reply_of request status (compact_text (object_with (codes "message") (string message))) ≡ Some (Reply.Refused status message)
unfolding with_member
refusal_back request status message h u =
    let body : List ℕ = compact_text (object_with (codes "message") (string message)) in
    refusing (λ (s : ℕ). reply_of request s body ≡ refused s body)
    (refused_by 400 body refl refl refl refl request) (refused_by 403 body refl refl refl refl request)
    (refused_by 404 body refl refl refl refl request) (refused_by 409 body refl refl refl refl request) status h
    ∙ ap (λ (found : Option Data). Some (Reply.Refused status (unwrap_or (given found (text_at (codes "message"))) []))) (told (Reply.Refused status message) u)

-- ---- a pull that failed

failure_back : (name message : List ℕ) → IsUtf8 message
    → reply_of (Request.Pull name) 200 (compact_text (object_with (codes "error") (string message))) ≡ Some (Reply.PullFailed message)
unfolding with_member
failure_back name message u =
    let body : List ℕ = compact_text (object_with (codes "error") (string message)) in
    ap (λ (ls : List (List ℕ)). option_map (λ (objects : List Data). pulled (filter_map (text_at (codes "error")) objects))
    (of_each object_on (filter (λ line. not (is_blank line)) ls))) (one_line body (error_line message))
    ∙ ap (λ (found : Option Data). option_map (λ (objects : List Data). pulled (filter_map (text_at (codes "error")) objects))
    (given (given found (λ (d : Data). option_map (λ (members : Members). d) (as_object d))) (λ (d : Data). option_map (λ (ds : List Data). d ∷ ds) (Some []))))
    (told (Reply.PullFailed message) u)

-- ---- all

made_back : (id : List ℕ) → IsUtf8 id
    → option_map Reply.Made (given (json_of (compact_text (object_with (codes "Id") (string id)))) (text_at (codes "Id"))) ≡ Some (Reply.Made id)
unfolding with_member
made_back id u = ap (λ (found : Option Data). option_map Reply.Made (given found (text_at (codes "Id")))) (told (Reply.Made id) u)

image_back : (id : List ℕ) → IsUtf8 id
    → option_map Reply.ImageId (given (json_of (compact_text (object_with (codes "Id") (string id)))) (text_at (codes "Id"))) ≡ Some (Reply.ImageId id)
unfolding with_member
image_back id u = ap (λ (found : Option Data). option_map Reply.ImageId (given found (text_at (codes "Id")))) (told (Reply.ImageId id) u)

good_back : (request : Request) (reply : Reply) → may_have request reply ≡ true → IsPlain reply
    → reply_of request (status_of (Some request) reply) (body_bytes (body_of reply)) ≡ Some reply
unfolding with_member
good_back (Request.ListContainers project) (Reply.Containers rows) h p =
    ap (λ (found : Option Data). option_map Reply.Containers (given found (Rattle.response_rules.specs.Json.rows container_of))) (told (Reply.Containers rows) p)
    ∙ ap (option_map Reply.Containers) (rows_back IsPlainContainer container_of listed_value container_back rows p)
good_back (Request.Inspect id) (Reply.State report) h p =
    ap (λ (found : Option Data). option_map Reply.State (given (given found (get (codes "State"))) report_in)) (told (Reply.State report) p)
    ∙ ap (option_map Reply.State) (report_back report p)
good_back (Request.Logs id) (Reply.Bytes bytes) h p = refl
good_back (Request.Create name spec) (Reply.Made id) h p = made_back id p
good_back (Request.Start id) Reply.Done h p = refl
good_back (Request.Start id) Reply.Already h p = refl
good_back (Request.Stop id seconds) Reply.Done h p = refl
good_back (Request.Stop id seconds) Reply.Already h p = refl
good_back (Request.Remove id) Reply.Done h p = refl
good_back Request.ListNetworks (Reply.Networks rows) h p =
    ap (λ (found : Option Data). option_map Reply.Networks (given found (Rattle.response_rules.specs.Json.rows network_of))) (told (Reply.Networks rows) p)
    ∙ ap (option_map Reply.Networks) (rows_back IsPlainNetwork network_of network_value network_back rows p)
good_back (Request.MakeNetwork spec) (Reply.Made id) h p = made_back id p
good_back (Request.Connect network container aliases) Reply.Done h p = refl
good_back (Request.RemoveNetwork id) Reply.Done h p = refl
good_back Request.ListVolumes (Reply.Volumes names) h p =
    ap (λ (found : Option Data). option_map Reply.Volumes (given (given found (get (codes "Volumes"))) volume_names)) (told (Reply.Volumes names) p)
    ∙ ap (option_map Reply.Volumes) (volumes_back IsUtf8 names p)
good_back (Request.MakeVolume spec) Reply.Done h p = refl
good_back (Request.RemoveVolume name) Reply.Done h p = refl
good_back (Request.Image name) (Reply.ImageId id) h p = image_back id p
good_back (Request.Pull name) Reply.Pulled h p = refl
good_back (Request.Pull name) (Reply.PullFailed message) h p = failure_back name message p
good_back request reply h p = absurd (true≢false (sym h))

pub replies_read_back : RepliesReadBack
replies_read_back request (Reply.Refused status message) can p = refusal_back request status message can p
replies_read_back request (Reply.Containers rows) can p = good_back request (Reply.Containers rows) can p
replies_read_back request (Reply.State report) can p = good_back request (Reply.State report) can p
replies_read_back request (Reply.Bytes bytes) can p = good_back request (Reply.Bytes bytes) can p
replies_read_back request (Reply.Made id) can p = good_back request (Reply.Made id) can p
replies_read_back request Reply.Done can p = good_back request Reply.Done can p
replies_read_back request Reply.Already can p = good_back request Reply.Already can p
replies_read_back request (Reply.Networks rows) can p = good_back request (Reply.Networks rows) can p
replies_read_back request (Reply.Volumes names) can p = good_back request (Reply.Volumes names) can p
replies_read_back request (Reply.ImageId id) can p = good_back request (Reply.ImageId id) can p
replies_read_back request Reply.Pulled can p = good_back request Reply.Pulled can p
replies_read_back request (Reply.PullFailed message) can p = good_back request (Reply.PullFailed message) can p
