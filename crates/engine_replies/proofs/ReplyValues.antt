-- The value of each reply has no float and nests five levels deep at most.
use Rattle.std.proofs.Common.{◌≡◌, ◌∙◌, ℕ, suc, false, List, Option, Some, Result, Ok, Err, refl, sym, ap, subst}
use Rattle.std.specs.Option.{option_map}
use Rattle.std.specs.Prelude.{[], ◌∷◌, IfOk, codes}
use Rattle.serde_json.specs.Data.{Data, string}
use Rattle.serde_json.specs.Written.{compact_text, has_float}
use Rattle.engine_types.specs.declared.Listed.{Listed}
use Rattle.engine_types.specs.declared.NetRow.{NetRow}
use Rattle.engine_types.specs.declared.Reply.{Reply}
use Rattle.engine_types.specs.declared.Report.{Report}
use Rattle.engine_types.specs.declared.Request.{Request}
use Rattle.tree_base.specs.declared.memory.Memory.{Memory}
use Rattle.engine_bodies.specs.Json.{array_of, set_of}
use Rattle.engine_replies.specs.Replies.{body_of, bytes_of, response_with, status_of}
use Rattle.engine_replies.specs.Values.{health_word, listed_members, listed_value, network_members, network_value, object_with, report_members, report_value, state_word, value_of, volume_value}
use Rattle.engine_replies.proofs.Plain.{IsPlain, PlainIfAny, array_plain, integer_plain, object_plain, pairs_plain, set_plain, string_plain, texts_plain}

one_plain : (n : ℕ) (name : List ℕ) (d : Data) → IsPlain n d → IsPlain (suc n) (object_with name d)
one_plain n name d p = object_plain n ((name, Some d) ∷ []) (p, tt)

listed_plain : (row : Listed) → IsPlain 4 (listed_value row)
listed_plain row =
    object_plain 3 (listed_members row) (
      string_plain 3 row.id,
      (
        string_plain 3 row.image_id,
        (
          pairs_plain 2 row.labels,
          (
            texts_plain 2 ((47 ∷ row.name) ∷ []),
            (one_plain 2 (codes "Networks") (set_of row.networks) (set_plain 0 row.networks), (string_plain 3 (state_word row.state), tt)),
          ),
        ),
      ),
    )

report_plain : (report : Report) → IsPlain 4 (report_value report)
report_plain report =
    object_plain 3 (report_members report) (
      integer_plain 3 report.exit_code,
      (
        one_plain 2 (codes "Status") (string (health_word report.health)) (string_plain 2 (health_word report.health)),
        (string_plain 3 (state_word report.state), tt),
      ),
    )

network_plain : (row : NetRow) → IsPlain 4 (network_value row)
network_plain row = object_plain 3 (network_members row) (string_plain 3 row.id, (pairs_plain 2 row.labels, (string_plain 3 row.name, tt)))

volume_plain : (name : List ℕ) → IsPlain 3 (volume_value name)
volume_plain name = one_plain 2 (codes "Name") (string name) (string_plain 2 name)

-- the value of a reply
pub reply_plain : (reply : Reply) → PlainIfAny 5 (value_of reply)
reply_plain (Reply.Containers rows) = array_plain 4 listed_value listed_plain rows
reply_plain (Reply.State report) = one_plain 4 (codes "State") (report_value report) (report_plain report)
reply_plain (Reply.Bytes bytes) = tt
reply_plain (Reply.Made id) = one_plain 4 (codes "Id") (string id) (string_plain 4 id)
reply_plain Reply.Done = tt
reply_plain Reply.Already = tt
reply_plain (Reply.Networks rows) = array_plain 4 network_value network_plain rows
reply_plain (Reply.Volumes names) = one_plain 4 (codes "Volumes") (array_of volume_value names) (array_plain 3 volume_value volume_plain names)
reply_plain (Reply.ImageId id) = one_plain 4 (codes "Id") (string id) (string_plain 4 id)
reply_plain Reply.Pulled = tt
reply_plain (Reply.PullFailed message) = one_plain 4 (codes "error") (string message) (string_plain 4 message)
reply_plain (Reply.Refused status message) = one_plain 4 (codes "message") (string message) (string_plain 4 message)

value_plain : (reply : Reply) (d : Data) → Some d ≡ value_of reply → IsPlain 5 d
value_plain reply d is = subst (λ (v : Option Data). PlainIfAny 5 v) (sym is) (reply_plain reply)

-- the text that is written for it is its JSON
pub text_is : (reply : Reply) (d : Data) (text : List ℕ) → Some d ≡ value_of reply → (has_float d ≡ false → text ≡ compact_text d) → Some text ≡ option_map compact_text (value_of reply)
text_is reply d text is written = ap Some (written (value_plain reply d is).no_float) ∙ ap (option_map compact_text) is

-- but for bytes, the body is that text
body_is : (reply : Reply) → ((bytes : List ℕ) → reply ≡ Reply.Bytes bytes → ⊥) → body_of reply ≡ option_map compact_text (value_of reply)
body_is (Reply.Bytes bytes) other = absurd (other bytes refl)
body_is (Reply.Containers rows) other = refl
body_is (Reply.State report) other = refl
body_is (Reply.Made id) other = refl
body_is Reply.Done other = refl
body_is Reply.Already other = refl
body_is (Reply.Networks rows) other = refl
body_is (Reply.Volumes names) other = refl
body_is (Reply.ImageId id) other = refl
body_is Reply.Pulled other = refl
body_is (Reply.PullFailed message) other = refl
body_is (Reply.Refused status message) other = refl

-- so the bytes of a reply are those of a response with it
pub bytes_are : (request : Option Request) (reply : Reply) (status : ℕ) (r : Result (List ℕ) Memory) → ((bytes : List ℕ) → reply ≡ Reply.Bytes bytes → ⊥) → status ≡ status_of request reply
    → IfOk r (λ bytes. bytes ≡ response_with status (option_map compact_text (value_of reply))) → IfOk r (λ bytes. bytes ≡ bytes_of request reply)
bytes_are request reply status (Ok bytes) other s e = e ∙ (λ i. response_with (s i) (sym (body_is reply other) i))
bytes_are request reply status (Err m) other s e = tt
