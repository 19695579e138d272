-- The length of a body stands behind its type.
use Rattle.std.proofs.Common.{◌≡◌, ◌∙◌, ℕ, List, ◌++◌, Bor, Option, Some, Result, Ok, Err, append_assoc, ap, sym, codes, decimal, length, option_map, OnOk}
use Rattle.std.specs.String.{string_bytes}
use Rattle.tree_base.specs.declared.memory.Memory.{Memory}
use Rattle.engine_replies.specs.Replies.{body_lines}
use Rattle.engine_replies.proofs.response.push_fields.Goals as goal

behind : (r : Result (Unit {0}) Memory) (new mid old : List ℕ) (body : Option (Bor (List ℕ))) (b : Bor (List ℕ)) → body ≡ Some b
    → mid ≡ old ++ codes "Content-Type: application/json\r\n" → OnOk r (new ≡ mid ++ (codes "Content-Length: " ++ decimal (length b.now) ++ codes "\r\n"))
    → OnOk r (new ≡ old ++ body_lines (option_map (λ x. x.now) body))
behind (Ok done) new mid old body b is front e =
    e ∙ ap (λ (m : List ℕ). m ++ (codes "Content-Length: " ++ decimal (length b.now) ++ codes "\r\n")) front
    ∙ append_assoc old (codes "Content-Type: application/json\r\n") (codes "Content-Length: " ++ decimal (length b.now) ++ codes "\r\n")
    ∙ ap (λ (o : Option (Bor (List ℕ))). old ++ body_lines (option_map (λ x. x.now) o)) (sym is)
behind (Err m) new mid old body b is front e = tt

pub returns-in_ok-push_str-in-Some : goal.returns-in_ok-push_str-in-Some
returns-in_ok-push_str-in-Some c =
    behind c.push_length.result (string_bytes c.push_length.new.to) (string_bytes c.push_str.new.self) (string_bytes c.args.to.now) c.args.body c.in-Some.body c.in-Some.is
    c.in_ok-push_str-in-Some.ensures.bytes c.push_length.ensures
