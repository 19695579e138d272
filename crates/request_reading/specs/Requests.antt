-- The request of HTTP/1.1 that bytes begin with, and the ways in which they are none (RFC 9112, sections 3 to 6).
use Rattle.std.specs.Prelude.{◌≡◌, ℕ, ◌<◌, ◌≤◌, Bool, List, [], ◌∷◌, ◌++◌, length, take, Option, Some, None, codes, if◌then◌else◌, IsTrue}
use Rattle.std.specs.Str.{bytes_eq}
use Rattle.std.specs.Str.Parse.{digits_value}
use Rattle.tree_base.specs.Limits.{most_body_bytes, most_head_bytes, most_header_lines}
use Rattle.engine_types.specs.declared.WireEnd.{WireEnd}
use Rattle.httparse.specs.Grammar.{HasNoRequest, IsRequestHead, RequestHead, print_request}
use Rattle.response_rules.specs.Heads.{is_length, values}
use Rattle.response_rules.specs.Lines.{ends, head_part, passed, unfinished}

-- the length that values say: there is one value, and it is digits alone (RFC 9110, section 8.6)
abbrev pub one_length : List (List ℕ) → Option ℕ
one_length (value ∷ []) = if is_length value then Some (digits_value 10 value) else None
one_length values = None

-- how long the body is that goes with a method and these values of Content-Length: what is posted says its length, and no
-- other request has a body
abbrev pub length_by : List ℕ → List (List ℕ) → Option ℕ
length_by method lengths = if bytes_eq method (codes "POST") then one_length lengths else Some 0

-- how long the body of a request is by its head
abbrev pub body_length : RequestHead → Option ℕ
body_length head = length_by head.method (values (codes "content-length") head.fields)

-- the bytes begin with a head of the grammar, within the limits, and then come the others
pub record BeginsWithHead (read : List ℕ) (head : RequestHead) (rest : List ℕ) : Type 0 where
  pub is_head : IsRequestHead head
  pub reads : read ≡ print_request head ++ rest
  pub few : length head.fields ≤ most_header_lines
  pub within : length (print_request head) ≤ most_head_bytes

-- the bytes begin with a whole request of this method, this target and this body
pub record IsRequest (read method target body : List ℕ) : Type 0 where
  pub head : RequestHead
  pub rest : List ℕ
  pub size : ℕ
  pub begins : BeginsWithHead read head rest
  pub has_method : method ≡ head.method
  pub has_target : target ≡ head.target
  pub has_length : body_length head ≡ Some size
  pub small : size ≤ most_body_bytes
  pub whole : size ≤ length rest
  pub has_body : body ≡ take size rest

-- the bytes that were read, and whether the connection ended then, are no request, in the way that the cause names
pub data Breaks : List ℕ → Bool → WireEnd → Type 0 where
  -- the connection ended before the head's empty line
  no_head : (read : List ℕ) (ended : Bool) → head_part 0 read ≡ unfinished → IsTrue ended
      → Breaks read ended WireEnd.Ended
  -- the head passes a limit
  long_head : (read : List ℕ) (ended : Bool) → head_part 0 read ≡ passed
      → Breaks read ended WireEnd.TooLarge
  -- up to its empty line, the head isn't one of the grammar
  bad_head : (read : List ℕ) (ended : Bool) (n : ℕ) → head_part 0 read ≡ ends n
      → HasNoRequest (take n read) → Breaks read ended (WireEnd.Malformed 0)
  -- what is posted says no length, or not one alone
  no_length : (read rest : List ℕ) (ended : Bool) (head : RequestHead) → BeginsWithHead read head rest
      → body_length head ≡ None → Breaks read ended (WireEnd.Malformed 0)
  -- the body passes the limit
  long_body : (read rest : List ℕ) (ended : Bool) (head : RequestHead) (size : ℕ)
      → BeginsWithHead read head rest → body_length head ≡ Some size → most_body_bytes < size
      → Breaks read ended WireEnd.TooLarge
  -- the connection ended inside the body
  cut_body : (read rest : List ℕ) (ended : Bool) (head : RequestHead) (size : ℕ)
      → BeginsWithHead read head rest → body_length head ≡ Some size → size ≤ most_body_bytes
      → length rest < size → IsTrue ended → Breaks read ended WireEnd.Ended
