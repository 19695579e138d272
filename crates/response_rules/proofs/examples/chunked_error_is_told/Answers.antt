-- An object in one chunk, and the last chunk.
use Rattle.std.proofs.Common.{[], ◌∷◌, List, ℕ, refl, inr, codes, lit<, lit≤}
use Rattle.std.proofs.lemmas.List.Elements.{All-nil, All-cons}
use Rattle.std.specs.Char.{encode_utf8}
use Rattle.std.specs.Str.{is_utf8, chars}
use Rattle.serde_json.proofs.OnLiterals.{serde_json_on_literals}
use Rattle.httparse.proofs.OnLiterals.{httparse_on_literals}
use Rattle.httparse.specs.Grammar.{IsField, crlf}
use Rattle.response_rules.specs.Chunks.{Chunk, IsChunk}
use Rattle.response_rules.proofs.Shown.{begins}
use Rattle.response_rules.proofs.Chunked.{found, is_head, line, is_fourteen, is_none}
use Rattle.response_rules.proofs.examples.chunked_error_is_told.Goals as goal

abbrev told : List ℕ
told = codes "{\"error\":\"no\"}"

abbrev sent : List ℕ
sent = codes "e\r\n{\"error\":\"no\"}\r\n0\r\n\r\n"

abbrev one : Chunk
one = record { line = line (codes "e"); bytes = told }

is_one : IsChunk one
unfolding httparse_on_literals
is_one = record { line = is_fourteen; within = lit≤ tt; some = lit< tt; size = refl }

pub returns : goal.returns
unfolding httparse_on_literals serde_json_on_literals is_utf8 chars encode_utf8
returns c = λ name. record {
  status = 200;
  body = told;
  response = record {
    skipped = [];
    head = found;
    rest = sent;
    begins = begins found sent is_head (lit≤ tt) (lit≤ tt);
    final = refl;
    sound = refl;
    has_status = refl;
    has_body = inr (
      refl,
      record {
        chunks = one ∷ [];
        line = line (codes "0");
        tail = codes "0\r\n\r\n";
        rest = codes "\r\n";
        are_chunks = record { each = All-cons IsChunk one [] is_one (All-nil IsChunk); within = lit≤ tt; framed = lit≤ tt };
        reads = refl;
        ends = record { reads = (is_none, refl); within = lit≤ tt };
        no_bytes = refl;
        line_framed = lit≤ tt;
        trailer = record {
          fields = [];
          last = crlf;
          rest = [];
          reads = (All-nil IsField, refl);
          few = lit≤ tt;
          within = lit≤ tt;
          framed_within = lit≤ tt;
        };
        made_of = refl;
      },
    );
  };
  few = refl;
  gives = refl;
}
