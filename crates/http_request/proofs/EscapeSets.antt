-- The sets of escapes hold what the definitions say.
use Rattle.std.proofs.Common.{◌≡◌, ℕ, Bool, true, false, not, List, [], ◌∷◌, ◌++◌, if◌then◌else◌, refl, sym, ap, ◌∙◌, true≢false}
use Rattle.std.proofs.lemmas.Bool.{agree_below, agree_below_at}
use Rattle.std.proofs.lemmas.List.Elements.{All-head, All-tail}
use Rattle.std.specs.Prelude.{All}
use Rattle.percent_encoding.specs.declared.ascii_set.AsciiSet.{AsciiSet}
use Rattle.percent_encoding.specs.AsciiSet.{should_percent_encode}
use Rattle.percent_encoding.specs.Percent.{encode_byte, percent_encode, percent_encode_byte}
use Rattle.percent_encoding.proofs.PercentLemmas.{IsByte}
use Rattle.http_request.specs.declared.escaping.TheConstants.{PATH_ESCAPES, QUERY_ESCAPES}
use Rattle.http_request.specs.Escapes.{escaped, stays_in_path, stays_in_query}

-- a set escapes exactly the bytes that don't stay
abbrev Agrees : AsciiSet → (ℕ → Bool) → Type 0
Agrees set stays = agree_below (should_percent_encode set) (λ b. not (stays b)) 256 ≡ true

same_byte : (set : AsciiSet) (stays : ℕ → Bool) (b : ℕ) → should_percent_encode set b ≡ not (stays b)
    → encode_byte set b ≡ (if stays b then b ∷ [] else percent_encode_byte b)
same_byte set stays b e = at (should_percent_encode set b) (stays b) e
  where
    at : (v w : Bool) → v ≡ not w → (if v then percent_encode_byte b else b ∷ []) ≡ (if w then b ∷ [] else percent_encode_byte b)
    at true true n = absurd (true≢false n)
    at true false n = refl
    at false true n = refl
    at false false n = absurd (true≢false (sym n))

encodes : (set : AsciiSet) (stays : ℕ → Bool) → Agrees set stays → (text : List ℕ) → All IsByte text → percent_encode set text ≡ escaped stays text
unfolding percent_encode
encodes set stays h [] all = refl
encodes set stays h (b ∷ text) all =
    ap (λ (front : List ℕ). front ++ percent_encode set text)
    (same_byte set stays b (agree_below_at (should_percent_encode set) (λ x. not (stays x)) 256 b h (All-head IsByte b text all)))
    ∙ ap (λ (rest : List ℕ). (if stays b then b ∷ [] else percent_encode_byte b) ++ rest) (encodes set stays h text (All-tail IsByte b text all))

path_agrees : Agrees PATH_ESCAPES stays_in_path
unfolding should_percent_encode
path_agrees = refl

query_agrees : Agrees QUERY_ESCAPES stays_in_query
unfolding should_percent_encode
query_agrees = refl

pub path_encodes : (text : List ℕ) → All IsByte text → percent_encode PATH_ESCAPES text ≡ escaped stays_in_path text
path_encodes text all = encodes PATH_ESCAPES stays_in_path path_agrees text all

pub query_encodes : (text : List ℕ) → All IsByte text → percent_encode QUERY_ESCAPES text ≡ escaped stays_in_query text
query_encodes text all = encodes QUERY_ESCAPES stays_in_query query_agrees text all
