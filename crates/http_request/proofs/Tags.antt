-- Where the tag of a name stands, by what stands behind a place.
use Rattle.std.proofs.Common.{◌≡◌, ℕ, ◌+◌, ◌-◌, ◌<◌, ◌≤◌, Bool, true, false, not, ◌&&◌, ◌||◌, ◌==◌, if◌then◌else◌, List, [], ◌∷◌, ◌++◌, length, take, drop, get_or, Option, Some, None, refl, sym, ap, ◌∙◌, arith}
use Rattle.std.proofs.lemmas.List.{drop_more, length-take-le, take-append-drop}
use Rattle.std.specs.Option.{option_map, option_or}
use Rattle.std.specs.List.{list_any}
use Rattle.http_request.specs.Images.{colon, slash, tag_place}

-- whether a / is among the bytes
abbrev pub has_slash : List ℕ → Bool
has_slash name = list_any (λ c. c == slash) name

abbrev nowhere : Option ℕ
nowhere = None

abbrev or_here : ℕ → Bool → Option ℕ → Option ℕ
or_here b slashed behind = option_or (option_map (λ n. n + 1) behind) (if b == colon && not slashed then Some 0 else None)

barred : (b : ℕ) → or_here b true nowhere ≡ nowhere
barred b = at (b == colon)
  where
    at : (v : Bool) → (if v && not true then Some 0 else nowhere) ≡ nowhere
    at true = refl
    at false = refl

either : (v w : Bool) → w ≡ true → (v || w) ≡ true
either true w h = refl
either false w h = h

-- before bytes with a / and no tag there is no tag
no_tag : (front rest : List ℕ) → has_slash rest ≡ true → tag_place rest ≡ nowhere
    → (has_slash (front ++ rest) ≡ true) × (tag_place (front ++ rest) ≡ nowhere)
no_tag [] rest s e = (s, e)
no_tag (b ∷ front) rest s e =
    let more = no_tag front rest s e in (
      either (b == slash) (has_slash (front ++ rest)) more.0,
      ap (λ (o : Option ℕ). or_here b (has_slash (front ++ rest)) o) more.1
          ∙ ap (λ (v : Bool). or_here b v nowhere) more.0 ∙ barred b,
    )

-- a tag behind other bytes stands so many places further
tag_further : (front rest : List ℕ) (n : ℕ) → tag_place rest ≡ Some n → tag_place (front ++ rest) ≡ Some (length front + n)
tag_further [] rest n e = e ∙ ap Some (omega arith)
tag_further (b ∷ front) rest n e =
    ap (λ (o : Option ℕ). or_here b (has_slash (front ++ rest)) o) (tag_further front rest n e)
    ∙ ap Some (omega arith)

-- a name by one of its bytes and what stands behind it
split : (name : List ℕ) (at : ℕ) → 0 < at → at ≤ length name → name ≡ take (at - 1) name ++ get_or name (at - 1) 0 ∷ drop at name
split name at some within =
    let more : drop (at - 1) name ≡ get_or name (at - 1) 0 ∷ drop (at - 1 + 1) name = drop_more name (at - 1) 0 (omega arith) in
    let place : at - 1 + 1 ≡ at = omega arith in
    sym (take-append-drop (at - 1) name) ∙ ap (λ (t : List ℕ). take (at - 1) name ++ t) (more ∙ ap (λ (n : ℕ). get_or name (at - 1) 0 ∷ drop n name) place)

-- a / behind which no tag stands
pub at_slash : (name : List ℕ) (at : ℕ) → 0 < at → at ≤ length name → get_or name (at - 1) 0 ≡ slash → tag_place (drop at name) ≡ nowhere
    → nowhere ≡ tag_place name
at_slash name at some within here none =
    let whole : name ≡ take (at - 1) name ++ slash ∷ drop at name = split name at some within ∙ ap (λ (b : ℕ). take (at - 1) name ++ b ∷ drop at name) here in
    let found = no_tag (take (at - 1) name) (slash ∷ drop at name) refl
    (ap (λ (o : Option ℕ). or_here slash (has_slash (drop at name)) o) none) in
    sym (ap tag_place whole ∙ found.1)

-- a : behind which neither a tag nor a / stands
pub at_colon : (name : List ℕ) (at : ℕ) → 0 < at → at ≤ length name → get_or name (at - 1) 0 ≡ colon → has_slash (drop at name) ≡ false
    → tag_place (drop at name) ≡ nowhere → Some (at - 1) ≡ tag_place name
at_colon name at some within here plain none =
    let whole : name ≡ take (at - 1) name ++ colon ∷ drop at name = split name at some within ∙ ap (λ (b : ℕ). take (at - 1) name ++ b ∷ drop at name) here in
    let first : tag_place (colon ∷ drop at name) ≡ Some 0 =
    ap (λ (o : Option ℕ). or_here colon (has_slash (drop at name)) o) none
    ∙ ap (λ (v : Bool). or_here colon v nowhere) plain in
    let long : length (take (at - 1) name) ≡ at - 1 = length-take-le (at - 1) name (omega arith) in
    sym (ap tag_place whole ∙ tag_further (take (at - 1) name) (colon ∷ drop at name) 0 first ∙ ap Some (omega (arith, long)))
