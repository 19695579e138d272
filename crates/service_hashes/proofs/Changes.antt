-- What the text under the first hash shows of a change of one attribute.
use Rattle.std.proofs.Common.{◌≡◌, ◌∙◌, ◌<◌, ◌≤◌, ℕ, zero, suc, Bool, true, cond, List, [], ◌∷◌, ◌++◌, ap, append_assoc, arith, codes, filter, length, map, refl, sym}
use Rattle.std.specs.List.{zip}
use Rattle.std.specs.Map.{keys_of, values_of}
use Rattle.std.proofs.lemmas.List.{append_cancel_left, append_cancel_right, length-append, map-append}
use Rattle.std.proofs.lemmas.List.Elements.{filter-append}
use Rattle.attribute_types.specs.declared.attribute.Attribute.{Attribute}
use Rattle.project_pages.specs.AttributePages.{attribute_entry, attributes_node, value_node}
use Rattle.project_pages.specs.Puts.{is_hashed}
use Rattle.project_print.specs.Json.{json_of, member}
use Rattle.project_print.specs.Written.{comma, listed_from}
use Rattle.project_print.specs.declared.compact_json.Dollars.{Dollars}
use Rattle.project_print.proofs.Commas.{map_json}
use Rattle.service_hashes.specs.Laws.{AdditionsShow, ChangesShow}
use Rattle.service_hashes.proofs.Strings.{string_tells}

-- an attribute as a member
abbrev shown : Attribute → List ℕ
shown attribute = member (attribute.name, json_of Dollars.Once (value_node attribute.value))

zipped : (xs : List Attribute) → map member (zip (keys_of (map attribute_entry xs)) (map (json_of Dollars.Once) (values_of (map attribute_entry xs)))) ≡ map shown xs
zipped [] = refl
zipped (x ∷ xs) = ap (λ (l : List (List ℕ)). shown x ∷ l) (zipped xs)

abbrev text_of : List (List ℕ) → List ℕ
text_of parts = codes "{" ++ (listed_from 0 parts ++ codes "}")

text_is : (xs : List Attribute) → text_of (map shown xs) ≡ json_of Dollars.Once (attributes_node xs)
text_is xs = ap text_of (sym (zipped xs)) ∙ map_json Dollars.Once (map attribute_entry xs)

inner : (ps qs : List (List ℕ)) → text_of ps ≡ text_of qs → listed_from 0 ps ≡ listed_from 0 qs
inner ps qs e = append_cancel_right (listed_from 0 ps) (listed_from 0 qs) (codes "}") (append_cancel_left (codes "{") _ _ e)

-- parts behind others, whose places begin where those end
split : (at : ℕ) (ps : List (List ℕ)) → (n : ℕ) × ((rs : List (List ℕ)) → listed_from at (ps ++ rs) ≡ listed_from at ps ++ listed_from n rs)
split at [] = (at, λ rs. refl)
split at (p ∷ ps) = let rest = split (suc at) ps in (rest.0, λ rs. ap (λ (l : List ℕ). comma at ++ (p ++ l)) (rest.1 rs) ∙ behind (comma at) p (listed_from (suc at) ps) (listed_from rest.0 rs))
  where
    behind : (a p l r : List ℕ) → a ++ (p ++ (l ++ r)) ≡ (a ++ (p ++ l)) ++ r
    behind a p l r = sym (simp append_assoc)

-- one part for another
part_tells : (ps qs : List (List ℕ)) (p q : List ℕ) → listed_from 0 (ps ++ p ∷ qs) ≡ listed_from 0 (ps ++ q ∷ qs) → p ≡ q
part_tells ps qs p q e =
    let n = (split 0 ps).0 in
    let both = append_cancel_left (listed_from 0 ps) _ _ (sym ((split 0 ps).1 (p ∷ qs)) ∙ e ∙ (split 0 ps).1 (q ∷ qs)) in
    append_cancel_right p q (listed_from (suc n) qs) (append_cancel_left (comma n) _ _ both)

longer : (n : ℕ) (qs : List (List ℕ)) → length (listed_from n qs) ≤ length (listed_from (suc n) qs)
longer n [] = omega arith
longer n (q ∷ qs) =
    let rest = longer (suc n) qs in
    let here = length-append (comma n) (q ++ listed_from (suc n) qs) in
    let there = length-append (comma (suc n)) (q ++ listed_from (suc (suc n)) qs) in
    let one = length-append q (listed_from (suc n) qs) in
    let two = length-append q (listed_from (suc (suc n)) qs) in
    let least = no_longer n in omega (arith, rest, here, there, one, two, least)
  where
    no_longer : (n : ℕ) → length (comma n) ≤ length (comma (suc n))
    no_longer zero = omega arith
    no_longer (suc n) = omega arith

-- one part more
part_more : (ps qs : List (List ℕ)) (p : List ℕ) → 0 < length p → listed_from 0 (ps ++ p ∷ qs) ≡ listed_from 0 (ps ++ qs) → ⊥
part_more ps qs p some e =
    let n = (split 0 ps).0 in
    let both = append_cancel_left (listed_from 0 ps) _ _ (sym ((split 0 ps).1 (p ∷ qs)) ∙ e ∙ (split 0 ps).1 qs) in
    let same : length (comma n ++ (p ++ listed_from (suc n) qs)) ≡ length (listed_from n qs) = ap (λ (l : List ℕ). length l) both in
    let here = length-append (comma n) (p ++ listed_from (suc n) qs) in
    let one = length-append p (listed_from (suc n) qs) in
    let least = longer n qs in omega (arith, some, same, here, one, least)

module _ (before after : List Attribute) where
  -- the parts with a hashed attribute between the others
  between : (attribute : Attribute) → is_hashed attribute ≡ true
      → map shown (filter is_hashed (before ++ attribute ∷ after)) ≡ map shown (filter is_hashed before) ++ shown attribute ∷ map shown (filter is_hashed after)
  between attribute h =
      ap (map shown) (filter-append is_hashed before (attribute ∷ after) ∙ ap (λ (b : Bool). filter is_hashed before ++ cond b (attribute ∷ filter is_hashed after) (filter is_hashed after)) h)
      ∙ map-append shown (filter is_hashed before) (attribute ∷ filter is_hashed after)

  without : map shown (filter is_hashed (before ++ after)) ≡ map shown (filter is_hashed before) ++ map shown (filter is_hashed after)
  without = ap (map shown) (filter-append is_hashed before after) ∙ map-append shown (filter is_hashed before) (filter is_hashed after)

pub changes : ChangesShow
changes key before after attribute other h k e =
    let texts = inner _ _ (text_is (filter is_hashed (before ++ attribute ∷ after)) ∙ e ∙ sym (text_is (filter is_hashed (before ++ other ∷ after)))) in
    let listed = sym (ap (listed_from 0) (between before after attribute h)) ∙ texts ∙ ap (listed_from 0) (between before after other k) in
    let same = part_tells (map shown (filter is_hashed before)) (map shown (filter is_hashed after)) (shown attribute) (shown other) listed in
    let parts = string_tells attribute.name other.name _ _ same in
    (parts.0, append_cancel_left (codes ":") _ _ parts.1)

pub additions : AdditionsShow
additions key before after attribute h e =
    let texts = inner _ _ (text_is (filter is_hashed (before ++ attribute ∷ after)) ∙ e ∙ sym (text_is (filter is_hashed (before ++ after)))) in
    let listed = sym (ap (listed_from 0) (between before after attribute h)) ∙ texts ∙ ap (listed_from 0) (without before after) in
    let some : 0 < length (shown attribute) = omega arith in
    part_more (map shown (filter is_hashed before)) (map shown (filter is_hashed after)) (shown attribute) some listed
