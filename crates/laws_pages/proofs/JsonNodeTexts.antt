-- Words, strings and lists of parts in JSON, in front of something: what they are of.
use Rattle.std.proofs.Common.{◌≡◌, ◌∙◌, ℕ, suc, Bool, true, false, cond, eqb, List, [], ◌∷◌, ◌++◌, Some, ap, append_assoc, not, refl, sym}
use Rattle.std.proofs.lemmas.Bool.{and_parts, eqb-true}
use Rattle.std.proofs.lemmas.List.{append_cancel_left}
use Rattle.std.specs.List.{list_all}
use Rattle.json.proofs.Printed.Strings.{content-escape}
use Rattle.json.specs.Print.{escape, quoted}
use Rattle.json.specs.Text.{content, plain}
use Rattle.laws_pages.specs.Words.{is_word_byte}
use Rattle.project_print.specs.Json.{spelled}
use Rattle.project_print.specs.Scalars.{doubled}
use Rattle.project_print.specs.Written.{comma, listed_from}
use Rattle.project_print.specs.declared.compact_json.Dollars.{Dollars}

-- a word doesn't go on here
abbrev pub ends : List ℕ → Bool
ends [] = true
ends (c ∷ cs) = not (is_word_byte c)

goes_on : (c : ℕ) (cs r u : List ℕ) → list_all is_word_byte (c ∷ cs) ≡ true → ends r ≡ true → r ≡ c ∷ (cs ++ u) → ⊥
goes_on c cs r u word p e =
    let one = and_parts (is_word_byte c) (list_all is_word_byte cs) word in
    let bad : false ≡ true = sym (ap not one.0) ∙ sym (ap ends e) ∙ p in cc bad

-- a word tells itself, and what follows
pub word_tells : (w v r u : List ℕ) → list_all is_word_byte w ≡ true → list_all is_word_byte v ≡ true → ends r ≡ true → ends u ≡ true → w ++ r ≡ v ++ u → (w ≡ v) × (r ≡ u)
word_tells [] [] r u a b p q e = (refl, e)
word_tells [] (d ∷ ds) r u a b p q e = absurd (goes_on d ds r u b p e)
word_tells (c ∷ cs) [] r u a b p q e = absurd (goes_on c cs u r a q (sym e))
word_tells (c ∷ cs) (d ∷ ds) r u a b p q e =
    let head : c ≡ d = cc e in
    let tail : cs ++ r ≡ ds ++ u = cc e in
    let one = and_parts (is_word_byte c) (list_all is_word_byte cs) a in
    let two = and_parts (is_word_byte d) (list_all is_word_byte ds) b in
    let rest = word_tells cs ds r u one.1 two.1 p q tail in ((λ i. head i ∷ rest.0 i), rest.1)

-- a string tells its text, and what follows
pub string_tells : (s t r u : List ℕ) → quoted s ++ r ≡ quoted t ++ u → (s ≡ t) × (r ≡ u)
string_tells s t r u e = (same, append_cancel_left (escape t ++ 34 ∷ []) r u (sym (ap (λ (z : List ℕ). (escape z ++ 34 ∷ []) ++ r) same) ∙ inside))
  where
    inside : (escape s ++ 34 ∷ []) ++ r ≡ (escape t ++ 34 ∷ []) ++ u
    inside = append_cancel_left (34 ∷ []) _ _ e

    read : Some s ≡ Some t
    read = sym (content-escape s r) ∙ ap (content plain) (sym (append_assoc (escape s) (34 ∷ []) r) ∙ inside ∙ append_assoc (escape t) (34 ∷ []) u) ∙ content-escape t u

    same : s ≡ t
    same = cc read

-- a text whose dollars stand twice tells the text
nothing_doubled : (c : ℕ) (cs : List ℕ) → [] ≡ doubled (c ∷ cs) → ⊥
nothing_doubled c cs e = at (eqb c 36) e
  where
    at : (b : Bool) → [] ≡ cond b (36 ∷ 36 ∷ []) (c ∷ []) ++ doubled cs → ⊥
    at true e = cc e
    at false e = cc e

doubled_tells : (s t : List ℕ) → doubled s ≡ doubled t → s ≡ t
doubled_tells [] [] e = refl
doubled_tells [] (d ∷ ds) e = absurd (nothing_doubled d ds e)
doubled_tells (c ∷ cs) [] e = absurd (nothing_doubled c cs (sym e))
doubled_tells (c ∷ cs) (d ∷ ds) e = at (eqb c 36) refl (eqb d 36) refl e (doubled_tells cs ds)
  where
    at : (a : Bool) → eqb c 36 ≡ a → (b : Bool) → eqb d 36 ≡ b → cond a (36 ∷ 36 ∷ []) (c ∷ []) ++ doubled cs ≡ cond b (36 ∷ 36 ∷ []) (d ∷ []) ++ doubled ds
        → (doubled cs ≡ doubled ds → cs ≡ ds) → c ∷ cs ≡ d ∷ ds
    at true p true q e so =
        let head : c ≡ d = eqb-true c 36 p ∙ sym (eqb-true d 36 q) in
        let tail : doubled cs ≡ doubled ds = cc e in λ i. head i ∷ so tail i
    at true p false q e so =
        let other : 36 ≡ d = cc e in
        let bad : true ≡ false = ap (λ (x : ℕ). eqb x 36) other ∙ q in absurd (cc bad)
    at false p true q e so =
        let other : 36 ≡ c = cc (sym e) in
        let bad : true ≡ false = ap (λ (x : ℕ). eqb x 36) other ∙ p in absurd (cc bad)
    at false p false q e so =
        let head : c ≡ d = cc e in
        let tail : doubled cs ≡ doubled ds = cc e in λ i. head i ∷ so tail i

pub spelled_tells : (dollars : Dollars) (s t : List ℕ) → spelled dollars s ≡ spelled dollars t → s ≡ t
spelled_tells Dollars.Twice s t e = doubled_tells s t e
spelled_tells Dollars.Once s t e = e

-- a part, and what stands behind it
pub parted : (at : ℕ) (p : List ℕ) (ps : List (List ℕ)) (r : List ℕ) → listed_from at (p ∷ ps) ++ r ≡ comma at ++ (p ++ (listed_from (suc at) ps ++ r))
parted at p ps r = shape (comma at) p (listed_from (suc at) ps) r
  where
    shape : (a p l r : List ℕ) → (a ++ (p ++ l)) ++ r ≡ a ++ (p ++ (l ++ r))
    shape a p l r = simp append_assoc

-- behind a part stands a comma, or what closes the list
pub part_ends : (at : ℕ) (ps : List (List ℕ)) (c : ℕ) (r : List ℕ) → not (is_word_byte c) ≡ true → ends (listed_from (suc at) ps ++ c ∷ r) ≡ true
part_ends at [] c r h = h
part_ends at (p ∷ ps) c r h = refl
