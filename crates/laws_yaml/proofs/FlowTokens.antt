-- How the cuts of a flow collection go over a text: over tokens, and over brackets that open and close.
use Rattle.std.proofs.Common.{◌≡◌, ◌∙◌, ℕ, suc, ◌+◌, ◌-◌, Bool, false, cond, eqb, ◌||◌, List, [], ◌∷◌, ◌++◌, length, refl, ap, append_assoc, length-append, arith}
use Rattle.std.proofs.lemmas.Bool.{and_left, and_right, ne_eqb}
use Rattle.yaml_groups.specs.Cuts.{cuts, is_closing, is_cut, is_space, open_behind, token_len}

-- a text is passed over, before a rest: behind so many open brackets, and then so many
abbrev pub Goes : ℕ → ℕ → List ℕ → List ℕ → Type 0
Goes n m text rest = (at : ℕ) (white : Bool) → (w : Bool) × (cuts at n 0 white (text ++ rest) ≡ cuts (at + length text) m 0 w rest)

pub nothing_goes : (n : ℕ) (rest : List ℕ) → Goes n n [] rest
nothing_goes n rest at white = (white, ap (λ k. cuts k n 0 white rest) (let e : at ≡ at + 0 = omega arith in e))

-- one text behind another
pub both_go : (n m k : ℕ) (a b rest : List ℕ) → Goes n m a (b ++ rest) → Goes m k b rest
    → Goes n k (a ++ b) rest
both_go n m k a b rest first second at white =
    let one = first at white in
    let two = second (at + length a) one.0 in
    let place : at + length a + length b ≡ at + length (a ++ b) = omega (arith, length-append a b) in
    (two.0, ap (cuts at n 0 white) (append_assoc a b rest) ∙ one.1 ∙ two.1 ∙ ap (λ l. cuts l k 0 two.0 rest) place)

-- the characters of a token that began before
skipped : (n at : ℕ) (white : Bool) (ds rest : List ℕ)
    → (w : Bool) × (cuts at n (length ds) white (ds ++ rest) ≡ cuts (at + length ds) n 0 w rest)
skipped n at white [] rest = (white, ap (λ k. cuts k n 0 white rest) (let e : at ≡ at + 0 = omega arith in e))
skipped n at white (d ∷ ds) rest =
    let more = skipped n (at + 1) (is_space d) ds rest in
    let place : at + 1 + length ds ≡ at + suc (length ds) = omega arith in
    (more.0, more.1 ∙ ap (λ k. cuts k n 0 more.0 rest) place)

begins_token : (b : Bool) (x : List ℕ) (f : ℕ → ℕ → List ℕ) (o m t k : ℕ) → b ≡ false → o ≡ m → t ≡ suc k
    → cond b x (f o (t - 1)) ≡ f m k
begins_token b x f o m t k uncut opens len = let e : t - 1 ≡ k = omega (arith, len) in rw (uncut, opens, e) refl

-- a token
pub token_goes : (n m c : ℕ) (cs rest : List ℕ) → is_cut n c ≡ false → open_behind n c ≡ m
    → ((white : Bool) → token_len white (c ∷ (cs ++ rest)) ≡ suc (length cs)) → Goes n m (c ∷ cs) rest
token_goes n m c cs rest uncut opens len at white =
    let more = skipped m (at + 1) (is_space c) cs rest in
    let place : at + 1 + length cs ≡ at + suc (length cs) = omega arith in
    let step : cuts at n 0 white (c ∷ (cs ++ rest)) ≡ cuts (at + 1) m (length cs) (is_space c) (cs ++ rest) =
    begins_token (is_cut n c) _ (λ o t. cuts (at + 1) o t (is_space c) (cs ++ rest)) (open_behind n c) m (token_len white (c ∷ (cs ++ rest))) (length cs) uncut opens (len white) in
    (more.0, step ∙ more.1 ∙ ap (λ k. cuts k m 0 more.0 rest) place)

-- a character that is no comma and closes no bracket cuts nothing
pub no_cut : (n c : ℕ) → (is_closing c || eqb c 44) ≡ false → is_cut n c ≡ false
no_cut n c mark = and_right (eqb n 0) (is_closing c || eqb c 44) mark

-- and nothing is cut where a bracket is open
pub inside : (n c : ℕ) → is_cut (n + 1) c ≡ false
inside n c = and_left (eqb (n + 1) 0) (is_closing c || eqb c 44) (ne_eqb (n + 1) 0 (λ e. absurd (omega (arith, e))))

-- a space, and a colon before one
pub space_goes : (n : ℕ) (rest : List ℕ) → Goes n n (32 ∷ []) rest
space_goes n rest = token_goes n n 32 [] rest (no_cut n 32 refl) refl (λ white. refl)

pub colon_goes : (n : ℕ) (rest : List ℕ) → Goes n n (58 ∷ []) (32 ∷ rest)
colon_goes n rest = token_goes n n 58 [] (32 ∷ rest) (no_cut n 58 refl) refl (λ white. refl)

-- a comma where a bracket is open
pub comma_goes : (n : ℕ) (rest : List ℕ) → Goes (n + 1) (n + 1) (44 ∷ []) rest
comma_goes n rest = token_goes (n + 1) (n + 1) 44 [] rest (inside n 44) refl (λ white. refl)

-- a bracket that opens, and one that closes it
pub square_opens : (n : ℕ) (rest : List ℕ) → Goes n (n + 1) (91 ∷ []) rest
square_opens n rest = token_goes n (n + 1) 91 [] rest (no_cut n 91 refl) refl (λ white. refl)

pub curly_opens : (n : ℕ) (rest : List ℕ) → Goes n (n + 1) (123 ∷ []) rest
curly_opens n rest = token_goes n (n + 1) 123 [] rest (no_cut n 123 refl) refl (λ white. refl)

pub square_closes : (n : ℕ) (rest : List ℕ) → Goes (n + 1) n (93 ∷ []) rest
square_closes n rest = token_goes (n + 1) n 93 [] rest (inside n 93) (let e : n + 1 - 1 ≡ n = omega arith in e) (λ white. refl)

pub curly_closes : (n : ℕ) (rest : List ℕ) → Goes (n + 1) n (125 ∷ []) rest
curly_closes n rest = token_goes (n + 1) n 125 [] rest (inside n 125) (let e : n + 1 - 1 ≡ n = omega arith in e) (λ white. refl)
