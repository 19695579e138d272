-- Lists from a place on.
use Rattle.std.proofs.Common.{◌≡◌, ◌∙◌, ℕ, zero, suc, ◌+◌, ◌<◌, ◌≤◌, List, [], ◌∷◌, length, map, drop, get_or, refl, sym, ap, add-one, arith}
use Rattle.std.specs.List.{zip}

next_both : {K V W P : Type 0} (f : K × W → P) (g : V → W) (ks : List K) (vs : List V) (i : ℕ) (k : K) (v : V) → i < length ks → i < length vs → k ≡ get_or ks i k → v ≡ get_or vs i v
    → drop i (map f (zip ks (map g vs))) ≡ f (k, g v) ∷ drop (suc i) (map f (zip ks (map g vs)))
next_both f g [] vs i k v h l e q = absurd (omega arith)
next_both f g (x ∷ ks) [] i k v h l e q = absurd (omega arith)
next_both f g (x ∷ ks) (y ∷ vs) zero k v h l e q = λ i. f (sym e i, g (sym q i)) ∷ map f (zip ks (map g vs))
next_both f g (x ∷ ks) (y ∷ vs) (suc i) k v h l e q = next_both f g ks vs i k v (omega arith) (omega arith) e q

-- from a place on, keys and values are those at it, and the rest
pub next_of_both : {K V W P : Type 0} (f : K × W → P) (g : V → W) (ks : List K) (vs : List V) (i : ℕ) (k : K) (v : V) → length ks ≡ length vs → i < length vs → k ≡ get_or ks i k → v ≡ get_or vs i v
    → drop i (map f (zip ks (map g vs))) ≡ f (k, g v) ∷ drop (i + 1) (map f (zip ks (map g vs)))
next_of_both f g ks vs i k v same l e q = next_both f g ks vs i k v (omega arith) l e q ∙ ap (λ n. f (k, g v) ∷ drop n (map f (zip ks (map g vs)))) (sym (add-one i))

next_one : {V P : Type 0} (f : V → P) (vs : List V) (i : ℕ) (v : V) → i < length vs → v ≡ get_or vs i v → drop i (map f vs) ≡ f v ∷ drop (suc i) (map f vs)
next_one f [] i v l q = absurd (omega arith)
next_one f (y ∷ vs) zero v l q = λ i. f (sym q i) ∷ map f vs
next_one f (y ∷ vs) (suc i) v l q = next_one f vs i v (omega arith) q

-- and so are the values of one list
pub next_of_one : {V P : Type 0} (f : V → P) (vs : List V) (i : ℕ) (v : V) → i < length vs → v ≡ get_or vs i v → drop i (map f vs) ≡ f v ∷ drop (i + 1) (map f vs)
next_of_one f vs i v l q = next_one f vs i v l q ∙ ap (λ n. f v ∷ drop n (map f vs)) (sym (add-one i))

next_maps : {V W P : Type 0} (f : W → P) (g : V → W) (vs : List V) (i : ℕ) (v : V) → i < length vs → v ≡ get_or vs i v → drop i (map f (map g vs)) ≡ f (g v) ∷ drop (suc i) (map f (map g vs))
next_maps f g [] i v l q = absurd (omega arith)
next_maps f g (y ∷ vs) zero v l q = λ i. f (g (sym q i)) ∷ map f (map g vs)
next_maps f g (y ∷ vs) (suc i) v l q = next_maps f g vs i v (omega arith) q

-- and the values of one list, mapped twice
pub next_of_maps : {V W P : Type 0} (f : W → P) (g : V → W) (vs : List V) (i : ℕ) (v : V) → i < length vs → v ≡ get_or vs i v → drop i (map f (map g vs)) ≡ f (g v) ∷ drop (i + 1) (map f (map g vs))
next_of_maps f g vs i v l q = next_maps f g vs i v l q ∙ ap (λ n. f (g v) ∷ drop n (map f (map g vs))) (sym (add-one i))

-- nothing is left behind the last
pub none_of_both : {K V W P : Type 0} (f : K × W → P) (g : V → W) (ks : List K) (vs : List V) (i : ℕ) → length vs ≤ i → drop i (map f (zip ks (map g vs))) ≡ []
none_of_both f g [] vs zero l = refl
none_of_both f g [] vs (suc i) l = refl
none_of_both f g (x ∷ ks) [] zero l = refl
none_of_both f g (x ∷ ks) [] (suc i) l = refl
none_of_both f g (x ∷ ks) (y ∷ vs) zero l = absurd (omega arith)
none_of_both f g (x ∷ ks) (y ∷ vs) (suc i) l = none_of_both f g ks vs i (omega arith)
