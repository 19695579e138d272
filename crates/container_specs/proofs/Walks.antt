-- Walks over lists and pairs, one further.
use Rattle.std.proofs.Common.{◌≡◌, ◌+◌, ◌<◌, ◌∷◌, ◌++◌, [], ℕ, zero, suc, List, Some, None, Option, length, take, sym, ap, ◌∙◌, arith}
use Rattle.std.specs.Prelude.{slice_get}
use Rattle.std.specs.Option.{option_map, option_map_or}
use Rattle.std.proofs.lemmas.List.{take_more}
use Rattle.std.proofs.lemmas.Option.{get_or_from_slice_get, slice_get_within}

-- the first items of a list, and one more
pub one_taken : {X : Type 0} (xs : List X) (i : ℕ) (x : X) → slice_get xs i ≡ Some x → take (i + 1) xs ≡ take i xs ++ x ∷ []
one_taken {X} xs i x at = take_more xs i x (slice_get_within xs i x at) ∙ ap (λ (y : X). take i xs ++ y ∷ []) (get_or_from_slice_get xs i x x at)

not_past : {X : Type 0} (xs : List X) (i : ℕ) → i < length xs → None ≡ slice_get xs i → ⊥
not_past [] i l e = absurd (omega arith)
not_past (x ∷ xs) zero l e = absurd (cc e)
not_past (x ∷ xs) (suc i) l e = not_past xs i (omega arith) e

-- what is made of the first items, and of one more, which is looked up by its place
pub one_walked : {P Q Y : Type 0} (seen : P → Q) (h : Q → List Y) (F : List Q → List Y) → ((xs : List Q) (x : Q) → F (xs ++ x ∷ []) ≡ F xs ++ h x)
    → (qs : List Q) (i : ℕ) (o : Option P) (old new : List Y) → i < length qs → option_map seen o ≡ slice_get qs i → old ≡ F (take i qs)
    → new ≡ old ++ option_map_or (λ p. h (seen p)) o [] → new ≡ F (take (i + 1) qs)
one_walked {P} {Q} {Y} seen h F more qs i None old new l e so put = absurd (not_past qs i l e)
one_walked {P} {Q} {Y} seen h F more qs i (Some p) old new l e so put =
    put ∙ ap (λ (l : List Y). l ++ h (seen p)) so ∙ sym (more (take i qs) (seen p)) ∙ ap F (sym (one_taken qs i (seen p) (sym e)))
