-- A text names a scheme exactly where it has `://` in it.
use Rattle.std.proofs.Common.{◌≡◌, ℕ, Bool, true, false, ◌||◌, List, [], ◌∷◌, ◌++◌, drop, refl, sym, ap, true≢false}
use Rattle.std.specs.Prelude.{codes, nat_eq, ◌↔◌}
use Rattle.std.specs.List.{starts_with}
use Rattle.std.specs.Str.Iter.{HasSubslice}
use Rattle.std.proofs.lemmas.Bool.Decides.{Decides-eqb}
use Rattle.std.proofs.lemmas.Slice.Eq.{starts_is}
use Rattle.file_paths.specs.Resolving.{has_scheme}

-- a text that begins with it
begins : (text : List ℕ) → starts_with nat_eq text (codes "://") ≡ true → text ≡ codes "://" ++ drop 3 text
begins text e = (starts_is Decides-eqb text (codes "://") (starts_with nat_eq text (codes "://")) refl).0 e

begun : (text rest : List ℕ) → text ≡ codes "://" ++ rest → starts_with nat_eq text (codes "://") ≡ true
begun text rest e = (starts_is Decides-eqb text (codes "://") (starts_with nat_eq text (codes "://")) refl).1 rest e

either : (a b : Bool) → a ≡ true → (a || b) ≡ true
either true b e = refl
either false b e = absurd (true≢false (sym e))

later : (a b : Bool) → b ≡ true → (a || b) ≡ true
later true b e = refl
later false b e = e

-- what has it names one
pub scheme_from : (text : List ℕ) → HasSubslice text (codes "://") → has_scheme text ≡ true
scheme_from [] ([], rest, e) = absurd cc
scheme_from [] (a ∷ as_, rest, e) = absurd cc
scheme_from (b ∷ bs) ([], rest, e) = either (starts_with nat_eq (b ∷ bs) (codes "://")) (has_scheme bs) (begun (b ∷ bs) rest e)
scheme_from (b ∷ bs) (a ∷ as_, rest, e) =
    let same : bs ≡ as_ ++ (codes "://" ++ rest) = cc in later (starts_with nat_eq (b ∷ bs) (codes "://")) (has_scheme bs) (scheme_from bs (as_, rest, same))

-- and what names one has it
pub scheme_in : (text : List ℕ) → has_scheme text ≡ true → HasSubslice text (codes "://")
scheme_in [] e = absurd (true≢false (sym e))
scheme_in (b ∷ bs) e = by (λ f. scheme_in bs f) (starts_with nat_eq (b ∷ bs) (codes "://")) refl e
  where
    by : (has_scheme bs ≡ true → HasSubslice bs (codes "://")) → (t : Bool) → starts_with nat_eq (b ∷ bs) (codes "://") ≡ t → (t || has_scheme bs) ≡ true
        → HasSubslice (b ∷ bs) (codes "://")
    by further true s f = ([], drop 3 (b ∷ bs), begins (b ∷ bs) s)
    by further false s f = let more = further f in (b ∷ more.0, more.1, ap (λ (l : List ℕ). b ∷ l) more.2)

-- so what says whether it is there says whether the text names one
pub scheme_is : (r : Bool) (text : List ℕ) → (r ≡ true) ↔ HasSubslice text (codes "://") → r ≡ has_scheme text
scheme_is true text h = sym (scheme_from text (h.0 refl))
scheme_is false text h = by (has_scheme text) refl
  where
    by : (t : Bool) → has_scheme text ≡ t → false ≡ t
    by true e = absurd (true≢false (sym (h.1 (scheme_in text e))))
    by false e = refl
