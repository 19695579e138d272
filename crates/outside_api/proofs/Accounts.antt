-- Accounts of exchanges: those of two lists are one, and what was told before stays told.
use Rattle.std.proofs.Common.{◌≡◌, ℕ, ◌≤◌, ◌+◌, List, [], ◌∷◌, ◌++◌, length, take, Option, Some, None, refl, sym, ap, ◌∙◌, subst, inl, inr, arith}
use Rattle.std.proofs.Math.Seq.{take-append_seam}
use Rattle.std.proofs.lemmas.List.{length-append, take_all, take-take, length-take}
use Rattle.engine_types.specs.declared.Exchange.{Exchange}
use Rattle.outside_api.specs.Hands.{Heard, HearsEach, HearsMore, HearsNext}
use Rattle.outside_api.specs.Accounts.{Account, AreCaused, IsCausedIn, StaysTold}

pub caused-append : (xs ys : List Exchange) (a b c : Account) → AreCaused xs a b → AreCaused ys b c → AreCaused (xs ++ ys) a c
caused-append [] ys a b c e h = let P : Account → Type 0 = λ k. AreCaused ys k c in subst P e h
caused-append (x ∷ xs) ys a b c t h = (t.0, t.1, caused-append xs ys t.0 b c t.2 h)

pub caused-one : (x : Exchange) (a b : Account) → IsCausedIn x a b → AreCaused (x ∷ []) a b
caused-one x a b h = (b, h, refl)

-- what was heard before stays, where one item more is heard, or none
pub next-more : (before after : List Exchange) (a b : Option (List Heard)) → HearsNext before after a b → HearsMore a b
next-more before after None b e = e
next-more before after (Some items) b (inl h) = let P : Option (List Heard) → Type 0 = λ o. HearsMore (Some items) o in
    subst P (sym h.1) (take_all (length items) items (omega arith))
next-more before after (Some items) b (inr h) = let P : Option (List Heard) → Type 0 = λ o. HearsMore (Some items) o in
    subst P (sym h.2) (take-append_seam items (h.1 ∷ []))

-- there is one item for each exchange of the log, as before
pub next-each : (before after : List Exchange) (a b : Option (List Heard)) → HearsNext before after a b → HearsEach before a → HearsEach after b
next-each before after None b e each = let P : Option (List Heard) → Type 0 = λ o. HearsEach after o in subst P (sym e) tt
next-each before after (Some items) b (inl h) each = let P : Option (List Heard) → Type 0 = λ o. HearsEach after o in
    subst P (sym h.1) (each ∙ ap length (sym h.0))
next-each before after (Some items) b (inr h) each = let P : Option (List Heard) → Type 0 = λ o. HearsEach after o in
    subst P (sym h.2) (length-append items (h.1 ∷ []) ∙ ap (λ (n : ℕ). n + 1) each ∙ sym h.0)

hears_longer : (a b c : List Heard) → take (length a) b ≡ a → take (length b) c ≡ b → take (length a) c ≡ a
hears_longer a b c e f =
    let n : length a ≤ length b = omega (arith, ap length e, length-take (length a) b) in
    let g : take (length a) (take (length b) c) ≡ a = ap (take (length a)) f ∙ e in
    sym (take_shorter (length a) (length b) c n) ∙ g
  where
    take_shorter : (n m : ℕ) (xs : List Heard) → n ≤ m → take n (take m xs) ≡ take n xs
    take_shorter n m xs h = grind (arith, take-take)

hears_same : (a : Option (List Heard)) → HearsMore a a
hears_same None = refl
hears_same (Some items) = take_all (length items) items (omega arith)

hears_append : (a b c : Option (List Heard)) → HearsMore a b → HearsMore b c → HearsMore a c
hears_append None b c e h = let P : Option (List Heard) → Type 0 = λ k. HearsMore k c in subst P e h
hears_append (Some a) None c e h = absurd e
hears_append (Some a) (Some b) None e h = absurd h
hears_append (Some a) (Some b) (Some c) e h = hears_longer a b c e h

told_still : (a : Account) → StaysTold a a
told_still a = record { heard = hears_same a.heard; heard_each = λ each. each; counted = omega arith }

pub stays_told : (exchanges : List Exchange) (old new : Account) → AreCaused exchanges old new → StaysTold old new
stays_told [] old new e = let P : Account → Type 0 = λ k. StaysTold old k in subst P (sym e) (told_still old)
stays_told (x ∷ xs) old new h =
    let first = h.1 in
    let rest = stays_told xs h.0 new h.2 in
    record {
      heard = hears_append old.heard h.0.heard new.heard (next-more old.log h.0.log old.heard h.0.heard first.hears) rest.heard;
      heard_each = λ each. rest.heard_each (next-each old.log h.0.log old.heard h.0.heard first.hears each);
      counted = let a = first.counted in let b = rest.counted in omega (arith, a, b);
    }
