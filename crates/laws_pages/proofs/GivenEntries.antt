-- What a walk over entries gives, each of which gives one thing under its key, or nothing.
use Rattle.std.proofs.Common.{◌≡◌, ◌∙◌, ◌+◌, ◌≤◌, ℕ, false, List, [], ◌∷◌, ◌++◌, Ok, Err, length, map, refl, sym, ap, subst, arith}
use Rattle.tree_base.specs.Answers.{◌>>=◌}
use Rattle.tree_base.specs.ByteOrder.{is_before}
use Rattle.tree_base.specs.declared.Step.TheVariants.{Key}
use Rattle.tree_base.specs.declared.Tree.{Tree}
use Rattle.attribute_types.specs.Answers.{under}
use Rattle.attribute_scalars.specs.Walks.{Entries, Read, each_entry}
use Rattle.laws_pages.proofs.Each.{Each, each-both}
use Rattle.laws_pages.proofs.Rising.{NoneBefore, Rises}

abbrev pub entry_key : List ℕ × Tree → List ℕ
entry_key entry = entry.0

module _ {X : Type 0} (read : List ℕ → Tree → Read (List X)) where
  -- what the first entry gave, and what the others did
  pub record Parts (e : List ℕ × Tree) (es : Entries) (all : List X) : Type 0 where
    found : List X
    more : List X
    first : read e.0 e.1 ≡ Ok found
    rest : each_entry read es ≡ Ok more
    is : found ++ more ≡ all

  pub parts : (e : List ℕ × Tree) (es : Entries) (all : List X) → each_entry read (e ∷ es) ≡ Ok all → Parts e es all
  parts e es all h = at (read e.0 e.1) refl (each_entry read es) refl h
    where
      at : (r : Read (List X)) → read e.0 e.1 ≡ r → (s : Read (List X)) → each_entry read es ≡ s
          → (under (Key e.0) r >>= λ found. s >>= λ more. Ok (found ++ more)) ≡ Ok all → Parts e es all
      at (Err refusal) f s g h = absurd (cc h)
      at (Ok found) f (Err refusal) g h = absurd (cc h)
      at (Ok found) f (Ok more) g h = record { found = found; more = more; first = f; rest = g; is = cc h }

  -- each entry gave something
  abbrev pub Gives : List ℕ × Tree → Type 0
  Gives e = (found : List X) × (read e.0 e.1 ≡ Ok found)

  pub each_gives : (es : Entries) (all : List X) → each_entry read es ≡ Ok all → Each Gives es
  each_gives [] all h = tt
  each_gives (e ∷ es) all h = let p = parts e es all h in ((p.found, p.first), each_gives es p.more p.rest)

  pub joined : (e : List ℕ × Tree) (es : Entries) (found more : List X) → read e.0 e.1 ≡ Ok found → each_entry read es ≡ Ok more → each_entry read (e ∷ es) ≡ Ok (found ++ more)
  joined e es found more f g =
      ap (λ (r : Read (List X)). under (Key e.0) r >>= λ found. each_entry read es >>= λ more. Ok (found ++ more)) f
      ∙ ap (λ (r : Read (List X)). r >>= λ more. Ok (found ++ more)) g

-- a walk doesn't end with something of another reader
pub same_walk : {X : Type 0} (read other : List ℕ → Tree → Read (List X)) (es : Entries) → Each (λ e. read e.0 e.1 ≡ other e.0 e.1) es → each_entry read es ≡ each_entry other es
same_walk read other [] h = refl
same_walk {X} read other (e ∷ es) h =
    ap (λ (r : Read (List X)). under (Key e.0) r >>= λ found. each_entry read es >>= λ more. Ok (found ++ more)) h.0
    ∙ ap (λ (s : Read (List X)). under (Key e.0) (other e.0 e.1) >>= λ found. s >>= λ more. Ok (found ++ more)) (same_walk read other es h.1)

module _ {X : Type 0} (key : X → List ℕ) where
  -- what one entry gives: nothing, or one thing under its key
  abbrev pub OneOf : (X → Type 0) → List ℕ → List X → Type 0
  OneOf P name [] = Unit {0}
  OneOf P name (x ∷ []) = (key x ≡ name) × P x
  OneOf P name (x ∷ y ∷ l) = ⊥

  pub one_weaker : (P Q : X → Type 0) (name : List ℕ) → ((x : X) → key x ≡ name → P x → Q x) → (found : List X) → OneOf P name found → OneOf Q name found
  one_weaker P Q name so [] h = tt
  one_weaker P Q name so (x ∷ []) h = (h.0, so x h.0 h.1)
  one_weaker P Q name so (x ∷ y ∷ l) h = h

  none_later : (x : X) (xs : List X) → Each (λ y. is_before (key y) (key x) ≡ false) xs → NoneBefore key x xs
  none_later x [] h = tt
  none_later x (y ∷ ys) h = (h.0, none_later x ys h.1)

  later_none : (e : List ℕ × Tree) (es : Entries) → NoneBefore entry_key e es → Each (λ o. is_before o.0 e.0 ≡ false) es
  later_none e [] h = tt
  later_none e (o ∷ es) h = (h.0, later_none e es h.1)

  module _ (read : List ℕ → Tree → Read (List X)) where
    each_found : (P : X → Type 0) (name : List ℕ) (found more : List X) → OneOf P name found → Each P more → Each P (found ++ more)
    each_found P name [] more one rest = rest
    each_found P name (x ∷ []) more one rest = (one.1, rest)
    each_found P name (x ∷ y ∷ l) more one rest = absurd one

    -- what holds of all that an entry may give holds of all that the entries give
    pub each_given : (Good : List ℕ × Tree → Type 0) (P : X → Type 0) → ((e : List ℕ × Tree) (found : List X) → Good e → read e.0 e.1 ≡ Ok found → OneOf P e.0 found)
        → (es : Entries) (all : List X) → Each Good es → each_entry read es ≡ Ok all → Each P all
    each_given Good P one [] all good h = let same : [] ≡ all = cc h in subst (λ (l : List X). Each P l) same tt
    each_given Good P one (e ∷ es) all good h =
        let p = parts read e es all h in
        subst (λ (l : List X). Each P l) p.is (each_found P e.0 p.found p.more (one e p.found good.0 p.first) (each_given Good P one es p.more good.1 p.rest))

    module _ (Good : List ℕ × Tree → Type 0) (one : (e : List ℕ × Tree) (found : List X) → Good e → read e.0 e.1 ≡ Ok found → OneOf (λ x. Unit {0}) e.0 found) where
      rises_found : (e : List ℕ × Tree) (found more : List X) → OneOf (λ x. Unit {0}) e.0 found → Each (λ y. is_before (key y) e.0 ≡ false) more → Rises key more → Rises key (found ++ more)
      rises_found e [] more is later rise = rise
      rises_found e (x ∷ []) more is later rise =
          (none_later x more (subst (λ (name : List ℕ). Each (λ y. is_before (key y) name ≡ false) more) (sym is.0) later), rise)
      rises_found e (x ∷ y ∷ l) more is later rise = absurd is

      -- what stands in order gives what stands in order
      pub rises_given : (es : Entries) (all : List X) → Each Good es → Rises entry_key es → each_entry read es ≡ Ok all → Rises key all
      rises_given [] all good rise h = let same : [] ≡ all = cc h in subst (λ (l : List X). Rises key l) same tt
      rises_given (e ∷ es) all good rise h =
          let p = parts read e es all h in
          let later : Each (λ y. is_before (key y) e.0 ≡ false) p.more =
          each_given (λ o. Good o × (is_before o.0 e.0 ≡ false)) (λ y. is_before (key y) e.0 ≡ false)
          (λ o found g is. one_weaker (λ x. Unit {0}) (λ y. is_before (key y) e.0 ≡ false) o.0 (λ x same u. subst (λ (name : List ℕ). is_before name e.0 ≡ false) (sym same) g.1) found (one o found g.0 is))
          es p.more (each-both Good (λ o. is_before o.0 e.0 ≡ false) (λ o. Good o × (is_before o.0 e.0 ≡ false)) (λ o g b. (g, b)) es good.1 (later_none e es rise.0)) p.rest in
          subst (λ (l : List X). Rises key l) p.is (rises_found e p.found p.more (one e p.found good.0 p.first) later (rises_given es p.more good.1 rise.1 p.rest))

      short_found : (name : List ℕ) (found more : List X) → OneOf (λ x. Unit {0}) name found → length (found ++ more) ≤ length more + 1
      short_found name [] more is = omega arith
      short_found name (x ∷ []) more is = omega arith
      short_found name (x ∷ y ∷ l) more is = absurd is

      -- no more is given than there are entries
      pub given_within : (es : Entries) (all : List X) → Each Good es → each_entry read es ≡ Ok all → length all ≤ length es
      given_within [] all good h = let same : [] ≡ all = cc h in subst (λ (l : List X). length l ≤ 0) same (omega arith)
      given_within (e ∷ es) all good h =
          let p = parts read e es all h in
          let rest : length p.more ≤ length es = given_within es p.more good.1 p.rest in
          let one_more : length (p.found ++ p.more) ≤ length p.more + 1 = short_found e.0 p.found p.more (one e p.found good.0 p.first) in
          subst (λ (l : List X). length l ≤ length (e ∷ es)) p.is (omega arith)

    module _ (shown : X → Tree) (Fits : X → Type 0) (one : (x : X) (found : List X) → Fits x → read (key x) (shown x) ≡ Ok found → OneOf (λ y. Unit {0}) (key x) found) where
      abbrev pub shown_entry : X → List ℕ × Tree
      shown_entry x = (key x, shown x)

      abbrev IsShown : List ℕ × Tree → Type 0
      IsShown e = (x : X) × ((e ≡ shown_entry x) × Fits x)

      shown_one : (e : List ℕ × Tree) (found : List X) → IsShown e → read e.0 e.1 ≡ Ok found → OneOf (λ x. Unit {0}) e.0 found
      shown_one e found is h =
          subst (λ (name : List ℕ). OneOf (λ x. Unit {0}) name found) (sym (ap (λ (o : List ℕ × Tree). o.0) is.1.0))
          (one is.0 found is.1.1 (sym (ap (λ (o : List ℕ × Tree). read o.0 o.1) is.1.0) ∙ h))

      are_shown : (xs : List X) → Each Fits xs → Each IsShown (map shown_entry xs)
      are_shown [] h = tt
      are_shown (x ∷ xs) h = ((x, (refl, h.0)), are_shown xs h.1)

      length_shown : (xs : List X) → length (map shown_entry xs) ≡ length xs
      length_shown [] = refl
      length_shown (x ∷ xs) = let rest = length_shown xs in omega arith

      -- if what is shown of some things gives them all, then that of each gives it
      pub each_back : (all : List X) → Each Fits all → each_entry read (map shown_entry all) ≡ Ok all → Each (λ x. read (key x) (shown x) ≡ Ok (x ∷ [])) all
      each_back [] fits h = tt
      each_back (x ∷ xs) fits h =
          let p = parts read (shown_entry x) (map shown_entry xs) (x ∷ xs) h in
          at p.found p.more (one x p.found fits.0 p.first) p.first p.rest p.is (each_back xs fits.1)
        where
          at : (found more : List X) → OneOf (λ y. Unit {0}) (key x) found → read (key x) (shown x) ≡ Ok found → each_entry read (map shown_entry xs) ≡ Ok more → found ++ more ≡ x ∷ xs
              → (each_entry read (map shown_entry xs) ≡ Ok xs → Each (λ x. read (key x) (shown x) ≡ Ok (x ∷ [])) xs) → (read (key x) (shown x) ≡ Ok (x ∷ [])) × Each (λ x. read (key x) (shown x) ≡ Ok (x ∷ [])) xs
          at [] more is f g e so =
              let few : length more ≤ length (map shown_entry xs) = given_within IsShown shown_one (map shown_entry xs) more (are_shown xs fits.1) g in
              let many : length more ≡ length (x ∷ xs) = ap (length {A = X}) e in
              let size = length_shown xs in
              absurd (omega arith)
          at (y ∷ []) more is f g e so =
              let same : y ≡ x = cc e in
              let rest : more ≡ xs = cc e in
              (f ∙ ap (λ (z : X). Ok (z ∷ [])) same, so (g ∙ ap (λ (l : List X). Ok l) rest))
          at (y ∷ z ∷ l) more is f g e so = absurd is

    -- what is shown of each gives it, and so all together
    pub all_back : (shown : X → Tree) (all : List X) → Each (λ x. read (key x) (shown x) ≡ Ok (x ∷ [])) all → each_entry read (map (λ x. (key x, shown x)) all) ≡ Ok all
    all_back shown [] h = refl
    all_back shown (x ∷ xs) h = joined read (key x, shown x) (map (λ x. (key x, shown x)) xs) (x ∷ []) xs h.0 (all_back shown xs h.1)
