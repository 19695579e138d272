-- Tests of some and of every item of a list.
use Rattle.std.proofs.Common.{◌≡◌, ℕ, Bool, true, false, not, if◌then◌else◌, ◌||◌, List, [], ◌∷◌, ◌++◌, Option, Some, None, map, refl, sym, ap, ◌∙◌, inl, inr, ⊎_elim}
use Rattle.std.specs.Prelude.{filter, find, is_some, is_none}
use Rattle.std.specs.List.{list_all, list_any}
use Rattle.std.specs.Str.{bytes_eq}
use Rattle.std.proofs.lemmas.Bool.{and_parts, and_from, or_parts}
use Rattle.run_model.specs.EngineRules.{Among}
use Rattle.memory_engine.specs.Serving.{with_first}
use Rattle.memory_engine.proofs.Texts.{by_cases, same_text, bytes_eq_flips, bytes_eq_alike}

pub or_comm : (a b : Bool) → (a || b) ≡ (b || a)
or_comm a b = by_cases a (λ e. by_cases b (λ f. rw (e, f) refl) (λ f. rw (e, f) refl)) (λ e. by_cases b (λ f. rw (e, f) refl) (λ f. rw (e, f) refl))

pub or_assoc : (a b c : Bool) → (a || b || c) ≡ (a || (b || c))
or_assoc a b c = by_cases a (λ e. rw e refl) (λ e. rw e refl)

-- what is there
pub some_of : {X : Type 0} (o : Option X) → is_none o ≡ false → (x : X) × (o ≡ Some x)
some_of None is = let clash : true ≡ false = is in cc
some_of (Some x) is = (x, refl)

pub some_from : {X : Type 0} (o : Option X) → is_some o ≡ true → (x : X) × (o ≡ Some x)
some_from None is = let clash : false ≡ true = is in cc
some_from (Some x) is = (x, refl)

pub none_of : {X : Type 0} (o : Option X) → is_none o ≡ true → o ≡ None
none_of None is = refl
none_of (Some x) is = let clash : false ≡ true = is in cc

module _ {X : Type 0} where
  pub all-weaker : (p q : X → Bool) → ((x : X) → p x ≡ true → q x ≡ true) → (xs : List X) → list_all p xs ≡ true → list_all q xs ≡ true
  all-weaker p q weaker [] all = refl
  all-weaker p q weaker (x ∷ xs) all =
      let parts = and_parts (p x) (list_all p xs) all in
      and_from (q x) (list_all q xs) (weaker x parts.0) (all-weaker p q weaker xs parts.1)

  pub all-push : (p : X → Bool) (y : X) → p y ≡ true → (xs : List X) → list_all p xs ≡ true → list_all p (xs ++ y ∷ []) ≡ true
  all-push p y last [] all = and_from (p y) true last refl
  all-push p y last (x ∷ xs) all =
      let parts = and_parts (p x) (list_all p xs) all in
      and_from (p x) (list_all p (xs ++ y ∷ [])) parts.0 (all-push p y last xs parts.1)

  pub all-filter : (p q : X → Bool) (xs : List X) → list_all p xs ≡ true → list_all p (filter q xs) ≡ true
  all-filter p q [] all = refl
  all-filter p q (x ∷ xs) all =
      let parts = and_parts (p x) (list_all p xs) all in
      let later = all-filter p q xs parts.1 in
      by_cases (q x) (λ e. rw e (and_from (p x) (list_all p (filter q xs)) parts.0 later)) (λ e. rw e later)

  pub all-with_first : (p q : X → Bool) (f : X → X) → ((x : X) → p x ≡ true → p (f x) ≡ true) → (xs : List X)
      → list_all p xs ≡ true → list_all p (with_first q f xs) ≡ true
  all-with_first p q f kept [] all = refl
  all-with_first p q f kept (x ∷ xs) all =
      let parts = and_parts (p x) (list_all p xs) all in
      by_cases (q x)
      (λ e. rw e (and_from (p (f x)) (list_all p xs) (kept x parts.0) parts.1))
      (λ e. rw e (and_from (p x) (list_all p (with_first q f xs)) parts.0 (all-with_first p q f kept xs parts.1)))

  pub any-push : (p : X → Bool) (y : X) (xs : List X) → list_any p (xs ++ y ∷ []) ≡ (p y || list_any p xs)
  any-push p y [] = refl
  any-push p y (x ∷ xs) = rw (any-push p y xs) (sym (or_assoc (p x) (p y) (list_any p xs)) ∙ ap (λ b. b || list_any p xs) (or_comm (p x) (p y)) ∙ or_assoc (p y) (p x) (list_any p xs))

  pub any-map : {Y : Type 0} (p : Y → Bool) (f : X → Y) (xs : List X) → list_any p (map f xs) ≡ list_any (λ x. p (f x)) xs
  any-map p f [] = refl
  any-map p f (x ∷ xs) = rw (any-map p f xs) refl

  -- a test that some item passes finds one
  pub find-any : (p : X → Bool) (xs : List X) → list_any p xs ≡ true → (x : X) × (find p xs ≡ Some x) × (p x ≡ true) × Among xs x
  find-any p [] any = let clash : false ≡ true = any in cc
  find-any p (x ∷ xs) any = by_cases (p x)
      (λ e. (x, rw e refl, e, inl refl))
      (λ e. let later = find-any p xs (rw e at any) in (later.0, rw e later.1, later.2, inr later.3))

  -- what a look-up finds is among the items, and passes
  pub among-find : (p : X → Bool) (xs : List X) (x : X) → find p xs ≡ Some x → Among xs x × (p x ≡ true)
  among-find p [] x found = let clash : None ≡ Some x = found in cc
  among-find p (y ∷ ys) x found = by_cases (p y)
      (λ e. let first : Some y ≡ Some x = rw e at found in let is : x ≡ y = cc in (inl is, rw is e))
      (λ e. let later = among-find p ys x (rw e at found) in (inr later.0, later.1))

  -- nothing is found where no item passes
  pub any-missed : (p : X → Bool) (xs : List X) → find p xs ≡ None → list_any p xs ≡ false
  any-missed p [] missed = refl
  any-missed p (x ∷ xs) missed = by_cases (p x)
      (λ e. let clash : Some x ≡ None = rw e at missed in cc)
      (λ e. rw e (any-missed p xs (rw e at missed)))

  -- a look-up finds something where some item passes
  pub any-found : (p : X → Bool) (xs : List X) → is_some (find p xs) ≡ list_any p xs
  any-found p [] = refl
  any-found p (x ∷ xs) = by_cases (p x) (λ e. rw e refl) (λ e. rw e (any-found p xs))

  -- every item passes what all pass
  pub all-among : (p : X → Bool) (xs : List X) (x : X) → list_all p xs ≡ true → Among xs x → p x ≡ true
  all-among p [] x all h = absurd h
  all-among p (y ∷ ys) x all h =
      let parts = and_parts (p y) (list_all p ys) all in
      ⊎_elim (λ same. rw same parts.0) (λ later. all-among p ys x parts.1 later) h

  pub any-among : (p : X → Bool) (xs : List X) (x : X) → list_any p xs ≡ false → Among xs x → p x ≡ false
  any-among p [] x any h = absurd h
  any-among p (y ∷ ys) x any h =
      let parts = or_parts (p y) (list_any p ys) any in
      ⊎_elim (λ same. rw same parts.0) (λ later. any-among p ys x parts.1 later) h

  pub all-from_among : (p : X → Bool) (xs : List X) → ((x : X) → Among xs x → p x ≡ true) → list_all p xs ≡ true
  all-from_among p [] each = refl
  all-from_among p (x ∷ xs) each = and_from (p x) (list_all p xs) (each x (inl refl)) (all-from_among p xs (λ y h. each y (inr h)))

  pub among-map : {Y : Type 0} (f : X → Y) (xs : List X) (x : X) → Among xs x → Among (map f xs) (f x)
  among-map f [] x h = absurd h
  among-map f (y ∷ ys) x h = ⊎_elim (λ same. inl (ap f same)) (λ later. inr (among-map f ys x later)) h

  pub among-filter : (p : X → Bool) (xs : List X) (x : X) → Among xs x → p x ≡ true → Among (filter p xs) x
  among-filter p [] x h passes = absurd h
  among-filter p (y ∷ ys) x h passes = by_cases (p y)
      (λ e. rw e (⊎_elim (λ same. inl same) (λ later. inr (among-filter p ys x later passes)) h))
      (λ e. rw e (⊎_elim
      (λ same. let clash : true ≡ false = sym passes ∙ ap p same ∙ e in cc)
      (λ later. among-filter p ys x later passes) h))

  -- an item of a mapped filter comes from an item that passes
  pub among-mapped : {Y : Type 0} (f : X → Y) (p : X → Bool) (xs : List X) (y : Y) → Among (map f (filter p xs)) y
      → (x : X) × Among xs x × (p x ≡ true) × (y ≡ f x)
  among-mapped f p [] y h = absurd h
  among-mapped f p (x ∷ xs) y h = by_cases (p x)
      (λ e. ⊎_elim
      (λ same. (x, inl refl, e, same))
      (λ later. let r = among-mapped f p xs y later in (r.0, inr r.1, r.2, r.3))
      (rw e at h))
      (λ e. let r = among-mapped f p xs y (rw e at h) in (r.0, inr r.1, r.2, r.3))

-- equal texts are among the same texts
pub any-alike : (xs ys : List ℕ) (texts : List (List ℕ)) → bytes_eq xs ys ≡ true → list_any (bytes_eq xs) texts ≡ list_any (bytes_eq ys) texts
any-alike xs ys texts same = ap (λ t. list_any (bytes_eq t) texts) (same_text xs ys same)

-- a text is taken out of texts
pub any-filter : (name n : List ℕ) (texts : List (List ℕ))
    → list_any (bytes_eq n) (filter (λ other. not (bytes_eq name other)) texts) ≡ (if bytes_eq name n then false else list_any (bytes_eq n) texts)
any-filter name n [] = by_cases (bytes_eq name n) (λ e. rw e refl) (λ e. rw e refl)
any-filter name n (x ∷ xs) =
    let rest = any-filter name n xs in
    by_cases (bytes_eq name x)
    (λ here. rw (here, rest) (by_cases (bytes_eq name n)
    (λ e. rw e refl)
    (λ e. let apart : bytes_eq n x ≡ false = bytes_eq_flips n x ∙ sym (bytes_eq_alike name x n here) ∙ e in rw (e, apart) refl)))
    (λ away. rw (away, rest) (by_cases (bytes_eq name n)
    (λ e. let apart : bytes_eq n x ≡ false = sym (bytes_eq_alike name n x e) ∙ away in rw (e, apart) refl)
    (λ e. rw e refl)))
