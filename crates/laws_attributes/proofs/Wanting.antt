-- Null under each wanted name that has nothing; keys that extend a file.
use Rattle.std.proofs.Common.{◌≡◌, ◌∙◌, ◌⊎◌, ℕ, Bool, true, false, cond, not, List, [], ◌∷◌, ◌++◌, Some, None, is_some, inl, inr, refl, ap, sym}
use Rattle.std.specs.Prelude.{Option}
use Rattle.std.specs.Str.{bytes_eq}
use Rattle.tree_base.specs.Entries.{value_at}
use Rattle.tree_base.specs.declared.Tree.{Tree, Null}
use Rattle.attribute_scalars.specs.Walks.{Entries, is_extension, own_entries, with_wanting}
use Rattle.attribute_paths.proofs.Trees.{OfAll}
use Rattle.laws_attributes.proofs.Lookups.{Apart, own_text, turned_text}

-- where all is there, nothing is wanting
pub none_wanting : (names : List (List ℕ)) (es : Entries) → OfAll (λ name. is_some (value_at es name) ≡ true) names → with_wanting names es ≡ es
none_wanting [] es h = refl
none_wanting (name ∷ names) es h = ap (λ b. with_wanting names (cond b es (es ++ (name, Null) ∷ []))) h.0 ∙ none_wanting names es h.1

-- what holds of the entries and of null under each name holds of all
module _ (P : List ℕ × Tree → Type 0) where
  all_pushed : (es : Entries) (e : List ℕ × Tree) → OfAll P es → P e → OfAll P (es ++ e ∷ [])
  all_pushed [] e h p = (p, tt)
  all_pushed (f ∷ fs) e h p = (h.0, all_pushed fs e h.1 p)

  pub all_wanting : (names : List (List ℕ)) (es : Entries) → OfAll P es → OfAll (λ name. P (name, Null)) names → OfAll P (with_wanting names es)
  all_wanting [] es h n = h
  all_wanting (name ∷ names) es h n = at (is_some (value_at es name)) (λ l all. all_wanting names l all n.1)
    where
      at : (b : Bool) → ((l : Entries) → OfAll P l → OfAll P (with_wanting names l)) → OfAll P (with_wanting names (cond b es (es ++ (name, Null) ∷ [])))
      at true more = more es h
      at false more = more (es ++ (name, Null) ∷ []) (all_pushed es (name, Null) h n.0)

pushed_value : (es : Entries) (name k : List ℕ) → value_at (es ++ (name, Null) ∷ []) k ≡ value_at es k ⊎ (value_at es k ≡ None) × (value_at (es ++ (name, Null) ∷ []) k ≡ Some Null)
pushed_value [] name k = at (bytes_eq k name)
  where
    none : Option Tree
    none = None

    at : (b : Bool) → cond b (Some Null) none ≡ none ⊎ (none ≡ None) × (cond b (Some Null) none ≡ Some Null)
    at true = inr (refl, refl)
    at false = inl refl
pushed_value (e ∷ es) name k = at (bytes_eq k e.0) (pushed_value es name k)
  where
    at : (b : Bool) → value_at (es ++ (name, Null) ∷ []) k ≡ value_at es k ⊎ (value_at es k ≡ None) × (value_at (es ++ (name, Null) ∷ []) k ≡ Some Null)
        → cond b (Some e.1) (value_at (es ++ (name, Null) ∷ []) k) ≡ cond b (Some e.1) (value_at es k)
        ⊎ (cond b (Some e.1) (value_at es k) ≡ None) × (cond b (Some e.1) (value_at (es ++ (name, Null) ∷ []) k) ≡ Some Null)
    at true h = inl refl
    at false h = h

-- what stands under a key as before, or null where nothing was
abbrev pub Kept : Entries → Entries → List ℕ → Type 0
Kept es more k = value_at more k ≡ value_at es k ⊎ (value_at es k ≡ None) × (value_at more k ≡ Some Null)

kept_on : (es more most : Entries) (k : List ℕ) → Kept es more k → Kept more most k → Kept es most k
kept_on es more most k (inl e) (inl f) = inl (f ∙ e)
kept_on es more most k (inl e) (inr f) = inr (sym e ∙ f.0, f.1)
kept_on es more most k (inr e) (inl f) = inr (e.0, f ∙ e.1)
kept_on es more most k (inr e) (inr f) = inr (e.0, f.1)

pub kept_wanting : (names : List (List ℕ)) (es : Entries) (k : List ℕ) → Kept es (with_wanting names es) k
kept_wanting [] es k = inl refl
kept_wanting (name ∷ names) es k = at (is_some (value_at es name)) (λ l. kept_wanting names l k)
  where
    at : (b : Bool) → ((l : Entries) → Kept l (with_wanting names l) k) → Kept es (with_wanting names (cond b es (es ++ (name, Null) ∷ []))) k
    at true more = more es
    at false more =
        let l = es ++ (name, Null) ∷ [] in kept_on es l (with_wanting names l) k (pushed_value es name k) (more l)

pushed_apart : (es : Entries) (name : List ℕ) → value_at es name ≡ None → Apart es → Apart (es ++ (name, Null) ∷ [])
pushed_apart [] name new h = (refl, tt)
pushed_apart (e ∷ es) name new h = at (bytes_eq name e.0) refl (pushed_apart es name) new
  where
    behind : bytes_eq e.0 name ≡ false → (l : Entries) → value_at l e.0 ≡ None → value_at (l ++ (name, Null) ∷ []) e.0 ≡ None
    behind differs [] none = ap (λ b. cond b (Some Null) None) differs
    behind differs (f ∷ fs) none = by (bytes_eq e.0 f.0) (behind differs fs) none
      where
        by : (b : Bool) → (value_at fs e.0 ≡ None → value_at (fs ++ (name, Null) ∷ []) e.0 ≡ None) → cond b (Some f.1) (value_at fs e.0) ≡ None
            → cond b (Some f.1) (value_at (fs ++ (name, Null) ∷ []) e.0) ≡ None
        by true more none = absurd (cc none)
        by false more none = more none

    at : (b : Bool) → bytes_eq name e.0 ≡ b → (value_at es name ≡ None → Apart es → Apart (es ++ (name, Null) ∷ [])) → cond b (Some e.1) (value_at es name) ≡ None
        → Apart (e ∷ (es ++ (name, Null) ∷ []))
    at true same more none = absurd (cc none)
    at false differs more none = (behind (turned_text name e.0 differs) es h.0, more none h.1)

-- no key twice, with those that are wanting
pub apart_wanting : (names : List (List ℕ)) (es : Entries) → Apart es → Apart (with_wanting names es)
apart_wanting [] es h = h
apart_wanting (name ∷ names) es h = at (value_at es name) refl (apart_wanting names)
  where
    at : (o : Option Tree) → value_at es name ≡ o → ((l : Entries) → Apart l → Apart (with_wanting names l))
        → Apart (with_wanting names (cond (is_some o) es (es ++ (name, Null) ∷ [])))
    at None e more = more (es ++ (name, Null) ∷ []) (pushed_apart es name e h)
    at (Some tree) e more = more es h

-- each wanted name is there
still_there : (es more : Entries) (k : List ℕ) → Kept es more k → is_some (value_at es k) ≡ true → is_some (value_at more k) ≡ true
still_there es more k (inl e) some = ap is_some e ∙ some
still_there es more k (inr e) some = ap is_some e.1

there_pushed : (es : Entries) (name : List ℕ) → is_some (value_at (es ++ (name, Null) ∷ []) name) ≡ true
there_pushed [] name = ap (λ b. is_some (cond b (Some Null) None)) (own_text name)
there_pushed (e ∷ es) name = at (bytes_eq name e.0) (there_pushed es name)
  where
    at : (b : Bool) → is_some (value_at (es ++ (name, Null) ∷ []) name) ≡ true → is_some (cond b (Some e.1) (value_at (es ++ (name, Null) ∷ []) name)) ≡ true
    at true h = refl
    at false h = h

pub wanted_there : (names : List (List ℕ)) (es : Entries) → OfAll (λ name. is_some (value_at (with_wanting names es) name) ≡ true) names
wanted_there [] es = tt
wanted_there (name ∷ names) es = at (is_some (value_at es name)) refl (wanted_there names)
  where
    at : (b : Bool) → is_some (value_at es name) ≡ b → ((l : Entries) → OfAll (λ n. is_some (value_at (with_wanting names l) n) ≡ true) names)
        → OfAll (λ n. is_some (value_at (with_wanting names (cond b es (es ++ (name, Null) ∷ []))) n) ≡ true) (name ∷ names)
    at true e rest = (still_there es (with_wanting names es) name (kept_wanting names es name) e, rest es)
    at false e rest =
        let more = es ++ (name, Null) ∷ [] in
        (still_there more (with_wanting names more) name (kept_wanting names more name) (there_pushed es name), rest more)

-- entries whose keys extend nothing
abbrev pub IsOwn : List ℕ × Tree → Type 0
IsOwn entry = is_extension entry.0 ≡ false

module _ (P : List ℕ × Tree → Type 0) where
  pub all_own : (es : Entries) → OfAll P es → OfAll (λ e. P e × IsOwn e) (own_entries es)
  all_own [] h = tt
  all_own (e ∷ es) h = at (is_extension e.0) refl (all_own es h.1)
    where
      at : (b : Bool) → is_extension e.0 ≡ b → OfAll (λ e. P e × IsOwn e) (own_entries es) → OfAll (λ e. P e × IsOwn e) (cond (not b) (e ∷ own_entries es) (own_entries es))
      at true is rest = rest
      at false is rest = ((h.0, is), rest)

-- they are all their own entries
pub own_stay : (es : Entries) → OfAll IsOwn es → own_entries es ≡ es
own_stay [] h = refl
own_stay (e ∷ es) h = ap (λ b. cond (not b) (e ∷ own_entries es) (own_entries es)) h.0 ∙ ap (λ l. e ∷ l) (own_stay es h.1)

own_value : (es : Entries) (k : List ℕ) → value_at es k ≡ None → value_at (own_entries es) k ≡ None
own_value [] k none = refl
own_value (e ∷ es) k none = at (is_extension e.0) (bytes_eq k e.0) refl (own_value es k) none
  where
    at : (x b : Bool) → bytes_eq k e.0 ≡ b → (value_at es k ≡ None → value_at (own_entries es) k ≡ None) → cond b (Some e.1) (value_at es k) ≡ None
        → value_at (cond (not x) (e ∷ own_entries es) (own_entries es)) k ≡ None
    at x true same more none = absurd (cc none)
    at true false differs more none = more none
    at false false differs more none = ap (λ b. cond b (Some e.1) (value_at (own_entries es) k)) differs ∙ more none

-- and have no key twice where the others don't
pub own_apart : (es : Entries) → Apart es → Apart (own_entries es)
own_apart [] h = tt
own_apart (e ∷ es) h = at (is_extension e.0) (own_apart es h.1)
  where
    at : (x : Bool) → Apart (own_entries es) → Apart (cond (not x) (e ∷ own_entries es) (own_entries es))
    at true rest = rest
    at false rest = (own_value es e.0 h.0, rest)
