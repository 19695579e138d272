-- Paths at the home directory, and paths one after another.
use Rattle.std.proofs.Common.{◌≡◌, ◌∙◌, ℕ, true, false, List, ◌++◌, length, drop, Result, Ok, refl, sym, ap}
use Rattle.std.proofs.lemmas.Str.Pattern.{starts_text}
use Rattle.std.specs.Prelude.{nat_eq, codes}
use Rattle.std.specs.List.{starts_with}
use Rattle.std.specs.Str.Pattern.{FindsTextPrefix, StripsPrefix}
use Rattle.file_paths.specs.Paths.{Variables, home_in, homed, joined}
use Rattle.file_paths.specs.declared.refusal.PathRefusal.{PathRefusal}
use Rattle.tree_base.specs.Answers.{◌>>=◌}
use Rattle.tree_base.specs.Entries.{value_at}

-- a text without a prefix begins with that prefix
pub stripped : (n s x : List ℕ) → StripsPrefix (FindsTextPrefix n) s x → (starts_with nat_eq s n ≡ true) × (x ≡ drop (length n) s)
stripped n s x h =
    let r = h.1 in
    let same : s ≡ n ++ drop (length n) s = r.1 ∙ ap (λ (k : ℕ). n ++ drop k s) r.0 in
    (sym (starts_text true n s (length n, (refl, same, r.2), r.2)), h.2 ∙ ap (λ (k : ℕ). drop k s) r.0)

module _ (directory : List ℕ) (env : Variables) (text : List ℕ) where
  -- a path at the home directory, and one that isn't there
  pub at_home : (rest : List ℕ) → starts_with nat_eq text (codes "~/") ≡ true → rest ≡ drop 2 text → homed directory env text ≡ home_in directory text rest (value_at env (codes "HOME"))
  at_home rest h e = rw (h, e) refl

  pub elsewhere : starts_with nat_eq text (codes "~/") ≡ false → homed directory env text ≡ Ok (joined directory text)
  elsewhere h = rw h refl

-- the paths behind those that are done
abbrev pub behind : List (List ℕ) → Result (List (List ℕ)) PathRefusal → Result (List (List ℕ)) PathRefusal
behind homes more = more >>= λ ps. Ok (homes ++ ps)
