-- Variables that are laid over others win.
use Rattle.std.proofs.Common.{◌≡◌, ◌∙◌, ℕ, Bool, true, false, cond, List, [], ◌∷◌, Option, Some, None, refl, ap}
use Rattle.std.specs.Cmp.Lexicographic.{nat_list_eq_equiv}
use Rattle.std.specs.List.{AllByRecursion}
use Rattle.std.specs.Map.{keys_of}
use Rattle.std.specs.Str.{bytes_eq}
use Rattle.std.proofs.lemmas.Map.Keys.{IsDistinct-head, IsDistinct-tail}
use Rattle.dotenv.specs.Variables.{or_else, value}
use Rattle.dotenv.proofs.Puts.{value_put}
use Rattle.loaded_files.specs.EnvFiles.{with_all}
use Rattle.loaded_files.specs.Paths.{Variables}
use Rattle.tree_base.specs.Entries.{HasDistinctKeys, value_at, with_entry}

-- a name that none of the keys is has no value
absent : (key name : List ℕ) (es : Variables) → AllByRecursion (λ y. bytes_eq key y ≡ false) (keys_of es) → bytes_eq name key ≡ true → value_at es name ≡ None
absent key name [] h e = refl
absent key name (x ∷ es) h e =
    ap (λ (b : Bool). cond b (Some x.1) (value_at es name)) (nat_list_eq_equiv.congr name key x.0 e ∙ h.0) ∙ absent key name es h.1 e

pub wins : (lower upper : Variables) → HasDistinctKeys upper → (name : List ℕ) → value_at (with_all lower upper) name ≡ value upper lower name
wins lower [] h name = refl
wins lower (x ∷ upper) h name =
    wins (with_entry lower x.0 x.1) upper (IsDistinct-tail bytes_eq x.0 (keys_of upper) h) name
    ∙ ap (or_else (value_at upper name)) (value_put lower x.0 x.1 name)
    ∙ by (bytes_eq name x.0) refl
  where
    by : (b : Bool) → bytes_eq name x.0 ≡ b
        → or_else (value_at upper name) (cond b (Some x.1) (value_at lower name)) ≡ or_else (cond b (Some x.1) (value_at upper name)) (value_at lower name)
    by true e = ap (λ (o : Option (List ℕ)). or_else o (Some x.1)) (absent x.0 name upper (IsDistinct-head bytes_eq x.0 (keys_of upper) h) e)
    by false e = refl
