-- The mode of a mount, word by word.
use Rattle.std.proofs.Common.{◌≡◌, Bool, true, false, ◌&&◌, ◌||◌, ℕ, List, [], ◌∷◌, Option, Some, None, cond, refl, ap, sym, ◌∙◌}
use Rattle.std.specs.List.{filter, last_or}
use Rattle.std.specs.Option.{option_and_then, option_map_or}
use Rattle.std.specs.Prelude.{codes}
use Rattle.std.specs.Str.{bytes_eq}
use Rattle.short_forms.specs.Mounts.{is_access, is_consistency, is_label, is_mode, is_read_only, label_of, mode_behind}
use Rattle.short_forms.specs.Cuts.{cut_once, parts_at}
use Rattle.short_forms.specs.declared.mounts.Mode.{Mode}
use Rattle.short_forms.proofs.CutLemmas.{split_cut, split_whole}

-- of two lists one behind the other, the last item
last_fixed : {A : Type 0} (f : A → Bool) (x : A) (xs : List A) (o p : Bool) → option_map_or f (last_or (Some x) xs) o ≡ option_map_or f (last_or (Some x) xs) p
last_fixed f x [] o p = refl
last_fixed f x (y ∷ ys) o p = last_fixed f y ys o p

last_behind : {A : Type 0} (f : A → Bool) (x : A) (xs : List A) (o : Bool) → option_map_or f (last_or (Some x) xs) o ≡ option_map_or f (last_or None xs) (f x)
last_behind f x [] o = refl
last_behind f x (y ∷ ys) o = last_fixed f y ys o (f x)

access_step : (o : Bool) (word : List ℕ) (words : List (List ℕ)) → is_read_only o (word ∷ words) ≡ is_read_only (is_read_only o (word ∷ [])) words
access_step o word words = at (is_access word)
  where
    at : (t : Bool) → option_map_or (bytes_eq (codes "ro")) (last_or None (cond t (word ∷ filter is_access words) (filter is_access words))) o
        ≡ option_map_or (bytes_eq (codes "ro")) (last_or None (filter is_access words)) (option_map_or (bytes_eq (codes "ro")) (last_or None (cond t (word ∷ []) [])) o)
    at true = last_behind (bytes_eq (codes "ro")) word (filter is_access words) o
    at false = refl

label_step : (o : Option (List ℕ)) (word : List ℕ) (words : List (List ℕ)) → label_of o (word ∷ words) ≡ label_of (label_of o (word ∷ [])) words
label_step o word words = at (is_label word)
  where
    at : (t : Bool) → last_or o (cond t (word ∷ filter is_label words) (filter is_label words)) ≡ last_or (last_or o (cond t (word ∷ []) [])) (filter is_label words)
    at true = refl
    at false = refl

and_again : (t rest : Bool) → (t && rest) ≡ ((t && true) && rest)
and_again true rest = refl
and_again false rest = refl

chained : (one rest both : Bool) → both ≡ (one && rest) → (whole first : Mode) (next : Mode → Mode) → whole ≡ next first
    → cond both (Some whole) None ≡ option_and_then (λ mode. cond rest (Some (next mode)) None) (cond one (Some first) None)
chained true rest both e whole first next same = ap (λ t. cond t (Some whole) None) e ∙ ap (λ mode. cond rest (Some mode) None) same
chained false rest both e whole first next same = ap (λ t. cond t (Some whole) None) e

abbrev behind : List (List ℕ) → Mode → Mode
behind words mode = record { read_only = is_read_only mode.read_only words; selinux = label_of mode.selinux words }

-- a mode with one word behind it, and the others behind that
pub mode_step : (mode : Mode) (word : List ℕ) (words : List (List ℕ)) → mode_behind mode (word ∷ words) ≡ option_and_then (λ next. mode_behind next words) (mode_behind mode (word ∷ []))
mode_step mode word words =
    chained (is_mode (word ∷ [])) (is_mode words) (is_mode (word ∷ words)) (and_again (is_access word || is_label word || is_consistency word) (is_mode words))
    (behind (word ∷ words) mode) (behind (word ∷ []) mode) (behind words)
    (λ i. record { read_only = access_step mode.read_only word words i; selinux = label_step mode.selinux word words i })

-- the words of a text that is cut at its first comma, and of one without a comma
module _ (mode : Mode) (text word more : List ℕ) (e : cut_once 44 text ≡ Some (word, more)) where
  pub mode_more : (next : Mode) → mode_behind mode (word ∷ []) ≡ Some next → mode_behind next (parts_at 44 more) ≡ mode_behind mode (parts_at 44 text)
  mode_more next first =
      ap (option_and_then (λ next. mode_behind next (parts_at 44 more))) (sym first) ∙ sym (mode_step mode word (parts_at 44 more))
      ∙ ap (mode_behind mode) (sym (split_cut 44 text word more e))

  pub mode_stops : mode_behind mode (word ∷ []) ≡ None → mode_behind mode (parts_at 44 text) ≡ None
  mode_stops none =
      ap (mode_behind mode) (split_cut 44 text word more e) ∙ mode_step mode word (parts_at 44 more)
      ∙ ap (option_and_then (λ next. mode_behind next (parts_at 44 more))) none

pub mode_last : (mode : Mode) (text : List ℕ) → cut_once 44 text ≡ None → mode_behind mode (text ∷ []) ≡ mode_behind mode (parts_at 44 text)
mode_last mode text e = ap (mode_behind mode) (sym (split_whole 44 text e))
