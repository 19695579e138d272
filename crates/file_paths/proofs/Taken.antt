-- A path that is taken absolute has the same parts when it is taken again.
use Rattle.std.proofs.Common.{◌≡◌, ◌∙◌, ℕ, zero, suc, Bool, true, false, ◌-◌, ◌==◌, ◌||◌, cond, List, [], ◌∷◌, ◌++◌, length, take, fold, Ok, refl, sym, ap, append_assoc}
use Rattle.std.proofs.lemmas.List.{append-nil}
use Rattle.std.specs.Prelude.{nat_eq, codes}
use Rattle.std.specs.List.{flat_map, onto_first, slice_split, starts_with}
use Rattle.std.specs.Str.{bytes_eq}
use Rattle.attribute_paths.proofs.Trees.{OfAll}
use Rattle.file_paths.specs.Paths.{Variables, after_part, homed, joined, parts_of, path_through}
use Rattle.file_paths.proofs.Homes.{elsewhere}
use Rattle.file_paths.proofs.Joins.{from_root}

-- a text in which no slash stands
abbrev NoSlash : List ℕ → Type 0
NoSlash text = OfAll (λ (b : ℕ). (b == 47) ≡ false) text

-- the texts between slashes
abbrev cut : List ℕ → List (List ℕ)
cut text = slice_split (λ (b : ℕ). b == 47) text

onto : (b : ℕ) → (b == 47) ≡ false → (texts : List (List ℕ)) → OfAll NoSlash texts → OfAll NoSlash (onto_first b texts)
onto b e [] h = ((e, tt), tt)
onto b e (text ∷ texts) h = ((e, h.0), h.1)

-- no slash stands in these
cut_apart : (text : List ℕ) → OfAll NoSlash (cut text)
cut_apart [] = (tt, tt)
cut_apart (b ∷ bs) = by (cut_apart bs) (b == 47) refl
  where
    by : OfAll NoSlash (cut bs) → (slash : Bool) → (b == 47) ≡ slash → OfAll NoSlash (cut (b ∷ bs))
    by rest true e = rw e (tt, rest)
    by rest false e = rw e (onto b e (cut bs) rest)

-- a text up to a slash, and the last one
cut_first : (text more : List ℕ) → NoSlash text → cut (text ++ 47 ∷ more) ≡ text ∷ cut more
cut_first [] more h = refl
cut_first (b ∷ text) more h = rw h.0 (ap (onto_first b) (cut_first text more h.1))

cut_last : (text : List ℕ) → NoSlash text → cut text ≡ text ∷ []
cut_last [] h = refl
cut_last (b ∷ text) h = rw h.0 (ap (onto_first b) (cut_last text h.1))

-- texts with a slash before each
abbrev slashed : List (List ℕ) → List ℕ
slashed texts = flat_map (λ (p : List ℕ). 47 ∷ p) texts

cut_all : (text : List ℕ) (texts : List (List ℕ)) → NoSlash text → OfAll NoSlash texts → cut (text ++ slashed texts) ≡ text ∷ texts
cut_all text [] h k = ap cut (append-nil text) ∙ cut_last text h
cut_all text (next ∷ texts) h k = cut_first text (next ++ slashed texts) h ∙ ap (λ (l : List (List ℕ)). text ∷ l) (cut_all next texts k.0 k.1)

-- a part that stays: it isn't empty, `.` or `..`, and no slash stands in it
abbrev IsPart : List ℕ → Type 0
IsPart part = (bytes_eq part [] ≡ false) × (bytes_eq part (codes ".") ≡ false) × (bytes_eq part (codes "..") ≡ false) × NoSlash part

one_more : (parts : List (List ℕ)) (part : List ℕ) → OfAll IsPart parts → IsPart part → OfAll IsPart (parts ++ part ∷ [])
one_more [] part h k = (k, tt)
one_more (p ∷ parts) part h k = (h.0, one_more parts part h.1 k)

some_left : (n : ℕ) (parts : List (List ℕ)) → OfAll IsPart parts → OfAll IsPart (take n parts)
some_left zero parts h = tt
some_left (suc n) [] h = tt
some_left (suc n) (p ∷ parts) h = (h.0, some_left n parts h.1)

next_part : (parts : List (List ℕ)) (part : List ℕ) → OfAll IsPart parts → NoSlash part → OfAll IsPart (after_part parts part)
next_part parts part h k = by (bytes_eq part []) (bytes_eq part (codes ".")) (bytes_eq part (codes "..")) refl refl refl
  where
    by : (a b c : Bool) → bytes_eq part [] ≡ a → bytes_eq part (codes ".") ≡ b → bytes_eq part (codes "..") ≡ c → OfAll IsPart (cond (a || b) parts (cond c (take (length parts - 1) parts) (parts ++ part ∷ [])))
    by true b c p q r = h
    by false true c p q r = h
    by false false true p q r = some_left (length parts - 1) parts h
    by false false false p q r = one_more parts part h (p, q, r, k)

next_parts : (parts texts : List (List ℕ)) → OfAll IsPart parts → OfAll NoSlash texts → OfAll IsPart (fold after_part parts texts)
next_parts parts [] h k = h
next_parts parts (text ∷ texts) h k = next_parts (after_part parts text) texts (next_part parts text h k.0) k.1

-- the parts of a path are such
parts_stay : (text : List ℕ) → OfAll IsPart (parts_of text)
parts_stay text = next_parts [] (cut text) tt (cut_apart text)

no_slashes : (parts : List (List ℕ)) → OfAll IsPart parts → OfAll NoSlash parts
no_slashes [] h = tt
no_slashes (p ∷ parts) h = (h.0.3, no_slashes parts h.1)

-- such parts are taken as they are
taken : (done parts : List (List ℕ)) → OfAll IsPart parts → fold after_part done parts ≡ done ++ parts
taken done [] h = sym (append-nil done)
taken done (p ∷ parts) h = rw (h.0.0, h.0.1, h.0.2) (taken (done ++ p ∷ []) parts h.1 ∙ append_assoc done (p ∷ []) parts)

same_parts : (parts : List (List ℕ)) → OfAll IsPart parts → parts_of (path_through parts) ≡ parts
same_parts [] h = refl
same_parts (p ∷ parts) h =
    let apart = no_slashes (p ∷ parts) h in
    ap (λ (texts : List (List ℕ)). fold after_part [] texts) (cut_all p parts apart.0 apart.1) ∙ taken [] (p ∷ parts) h

-- a path through parts begins at the root, and not at the home directory
at_root : (parts : List (List ℕ)) → starts_with nat_eq (path_through parts) (codes "/") ≡ true
at_root [] = refl
at_root (p ∷ parts) = refl

not_home : (parts : List (List ℕ)) → starts_with nat_eq (path_through parts) (codes "~/") ≡ false
not_home [] = refl
not_home (p ∷ parts) = refl

-- a path through the parts of a text stays
through_stays : (directory text : List ℕ) → joined directory (path_through (parts_of text)) ≡ path_through (parts_of text)
through_stays directory text = from_root directory (path_through (parts_of text)) (at_root (parts_of text)) ∙ ap path_through (same_parts (parts_of text) (parts_stay text))

pub joined_stays : (directory other text : List ℕ) → joined other (joined directory text) ≡ joined directory text
joined_stays directory other text = through_stays other (cond (starts_with nat_eq text (codes "/")) text (directory ++ 47 ∷ text))

pub homed_stays : (directory other text : List ℕ) (env : Variables) → homed other env (joined directory text) ≡ Ok (joined directory text)
homed_stays directory other text env =
    elsewhere other env (joined directory text) (not_home (parts_of (cond (starts_with nat_eq text (codes "/")) text (directory ++ 47 ∷ text))))
    ∙ ap Ok (joined_stays directory other text)
