-- The mounts that short forms give, and how each reads back from its own short form and from its long form.
use Rattle.std.proofs.Common.{◌≡◌, ◌∙◌, ℕ, Bool, true, false, ◌&&◌, ◌||◌, eqb, List, [], ◌∷◌, ◌++◌, codes, filter, slice_index, Option, None, Some, IfSome, ◌⊎◌, inl, inr, bytes_eq, refl, sym, ap, subst}
use Rattle.std.proofs.lemmas.Bool.{and_parts, cond-true, or_cases}
use Rattle.std.proofs.lemmas.Slice.Eq.{bytes_eq-Decides}
use Rattle.std.proofs.lemmas.Option.{cond_some, option_and_then_some}
use Rattle.std.specs.List.{last_or, list_all}
use Rattle.std.specs.Option.{option_and_then, option_map}
use Rattle.tree_base.specs.Entries.{value_at}
use Rattle.tree_base.specs.declared.tree.Tree.TheVariants.{Map, Scalar, outs-Map, outs-Scalar}
use Rattle.short_forms.specs.Cuts.{parts_at}
use Rattle.short_forms.specs.Mounts.{is_label, is_mode, is_read_only, kind_of, label_of, mode_behind, mode_of, mount_at, mount_from, mount_in, mount_of, plain}
use Rattle.short_forms.specs.declared.mounts.Mode.{Mode}
use Rattle.short_forms.specs.declared.mounts.Mount.{Mount}
use Rattle.short_forms.specs.declared.mounts.MountKind.{MountKind}
use Rattle.short_forms.specs.declared.mounts.MountKind.TheVariants.{Bind, Volume, Tmpfs}
use Rattle.short_forms.specs.LongForms.{Entries, map_entries, scalar_text, text_under, with_text}
use Rattle.short_forms.specs.MountLaws.{flag_in, flag_word, kind_in, label_in, label_under, long_mount, mode_text, mount_of_entries, mount_of_tree, short_mount, short_with, type_word, with_label}
use Rattle.short_forms.proofs.Lacking.{lacks, parts_alone, parts_behind, parts_lack}

-- a label of a mount, where it has one
abbrev IsLabelled : Option (List ℕ) → Type 0
IsLabelled label = IfSome label (λ word. is_label word ≡ true)

last_passes : (p : List ℕ → Bool) (otherwise : Option (List ℕ)) (words : List (List ℕ)) → IfSome otherwise (λ word. p word ≡ true) → IfSome (last_or otherwise (filter p words)) (λ word. p word ≡ true)
last_passes p otherwise [] given = given
last_passes p otherwise (word ∷ words) given = by (p word) refl (last_passes p otherwise words given) (λ e. last_passes p (Some word) words e)
  where
    by : (b : Bool) → p word ≡ b → IfSome (last_or otherwise (filter p words)) (λ word. p word ≡ true) → (p word ≡ true → IfSome (last_or (Some word) (filter p words)) (λ word. p word ≡ true))
        → IfSome (last_or otherwise (filter p (word ∷ words))) (λ word. p word ≡ true)
    by true e rest more = rw e (more e)
    by false e rest more = rw e rest

same_word : (word other : List ℕ) → bytes_eq word other ≡ true → word ≡ other
same_word word other e = (bytes_eq-Decides word other).0 e

label_is : (label : List ℕ) → is_label label ≡ true → (label ≡ codes "z") ⊎ (label ≡ codes "Z")
label_is label e = elim (or_cases (bytes_eq label (codes "z")) (bytes_eq label (codes "Z")) e) [ inl small ↦ inl (same_word label (codes "z") small) | inr large ↦ inr (same_word label (codes "Z") large) ]

-- a mode reads back
mode_back : (read_only : Bool) (label : Option (List ℕ)) → IsLabelled label → (lacks 58 (mode_text read_only label) ≡ true) × (mode_of (mode_text read_only label) ≡ Some (record { read_only = read_only; selinux = label }))
mode_back true None is = (refl, refl)
mode_back false None is = (refl, refl)
mode_back read_only (Some label) is =
    elim (label_is label is) [
      | inl small ↦ subst (λ (l : List ℕ). (lacks 58 (mode_text read_only (Some l)) ≡ true) × (mode_of (mode_text read_only (Some l)) ≡ Some (record { read_only = read_only; selinux = Some l }))) (sym small) (small_back read_only)
      | inr large ↦ subst (λ (l : List ℕ). (lacks 58 (mode_text read_only (Some l)) ≡ true) × (mode_of (mode_text read_only (Some l)) ≡ Some (record { read_only = read_only; selinux = Some l }))) (sym large) (large_back read_only)
    ]
  where
    small_back : (b : Bool) → (lacks 58 (mode_text b (Some (codes "z"))) ≡ true) × (mode_of (mode_text b (Some (codes "z"))) ≡ Some (record { read_only = b; selinux = Some (codes "z") }))
    small_back true = (refl, refl)
    small_back false = (refl, refl)

    large_back : (b : Bool) → (lacks 58 (mode_text b (Some (codes "Z"))) ≡ true) × (mode_of (mode_text b (Some (codes "Z"))) ≡ Some (record { read_only = b; selinux = Some (codes "Z") }))
    large_back true = (refl, refl)
    large_back false = (refl, refl)

-- a mount as a short form spells it
abbrev IsSpelled : Mount → Option (List ℕ) → Type 0
IsSpelled mount None = mount_of mount.target ≡ Some mount
IsSpelled mount (Some source) = (lacks 58 source ≡ true) × (lacks 58 mount.target ≡ true) × (kind_of source ≡ Some mount.kind) × (eqb (slice_index mount.target 0) 47 ≡ true)

-- a mount that a short form can spell
pub record IsMount (mount : Mount) : Type 0 where
  pub spelled : IsSpelled mount mount.source
  pub label : IsLabelled mount.selinux

abbrev mount_with : MountKind → Option (List ℕ) → List ℕ → Mode → Mount
mount_with kind source target mode = record { kind = kind; source = source; target = target; read_only = mode.read_only; selinux = mode.selinux }

alone_is : (target : List ℕ) (mount : Mount) → lacks 58 target ≡ true → mount_at Volume None target plain ≡ Some mount → IsMount mount
alone_is target mount clean e =
    let found = cond_some (eqb (slice_index target 0) 47) (mount_with Volume None target plain) mount e in
    let back : mount_of target ≡ Some (mount_with Volume None target plain) =
    ap mount_in (parts_alone 58 target clean) ∙ cond-true (eqb (slice_index target 0) 47) (Some (mount_with Volume None target plain)) None found.0 in
    subst IsMount found.1 (record { spelled = back; label = tt })

from_is : (source target : List ℕ) (mode : Mode) (mount : Mount) → lacks 58 source ≡ true → lacks 58 target ≡ true → IsLabelled mode.selinux → mount_from source target mode ≡ Some mount → IsMount mount
from_is source target mode mount first second label e =
    option_and_then_some (λ kind. mount_at kind (Some source) target mode) (kind_of source) mount e
    (λ kind is more.
    let found = cond_some (eqb (slice_index target 0) 47) (mount_with kind (Some source) target mode) mount more in
    subst IsMount found.1 (record { spelled = (first, second, is, found.0); label = label }))

mode_is : (words : List (List ℕ)) (mode : Mode) → mode_behind plain words ≡ Some mode → IsLabelled mode.selinux
mode_is words mode e =
    let read : Mode = record { read_only = is_read_only false words; selinux = label_of None words } in
    let found = cond_some (is_mode words) read mode e in
    subst (λ (m : Mode). IsLabelled m.selinux) found.1 (last_passes is_label None words tt)

in_mount : (parts : List (List ℕ)) (mount : Mount) → list_all (lacks 58) parts ≡ true → mount_in parts ≡ Some mount → IsMount mount
in_mount [] mount clean e = absurd cc
in_mount (target ∷ []) mount clean e = alone_is target mount (and_parts (lacks 58 target) true clean).0 e
in_mount (source ∷ target ∷ []) mount clean e =
    let both = and_parts (lacks 58 source) (lacks 58 target && true) clean in
    from_is source target plain mount both.0 (and_parts (lacks 58 target) true both.1).0 tt e
in_mount (source ∷ target ∷ mode ∷ []) mount clean e =
    let both = and_parts (lacks 58 source) (lacks 58 target && (lacks 58 mode && true)) clean in
    option_and_then_some (mount_from source target) (mode_of mode) mount e
    (λ read is more. from_is source target read mount both.0 (and_parts (lacks 58 target) (lacks 58 mode && true) both.1).0 (mode_is (parts_at 44 mode) read is) more)
in_mount (source ∷ target ∷ mode ∷ part ∷ parts) mount clean e = absurd cc

is_mount : (text : List ℕ) (mount : Mount) → mount_of text ≡ Some mount → IsMount mount
is_mount text mount e = in_mount (parts_at 58 text) mount (parts_lack 58 text) e

with_source : (kind : MountKind) (source target : List ℕ) (read_only : Bool) (label : Option (List ℕ)) → lacks 58 source ≡ true → lacks 58 target ≡ true → kind_of source ≡ Some kind → eqb (slice_index target 0) 47 ≡ true → IsLabelled label
    → mount_of (source ++ 58 ∷ (target ++ 58 ∷ mode_text read_only label)) ≡ Some (record { kind = kind; source = Some source; target = target; read_only = read_only; selinux = label })
with_source kind source target read_only label first second is absolute labelled =
    let mode = mode_text read_only label in
    let read : Mode = record { read_only = read_only; selinux = label } in
    let back = mode_back read_only label labelled in
    ap mount_in (parts_behind 58 source (target ++ 58 ∷ mode) first ∙ ap (λ (l : List (List ℕ)). source ∷ l) (parts_behind 58 target mode second ∙ ap (λ (l : List (List ℕ)). target ∷ l) (parts_alone 58 mode back.0)))
    ∙ ap (option_and_then (mount_from source target)) back.1
    ∙ ap (option_and_then (λ k. mount_at k (Some source) target read)) is
    ∙ cond-true (eqb (slice_index target 0) 47) (Some (mount_with kind (Some source) target read)) None absolute

spelled_back : (mount : Mount) (source : Option (List ℕ)) → mount.source ≡ source → IsSpelled mount source → IsLabelled mount.selinux → mount_of (short_with mount source) ≡ Some mount
spelled_back mount None e is label = is
spelled_back mount (Some source) e (first, second, kind, absolute) label =
    with_source mount.kind source mount.target mount.read_only mount.selinux first second kind absolute label
    ∙ ap (λ (s : Option (List ℕ)). Some (record { kind = mount.kind; source = s; target = mount.target; read_only = mount.read_only; selinux = mount.selinux })) (sym e)

-- a mount that a short form gives reads back from its own
pub text_back : (text : List ℕ) (mount : Mount) → mount_of text ≡ Some mount → mount_of (short_mount mount) ≡ Some mount
text_back text mount e = let is = is_mount text mount e in spelled_back mount mount.source refl is.spelled is.label

kind_back : (kind : MountKind) → kind_in (type_word kind) ≡ Some kind
kind_back Bind = refl
kind_back Volume = refl
kind_back Tmpfs = refl

flag_back : (flag : Bool) → flag_in (Some (flag_word flag)) ≡ Some flag
flag_back true = refl
flag_back false = refl

module _ (type target flag : List ℕ) where
  -- the entries of a mount, by its options
  abbrev entries : Option (List ℕ) → Option (List ℕ) → Entries
  entries source label = (codes "type", Scalar type) ∷ (codes "target", Scalar target) ∷ with_text (codes "source") source ((codes "read_only", Scalar flag) ∷ with_label label)

  type_under : (source label : Option (List ℕ)) → text_under (codes "type") (entries source label) ≡ Some type
  type_under source label = ap scalar_text (outs-Scalar type)

  target_under : (source label : Option (List ℕ)) → text_under (codes "target") (entries source label) ≡ Some target
  target_under source label = ap scalar_text (outs-Scalar target)

  source_under : (source label : Option (List ℕ)) → text_under (codes "source") (entries source label) ≡ source
  source_under None None = refl
  source_under None (Some label) = refl
  source_under (Some source) label = ap scalar_text (outs-Scalar source)

  flag_under : (source label : Option (List ℕ)) → text_under (codes "read_only") (entries source label) ≡ Some flag
  flag_under None label = ap scalar_text (outs-Scalar flag)
  flag_under (Some source) label = ap scalar_text (outs-Scalar flag)

  bind_back : (label : List ℕ) → is_label label ≡ true → label_under (Some (Map ((codes "selinux", Scalar label) ∷ []))) ≡ Some (Some label)
  bind_back label is =
      ap (λ tree. option_and_then (λ all. label_in (text_under (codes "selinux") all)) (map_entries tree)) (outs-Map ((codes "selinux", Scalar label) ∷ []))
      ∙ ap (λ tree. label_in (scalar_text tree)) (outs-Scalar label)
      ∙ cond-true (is_label label) (Some (Some label)) None is

  label_back : (source label : Option (List ℕ)) → IsLabelled label → label_under (value_at (entries source label) (codes "bind")) ≡ Some label
  label_back None None is = refl
  label_back (Some source) None is = refl
  label_back None (Some label) is = bind_back label is
  label_back (Some source) (Some label) is = bind_back label is

entries_read : (kind : MountKind) (source : Option (List ℕ)) (target : List ℕ) (read_only : Bool) (label : Option (List ℕ)) → IsLabelled label
    → mount_of_entries (entries (type_word kind) target (flag_word read_only) source label) ≡ Some (record { kind = kind; source = source; target = target; read_only = read_only; selinux = label })
entries_read kind source target read_only label is =
    let type = type_word kind in
    let flag = flag_word read_only in
    let all = entries type target flag source label in
    let made : Option (List ℕ) → MountKind → List ℕ → Bool → Option (List ℕ) → Mount = λ s k t r l. record { kind = k; source = s; target = t; read_only = r; selinux = l } in
    let found = text_under (codes "source") all in
    let labelled : MountKind → List ℕ → Bool → Option (Option (List ℕ)) → Option Mount = λ k t r o. option_map (made found k t r) o in
    let flagged : MountKind → List ℕ → Option Bool → Option Mount = λ k t o. option_and_then (λ r. labelled k t r (label_under (value_at all (codes "bind")))) o in
    let targeted : MountKind → Option (List ℕ) → Option Mount = λ k o. option_and_then (λ t. flagged k t (flag_in (text_under (codes "read_only") all))) o in
    ap (λ (o : Option (List ℕ)). option_and_then (λ k. targeted k (text_under (codes "target") all)) (option_and_then kind_in o)) (type_under type target flag source label)
    ∙ ap (λ (o : Option MountKind). option_and_then (λ k. targeted k (text_under (codes "target") all)) o) (kind_back kind)
    ∙ ap (targeted kind) (target_under type target flag source label)
    ∙ ap (λ (o : Option (List ℕ)). flagged kind target (flag_in o)) (flag_under type target flag source label)
    ∙ ap (flagged kind target) (flag_back read_only)
    ∙ ap (labelled kind target read_only) (label_back type target flag source label is)
    ∙ ap (λ (s : Option (List ℕ)). Some (made s kind target read_only label)) (source_under type target flag source label)

-- a mount reads back from its long form
pub tree_back : (mount : Mount) → IsLabelled mount.selinux → mount_of_tree (long_mount mount) ≡ Some mount
tree_back mount is =
    ap (λ tree. option_and_then mount_of_entries (map_entries tree)) (outs-Map (entries (type_word mount.kind) mount.target (flag_word mount.read_only) mount.source mount.selinux))
    ∙ entries_read mount.kind mount.source mount.target mount.read_only mount.selinux is

-- so does one that a short form gives
pub short_tree_back : (text : List ℕ) (mount : Mount) → mount_of text ≡ Some mount → mount_of_tree (long_mount mount) ≡ Some mount
short_tree_back text mount e = tree_back mount (is_mount text mount e).label
