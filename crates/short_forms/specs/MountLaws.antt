-- Laws of mounts: what a mount is as a text and as a tree, and that both read back (Compose Specification, "volumes").
use Rattle.std.specs.Prelude.{◌≡◌, ℕ, Bool, true, false, if◌then◌else◌, List, [], ◌∷◌, ◌++◌, codes, Option, None, Some, IfSome}
use Rattle.std.specs.Option.{option_and_then, option_map}
use Rattle.std.specs.Str.{bytes_eq}
use Rattle.tree_base.specs.Entries.{value_at}
use Rattle.tree_base.specs.declared.tree.Tree.{Tree}
use Rattle.tree_base.specs.declared.tree.Tree.TheVariants.{Map, Scalar}
use Rattle.short_forms.specs.Mounts.{is_label, mount_of}
use Rattle.short_forms.specs.declared.mounts.Mount.{Mount}
use Rattle.short_forms.specs.declared.mounts.MountKind.{MountKind}
use Rattle.short_forms.specs.declared.mounts.MountKind.TheVariants.{Bind, Volume, Tmpfs}
use Rattle.short_forms.specs.LongForms.{Entries, entries_of, text_under, with_text}

-- who may write, as a word of a mode
abbrev pub access : Bool → List ℕ
access true = codes "ro"
access false = codes "rw"

-- the mode of a mount in a short form: who may write, and its label
abbrev pub mode_text : Bool → Option (List ℕ) → List ℕ
mode_text read_only None = access read_only
mode_text read_only (Some label) = access read_only ++ (codes "," ++ label)

-- a mount in the short form, by its source: `target`, or `source:target:mode`
abbrev pub short_with : Mount → Option (List ℕ) → List ℕ
short_with mount None = mount.target
short_with mount (Some source) = source ++ (codes ":" ++ (mount.target ++ (codes ":" ++ mode_text mount.read_only mount.selinux)))

-- a mount in the short form
abbrev pub short_mount : Mount → List ℕ
short_mount mount = short_with mount mount.source

-- a mount that a short form gives reads back from its own short form
abbrev pub ShortMountsReadBack : Type 0
ShortMountsReadBack = (text : List ℕ) (mount : Mount) → mount_of text ≡ Some mount → mount_of (short_mount mount) ≡ Some mount

-- the type of a mount
abbrev pub type_word : MountKind → List ℕ
type_word Bind = codes "bind"
type_word Volume = codes "volume"
type_word Tmpfs = codes "tmpfs"

-- the word of a bool
abbrev pub flag_word : Bool → List ℕ
flag_word true = codes "true"
flag_word false = codes "false"

-- the entry `bind` with a label, where there is one
abbrev pub with_label : Option (List ℕ) → Entries
with_label None = []
with_label (Some label) = (codes "bind", Map ((codes "selinux", Scalar label) ∷ [])) ∷ []

-- a mount in the long form: a type and a target, a source where it has one, whether it is read-only, and its label where it has one
abbrev pub long_mount : Mount → Tree
long_mount mount =
    Map ((codes "type", Scalar (type_word mount.kind)) ∷ (codes "target", Scalar mount.target) ∷ with_text (codes "source") mount.source ((codes "read_only", Scalar (flag_word mount.read_only)) ∷ with_label mount.selinux))

-- the kind that a type is
abbrev pub kind_in : List ℕ → Option MountKind
kind_in text =
    if bytes_eq text (codes "bind") then Some Bind
    else (if bytes_eq text (codes "volume") then Some Volume else (if bytes_eq text (codes "tmpfs") then Some Tmpfs else None))

-- a bool: false where it isn't given
abbrev pub flag_in : Option (List ℕ) → Option Bool
flag_in None = Some false
flag_in (Some text) = if bytes_eq text (codes "true") then Some true else (if bytes_eq text (codes "false") then Some false else None)

-- a label, which is `z` or `Z` where it is given
abbrev pub label_in : Option (List ℕ) → Option (Option (List ℕ))
label_in None = Some None
label_in (Some label) = if is_label label then Some (Some label) else None

-- the label under `bind`, which may be left out
abbrev pub label_under : Option Tree → Option (Option (List ℕ))
label_under None = Some None
label_under (Some bind) = option_and_then (λ entries. label_in (text_under (codes "selinux") entries)) (entries_of bind)

-- the mount of a long form's entries
abbrev pub mount_of_entries : Entries → Option Mount
mount_of_entries entries =
    option_and_then (λ kind.
    option_and_then (λ target.
    option_and_then (λ read_only.
    option_map (λ label. record { kind = kind; source = text_under (codes "source") entries; target = target; read_only = read_only; selinux = label })
    (label_under (value_at entries (codes "bind"))))
    (flag_in (text_under (codes "read_only") entries)))
    (text_under (codes "target") entries))
    (option_and_then kind_in (text_under (codes "type") entries))

-- the mount of a long form
abbrev pub mount_of_tree : Tree → Option Mount
mount_of_tree tree = option_and_then mount_of_entries (entries_of tree)

-- a mount whose label, where it has one, is `z` or `Z`, reads back from its long form
abbrev pub LongMountsReadBack : Type 0
LongMountsReadBack = (mount : Mount) → IfSome mount.selinux (λ label. is_label label ≡ true) → mount_of_tree (long_mount mount) ≡ Some mount

-- a mount that a short form gives reads back from its long form
abbrev pub ShortMountsAreLong : Type 0
ShortMountsAreLong = (text : List ℕ) (mount : Mount) → mount_of text ≡ Some mount → mount_of_tree (long_mount mount) ≡ Some mount
