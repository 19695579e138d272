-- The short form of a mount (Compose Specification, "volumes", short syntax).
use Rattle.std.specs.Prelude.{ℕ, Bool, false, ◌==◌, ◌||◌, ◌&&◌, if◌then◌else◌, nat_eq, nat_lt, List, [], ◌∷◌, filter, length, slice_index, codes, Option, None, Some}
use Rattle.std.specs.Char.{is_ascii_alphanumeric}
use Rattle.std.specs.List.{last_or, list_all, starts_with}
use Rattle.std.specs.Option.{option_and_then, option_map_or}
use Rattle.std.specs.Str.{bytes_eq}
use Rattle.short_forms.specs.Cuts.{parts_at}
use Rattle.short_forms.specs.declared.mounts.Mode.{Mode}
use Rattle.short_forms.specs.declared.mounts.Mount.{Mount}
use Rattle.short_forms.specs.declared.mounts.MountKind.{MountKind}
use Rattle.short_forms.specs.declared.mounts.MountKind.TheVariants.{Bind, Volume}

-- a path of the host: it begins with `/`, `./`, `../` or `~/`, or is `.` or `..`
abbrev pub is_path : List ℕ → Bool
is_path source =
    bytes_eq source (codes ".") || bytes_eq source (codes "..") || starts_with nat_eq source (codes "/") || starts_with nat_eq source (codes "./") || starts_with nat_eq source (codes "../") || starts_with nat_eq source (codes "~/")

-- a letter, a digit, `_`, `.` or `-`
abbrev pub is_name_byte : ℕ → Bool
is_name_byte b = is_ascii_alphanumeric b || (b == 95) || (b == 46) || (b == 45)

-- the name of a volume
abbrev pub is_volume_name : List ℕ → Bool
is_volume_name source = nat_lt 0 (length source) && list_all is_name_byte source

-- whether a mount takes a path of the host or a volume, by its source
abbrev pub kind_of : List ℕ → Option MountKind
kind_of source = if is_path source then Some Bind else (if is_volume_name source then Some Volume else None)

-- the words of a mode that say who may write
abbrev pub is_access : List ℕ → Bool
is_access word = bytes_eq word (codes "ro") || bytes_eq word (codes "rw")

-- those that label the files for SELinux
abbrev pub is_label : List ℕ → Bool
is_label word = bytes_eq word (codes "z") || bytes_eq word (codes "Z")

-- those that are read and dropped
abbrev pub is_consistency : List ℕ → Bool
is_consistency word = bytes_eq word (codes "cached") || bytes_eq word (codes "delegated") || bytes_eq word (codes "consistent")

-- a list of such words
abbrev pub is_mode : List (List ℕ) → Bool
is_mode words = list_all (λ word. is_access word || is_label word || is_consistency word) words

-- whether a mount is read-only: the last word on it counts
abbrev pub is_read_only : Bool → List (List ℕ) → Bool
is_read_only otherwise words = option_map_or (bytes_eq (codes "ro")) (last_or None (filter is_access words)) otherwise

-- the label: the last one counts
abbrev pub label_of : Option (List ℕ) → List (List ℕ) → Option (List ℕ)
label_of otherwise words = last_or otherwise (filter is_label words)

-- what the words of a mode say; a mode that names no such word leaves what it was
abbrev pub mode_behind : Mode → List (List ℕ) → Option Mode
mode_behind mode words = if is_mode words then Some (record { read_only = is_read_only mode.read_only words; selinux = label_of mode.selinux words }) else None

-- a mount that is written to, without a label
abbrev pub plain : Mode
plain = record { read_only = false; selinux = None }

-- the mode of a text: words with commas between them
abbrev pub mode_of : List ℕ → Option Mode
mode_of text = mode_behind plain (parts_at 44 text)

-- a mount at a target, which is an absolute path
abbrev pub mount_at : MountKind → Option (List ℕ) → List ℕ → Mode → Option Mount
mount_at kind source target mode =
    if slice_index target 0 == 47 then Some (record { kind = kind; source = source; target = target; read_only = mode.read_only; selinux = mode.selinux }) else None

-- a mount from a source
abbrev pub mount_from : List ℕ → List ℕ → Mode → Option Mount
mount_from source target mode = option_and_then (λ kind. mount_at kind (Some source) target mode) (kind_of source)

-- the mount of the parts between colons: a target, a source and a target, or these and a mode
abbrev pub mount_in : List (List ℕ) → Option Mount
mount_in (target ∷ []) = mount_at Volume None target plain
mount_in (source ∷ target ∷ []) = mount_from source target plain
mount_in (source ∷ target ∷ mode ∷ []) = option_and_then (mount_from source target) (mode_of mode)
mount_in parts = None

-- the mount of a text: `target`, `source:target` or `source:target:mode`
abbrev pub mount_of : List ℕ → Option Mount
mount_of text = mount_in (parts_at 58 text)
