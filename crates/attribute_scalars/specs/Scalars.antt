-- What a scalar writes, by its form (Compose Specification, each attribute's own section).
use Rattle.std.specs.Prelude.{ℕ, ℤ, pos, negsuc, ◌-◌, ◌==◌, ◌&&◌, ◌||◌, Bool, true, false, not, List, [], ◌∷◌, Option, Some, None, codes, drop, is_some, nat_eq, nat_lt, length, if◌then◌else◌}
use Rattle.std.specs.List.{list_all, list_any, starts_with}
use Rattle.std.specs.Option.{ok_or, option_and_then, option_map}
use Rattle.std.specs.Str.{bytes_eq, str_to_ascii_lowercase}
use Rattle.tree_base.specs.Limits.{greatest_number}
use Rattle.short_forms.specs.Cuts.{cut_once}
use Rattle.short_forms.specs.Digits.{number_up_to}
use Rattle.short_forms.specs.PortLaws.{target_in}
use Rattle.short_forms.specs.Ports.{is_protocol}
use Rattle.tree_base.specs.Answers.{◌>>=◌}
use Rattle.tree_base.specs.declared.Tree.{Tree}
use Rattle.tree_base.specs.declared.Tree.TheOpen.{Tree-F}
use Rattle.attribute_types.specs.declared.form.ItemForm.{ItemForm}
use Rattle.attribute_types.specs.declared.form.ItemForm.TheVariants.{Device, Exposed, SecurityOption, Tmpfs}
use Rattle.attribute_types.specs.declared.form.WordSet.{WordSet}
use Rattle.attribute_types.specs.declared.form.WordSet.TheVariants as words
use Rattle.attribute_types.specs.declared.refusal.AttributeRefusal.TheVariants.{At}
use Rattle.attribute_types.specs.declared.refusal.Fault.{Fault}
use Rattle.attribute_scalars.specs.Walks.{Read, is_in}

-- a word is one of some, in any case
abbrev pub is_word_in : List (List ℕ) → List ℕ → Bool
is_word_in some text = list_any (bytes_eq (str_to_ascii_lowercase text)) some

-- the words for yes
abbrev pub yes_words : List (List ℕ)
yes_words = codes "true" ∷ codes "yes" ∷ codes "on" ∷ codes "y" ∷ []

-- the words for no
abbrev pub no_words : List (List ℕ)
no_words = codes "false" ∷ codes "no" ∷ codes "off" ∷ codes "n" ∷ []

-- the bool that a text writes
abbrev pub bool_of : List ℕ → Option Bool
bool_of text =
    if is_word_in yes_words text then Some true
    else (if is_word_in no_words text then Some false else None)

-- the number that digits write, at most 9,223,372,036,854,775,807
abbrev pub num_of : List ℕ → Option ℕ
num_of text = number_up_to greatest_number text

-- a number, or -1
abbrev pub int_of : List ℕ → Option ℤ
int_of text = if bytes_eq text (codes "-1") then Some (negsuc 0) else option_map pos (num_of text)

-- the text of a scalar
abbrev pub text_in : Tree-F Tree → Option (List ℕ)
text_in (Tree-F.Scalar text) = Some text
text_in tree = None

-- the text of a scalar; another tree is of another kind
abbrev pub text_of : Tree-F Tree → Read (List ℕ)
text_of tree = ok_or (text_in tree) (At Fault.WrongKind [])

-- what a scalar writes; one that doesn't write it is of another kind too
abbrev pub written : {X : Type 0} → (List ℕ → Option X) → Tree-F Tree → Read X
written read tree = ok_or (option_and_then read (text_in tree)) (At Fault.WrongKind [])

-- a scalar's text, or what is read of it, where that is a value which the attribute may have
abbrev pub accepted : {X : Type 0} → (List ℕ → Option X) → Tree-F Tree → Read X
accepted read tree = text_of tree >>= λ text. ok_or (read text) (At Fault.BadValue [])

-- a text that passes a test
abbrev pub if_passes : (List ℕ → Bool) → List ℕ → Option (List ℕ)
if_passes test text = if test text then Some text else None

-- the words that an attribute may have (Compose Specification: `network_mode`, `pull_policy`, `restart`, the types of mounts, the
-- protocols of ports, `selinux`, the conditions of `depends_on`)
abbrev pub words_of : WordSet → List (List ℕ)
words_of words.NetworkModes = codes "none" ∷ codes "host" ∷ codes "bridge" ∷ []
words_of words.PullPolicies =
    codes "always" ∷ codes "never" ∷ codes "missing" ∷ codes "if_not_present" ∷ codes "build" ∷ []
words_of words.Restarts = codes "no" ∷ codes "always" ∷ codes "unless-stopped" ∷ codes "on-failure" ∷ []
words_of words.OwnNamespaces = []
words_of words.MountTypes = codes "bind" ∷ codes "volume" ∷ codes "tmpfs" ∷ []
words_of words.Protocols = codes "tcp" ∷ codes "udp" ∷ codes "sctp" ∷ []
words_of words.Labels = codes "z" ∷ codes "Z" ∷ []
words_of words.Conditions =
    codes "service_started" ∷ codes "service_healthy" ∷ codes "service_completed_successfully" ∷ []

-- `on-failure:N`, where N is how often a container is started again
abbrev pub is_counted_restart : List ℕ → Bool
is_counted_restart text =
    starts_with nat_eq text (codes "on-failure:") && is_some (num_of (drop 11 text))

-- a namespace that is another service's or container's (Compose Specification: `ipc`, `pid`)
abbrev pub is_of_another : List ℕ → Bool
is_of_another text =
    starts_with nat_eq text (codes "service:") || starts_with nat_eq text (codes "container:")

-- one of the words; a restart may have its count, and a namespace is any but another's
abbrev pub is_word_of : WordSet → List ℕ → Bool
is_word_of words.OwnNamespaces text = not (is_of_another text)
is_word_of words.Restarts text = is_in (words_of words.Restarts) text || is_counted_restart text
is_word_of set text = is_in (words_of set) text

-- a text in which no `:` stands
abbrev pub has_no_colon : List ℕ → Bool
has_no_colon text = not (list_any (λ b. b == 58) text)

-- a text that isn't empty
abbrev pub is_nonempty : List ℕ → Bool
is_nonempty text = nat_lt 0 (length text)

-- what may be done with a device: read, write, make nodes
abbrev pub is_permission : ℕ → Bool
is_permission b = (b == 114) || ((b == 119) || (b == 109))

-- one such letter or more
abbrev pub are_permissions : List ℕ → Bool
are_permissions text = is_nonempty text && list_all is_permission text

-- a path in the container, and maybe permissions behind a colon
abbrev pub are_behind_host : List ℕ → Option (List ℕ × List ℕ) → Bool
are_behind_host text None = is_nonempty text
are_behind_host text (Some (container, permissions)) = is_nonempty container && are_permissions permissions

-- a path on the host, and maybe what stands behind a colon
abbrev pub are_of_device : List ℕ → Option (List ℕ × List ℕ) → Bool
are_of_device text None = is_nonempty text
are_of_device text (Some (host, rest)) = is_nonempty host && are_behind_host rest (cut_once 58 rest)

-- a port from 1 to 65,535, and maybe a protocol behind a slash
abbrev pub are_of_exposed : List ℕ → Option (List ℕ × List ℕ) → Bool
are_of_exposed text None = is_some (target_in text)
are_of_exposed text (Some (port, protocol)) = is_some (target_in port) && is_protocol protocol

-- a path that isn't empty, and maybe options behind a colon
abbrev pub begins_with_path : List ℕ → Bool
begins_with_path [] = false
begins_with_path (b ∷ bs) = not (b == 58)

-- a profile of system calls as the Engine takes it: the word of one, or its JSON, and not a file's path
abbrev pub is_profile : List ℕ → Bool
is_profile text = is_in (codes "unconfined" ∷ codes "builtin" ∷ []) text || starts_with nat_eq text (codes "{")

-- what stands behind a word, where a text begins with it, is such a profile
abbrev pub has_profile : List ℕ → List ℕ → Bool
has_profile text word = not (starts_with nat_eq text word) || is_profile (drop (length word) text)

-- an option of security: any text, but of a profile of system calls one that the Engine takes
abbrev pub is_security_option : List ℕ → Bool
is_security_option text = has_profile text (codes "seccomp=") && has_profile text (codes "seccomp:")

-- a text of a list has the form of its attribute (Compose Specification: `devices`, `expose`, `tmpfs`, `security_opt`)
abbrev pub has_form : ItemForm → List ℕ → Bool
has_form Device text = are_of_device text (cut_once 58 text)
has_form Exposed text = are_of_exposed text (cut_once 47 text)
has_form Tmpfs text = begins_with_path text
has_form SecurityOption text = is_security_option text
