-- No refusal has status 0.
use Rattle.std.proofs.Common.{◌≡◌, ℕ, Some, None, sym, ◌∙◌, refl}
use Rattle.std.specs.Prelude.{Option}
use Rattle.engine_types.specs.declared.Outcome.{Outcome}
use Rattle.engine_types.specs.declared.SeenFault.{SeenFault}
use Rattle.engine_types.specs.declared.WireEnd.{WireEnd}
use Rattle.active_services.specs.declared.ActiveRefusal.{ActiveRefusal}
use Rattle.compose_words.specs.declared.WordsRefusal.{WordsRefusal}
use Rattle.declared_set.specs.declared.IdentityRefusal.{IdentityRefusal}
use Rattle.dotenv.specs.declared.refusal.EnvRefusal.{EnvRefusal}
use Rattle.file_digests.specs.declared.DigestRefusal.{DigestRefusal}
use Rattle.loaded_files.specs.declared.LoadRefusal.{LoadRefusal}
use Rattle.interpolate.specs.declared.refusal.SubstTreeRefusal.{SubstTreeRefusal}
use Rattle.merge_tables.specs.declared.refusal.MergeRefusal.{MergeRefusal}
use Rattle.loading_words.specs.Statuses.{active_status, env_status, merge_status, project_status, tree_status, yaml_status}
use Rattle.refusals.specs.Statuses.{refusal_status, status_of, words_status}
use Rattle.loading_words.specs.declared.ProjectRefusal.{ProjectRefusal}
use Rattle.refusals.specs.declared.Refusal.{Refusal}
use Rattle.refusals.specs.declared.Unbuilt.{Unbuilt}
use Rattle.run_model.specs.Ending.{lost_status, outcome_status, seen_status}
use Rattle.yaml_lines.specs.declared.refusal.YamlRefusal.{YamlRefusal}

lost_not_zero : (cause : WireEnd) → lost_status cause ≡ 0 → ⊥
lost_not_zero WireEnd.TooLarge e = absurd (cc e)
lost_not_zero WireEnd.Fault e = absurd (cc e)
lost_not_zero WireEnd.Ended e = absurd (cc e)
lost_not_zero (WireEnd.Malformed at) e = absurd (cc e)
lost_not_zero WireEnd.Encoded e = absurd (cc e)
lost_not_zero WireEnd.BadBody e = absurd (cc e)

seen_not_zero : (fault : SeenFault) → seen_status fault ≡ 0 → ⊥
seen_not_zero (SeenFault.Lost request cause) e = lost_not_zero cause e
seen_not_zero (SeenFault.NotSent request) e = absurd (cc e)
seen_not_zero (SeenFault.TooManyActions count) e = absurd (cc e)
seen_not_zero SeenFault.Memory e = absurd (cc e)
seen_not_zero (SeenFault.RequestFailed request status message) e = absurd (cc e)
seen_not_zero (SeenFault.PullFailed image message) e = absurd (cc e)
seen_not_zero (SeenFault.NetworkTwice name first second) e = absurd (cc e)
seen_not_zero (SeenFault.ForeignNetwork name id) e = absurd (cc e)
seen_not_zero (SeenFault.ExternalMissing kind name) e = absurd (cc e)
seen_not_zero (SeenFault.NeedsBuild service) e = absurd (cc e)

outcome_not_zero : (outcome : Outcome) → outcome_status outcome ≡ 0 → ⊥
outcome_not_zero (Outcome.Answered reply) e = absurd (cc e)
outcome_not_zero (Outcome.Lost cause) e = lost_not_zero cause e
outcome_not_zero Outcome.NotSent e = absurd (cc e)
outcome_not_zero Outcome.Memory e = absurd (cc e)

yaml_not_zero : (refusal : YamlRefusal) → yaml_status refusal ≡ 0 → ⊥
yaml_not_zero (YamlRefusal.Bad which place) e = absurd (cc e)
yaml_not_zero (YamlRefusal.TooDeep place) e = absurd (cc e)
yaml_not_zero (YamlRefusal.TooManyNodes place) e = absurd (cc e)
yaml_not_zero (YamlRefusal.TooMuchText place) e = absurd (cc e)
yaml_not_zero YamlRefusal.Memory e = absurd (cc e)

env_not_zero : (refusal : EnvRefusal) → env_status refusal ≡ 0 → ⊥
env_not_zero (EnvRefusal.BadLine line) e = absurd (cc e)
env_not_zero (EnvRefusal.BadQuote line) e = absurd (cc e)
env_not_zero (EnvRefusal.Subst line cause) e = absurd (cc e)
env_not_zero (EnvRefusal.TooMuchText line) e = absurd (cc e)
env_not_zero EnvRefusal.Memory e = absurd (cc e)

tree_not_zero : (refusal : SubstTreeRefusal) → tree_status refusal ≡ 0 → ⊥
tree_not_zero (SubstTreeRefusal.At path cause) e = absurd (cc e)
tree_not_zero SubstTreeRefusal.TooMuchText e = absurd (cc e)
tree_not_zero SubstTreeRefusal.Memory e = absurd (cc e)

merge_not_zero : (refusal : MergeRefusal) → merge_status refusal ≡ 0 → ⊥
merge_not_zero (MergeRefusal.KindMismatch path) e = absurd (cc e)
merge_not_zero (MergeRefusal.BadUniqueEntry path) e = absurd (cc e)
merge_not_zero (MergeRefusal.MarkUnderExtends path) e = absurd (cc e)
merge_not_zero MergeRefusal.TooManyNodes e = absurd (cc e)
merge_not_zero MergeRefusal.TooMuchText e = absurd (cc e)
merge_not_zero MergeRefusal.Memory e = absurd (cc e)

active_not_zero : (refusal : ActiveRefusal) → active_status refusal ≡ 0 → ⊥
active_not_zero (ActiveRefusal.DependencyDisabled service dependency) e = absurd (cc e)
active_not_zero ActiveRefusal.Memory e = absurd (cc e)

project_not_zero : (refusal : ProjectRefusal) → project_status refusal ≡ 0 → ⊥
project_not_zero (ProjectRefusal.BadName name) e = absurd (cc e)
project_not_zero (ProjectRefusal.TooManyServices count) e = absurd (cc e)
project_not_zero (ProjectRefusal.UnknownAttribute path) e = absurd (cc e)
project_not_zero (ProjectRefusal.WrongKind path) e = absurd (cc e)
project_not_zero (ProjectRefusal.BadValue path) e = absurd (cc e)
project_not_zero (ProjectRefusal.Undefined kind service name) e = absurd (cc e)
project_not_zero (ProjectRefusal.DependencyCycle services) e = absurd (cc e)

words_not_zero : (refusal : WordsRefusal) → words_status refusal ≡ 0 → ⊥
words_not_zero (WordsRefusal.UnknownWord at) e = absurd (cc e)
words_not_zero (WordsRefusal.MissingValue at) e = absurd (cc e)
words_not_zero (WordsRefusal.BadNumber at) e = absurd (cc e)
words_not_zero (WordsRefusal.BadChoice at) e = absurd (cc e)
words_not_zero (WordsRefusal.Twice at) e = absurd (cc e)
words_not_zero WordsRefusal.NoCommand e = absurd (cc e)
words_not_zero WordsRefusal.BadHost e = absurd (cc e)
words_not_zero WordsRefusal.Memory e = absurd (cc e)

refusal_not_zero : (refusal : Refusal) → refusal_status refusal ≡ 0 → ⊥
refusal_not_zero (Refusal.Words refusal) e = words_not_zero refusal e
refusal_not_zero (Refusal.NotBuilt Unbuilt.Words) e = absurd (cc e)
refusal_not_zero (Refusal.Load (LoadRefusal.NotFound path)) e = absurd (cc e)
refusal_not_zero (Refusal.Load (LoadRefusal.ReadFault path)) e = absurd (cc e)
refusal_not_zero (Refusal.Load (LoadRefusal.FileTooLarge path)) e = absurd (cc e)
refusal_not_zero (Refusal.Load (LoadRefusal.TooManyFiles path)) e = absurd (cc e)
refusal_not_zero (Refusal.Load (LoadRefusal.NoHome path)) e = absurd (cc e)
refusal_not_zero (Refusal.Load (LoadRefusal.Yaml path cause)) e = yaml_not_zero cause e
refusal_not_zero (Refusal.Load (LoadRefusal.EnvFile path cause)) e = env_not_zero cause e
refusal_not_zero (Refusal.Load (LoadRefusal.Subst path cause)) e = tree_not_zero cause e
refusal_not_zero (Refusal.Load (LoadRefusal.Merge path cause)) e = merge_not_zero cause e
refusal_not_zero (Refusal.Load (LoadRefusal.BadShape at)) e = absurd (cc e)
refusal_not_zero (Refusal.Load (LoadRefusal.ExtendsCycle services)) e = absurd (cc e)
refusal_not_zero (Refusal.Load (LoadRefusal.NoSuchBase file service)) e = absurd (cc e)
refusal_not_zero (Refusal.Load (LoadRefusal.IncludeCycle files)) e = absurd (cc e)
refusal_not_zero (Refusal.Load (LoadRefusal.Conflict kind key file)) e = absurd (cc e)
refusal_not_zero (Refusal.Load LoadRefusal.Memory) e = absurd (cc e)
refusal_not_zero (Refusal.Name refusal) e = project_not_zero refusal e
refusal_not_zero (Refusal.Active refusal) e = active_not_zero refusal e
refusal_not_zero (Refusal.Project refusal) e = project_not_zero refusal e
refusal_not_zero (Refusal.Digest (DigestRefusal.NotFound path)) e = absurd (cc e)
refusal_not_zero (Refusal.Digest (DigestRefusal.ReadFault path)) e = absurd (cc e)
refusal_not_zero (Refusal.Digest (DigestRefusal.FileTooLarge path)) e = absurd (cc e)
refusal_not_zero (Refusal.Digest DigestRefusal.Memory) e = absurd (cc e)
refusal_not_zero (Refusal.Identity (IdentityRefusal.UnknownScale service)) e = absurd (cc e)
refusal_not_zero (Refusal.Identity (IdentityRefusal.TooManyNeeds count)) e = absurd (cc e)
refusal_not_zero (Refusal.Identity (IdentityRefusal.NameTwice name)) e = absurd (cc e)
refusal_not_zero (Refusal.Identity IdentityRefusal.Memory) e = absurd (cc e)
refusal_not_zero (Refusal.Seen fault) e = seen_not_zero fault e
refusal_not_zero (Refusal.Request request outcome) e = outcome_not_zero outcome e
refusal_not_zero (Refusal.Condition slot condition report) e = absurd (cc e)
refusal_not_zero Refusal.Stopped e = absurd (cc e)
refusal_not_zero (Refusal.Late why) e = absurd (cc e)
refusal_not_zero (Refusal.Outside part) e = absurd (cc e)
refusal_not_zero Refusal.Memory e = absurd (cc e)

-- a call of status 0 isn't refused
pub not_refused : (refusal : Option Refusal) (status : ℕ) → status ≡ status_of refusal → status ≡ 0 → refusal ≡ None
not_refused None status e z = refl
not_refused (Some refusal) status e z = absurd (refusal_not_zero refusal (sym e ∙ z))
