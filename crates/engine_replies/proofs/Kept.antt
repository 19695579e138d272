-- The value of a reply has texts of UTF-8, numbers of 64 bits, and keys in order.
use Rattle.std.proofs.Common.{◌≡◌, ◌∙◌, ◌<◌, ◌^◌, ℕ, ℤ, pos, negsuc, true, List, [], ◌∷◌, fold, map, refl, sym, ap, arith, Option, Some, None, IsUtf8, codes}
use Rattle.std.proofs.lemmas.Cmp.{nat_list_cmp_total}
use Rattle.std.proofs.lemmas.List.Elements.{All-head, All-tail}
use Rattle.std.proofs.lemmas.Str.{IsUtf8-append}
use Rattle.std.specs.Cmp.Lexicographic.{slice_cmp}
use Rattle.std.specs.List.{All}
use Rattle.std.specs.Ordering.{match_ordering, nat_cmp, ordering_reverse}
use Rattle.std.specs.Prelude.{⊤}
use Rattle.std.specs.declared.cmp.Ordering.{Ordering}
use Rattle.std.specs.declared.cmp.Ordering.TheVariants.{Equal, Greater, Less}
use Rattle.json.proofs.Printed.Utf8.{IsUtf8-are_ascii, are_ascii}
use Rattle.serde_json.specs.Data.{Data, Members, member, no_members, put, string}
use Rattle.serde_json.specs.View.{items_of}
use Rattle.tree_base.specs.declared.place.Var.{Var}
use Rattle.engine_types.specs.declared.ContainerState.{ContainerState}
use Rattle.engine_types.specs.declared.Health.{Health}
use Rattle.engine_types.specs.declared.Listed.{Listed}
use Rattle.engine_types.specs.declared.NetRow.{NetRow}
use Rattle.engine_types.specs.declared.Reply.{Reply}
use Rattle.engine_types.specs.declared.Report.{Report}
use Rattle.engine_bodies.specs.Json.{Member, array_of, empty_object, integer, mapping_of, object_of, pairs, set_of, with_member}
use Rattle.engine_replies.specs.Laws.{AreLabels, IsNumber, IsPlain, IsPlainContainer, IsPlainNetwork}
use Rattle.engine_replies.specs.Values.{health_word, listed_members, listed_value, network_members, network_value, object_with, report_members, report_value, state_word, value_of, volume_value}
use Rattle.engine_replies.proofs.ReadBack.{AreKept, AreKeptItems, IsBeforeAll, IsKept, IsSorted}

-- ---- what is put into a sorted object leaves it sorted

before_more : (k l : List ℕ) (ms : Members) → slice_cmp nat_cmp k l ≡ Less → IsBeforeAll l ms → IsBeforeAll k ms
before_more k l no_members e h = tt
before_more k l (member m d ms) e h = (nat_list_cmp_total.trans k l m e h.0, before_more k l ms e h.1)

before_at : (o : Ordering) (l k m : List ℕ) (d v : Data) (ms : Members) → slice_cmp nat_cmp l k ≡ Less → IsBeforeAll l (member m v ms) → IsBeforeAll l (put k d ms)
    → IsBeforeAll l (match_ordering o (member k d (member m v ms)) (member m d ms) (member m v (put k d ms)))
before_at Less l k m d v ms e h later = (e, h)
before_at Equal l k m d v ms e h later = h
before_at Greater l k m d v ms e h later = (h.0, later)

before_put : (l k : List ℕ) (d : Data) (ms : Members) → slice_cmp nat_cmp l k ≡ Less → IsBeforeAll l ms → IsBeforeAll l (put k d ms)
before_put l k d no_members e h = (e, tt)
before_put l k d (member m v ms) e h = before_at (slice_cmp nat_cmp k m) l k m d v ms e h (before_put l k d ms e h.1)

sorted_at : (o : Ordering) (k l : List ℕ) (d e : Data) (ms : Members) → slice_cmp nat_cmp k l ≡ o → IsSorted (member l e ms) → IsSorted (put k d ms)
    → IsSorted (match_ordering o (member k d (member l e ms)) (member l d ms) (member l e (put k d ms)))
sorted_at Less k l d e ms is h later = ((is, before_more k l ms is h.0), h)
sorted_at Equal k l d e ms is h later = h
sorted_at Greater k l d e ms is h later = (before_put l k d ms (nat_list_cmp_total.antisymm l k ∙ ap ordering_reverse is) h.0, later)

sorted_put : (k : List ℕ) (d : Data) (ms : Members) → IsSorted ms → IsSorted (put k d ms)
sorted_put k d no_members h = (tt, tt)
sorted_put k d (member l e ms) h = sorted_at (slice_cmp nat_cmp k l) k l d e ms refl h (sorted_put k d ms h.1)

kept_at : (o : Ordering) (k l : List ℕ) (d e : Data) (ms : Members) → IsUtf8 k → IsKept d → AreKept (member l e ms) → AreKept (put k d ms)
    → AreKept (match_ordering o (member k d (member l e ms)) (member l d ms) (member l e (put k d ms)))
kept_at Less k l d e ms u h hs later = (u, h, hs)
kept_at Equal k l d e ms u h hs later = (hs.0, h, hs.2)
kept_at Greater k l d e ms u h hs later = (hs.0, hs.1, later)

kept_put : (k : List ℕ) (d : Data) (ms : Members) → IsUtf8 k → IsKept d → AreKept ms → AreKept (put k d ms)
kept_put k d no_members u h hs = (u, h, tt)
kept_put k d (member l e ms) u h hs = kept_at (slice_cmp nat_cmp k l) k l d e ms u h hs (kept_put k d ms u h hs.2)

-- ---- tables and lists

-- what there may be is kept
abbrev pub KeptIfAny : Option Data → Type 0
KeptIfAny None = ⊤
KeptIfAny (Some d) = IsKept d

-- each row of a table is kept
abbrev KeptRows : List Member → Type 0
KeptRows [] = ⊤
KeptRows (m ∷ ms) = IsUtf8 m.0 × KeptIfAny m.1 × KeptRows ms

-- members are kept, in order
abbrev Good : Members → Type 0
Good ms = IsSorted ms × AreKept ms

with_good : (ms : Members) (name : List ℕ) (value : Option Data) → IsUtf8 name → KeptIfAny value → Good ms → Good (with_member ms (name, value))
unfolding with_member
with_good ms name None u h good = good
with_good ms name (Some d) u h good = (sorted_put name d ms good.0, kept_put name d ms u h good.1)

fold_good : (ms : Members) (rows : List Member) → KeptRows rows → Good ms → Good (fold with_member ms rows)
fold_good ms [] h good = good
fold_good ms (m ∷ rows) h good = fold_good (with_member ms m) rows h.2 (with_good ms m.0 m.1 h.0 h.1 good)

object_kept : (rows : List Member) → KeptRows rows → IsKept (object_of rows)
object_kept rows h = fold_good no_members rows h (tt, tt)

one_kept : (name : List ℕ) (d : Data) → are_ascii name ≡ true → IsKept d → IsKept (object_with name d)
one_kept name d a h = object_kept ((name, Some d) ∷ []) (IsUtf8-are_ascii name a, h, tt)

items_kept : {X : Type 0} (P : X → Type 0) (told : X → Data) → ((x : X) → P x → IsKept (told x)) → (xs : List X) → All P xs → AreKeptItems (items_of (map told xs))
items_kept P told each [] all = tt
items_kept P told each (x ∷ xs) all = (each x (All-head P x xs all), items_kept P told each xs (All-tail P x xs all))

array_kept : {X : Type 0} (P : X → Type 0) (told : X → Data) → ((x : X) → P x → IsKept (told x)) → (xs : List X) → All P xs → IsKept (array_of told xs)
array_kept P told each xs all = items_kept P told each xs all

keyed_kept : {X : Type 0} (P : X → Type 0) (key : X → List ℕ) (told : X → Data) → ((x : X) → P x → IsUtf8 (key x) × IsKept (told x)) → (xs : List X) → All P xs
    → KeptRows (map (λ x. (key x, Some (told x))) xs)
keyed_kept P key told each [] all = tt
keyed_kept P key told each (x ∷ xs) all =
    let here = each x (All-head P x xs all) in
    (here.0, here.1, keyed_kept P key told each xs (All-tail P x xs all))

pairs_kept : (labels : List Var) → All (λ label. IsUtf8 label.name × IsUtf8 label.value) labels → IsKept (pairs labels)
pairs_kept labels all =
    object_kept (map (λ pair. (pair.name, Some (string pair.value))) labels)
    (keyed_kept (λ label. IsUtf8 label.name × IsUtf8 label.value) (λ pair. pair.name) (λ pair. string pair.value) (λ label p. (p.0, p.1)) labels all)

set_kept : (names : List (List ℕ)) → All IsUtf8 names → IsKept (set_of names)
set_kept names all =
    object_kept (map (λ name. (name, Some empty_object)) names) (keyed_kept IsUtf8 (λ name. name) (λ name. empty_object) (λ name u. (u, (tt, tt))) names all)

integer_kept : (z : ℤ) → IsNumber z → IsKept (integer z)
integer_kept (pos n) h = omega (arith, h)
integer_kept (negsuc n) h = h

-- ---- replies

state_utf8 : (state : ContainerState) → IsUtf8 (state_word state)
state_utf8 ContainerState.Created = IsUtf8-are_ascii (codes "created") refl
state_utf8 ContainerState.Running = IsUtf8-are_ascii (codes "running") refl
state_utf8 ContainerState.Paused = IsUtf8-are_ascii (codes "paused") refl
state_utf8 ContainerState.Restarting = IsUtf8-are_ascii (codes "restarting") refl
state_utf8 ContainerState.Removing = IsUtf8-are_ascii (codes "removing") refl
state_utf8 ContainerState.Exited = IsUtf8-are_ascii (codes "exited") refl
state_utf8 ContainerState.Dead = IsUtf8-are_ascii (codes "dead") refl

health_utf8 : (health : Health) → IsUtf8 (health_word health)
health_utf8 Health.Absent = IsUtf8-are_ascii (codes "none") refl
health_utf8 Health.Starting = IsUtf8-are_ascii (codes "starting") refl
health_utf8 Health.Healthy = IsUtf8-are_ascii (codes "healthy") refl
health_utf8 Health.Unhealthy = IsUtf8-are_ascii (codes "unhealthy") refl

listed_kept : (row : Listed) → IsPlainContainer row → IsKept (listed_value row)
listed_kept row p =
    object_kept (listed_members row) (
      IsUtf8-are_ascii (codes "Id") refl,
      p.id,
      (
        IsUtf8-are_ascii (codes "ImageID") refl,
        p.image_id,
        (
          IsUtf8-are_ascii (codes "Labels") refl,
          pairs_kept row.labels p.labels.texts,
          (
            IsUtf8-are_ascii (codes "Names") refl,
            (IsUtf8-append (47 ∷ []) row.name (IsUtf8-are_ascii (47 ∷ []) refl) p.name, tt),
            (
              IsUtf8-are_ascii (codes "NetworkSettings") refl,
              one_kept (codes "Networks") (set_of row.networks) refl (set_kept row.networks p.network_texts),
              (IsUtf8-are_ascii (codes "State") refl, state_utf8 row.state, tt),
            ),
          ),
        ),
      ),
    )

report_kept : (report : Report) → IsNumber report.exit_code → IsKept (report_value report)
report_kept report h =
    object_kept (report_members report) (
      IsUtf8-are_ascii (codes "ExitCode") refl,
      integer_kept report.exit_code h,
      (
        IsUtf8-are_ascii (codes "Health") refl,
        one_kept (codes "Status") (string (health_word report.health)) refl (health_utf8 report.health),
        (IsUtf8-are_ascii (codes "Status") refl, state_utf8 report.state, tt),
      ),
    )

network_kept : (row : NetRow) → IsPlainNetwork row → IsKept (network_value row)
network_kept row p =
    object_kept (network_members row) (
      IsUtf8-are_ascii (codes "Id") refl,
      p.id,
      (
        IsUtf8-are_ascii (codes "Labels") refl,
        pairs_kept row.labels p.labels.texts,
        (IsUtf8-are_ascii (codes "Name") refl, p.name, tt),
      ),
    )

volume_kept : (name : List ℕ) → IsUtf8 name → IsKept (volume_value name)
volume_kept name u = one_kept (codes "Name") (string name) refl u

pub reply_kept : (reply : Reply) → IsPlain reply → KeptIfAny (value_of reply)
reply_kept (Reply.Containers rows) p = array_kept IsPlainContainer listed_value listed_kept rows p
reply_kept (Reply.State report) p = one_kept (codes "State") (report_value report) refl (report_kept report p)
reply_kept (Reply.Bytes bytes) p = tt
reply_kept (Reply.Made id) p = one_kept (codes "Id") (string id) refl p
reply_kept Reply.Done p = tt
reply_kept Reply.Already p = tt
reply_kept (Reply.Networks rows) p = array_kept IsPlainNetwork network_value network_kept rows p
reply_kept (Reply.Volumes names) p = one_kept (codes "Volumes") (array_of volume_value names) refl (array_kept IsUtf8 volume_value volume_kept names p)
reply_kept (Reply.ImageId id) p = one_kept (codes "Id") (string id) refl p
reply_kept Reply.Pulled p = tt
reply_kept (Reply.PullFailed message) p = one_kept (codes "error") (string message) refl p
reply_kept (Reply.Refused status message) p = one_kept (codes "message") (string message) refl p
