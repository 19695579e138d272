-- What comes of one task.
use Rattle.std.proofs.Common.{◌≡◌, ◌∙◌, ℕ, Bool, true, false, not, List, [], Option, Some, None, Result, Ok, Err, refl, sym, ap, subst, inl, inr}
use Rattle.std.specs.Prelude.{unwrap_or}
use mathlib.Core.List.{IsPrefix}
use Rattle.turn_ledger.proofs.Lists.{prefix_self}
use Rattle.engine_types.specs.declared.Outcome.{Outcome}
use Rattle.engine_types.specs.declared.Request.{Request}
use Rattle.outside_api.specs.Accounts.{Account, IsCausedIn}
use Rattle.log_frames.specs.declared.frame.Frame.{Frame}
use Rattle.log_frames.specs.declared.frame.FrameRefusal.{FrameRefusal}
use Rattle.log_frames.specs.declared.frame.FrameRefusal.TheVariants as refusals
use Rattle.log_frames.specs.declared.line.LogLine.{LogLine}
use Rattle.log_frames.specs.Cutting.{begun}
use Rattle.log_frames.specs.Frames.{IsBadAt, IsReply}
use Rattle.log_frames.specs.Laws.{entries}
use Rattle.log_frames.specs.Parts.{parts_of}
use Rattle.log_frames.proofs.OneReading.{read_one_way}
use Rattle.log_book.specs.declared.entries.LogEntry.{LogEntry}
use Rattle.logs_run.specs.declared.fetching.Fault.{Fault}
use Rattle.logs_run.specs.declared.fetching.Met.{Met}
use Rattle.logs_run.specs.declared.fetching.Reason.{Reason}
use Rattle.logs_run.specs.declared.tasks.Task.{Task}
use Rattle.logs_run.specs.Adding.{AddsReply, Grows, SeatView}
use Rattle.logs_run.specs.Fetching.{AreParts, Fetch, IsFramed, Leaves, bytes_told}
use Rattle.logs_run.specs.Met.{AsksFor, IsGood, IsReason, Meets, Notes, NotesAs, noted_as}
use Rattle.logs_run.proofs.Exchanging.{bytes_came}
use Rattle.logs_run.proofs.PartEntries.{grows_none, parts_own}

-- a reply is one list of frames, and no bad one
same_frames : (bytes : List ℕ) (fs gs : List Frame) → IsReply bytes fs → IsReply bytes gs → fs ≡ gs
same_frames bytes fs gs a b = let same : Ok fs ≡ Ok gs = read_one_way bytes (Ok fs) (Ok gs) (λ e. absurd cc) (λ e. absurd cc) a b in cc

not_bad : (bytes : List ℕ) (fs : List Frame) (at : ℕ) → IsReply bytes fs → IsBadAt bytes at → ⊥
not_bad bytes fs at a b = let same : Ok fs ≡ Err (refusals.BadFrame at) = read_one_way bytes (Ok fs) (Err (refusals.BadFrame at)) (λ e. absurd cc) (λ e. absurd cc) a b in absurd cc

same_bytes : (outcome : Outcome) (xs ys : List ℕ) → bytes_told outcome ≡ Some xs → bytes_told outcome ≡ Some ys → xs ≡ ys
same_bytes outcome xs ys a b = let same : Some xs ≡ Some ys = sym a ∙ b in cc

-- a fetch that left nothing, and isn't whole
leaves_none : (history : List LogEntry) (w : ℕ) (fetch : Fetch) → Leaves history w false fetch []
leaves_none history w fetch = record {
  own = tt;
  framed = λ bytes frames is. ([], tt, (entries begun bytes fetch.task.slot (parts_of frames), refl), λ h. absurd cc);
  unframed = λ h. refl;
}

-- a fetch whose bytes are no frames leaves nothing
leaves_bare : (history : List LogEntry) (w : ℕ) (whole : Bool) (fetch : Fetch) → ((bytes : List ℕ) (frames : List Frame) → IsFramed fetch bytes frames → ⊥) → Leaves history w whole fetch []
leaves_bare history w whole fetch bare = record { own = tt; framed = λ bytes frames is. absurd (bare bytes frames is); unframed = λ h. refl }

-- the fetch of an outcome
abbrev fetch_of : Task → Outcome → Fetch
fetch_of task outcome = record { task = task; outcome = outcome }

module _ (history : List LogEntry) (w : ℕ) (task : Task) (outcome : Outcome) (bytes : List ℕ) (told : bytes_told outcome ≡ Some bytes) where
  framed_so : (P : List ℕ → List Frame → Type 0) (frames : List Frame) → IsReply bytes frames → P bytes frames → (others : List ℕ) (gs : List Frame) → IsFramed (fetch_of task outcome) others gs → P others gs
  framed_so P frames reply h others gs is =
      let same : bytes ≡ others = same_bytes outcome bytes others told is.told in
      let fs : frames ≡ gs = same_frames bytes frames gs reply (subst (λ (b : List ℕ). IsReply b gs) (sym same) is.reply) in
      subst (λ (b : List ℕ). P b gs) same (subst (λ (f : List Frame). P bytes f) fs h)

  -- of a reply that is frames all parts
  leaves_all : (frames : List Frame) (added : List LogEntry) → IsReply bytes frames → AreParts history w task.slot (entries begun bytes task.slot (parts_of frames)) added → Leaves history w true (fetch_of task outcome) added
  leaves_all frames added reply are = record {
    own = parts_own history w task.slot (entries begun bytes task.slot (parts_of frames)) added are;
    framed = framed_so (λ b fs. (parts : List (List LogLine)) × AreParts history w task.slot parts added × IsPrefix parts (entries begun b task.slot (parts_of fs)) × (true ≡ true → parts ≡ entries begun b task.slot (parts_of fs)))
        frames reply (entries begun bytes task.slot (parts_of frames), are, prefix_self (entries begun bytes task.slot (parts_of frames)), λ h. refl);
    unframed = λ h. absurd (h bytes frames (record { told = told; reply = reply }));
  }

  -- or the first ones
  leaves_some : (frames : List Frame) (parts : List (List LogLine)) (added : List LogEntry) → IsReply bytes frames → AreParts history w task.slot parts added
      → IsPrefix parts (entries begun bytes task.slot (parts_of frames)) → Leaves history w false (fetch_of task outcome) added
  leaves_some frames parts added reply are first = record {
    own = parts_own history w task.slot parts added are;
    framed = framed_so (λ b fs. (ps : List (List LogLine)) × AreParts history w task.slot ps added × IsPrefix ps (entries begun b task.slot (parts_of fs)) × (false ≡ true → ps ≡ entries begun b task.slot (parts_of fs)))
        frames reply (parts, are, first, λ h. absurd cc);
    unframed = λ h. absurd (h bytes frames (record { told = told; reply = reply }));
  }

  -- bad bytes are no frames
  bad_bare : (at : ℕ) → IsBadAt bytes at → (others : List ℕ) (gs : List Frame) → IsFramed (fetch_of task outcome) others gs → ⊥
  bad_bare at bad others gs is = not_bad bytes gs at (subst (λ (b : List ℕ). IsReply b gs) (same_bytes outcome others bytes is.told told) is.reply) bad

  -- a reply that is frames isn't refused
  good_reply : (frames : List Frame) → IsReply bytes frames → IsGood (fetch_of task outcome)
  good_reply frames reply (Reason.Unframed at) (others, tells, bad) = not_bad bytes frames at reply (subst (λ (b : List ℕ). IsBadAt b at) (same_bytes outcome others bytes tells told) bad)
  good_reply frames reply (Reason.Failed request other) (asks, is, none) = let no_bytes : Some bytes ≡ None = sym told ∙ none in absurd cc

-- a fault is noted where there is none yet
noted_none : (fetch : Fetch) (old new : Option Fault) → new ≡ old → IsGood fetch → Notes fetch old new
noted_none fetch None new is good = subst (λ (o : Option Fault). Notes fetch None o) (sym is) good
noted_none fetch (Some fault) new is good = is

noted_some : (fetch : Fetch) (old new : Option Fault) (reason : Reason) → new ≡ Some (unwrap_or old (record { slot = fetch.task.slot; reason = reason })) → IsReason fetch reason → Notes fetch old new
noted_some fetch None new reason is h = subst (λ (o : Option Fault). Notes fetch None o) (sym is) (refl, h)
noted_some fetch (Some fault) new reason is h = is

true_false : (t : Bool) → t ≡ true → t ≡ false → ⊥
true_false t a b = let same : true ≡ false = sym a ∙ b in absurd cc

module _ (task : Task) (old new : Met) (going : old.short ≡ false) (v w : SeatView) (before told : Account) where
  -- bytes came
  pub meets_bytes : (outcome : Outcome) (bytes : List ℕ) (done : Result Unit FrameRefusal) → IsCausedIn (record { request = Request.Logs task.id; outcome = outcome }) before told
      → bytes_told outcome ≡ Some bytes → AddsReply bytes task.slot v w done → NotesAs task.slot (noted_as done) old new → Meets task old new v w before told
  meets_bytes outcome bytes (Ok done) caused came (frames, reply, adds) notes = record {
    fetch = fetch_of task outcome;
    is = refl;
    caused = caused;
    sent = λ h. bytes_came outcome bytes came;
    added = adds.added;
    leaves = subst (λ (t : Bool). Leaves w.seen v.number (not t) (fetch_of task outcome) adds.added) (sym (ap (λ (m : Met). m.short) notes ∙ going)) (leaves_all w.seen v.number task outcome bytes came frames adds.added reply adds.are);
    grows = adds.grows;
    noted = λ h. noted_none (fetch_of task outcome) old.fault new.fault (ap (λ (m : Met). m.fault) notes) (good_reply w.seen v.number task outcome bytes came frames reply);
  }
  meets_bytes outcome bytes (Err (refusals.BadFrame at)) caused came (bad, same) notes = record {
    fetch = fetch_of task outcome;
    is = refl;
    caused = caused;
    sent = λ h. bytes_came outcome bytes came;
    added = [];
    leaves = leaves_bare w.seen v.number (not new.short) (fetch_of task outcome) (bad_bare w.seen v.number task outcome bytes came at bad);
    grows = subst (λ (x : SeatView). Grows v x []) (sym same) (grows_none v);
    noted = λ h. noted_some (fetch_of task outcome) old.fault new.fault (Reason.Unframed at) (ap (λ (m : Met). m.fault) notes) (bytes, came, bad);
  }
  meets_bytes outcome bytes (Err refusals.Memory) caused came (inl same) notes = record {
    fetch = fetch_of task outcome;
    is = refl;
    caused = caused;
    sent = λ h. bytes_came outcome bytes came;
    added = [];
    leaves = subst (λ (t : Bool). Leaves w.seen v.number (not t) (fetch_of task outcome) []) (sym (ap (λ (m : Met). m.short) notes)) (leaves_none w.seen v.number (fetch_of task outcome));
    grows = subst (λ (x : SeatView). Grows v x []) (sym same) (grows_none v);
    noted = λ h. absurd (true_false new.short (ap (λ (m : Met). m.short) notes) h);
  }
  meets_bytes outcome bytes (Err refusals.Memory) caused came (inr (frames, reply, adds)) notes = record {
    fetch = fetch_of task outcome;
    is = refl;
    caused = caused;
    sent = λ h. bytes_came outcome bytes came;
    added = adds.added;
    leaves = subst (λ (t : Bool). Leaves w.seen v.number (not t) (fetch_of task outcome) adds.added) (sym (ap (λ (m : Met). m.short) notes))
        (leaves_some w.seen v.number task outcome bytes came frames adds.parts adds.added reply adds.are adds.first);
    grows = adds.grows;
    noted = λ h. absurd (true_false new.short (ap (λ (m : Met). m.short) notes) h);
  }

  -- none came
  pub meets_none : (reason : Option Reason) → w ≡ v → AsksFor task.id (Err reason) before told → NotesAs task.slot (Err reason) old new → Meets task old new v w before told
  meets_none None same asks notes = record {
    fetch = fetch_of task asks.outcome;
    is = refl;
    caused = asks.caused;
    sent = λ h. absurd (true_false new.short (ap (λ (m : Met). m.short) notes) h);
    added = [];
    leaves = subst (λ (t : Bool). Leaves w.seen v.number (not t) (fetch_of task asks.outcome) []) (sym (ap (λ (m : Met). m.short) notes)) (leaves_none w.seen v.number (fetch_of task asks.outcome));
    grows = subst (λ (x : SeatView). Grows v x []) (sym same) (grows_none v);
    noted = λ h. absurd (true_false new.short (ap (λ (m : Met). m.short) notes) h);
  }
  meets_none (Some (Reason.Unframed at)) same asks notes = absurd asks.tells
  meets_none (Some (Reason.Failed request other)) same asks notes = record {
    fetch = fetch_of task asks.outcome;
    is = refl;
    caused = asks.caused;
    sent = λ h. asks.tells.1;
    added = [];
    leaves = leaves_bare w.seen v.number (not new.short) (fetch_of task asks.outcome) (λ bytes frames is. let bytes_none : Some bytes ≡ None = sym is.told ∙ asks.tells.0 in absurd cc);
    grows = subst (λ (x : SeatView). Grows v x []) (sym same) (grows_none v);
    noted = λ h. noted_some (fetch_of task asks.outcome) old.fault new.fault (Reason.Failed request other) (ap (λ (m : Met). m.fault) notes) (asks.tells.2, asks.tells.3, asks.tells.0);
  }
