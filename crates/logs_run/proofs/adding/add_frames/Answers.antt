use Rattle.std.proofs.Common.{ℕ, ◌<◌, ◌≤◌, List, Result, Ok, Err, ap, length, subst, sym, arith}
use Rattle.std.specs.Result.{IsErr}
use Rattle.std.proofs.lemmas.Grind.{common_steps}
use Rattle.std.proofs.lemmas.List.{length-drop}
use Rattle.log_frames.specs.Cutting.{begun}
use Rattle.log_frames.specs.Frames.{LieIn}
use Rattle.log_frames.specs.Sides.{Sides}
use Rattle.log_frames.specs.declared.frame.Frame.{Frame}
use Rattle.log_frames.specs.declared.line.LogLine.{LogLine}
use Rattle.tree_base.specs.declared.memory.Memory.{Memory}
use Rattle.logs_run.specs.Adding.{AddsEntry, AddsParts, AddsSome, SeatView}
use Rattle.logs_run.proofs.PartEntries.{Underway, ends_full, ends_short, goes_on_so, has_part, lie_drop, lie_take, may_still, sets_out, some_size}
use Rattle.logs_run.proofs.adding.add_frames.Goals as goal

wanted_some : (bytes : List ℕ) (frames : List Frame) (slot : ℕ) (old new : SeatView) (result : Result Unit Memory) → IsErr result → AddsSome bytes frames slot old new → AddsParts bytes frames slot old new result
wanted_some bytes frames slot old new (Ok done) failed adds = absurd cc
wanted_some bytes frames slot old new (Err wanted) failed adds = adds

pub returns-in_err-cutter-clause-adds : goal.returns-in_err-cutter-clause-adds
returns-in_err-cutter-clause-adds g c =
    wanted_some c.args.bytes.now c.args.frames.now c.args.slot c.args.seat.now.view c.args.seat.now.view c.from_residual.result c.from_residual.ensures.0
    (ends_short c.args.bytes.now c.args.frames.now c.args.slot c.part_size-size.result c.args.seat.now.view c.args.seat.now.view begun c.args.frames.now
    (sets_out c.args.bytes.now c.args.frames.now c.args.slot c.part_size-size.result c.args.seat.now.view c.part_size-size.ensures))

pub loop-left-init : goal.loop-left-init
loop-left-init g c = record {
  fetcher = c.requires.fetcher;
  within = c.requires.within;
  underway = subst (λ (s : Sides). Underway c.args.bytes.now c.args.frames.now c.args.slot c.part_size-size.result c.args.seat.now.view c.args.seat.now.view s c.args.frames.now) (sym c.in_ok-cutter.ensures)
      (sets_out c.args.bytes.now c.args.frames.now c.args.slot c.part_size-size.result c.args.seat.now.view c.part_size-size.ensures);
}

pub cut-requires : goal.cut-requires
cut-requires g c =
    subst (λ (fs : List Frame). LieIn c.args.bytes.now fs) (sym c.first_part.ensures.part) (lie_take c.args.bytes.now c.part_size-size.result c.loop-left.left.now c.loop-left.invariant.within)

pub add-requires-clause-may : goal.add-requires-clause-may
add-requires-clause-may g c = may_still _ _ _ _ _ _ _ _ c.loop-left.invariant.underway c.args.turns.now c.requires.may

pub add-requires-clause-fewer : goal.add-requires-clause-fewer
add-requires-clause-fewer g c = has_part _ _ _ _ _ _ _ _ c.loop-left.invariant.underway (omega arith) c.requires.none

pub loop-left-smaller : goal.loop-left-smaller
loop-left-smaller g c =
    let more : c.part_size-size.result < length c.loop-left.left.now = omega arith in
    let some = some_size _ _ _ _ _ _ _ _ c.loop-left.invariant.underway more in
    let long = length-drop c.part_size-size.result c.loop-left.left.now in
    let is = ap (λ (fs : List Frame). length fs) c.first_part.ensures.rest in
    omega (arith, more, some, long, is)

pub loop-left-preserved : goal.loop-left-preserved
loop-left-preserved g c =
    let more : c.part_size-size.result < length c.loop-left.left.now = omega arith in record {
      fetcher = c.add.ensures.fetcher;
      within = subst (λ (fs : List Frame). LieIn c.args.bytes.now fs) (sym c.first_part.ensures.rest) (lie_drop c.args.bytes.now c.part_size-size.result c.loop-left.left.now c.loop-left.invariant.within);
      underway = goes_on_so c.args.bytes.now c.args.frames.now c.args.slot c.part_size-size.result c.args.seat.now.view c.loop-left.seat.view c.loop-left.cutter c.loop-left.left.now c.loop-left.invariant.underway
          c.add.new.seat.view c.in_ok-lines.lines c.first_part.result.0.now c.first_part.result.1.now _ more c.first_part.ensures.part c.first_part.ensures.rest
          c.in_ok-lines.ensures.lines c.in_ok-lines.ensures.holds c.add.ensures.adds;
    }

pub add-requires-2-clause-fewer : goal.add-requires-2-clause-fewer
add-requires-2-clause-fewer g c =
    let some : 0 < length c.loop-left.left.now = grind (arith, common_steps) in
    has_part _ _ _ _ _ _ _ _ c.loop-left.invariant.underway some c.requires.none

pub returns-clause-adds : goal.returns-clause-adds
returns-clause-adds g c =
    let some : 0 < length c.loop-left.left.now = grind (arith, common_steps) in
    let few : length c.loop-left.left.now ≤ c.part_size-size.result = omega arith in
    ends_full c.args.bytes.now c.args.frames.now c.args.slot c.part_size-size.result c.args.seat.now.view c.loop-left.seat.view c.loop-left.cutter c.loop-left.left.now c.loop-left.invariant.underway
    c.add-2.new.seat.view some few (subst (λ (ls : List LogLine). AddsEntry ls c.args.slot c.loop-left.seat.view c.add-2.new.seat.view) c.in_ok-lines-2.ensures c.add-2.ensures.adds)
