use Rattle.std.proofs.Common.{◌≡◌, ◌+◌, sym, ◌∙◌, ap}
use Rattle.std.specs.Prelude.{Some, None, slice_get}
use Rattle.compose_words.specs.Items.{item_of}
use Rattle.compose_words.specs.Refusals.{item_refusal}
use Rattle.compose_words.proofs.ItemLemmas.{items_from-next, length_past}
use Rattle.compose_words.proofs.RefusalLemmas.{unless_memory, refused_here, passed_here, whole_here, all_read}
use Rattle.compose_words.proofs.read.items_or_refusal.Goals as goal

pub returns-in-Some-item_refusal : goal.returns-in-Some-item_refusal
returns-in-Some-item_refusal c =
    let words = c.args.words.now in
    let before = c.loop-word.items in
    let at = c.loop-word.at in
    let item = c.in_ok-item.item in
    let is : item ≡ item_of at c.in-Some.word.now (slice_get words (at + 1)) = c.in_ok-item.ensures ∙ ap (item_of at c.in-Some.word.now) c.get-in-Some.ensures.value in
    let step = items_from-next words at c.in-Some.word.now item (sym c.in-Some.ensures.value) is in
    let here : Some c.in-Some-item_refusal.refusal ≡ item_refusal before item = c.in-Some-item_refusal.ensures ∙ ap (λ items. item_refusal items item) c.as_slice.ensures in
    unless_memory c.in-Some-item_refusal.refusal _ (refused_here words before at item _ step c.in-Some-item_refusal.refusal c.loop-word.invariant.refusal here)

pub loop-word-preserved : goal.loop-word-preserved
loop-word-preserved c =
    let words = c.args.words.now in
    let before = c.loop-word.items in
    let at = c.loop-word.at in
    let item = c.in_ok-item.item in
    let is : item ≡ item_of at c.in-Some.word.now (slice_get words (at + 1)) = c.in_ok-item.ensures ∙ ap (item_of at c.in-Some.word.now) c.get-in-Some.ensures.value in
    let step = items_from-next words at c.in-Some.word.now item (sym c.in-Some.ensures.value) is in
    let here : None ≡ item_refusal before item = c.in_default-item_refusal.ensures ∙ ap (λ items. item_refusal items item) c.as_slice.ensures in
    record {
      whole = rw (c.in_ok-push.ensures.ok, c.width-at.ensures.value) (whole_here words before at item _ step c.loop-word.invariant.whole);
      refusal = rw (c.in_ok-push.ensures.ok, c.width-at.ensures.value) (passed_here words before at item _ step c.loop-word.invariant.refusal here);
    }

pub returns : goal.returns
returns c = all_read c.args.words.now c.loop-word.items c.loop-word.at c.loop-word.invariant.refusal c.loop-word.invariant.whole (length_past c.args.words.now c.loop-word.at (sym c.in_default.ensures.value))
