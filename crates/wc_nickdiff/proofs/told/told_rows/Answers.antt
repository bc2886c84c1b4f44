use Rattle.std.proofs.Common.{◌≡◌, ◌≤◌, ◌++◌, List, length, take, sym, ap, ◌∙◌, subst, arith}
use Rattle.std.specs.Prelude.{filter}
use Rattle.std.specs.List.Sorted.{IsPermutation}
use Rattle.std.proofs.lemmas.List.{take_all}
use Rattle.std.proofs.lemmas.Result.{IfOk-weaker}
use Rattle.wc_nicklist.specs.declared.item.Row.{Row}
use Rattle.wc_nickdiff.specs.Compared.{picked_rows}
use Rattle.wc_nickdiff.specs.Held.{before_at, is_untouched}
use Rattle.wc_nickdiff.specs.Told.{IsTold}
use Rattle.wc_nickdiff.proofs.Picked.{stood, told_law}
use Rattle.wc_nickdiff.proofs.told.told_rows.Goals as goal

pub returns : goal.returns
returns c =
    let ts = c.args.touches.now.touches in
    let now = c.args.now.now.rows in
    let sorted = c.sort.new.rows.items in
    let counted : length ts ≤ c.loop-touch.touch-index = omega (arith, ap length c.as_slice-touch-items.ensures.touches) in
    let all : c.loop-touch.rows.items ≡ filter (is_untouched ts) now ++ picked_rows stood now ts = c.loop-touch.invariant ∙ ap (λ l. filter (is_untouched ts) now ++ picked_rows stood now l) (take_all c.loop-touch.touch-index ts counted) in
    let same : IsPermutation (filter (is_untouched ts) now ++ picked_rows stood now ts) sorted = subst (λ l. IsPermutation l sorted) all c.sort.ensures.permutation in
    IfOk-weaker c.in_list.result (λ items. items ≡ c.as_slice.result.now) (λ items. (told : List Row) → IsTold (λ k. before_at k ts) now told → items ≡ told)
    (λ items e told h. e ∙ c.as_slice.ensures.value ∙ told_law ts now told c.as_slice-touch-items.ensures.once c.in_ok-rows.ensures.held h sorted same c.sort.ensures.sorted)
    c.in_list.ensures
