use Rattle.std.proofs.Common.{◌≡◌, not, Some, None, sym, ap, ◌∙◌, append_assoc, List, [], ◌∷◌, ◌++◌}
use Rattle.std.specs.Prelude.{option_copied}
use Rattle.wc_nicklist.specs.declared.item.Item.{Item}
use Rattle.wc_nicklist.specs.declared.item.Row.{Row}
use Rattle.wc_nicklist.specs.Order.{key, key_at, key_of}
use Rattle.wc_nicklist.specs.Rows.{find_row}
use Rattle.wc_nickdiff.specs.Compared.{listed_row}
use Rattle.wc_nickdiff.specs.Held.{before_at}
use Rattle.wc_nickdiff.proofs.Picked.{next_untouched}
use Rattle.wc_nickdiff.proofs.Touches.{none_some}
use Rattle.wc_nickdiff.proofs.told.rows_not_touched.Goals as goal

pub loop-view-preserved-in-Continue-1 : goal.loop-view-preserved-in-Continue-1
loop-view-preserved-in-Continue-1 c =
    let ts = c.args.touches.now.touches in
    let rows = c.args.now.now.rows in
    let done = c.loop-view.yielded in
    let r = c.in-Some.view in
    let here : c.loop-view.view-iterator ≡ r ∷ c.next.new.self = c.in-Some.ensures.steps in
    let split : rows ≡ done ++ r ∷ c.next.new.self = c.loop-view.invariant.rest ∙ ap (λ (l : List Row). done ++ l) here in
    let none : c.before-in-loop-view.result ≡ None = none_some _ (c.is_none.ensures ∙ ap not c.if-is_none.true) in
    let fresh : before_at (key r) ts ≡ None =
    ap (λ (z : Item). before_at (key_of z) ts) (sym c.item-item.ensures)
    ∙ ap (λ n. before_at (key_at c.item-item.result.now.is_group n) ts) (sym c.as_slice.ensures)
    ∙ sym c.before-in-loop-view.ensures
    ∙ ap option_copied none in
    record {
      rows = c.in_ok-push_row_of.ensures ∙ ap (λ (z : Item). c.loop-view.rows.items ++ listed_row (find_row (key_of z) rows)) c.item-item.ensures ∙ next_untouched ts rows done r c.next.new.self c.loop-view.rows.items split c.rows-view-items.ensures.held c.loop-view.invariant.rows fresh;
      rest = split ∙ sym (append_assoc done (r ∷ []) c.next.new.self);
    }
