use Rattle.std.proofs.Common.{◌≡◌, List, ◌∷◌, ◌++◌, [], ap, sym, ◌∙◌, append_assoc}
use Rattle.wc_nicklist.specs.declared.item.Row.{Row}
use Rattle.wc_nicklist.specs.Rows.{parent_of}
use Rattle.wc_nicklist.specs.Calls.{add_row}
use Rattle.wc_nickdiff.proofs.Copies.{next_copied, next_utf8}
use Rattle.wc_nickdiff.proofs.row.add_rows.Goals as goal

pub add_row-requires : goal.add_row-requires
add_row-requires c =
    let here : c.loop-row.row-iterator ≡ c.in-Some.row ∷ c.next.new.self = c.in-Some.ensures.steps in
    let e : c.args.list.now.rows ≡ c.loop-row.yielded ++ c.in-Some.row ∷ c.next.new.self = c.loop-row.invariant.rest ∙ ap (λ (l : List Row). c.loop-row.yielded ++ l) here in
    next_utf8 c.args.list.now.rows c.loop-row.yielded c.in-Some.row c.next.new.self e c.rows-row-items.ensures.held

pub loop-row-preserved : goal.loop-row-preserved
loop-row-preserved c =
    let rows : List Row = c.loop-row.yielded in
    let row : Row = c.in-Some.row in
    let rest : List Row = c.next.new.self in
    let here : c.loop-row.row-iterator ≡ row ∷ rest = c.in-Some.ensures.steps in
    let e : c.args.list.now.rows ≡ rows ++ row ∷ rest = c.loop-row.invariant.rest ∙ ap (λ (l : List Row). rows ++ l) here in
    record {
      root = c.in_ok-add_row.ensures.root ∙ c.loop-row.invariant.root;
      rows = c.in_ok-add_row.ensures.after ∙ ap (λ (l : List Row). add_row row.item.is_group (parent_of row) row.item l) c.loop-row.invariant.rows ∙ next_copied c.args.list.now.rows rows row rest e c.rows-row-items.ensures.held;
      rest = e ∙ sym (append_assoc rows (row ∷ []) rest);
    }
