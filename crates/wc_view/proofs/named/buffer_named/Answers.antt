use Rattle.std.proofs.Common.{◌≡◌, ℕ, List, [], ◌∷◌, length, get_or, Some, Option, sym, ap, ◌∙◌, arith}
use Rattle.std.specs.Option.{option_and_then}
use Rattle.wc_objects.specs.declared.object.HdaItem.{HdaItem}
use Rattle.wc_keys.specs.Events.{buffer_path}
use Rattle.wc_view.specs.Each.{only}
use Rattle.wc_view.specs.Items.{items_on}
use Rattle.wc_view.specs.Named.{named_in}
use Rattle.wc_view.proofs.named.buffer_named.Goals as goal

only_here : {A : Type 0} (xs : List A) (x : A) → length xs ≡ 1 → x ≡ get_or xs 0 x → only xs ≡ Some x
only_here [] x l is = absurd (omega arith)
only_here (y ∷ []) x l is = ap Some (sym is)
only_here (y ∷ z ∷ ys) x l is = absurd (omega arith)

abbrev named_among : Option (List HdaItem) → Option ℕ
named_among items = option_and_then named_in (option_and_then only items)

pub returns : goal.returns
returns c =
    let items = c.as_slice.result.now in
    let long : length items ≡ 1 = omega (arith, c.in-len1.len_at_least, c.in-len1.len_below) in
    let one : only items ≡ Some c.item-item.result = only_here items c.item-item.result long c.item-item.is in
    c.named_in.ensures
    ∙ sym (ap named_among (sym c.in_ok-items.ensures) ∙ ap (option_and_then named_in) (ap only (sym c.as_slice.ensures) ∙ one))
    ∙ ap (λ (keys : List ℕ). named_among (items_on buffer_path keys c.args.objects.now)) c.text.ensures
