-- Nothing is pushed of rows that are as they were told.
use Rattle.std.proofs.Common.{◌≡◌, Bool, false, not, List, [], ◌∷◌, ◌++◌, append_assoc, filter, map, reverse, Some, None, refl, sym, ap, ◌∙◌}
use Rattle.wc_text.specs.declared.names.Handle.{Handle}
use Rattle.wc_nicklist.specs.declared.item.Row.{Row}
use Rattle.wc_nicklist.specs.Order.{key}
use Rattle.wc_nicklist.specs.Rows.{find_row, IsRows}
use Rattle.wc_nicklist.proofs.OrderLaws.{path_eq-same}
use Rattle.wc_nickdiff.specs.declared.diff_item.Mark.TheVariants.{Added, Removed, Changed}
use Rattle.wc_nickdiff.specs.declared.diff_item.Push.{Push}
use Rattle.wc_nickdiff.specs.declared.diff_item.Push.TheVariants.{Nothing}
use Rattle.wc_nickdiff.specs.NickPush.{stays, change_list, is_group, is_nick, outs, ins, changed_rows, root_item, op, with_parents, push_of, nick_push}
use Rattle.wc_nickdiff.proofs.PushLaw.{item_eq-same}
use Rattle.wc_nickdiff.proofs.Split.{split_of}

none_kept : (p : Row → Bool) (rows a b : List Row) → rows ≡ a ++ b → ((pre : List Row) (r : Row) (post : List Row) → rows ≡ pre ++ r ∷ post → p r ≡ false) → filter p b ≡ []
none_kept p rows a [] e h = refl
none_kept p rows a (r ∷ b) e h = rw (h a r b e) (none_kept p rows (a ++ r ∷ []) b (e ∙ sym (append_assoc a (r ∷ []) b)) h)

found : (rows pre : List Row) (r : Row) (post : List Row) → IsRows rows → rows ≡ pre ++ r ∷ post → find_row (key r) rows ≡ Some r
found rows pre r post ok e = (split_of rows pre r post e ok.ascending ok.keyed).there

none_out : (rows : List Row) → IsRows rows → outs rows rows ≡ []
none_out rows ok = none_kept (λ r. not (stays (Some r) (find_row (key r) rows))) rows [] rows refl
    (λ pre r post e. ap (λ o. not (stays (Some r) o)) (found rows pre r post ok e) ∙ ap not (path_eq-same r.path))

none_in : (rows : List Row) → IsRows rows → ins rows rows ≡ []
none_in rows ok = none_kept (λ r. not (stays (find_row (key r) rows) (Some r))) rows [] rows refl
    (λ pre r post e. ap (λ o. not (stays o (Some r))) (found rows pre r post ok e) ∙ ap not (path_eq-same r.path))

none_changed : (rows : List Row) → IsRows rows → changed_rows rows rows ≡ []
none_changed rows ok = none_kept (λ r. change_list (find_row (key r) rows) (Some r)) rows [] rows refl
    (λ pre r post e. ap (λ o. change_list o (Some r)) (found rows pre r post ok e) ∙ rw (path_eq-same r.path, item_eq-same r.item) refl)

pub push_same : (root : Handle) (rows : List Row) → IsRows rows → nick_push root rows rows ≡ Nothing
push_same root rows ok =
    ap (λ o. given o (ins rows rows) (changed_rows rows rows)) (none_out rows ok)
    ∙ ap (λ i. given [] i (changed_rows rows rows)) (none_in rows ok)
    ∙ ap (λ c. given [] [] c) (none_changed rows ok)
  where
    given : List Row → List Row → List Row → Push
    given o i c =
        push_of (root_item root) (with_parents None
        (map (op Removed (root_item root) (λ k. find_row k rows)) (filter is_nick o)
        ++ (map (op Removed (root_item root) (λ k. find_row k rows)) (reverse (filter is_group o))
        ++ (map (op Added (root_item root) (λ k. find_row k rows)) (filter is_group i)
        ++ (map (op Added (root_item root) (λ k. find_row k rows)) (filter is_nick i)
        ++ map (op Changed (root_item root) (λ k. find_row k rows)) c))))) rows
