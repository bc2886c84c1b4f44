use Rattle.std.proofs.Common.{◌≡◌, ◌∷◌, ◌++◌, sym, ap, ◌∙◌, append_assoc}
use Rattle.std.specs.Prelude.{filter}
use Rattle.std.proofs.lemmas.List.Elements.{filter-append}
use Rattle.wc_complete.specs.Candidates.{begins_as}
use Rattle.wc_complete.specs.NickNames.{nick_name, nick_names}
use Rattle.wc_complete.proofs.nicks.nicks_found.Goals as goal

pub loop-row-preserved : goal.loop-row-preserved
loop-row-preserved c =
    let p = begins_as c.args.base.now in
    let row = c.in-Some.row in
    let rest = c.next.new.self in
    let found = c.loop-row.found.items in
    let here : c.loop-row.row-iterator ≡ row ∷ rest = c.in-Some.ensures.steps in
    let one : c.push_nick.new.found.items ≡ found ++ filter p (nick_name row.item) = c.in_ok-push_nick.ensures ∙ ap (λ item. found ++ filter p (nick_name item)) c.item.ensures in
    ap (λ those. those ++ filter p (nick_names rest)) one
    ∙ append_assoc found (filter p (nick_name row.item)) (filter p (nick_names rest))
    ∙ ap (λ those. found ++ those) (sym (filter-append p (nick_name row.item) (nick_names rest)))
    ∙ ap (λ rows. found ++ filter p (nick_names rows)) (sym here)
    ∙ c.loop-row.invariant
