use Rattle.std.proofs.Common.{◌≡◌, ◌-◌, ◌++◌, ◌∷◌, [], take, true, false, Some, None, refl, sym, ap, ◌∙◌}
use Rattle.wc_nicklist.specs.Calls.{add_refusal}
use Rattle.wc_nicklist.specs.Rows.{last_or}
use Rattle.wc_view.proofs.NickListing.{took_ok, took_err, group_refused, group_fits, group_added, group_listed}
use Rattle.wc_view.proofs.nick_list.Listing.push_at.Goals as goal

pub returns-then-not-taken-clause-fits : goal.returns-then-not-taken-clause-fits
returns-then-not-taken-clause-fits c =
    let l = c.args.self.now in
    let p = c.parent_in-parent.result.now in
    let p_is : p ≡ last_or l.root_name (take (c.args.group.level - 1) l.path.items) = c.parent_in-parent.ensures ∙ ap (last_or l.root_name) (c.deref.ensures.value ∙ c.truncate.ensures.items ∙ ap (λ n. take n l.path.items) c.requires.depth.level) in
    let why = took_err (add_refusal true p c.args.group.name l.list.rows) c.add_group-outcome.result c.in_ok-taken.taken c.in_ok-taken.ensures c.if-not-taken.true c.add_group-outcome.ensures.refused in
    group_refused l c.requires.listing c.args.group c.requires.kind c.requires.depth.deep c.requires.root p p_is why.0 why.1

pub returns-clause-fits : goal.returns-clause-fits
returns-clause-fits c =
    let l = c.args.self.now in
    let p = c.parent_in-parent.result.now in
    let p_is : p ≡ last_or l.root_name (take (c.args.group.level - 1) l.path.items) = c.parent_in-parent.ensures ∙ ap (last_or l.root_name) (c.deref.ensures.value ∙ c.truncate.ensures.items ∙ ap (λ n. take n l.path.items) c.requires.depth.level) in
    let a : add_refusal true p c.args.group.name l.list.rows ≡ None = took_ok c.add_group-outcome.result c.in_ok-taken.taken c.in_ok-taken.ensures c.if-not-taken.false c.add_group-outcome.ensures.accepted in
    group_fits l c.requires.listing c.args.group c.requires.kind c.requires.depth.deep c.requires.root p p_is c.requires.depth.some c.requires.depth.after a

pub returns-clause-after : goal.returns-clause-after
returns-clause-after c = λ done.
    let l = c.args.self.now in
    let p = c.parent_in-parent.result.now in
    let p_is : p ≡ last_or l.root_name (take (c.args.group.level - 1) l.path.items) = c.parent_in-parent.ensures ∙ ap (last_or l.root_name) (c.deref.ensures.value ∙ c.truncate.ensures.items ∙ ap (λ n. take n l.path.items) c.requires.depth.level) in
    let a : add_refusal true p c.args.group.name l.list.rows ≡ None = took_ok c.add_group-outcome.result c.in_ok-taken.taken c.in_ok-taken.ensures c.if-not-taken.false c.add_group-outcome.ensures.accepted in
    let now = took_ok c.add_group-outcome.result c.in_ok-taken.taken c.in_ok-taken.ensures c.if-not-taken.false c.add_group-outcome.ensures.after in
    ap (λ n. n.rows) now ∙ group_added l c.requires.listing c.args.group c.requires.kind c.requires.depth.deep c.requires.root p p_is c.requires.depth.some c.requires.depth.after a

pub returns-clause-listing : goal.returns-clause-listing
returns-clause-listing c = λ done.
    let l = c.args.self.now in
    let p = c.parent_in-parent.result.now in
    let p_is : p ≡ last_or l.root_name (take (c.args.group.level - 1) l.path.items) = c.parent_in-parent.ensures ∙ ap (last_or l.root_name) (c.deref.ensures.value ∙ c.truncate.ensures.items ∙ ap (λ n. take n l.path.items) c.requires.depth.level) in
    let a : add_refusal true p c.args.group.name l.list.rows ≡ None = took_ok c.add_group-outcome.result c.in_ok-taken.taken c.in_ok-taken.ensures c.if-not-taken.false c.add_group-outcome.ensures.accepted in
    let now = took_ok c.add_group-outcome.result c.in_ok-taken.taken c.in_ok-taken.ensures c.if-not-taken.false c.add_group-outcome.ensures.after in
    group_listed l c.requires.listing c.args.group c.requires.kind c.requires.depth.deep c.requires.root p p_is c.requires.depth.some c.requires.depth.after a _ (ap (λ n. n.rows) now)
    (c.in-Ok.ensures.items ∙ (λ j. (c.truncate.ensures.items ∙ ap (λ n. take n l.path.items) c.requires.depth.level) j ++ c.in_ok-name.ensures j ∷ [])) refl
