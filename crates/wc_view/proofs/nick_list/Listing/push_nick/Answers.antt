use Rattle.std.proofs.Common.{◌≡◌, true, false, Some, None, refl, sym, ap, ◌∙◌}
use Rattle.wc_nicklist.specs.Calls.{add_refusal}
use Rattle.wc_nicklist.specs.Rows.{last_or}
use Rattle.wc_view.specs.NickLists.{comes_after}
use Rattle.wc_view.proofs.NickListing.{took_ok, took_err, nick_of_other_level, nick_in_front, nick_refused, nick_fits, nick_added, nick_listed}
use Rattle.wc_view.proofs.nick_list.Listing.push_nick.Goals as goal

pub returns-then-nick-ne0-clause-fits : goal.returns-then-nick-ne0-clause-fits
returns-then-nick-ne0-clause-fits c = nick_of_other_level c.args.self.now c.requires.listing c.args.nick c.requires.kind c.if-nick-ne0.true

pub returns-then-not-comes_after-clause-fits : goal.returns-then-not-comes_after-clause-fits
returns-then-not-comes_after-clause-fits c =
    let b : comes_after c.args.self.now.nick c.args.nick.name ≡ false = cc (c.comes_after.ensures, c.as_ref.ensures.value, c.as_slice.ensures, c.if-not-comes_after.true) in
    nick_in_front c.args.self.now c.requires.listing c.args.nick c.requires.kind b

pub returns-then-not-taken-clause-fits : goal.returns-then-not-taken-clause-fits
returns-then-not-taken-clause-fits c =
    let l = c.args.self.now in
    let p = c.parent_in-parent.result.now in
    let why = took_err (add_refusal false p c.args.nick.name l.list.rows) c.add_nick-outcome.result c.in_ok-taken.taken c.in_ok-taken.ensures c.if-not-taken.true c.add_nick-outcome.ensures.refused in
    nick_refused l c.requires.listing c.args.nick c.requires.kind c.requires.root p (c.parent_in-parent.ensures ∙ ap (last_or l.root_name) c.deref.ensures.value) why.0 why.1

pub returns-clause-fits : goal.returns-clause-fits
returns-clause-fits c =
    let l = c.args.self.now in
    let p = c.parent_in-parent.result.now in
    let b : comes_after l.nick c.args.nick.name ≡ true = cc (c.comes_after.ensures, c.as_ref.ensures.value, c.as_slice.ensures, c.if-not-comes_after.false) in
    let a : add_refusal false p c.args.nick.name l.list.rows ≡ None = took_ok c.add_nick-outcome.result c.in_ok-taken.taken c.in_ok-taken.ensures c.if-not-taken.false c.add_nick-outcome.ensures.accepted in
    nick_fits l c.requires.listing c.args.nick c.requires.kind c.requires.root p (c.parent_in-parent.ensures ∙ ap (last_or l.root_name) c.deref.ensures.value) c.if-nick-ne0.false b a

pub returns-clause-after : goal.returns-clause-after
returns-clause-after c = λ done.
    let l = c.args.self.now in
    let p = c.parent_in-parent.result.now in
    let b : comes_after l.nick c.args.nick.name ≡ true = cc (c.comes_after.ensures, c.as_ref.ensures.value, c.as_slice.ensures, c.if-not-comes_after.false) in
    let a : add_refusal false p c.args.nick.name l.list.rows ≡ None = took_ok c.add_nick-outcome.result c.in_ok-taken.taken c.in_ok-taken.ensures c.if-not-taken.false c.add_nick-outcome.ensures.accepted in
    let now = took_ok c.add_nick-outcome.result c.in_ok-taken.taken c.in_ok-taken.ensures c.if-not-taken.false c.add_nick-outcome.ensures.after in
    ap (λ n. n.rows) now ∙ nick_added l c.requires.listing c.args.nick c.requires.kind c.requires.root p (c.parent_in-parent.ensures ∙ ap (last_or l.root_name) c.deref.ensures.value) c.if-nick-ne0.false b a

pub returns-clause-listing : goal.returns-clause-listing
returns-clause-listing c = λ done.
    let l = c.args.self.now in
    let p = c.parent_in-parent.result.now in
    let b : comes_after l.nick c.args.nick.name ≡ true = cc (c.comes_after.ensures, c.as_ref.ensures.value, c.as_slice.ensures, c.if-not-comes_after.false) in
    let a : add_refusal false p c.args.nick.name l.list.rows ≡ None = took_ok c.add_nick-outcome.result c.in_ok-taken.taken c.in_ok-taken.ensures c.if-not-taken.false c.add_nick-outcome.ensures.accepted in
    let now = took_ok c.add_nick-outcome.result c.in_ok-taken.taken c.in_ok-taken.ensures c.if-not-taken.false c.add_nick-outcome.ensures.after in
    nick_listed l c.requires.listing c.args.nick c.requires.kind c.requires.root p (c.parent_in-parent.ensures ∙ ap (last_or l.root_name) c.deref.ensures.value) c.if-nick-ne0.false b a _ (ap (λ n. n.rows) now) refl (ap Some c.in_ok-name.ensures)
