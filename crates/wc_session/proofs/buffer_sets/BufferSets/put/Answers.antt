use Rattle.std.proofs.Common.{rules, ◌≡◌, ◌∙◌, ◌++◌, ◌∷◌, [], Some, None, OnOk, sym, ap, subst, set, get_or}
use Rattle.std.specs.Prelude.{◌==◌, position}
use Rattle.wc_session.specs.Sync.{union, put_to}
use Rattle.wc_session.proofs.SetLemmas.{put_some, put_none}
use Rattle.wc_session.proofs.buffer_sets.BufferSets.put.Goals as goal

pub returns-in_default-clause-ok : goal.returns-in_default-clause-ok
returns-in_default-clause-ok c =
    let sets = c.self.inside.sets.items in
    let nowhere : position (λ own. own.buffer.0 == c.args.buffer.0) sets ≡ None = search rules in
    let put = put_none c.args.options c.args.buffer sets nowhere in
    let same : c.args.self.now ++ record { buffer = c.args.buffer; set = c.args.options } ∷ [] ≡ put_to c.args.options c.args.buffer c.args.self.now =
    ap (λ sets. sets ++ record { buffer = c.args.buffer; set = c.args.options } ∷ []) (sym c.self.view_is) ∙ sym put ∙ ap (put_to c.args.options c.args.buffer) c.self.view_is in
    subst (λ sets. OnOk c.push.result (c.push.new.self ≡ sets)) same c.push.ensures.ok

pub returns-clause-ok : goal.returns-clause-ok
returns-clause-ok c =
    let sets = c.self.inside.sets.items in
    let here : position (λ own. own.buffer.0 == c.args.buffer.0) sets ≡ Some c.in-Some.place = search rules in
    let put = put_some c.args.options c.args.buffer sets c.in-Some.place here c.index-own.result.now in
    let own : get_or sets c.in-Some.place c.index-own.result.now ≡ c.index-own.result.now = search rules in
    let set_is : c.union.result ≡ union c.index-own.result.now.set c.args.options = search rules in
    (λ i. set sets c.in-Some.place (record { buffer = (sym own i).buffer; set = (set_is ∙ ap (λ own. union own.set c.args.options) (sym own)) i }))
    ∙ sym put ∙ ap (put_to c.args.options c.args.buffer) c.self.view_is
