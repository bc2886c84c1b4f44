use Rattle.std.proofs.Common.{rules, ◌≡◌, ◌∙◌, Some, None, sym, ap, set, get_or}
use Rattle.std.specs.Prelude.{◌==◌, position}
use Rattle.wc_session.specs.Sync.{difference, without_options}
use Rattle.wc_session.proofs.SetLemmas.{taken_some, taken_none}
use Rattle.wc_session.proofs.buffer_sets.BufferSets.take.Goals as goal

pub returns-in_default : goal.returns-in_default
returns-in_default c =
    let sets = c.self.inside.sets.items in
    let nowhere : position (λ own. own.buffer.0 == c.args.buffer.0) sets ≡ None = search rules in
    sym (ap (without_options c.args.options c.args.buffer) (sym c.self.view_is) ∙ taken_none c.args.options c.args.buffer sets nowhere ∙ c.self.view_is)

pub returns : goal.returns
returns c =
    let sets = c.self.inside.sets.items in
    let here : position (λ own. own.buffer.0 == c.args.buffer.0) sets ≡ Some c.in-Some.place = search rules in
    let taken = taken_some c.args.options c.args.buffer sets c.in-Some.place here c.index-own.result.now in
    let own : get_or sets c.in-Some.place c.index-own.result.now ≡ c.index-own.result.now = search rules in
    let set_is : c.difference.result ≡ difference c.index-own.result.now.set c.args.options = search rules in
    (λ i. set sets c.in-Some.place (record { buffer = (sym own i).buffer; set = (set_is ∙ ap (λ own. difference own.set c.args.options) (sym own)) i }))
    ∙ sym taken ∙ ap (without_options c.args.options c.args.buffer) c.self.view_is
