use Rattle.std.proofs.Common.{◌≡◌, length, ap, sym, arith, rules, ◌∙◌}
use Rattle.std.proofs.lemmas.Fn.{filter_same}
use Rattle.wc_turns.specs.Links.{link_number, with_closed}
use Rattle.wc_outside.specs.Keyed.{without}
use Rattle.wc_turns.proofs.KeyedLemmas.{without-missing}
use Rattle.wc_turns.proofs.LinkLemmas.{missing-place, listed-there, fewer-there}
use Rattle.wc_turns.proofs.links.Links.close.Goals as goal

pub returns-then-is_none-clause-opened : goal.returns-then-is_none-clause-opened
returns-then-is_none-clause-opened c = sym (without-missing link_number c.args.link.0 c.args.self.now.opened.items (missing-place c.args.link.0 c.args.self.now.opened.items c.place.result c.place.ensures c.if-is_none.ensures))

pub returns-then-is_none-clause-closed : goal.returns-then-is_none-clause-closed
returns-then-is_none-clause-closed c =
    let none = missing-place c.args.link.0 c.args.self.now.opened.items c.place.result c.place.ensures c.if-is_none.ensures in
    sym (ap (λ o. with_closed o c.args.self.now.closed.items (record { link = c.args.link; cause = c.args.cause })) none)

pub invariant_of-self : goal.invariant_of-self
invariant_of-self c =
    let opened : c.retain.new.self.items ≡ without link_number c.args.link.0 c.args.self.now.opened.items = filter_same _ _ _ (λ x b f' k. search rules) _ _ c.retain.ensures.filtered in
    let same = ap length opened in
    let fewer = fewer-there c.args.link.0 c.args.self.now.opened.items _ c.place.ensures c.if-is_none.ensures in
    let now = c.retain.new.self.ok.0 in
    let then = c.args.self.now.opened.ok.0 in
    let room = c.args.self.now.room in
    record { room = omega arith }

pub returns-clause-opened : goal.returns-clause-opened
returns-clause-opened c = filter_same _ _ _ (λ x b f' k. search rules) _ _ c.retain.ensures.filtered

pub returns-clause-closed : goal.returns-clause-closed
returns-clause-closed c = c.push_reserved.ensures.items ∙ sym (listed-there c.args.link.0 _ _ _ (record { link = c.args.link; cause = c.args.cause }) c.place.ensures c.if-is_none.ensures)
