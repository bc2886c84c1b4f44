use Rattle.std.proofs.Common.{◌≡◌, ap, sym, ◌∙◌}
use Rattle.std.specs.Prelude.{not, ◌||◌}
use Rattle.wc_irc_texts.specs.Names.{is_same}
use Rattle.wc_irc_nicks.specs.Seats.{has_seat}
use Rattle.wc_irc_nicks.proofs.MemberLemmas.{may_have}
use Rattle.wc_irc_nicks.proofs.members.Members.may_rename.Goals as goal

pub returns-then-is_same : goal.returns-then-is_same
returns-then-is_same c =
    let list = c.args.self.now in
    let same : is_same list.case_map c.args.old.now c.args.new.now ≡ c.is_same.result = sym (c.is_same.ensures ∙ ap (λ m. is_same m c.args.old.now c.args.new.now) c.case_map.ensures) in
    c.if-is_same.true ∙ sym (ap (λ b. b || not (has_seat list.case_map c.args.new.now list.seats)) (same ∙ c.if-is_same.true)) ∙ may_have list.case_map c.args.old.now c.args.new.now list.seats

pub returns-else-is_same : goal.returns-else-is_same
returns-else-is_same c =
    let list = c.args.self.now in
    let same : is_same list.case_map c.args.old.now c.args.new.now ≡ c.is_same.result = sym (c.is_same.ensures ∙ ap (λ m. is_same m c.args.old.now c.args.new.now) c.case_map.ensures) in
    ap not c.has.ensures.has ∙ sym (ap (λ b. b || not (has_seat list.case_map c.args.new.now list.seats)) (same ∙ c.if-is_same.false)) ∙ may_have list.case_map c.args.old.now c.args.new.now list.seats
