use Rattle.std.proofs.Common.{◌≡◌, true, false, Some, None, sym, ap, ◌∙◌}
use Rattle.std.specs.Prelude.{is_some}
use Rattle.std.proofs.lemmas.Bool.{true≢false}
use Rattle.wc_nicklist.specs.declared.refused.NickRefused.TheVariants.{NameTaken}
use Rattle.wc_nicklist.specs.Calls.{name_refusal}
use Rattle.wc_nicklist.specs.Order.{key_at}
use Rattle.wc_nicklist.specs.Rows.{find_row, path_below}
use Rattle.wc_nicklist.proofs.Keeps.{not_memory}
use Rattle.wc_nicklist.proofs.Refusals.{is_name, add_named, add_orphan, add_taken, add_accepted}
use Rattle.wc_nicklist.proofs.nicklist.Nicklist.add_refusal.Goals as goal

pub returns-in-Some-clause-some : goal.returns-in-Some-clause-some
returns-in-Some-clause-some c = λ _. add_named c.args.is_group c.args.name.now c.args.self.now.rows c.args.parent.now c.in-Some.refused (sym c.in-Some.ensures)

pub returns-in-Some-clause-room : goal.returns-in-Some-clause-room
returns-in-Some-clause-room c = λ _ m. not_memory c.args.is_group c.args.name.now c.in-Some.refused (sym c.in-Some.ensures) cc

pub returns-then-not-has_parent-clause-some : goal.returns-then-not-has_parent-clause-some
returns-then-not-has_parent-clause-some c = λ n.
    let named : name_refusal c.args.is_group c.args.name.now ≡ None = sym c.refusal_of_name.ensures ∙ c.in_default.is in
    let orphan : is_some (path_below c.args.parent.now c.args.self.now.rows) ≡ false = cc in
    add_orphan c.args.is_group c.args.name.now c.args.self.now.rows c.args.parent.now named orphan ∙ ap Some (sym (c.no_parent.ensures n))

pub returns-then-not-has_parent-clause-room : goal.returns-then-not-has_parent-clause-room
returns-then-not-has_parent-clause-room c = λ r m.
    let there : c.has_parent.result ≡ true = c.has_parent.ensures.room (r ∙ ap Some (sym c.as_slice.ensures)) in
    let orphan : c.has_parent.result ≡ false = cc in
    true≢false (sym there ∙ orphan)

pub from_slice-requires : goal.from_slice-requires
from_slice-requires c = (is_name c.args.is_group c.args.name.now (sym c.refusal_of_name.ensures ∙ c.in_default.is)).bounds.1

pub returns-then-has-clause-some : goal.returns-then-has-clause-some
returns-then-has-clause-some c = λ _.
    let named : name_refusal c.args.is_group c.args.name.now ≡ None = sym c.refusal_of_name.ensures ∙ c.in_default.is in
    let parent : is_some (path_below c.args.parent.now c.args.self.now.rows) ≡ true = cc in
    let taken : is_some (find_row (key_at c.args.is_group c.args.name.now) c.args.self.now.rows) ≡ true = cc in
    add_taken c.args.is_group c.args.name.now c.args.self.now.rows c.args.parent.now named parent taken ∙ ap (λ n. Some (NameTaken n)) (sym c.from_slice.ensures)

pub returns-clause-none : goal.returns-clause-none
returns-clause-none c = λ _.
    let named : name_refusal c.args.is_group c.args.name.now ≡ None = sym c.refusal_of_name.ensures ∙ c.in_default.is in
    let parent : is_some (path_below c.args.parent.now c.args.self.now.rows) ≡ true = cc in
    let absent : is_some (find_row (key_at c.args.is_group c.args.name.now) c.args.self.now.rows) ≡ false = cc in
    add_accepted c.args.is_group c.args.name.now c.args.self.now.rows c.args.parent.now named parent absent
