use Rattle.std.proofs.Common.{rules, ◌≡◌, ◌∙◌, true, ap, sym, subst, IsUtf8}
use Rattle.wc_filters.specs.Kept.{AreFine}
use Rattle.wc_filters.specs.Patterns.{is_known, search_of}
use Rattle.wc_filters.specs.declared.filter.Filter.{Filter}
use Rattle.wc_filters.specs.declared.search.Search.{Search}
use Rattle.wc_filters.proofs.FilterLemmas.{fine_added, fine_later}
use Rattle.wc_filters.proofs.HalfLemmas.{search_utf8}
use Rattle.wc_filters.proofs.filters.Filters.add.Goals as goal

pub build-requires-clause-prefix : goal.build-requires-clause-prefix
build-requires-clause-prefix c =
    let read : c.in_ok-search.search ≡ search_of c.args.pattern.now = c.in_ok-search.ensures ∙ ap search_of c.as_slice-2.ensures in
    subst IsUtf8 (sym (ap (λ (s : Search). s.prefix) read)) (search_utf8 c.args.pattern.now c.requires).0

pub build-requires-clause-message : goal.build-requires-clause-message
build-requires-clause-message c =
    let read : c.in_ok-search.search ≡ search_of c.args.pattern.now = c.in_ok-search.ensures ∙ ap search_of c.as_slice-2.ensures in
    subst IsUtf8 (sym (ap (λ (s : Search). s.message) read)) (search_utf8 c.args.pattern.now c.requires).1

pub returns-in_err-push-clause-fine : goal.returns-in_err-push-clause-fine
returns-in_err-push-clause-fine c fine =
    let was : AreFine c.args.verdicts.now c.self.inside.rows.items = subst (λ l. AreFine c.args.verdicts.now l) (sym c.self.view_is) fine in
    subst (λ l. AreFine c.build.new.verdicts l) (sym c.in_err-push.ensures.err)
    (fine_later c.args.verdicts.now c.build.new.verdicts c.build.ensures.stay c.self.inside.rows.items was)

pub returns-clause-fine : goal.returns-clause-fine
returns-clause-fine c fine =
    let was : AreFine c.args.verdicts.now c.self.inside.rows.items = subst (λ l. AreFine c.args.verdicts.now l) (sym c.self.view_is) fine in
    let later = fine_later c.args.verdicts.now c.build.new.verdicts c.build.ensures.stay c.self.inside.rows.items was in
    let read : c.in_ok-search.search ≡ search_of c.args.pattern.now = c.in_ok-search.ensures ∙ ap search_of c.as_slice-2.ensures in
    let own : search_of c.in_ok-row.row.pattern ≡ c.in_ok-search.search = ap (λ (f : Filter). search_of f.pattern) c.in_ok-row.ensures ∙ sym read in
    let judged : is_known c.build.new.verdicts c.in_ok-search.search ≡ true = search rules in
    let known : is_known c.build.new.verdicts (search_of c.in_ok-row.row.pattern) ≡ true =
    ap (λ s. is_known c.build.new.verdicts s) own ∙ judged in
    subst (λ l. AreFine c.build.new.verdicts l) (sym c.in_ok-push.ensures.ok)
    (fine_added c.build.new.verdicts c.self.inside.rows.items c.in_ok-row.row later known)
