use Rattle.std.proofs.Common.{sym, ap, ◌∙◌, is_some}
use Rattle.regex_syntax.proofs.Written.{is_some-option_map}
use Rattle.wc_eval.proofs.Meaning.{first_as_text}
use Rattle.wc_eval.proofs.finder.Finder.is_match.Goals as goal

pub returns-clause-found : goal.returns-clause-found
returns-clause-found c =
    let own = c.self.inside.regex.now in
    let built = c.self.invariant.built in
    rw (c.is_match.ensures.found, c.self.invariant.pattern, ← c.self.view_is)
    (sym (is_some-option_map _ _)
    ∙ ap is_some (first_as_text own built.config built.read c.args.text.now (λ k. (c.type_inv.text k).fits)))
