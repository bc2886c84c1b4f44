use Rattle.std.proofs.Common.{sym, ap, ◌∙◌, is_some}
use Rattle.regex_syntax.proofs.Written.{is_some-option_map}
use Rattle.wc_eval.proofs.Meaning.{first_as_text}
use Rattle.wc_eval.proofs.search.is_match.Goals as goal

pub returns : goal.returns
returns c =
    rw (c.is_match.ensures.found, c.in_ok-matcher.ensures.pattern)
    (sym (is_some-option_map _ _)
    ∙ ap is_some (first_as_text c.args.regex.now c.requires.config c.requires.read c.args.text.now (λ k. (c.type_inv.text k).fits)))
