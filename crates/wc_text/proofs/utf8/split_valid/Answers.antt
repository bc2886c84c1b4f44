use Rattle.std.proofs.Common.{drop, ap, ◌∙◌}
use Rattle.std.specs.Str.{valid_up_to}
use Rattle.wc_text.specs.Lossy.{char_len}
use Rattle.wc_text.proofs.LossyLemmas.{no_char_after}
use Rattle.wc_text.proofs.utf8.split_valid.Goals as goal

pub returns-in-Err-clause-no_char : goal.returns-in-Err-clause-no_char
returns-in-Err-clause-no_char c =
    ap char_len c.split_at-in-Err.ensures.back
    ∙ ap (λ n. char_len (drop n c.args.bytes.now)) c.valid_up_to.ensures
    ∙ no_char_after c.args.bytes.now (valid_up_to c.in-Err.error) c.in-Err.ensures.cases.1
