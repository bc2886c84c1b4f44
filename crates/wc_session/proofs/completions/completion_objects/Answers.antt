use Rattle.std.proofs.Common.{sym, ap, ◌∙◌}
use Rattle.std.specs.List.{list_all}
use Rattle.std.specs.Str.{is_utf8}
use Rattle.wc_session.proofs.RepliesFormed.{completion_formed}
use Rattle.wc_session.proofs.completions.completion_objects.Goals as goal

pub returns-clause-formed : goal.returns-clause-formed
returns-clause-formed c =
    rw c.in_ok-told_completion.ensures (completion_formed c.in-Some.completion ((rw c.in-Some.is at c.in_ok-completion.ensures.text) c.requires)
    (sym (c.are_text.ensures ∙ ap (list_all is_utf8) c.as_slice.ensures) ∙ c.if-not-are_text.false))
