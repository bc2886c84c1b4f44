use Rattle.std.proofs.Common.{sym, refl, ◌∙◌, ◌≡◌}
use Rattle.wc_session.proofs.WalkReplies.{no_path, no_answer, told_walk}
use Rattle.wc_session.proofs.paths.send_walk.Goals as goal

pub returns-in_default-clause-ok : goal.returns-in_default-clause-ok
returns-in_default-clause-ok c = (refl, no_path _ _ _ _ (sym c.in_ok-path.ensures.computed ∙ c.in_default.is))

pub returns-clause-ok : goal.returns-clause-ok
returns-clause-ok c = (
  c.in-Err.ensures.err,
  no_answer _ _ _ _ c.in-Some.path c.in-Err.refused (sym c.in_ok-path.ensures.computed ∙ c.in-Some.is) (c.in-Err.ensures.refused c.in_ok-unless_memory-in-Err.ensures),
)
