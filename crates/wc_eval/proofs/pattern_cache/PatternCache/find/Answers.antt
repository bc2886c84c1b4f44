use Rattle.std.proofs.Common.{sym, subst, ◌∙◌}
use Rattle.wc_eval.proofs.CacheLemmas.{IsKept, kept_promoted, own_found}
use Rattle.wc_eval.proofs.pattern_cache.PatternCache.find.Goals as goal

pub invariant_of-self : goal.invariant_of-self
invariant_of-self c = subst IsKept (sym c.get.follows.holds-at-none) (kept_promoted _ c.self.inside.patterns c.self.invariant)

pub invariant_of-self-in_err-share : goal.invariant_of-self-in_err-share
invariant_of-self-in_err-share c = subst IsKept (sym c.get.follows.holds-at-none) (kept_promoted _ c.self.inside.patterns c.self.invariant)

pub invariant_of-self-2 : goal.invariant_of-self-2
invariant_of-self-2 c = subst IsKept (sym c.get.follows.holds-at-none) (kept_promoted _ c.self.inside.patterns c.self.invariant)

pub returns : goal.returns
returns c =
    c.in_ok-share.ensures
    ∙ own_found c.args.text.now c.self.inside.patterns.entries c.in-Some.pattern.now c.self.invariant.0 c.in-Some.ensures.value
