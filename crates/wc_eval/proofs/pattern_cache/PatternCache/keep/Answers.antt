use Rattle.std.proofs.Common.{rules, ◌≡◌, sym, ◌∙◌}
use Rattle.wc_eval.proofs.CacheLemmas.{kept_put}
use Rattle.wc_eval.proofs.pattern_cache.PatternCache.keep.Goals as goal

pub invariant_of-self : goal.invariant_of-self
invariant_of-self c =
    let same : c.in-Ok.key.items ≡ c.args.text.now = search rules in
    kept_put c.put.result c.self.inside.patterns c.put.new.self c.in-Ok.key c.args.pattern c.put.ensures.entries c.put.ensures.err
    (c.requires ∙ sym same) c.self.invariant
