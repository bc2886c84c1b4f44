use Rattle.wc_irc_texts.proofs.FeatureLemmas.{prefixes_answered}
use Rattle.wc_irc_texts.proofs.features.read_prefixes.Goals as goal

pub returns : goal.returns
returns c = prefixes_answered c.args.value.now c.read_prefix_token.result c.read_prefix_token.ensures.found c.read_prefix_token.ensures.only
