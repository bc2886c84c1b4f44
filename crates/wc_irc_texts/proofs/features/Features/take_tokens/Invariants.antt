use Rattle.std.proofs.Common.{◌≡◌, take, fold}
use Rattle.wc_irc_texts.specs.Features.{with_token}
use Rattle.wc_irc_texts.proofs.features.Features.take_tokens.Given as goal

abbrev pub invariant-loop-token : goal.invariant-loop-token
invariant-loop-token l = l.self ≡ fold with_token l.fn.self (take l.token-index l.tokens)
