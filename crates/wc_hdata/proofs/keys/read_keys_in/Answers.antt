use Rattle.std.proofs.Common.{[], Some, ap, sym, ◌∙◌, eqb, length}
use Rattle.std.specs.Option.{option_copied}
use Rattle.std.proofs.lemmas.Bool.{false≢true}
use Rattle.wc_hdata.proofs.KeyLemmas.{adds, keys_left, keys_more, keys_end}
use Rattle.wc_hdata.proofs.keys.read_keys_in.Goals as goal

pub loop-rest-preserved : goal.loop-rest-preserved
loop-rest-preserved c =
    keys_more c.args.list c.loop-rest.keys c.push_key.new.keys (adds [] (keys_left c.args.list (Some c.args.text.now))) c.key_named.result c.in-Some.names.now c.split_once.result.0.now (option_copied c.split_once.result.1)
    (rw c.in-Some.is at c.loop-rest.invariant) c.split_once.ensures.front c.split_once.ensures.back c.key_named.ensures c.in_ok-push_key.ensures

pub returns : goal.returns
returns c =
    keys_end c.args.list c.loop-rest.keys c.args.text.now (option_copied c.loop-rest.rest)
    (λ none. false≢true (sym c.if-is_empty.false ∙ c.is_empty.ensures ∙ ap (λ t. eqb (length t) 0) none)) (ap option_copied c.in_default.is) c.loop-rest.invariant
