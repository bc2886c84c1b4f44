use Rattle.std.proofs.Common.{ap, sym, ◌∙◌, option_map}
use Rattle.std.specs.Option.{option_copied}
use Rattle.wc_triggers.specs.Keys.{key_of, each_key, names_left, keyed_after, signal_keys}
use Rattle.wc_triggers.proofs.KeyLemmas.{next_key, wrong_key}
use Rattle.wc_triggers.proofs.keys.signal_keys.Goals as goal

pub returns-in_default-signal_named : goal.returns-in_default-signal_named
returns-in_default-signal_named c =
    wrong_key c.loop-rest.keys c.in-Some.names.now (signal_keys c.args.text.now)
    (ap (λ o. option_map (keyed_after c.loop-rest.keys) (each_key (names_left (option_copied o)))) (sym c.in-Some.is) ∙ c.loop-rest.invariant)
    c.split_once.result.0.now c.split_once.ensures.front c.in_default-signal_named.ensures

pub loop-rest-preserved : goal.loop-rest-preserved
loop-rest-preserved c =
    next_key c.loop-rest.keys c.in-Some.names.now (signal_keys c.args.text.now)
    (ap (λ o. option_map (keyed_after c.loop-rest.keys) (each_key (names_left (option_copied o)))) (sym c.in-Some.is) ∙ c.loop-rest.invariant)
    c.push_new.new.keys (key_of c.in-Some-signal_named.priority c.in-Some-signal_named.name.now)
    c.split_once.result.0.now (option_copied c.split_once.result.1) c.split_once.ensures.front c.split_once.ensures.back
    c.in-Some-signal_named.ensures c.in_ok-push_new.ensures
