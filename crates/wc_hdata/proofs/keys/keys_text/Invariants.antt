use Rattle.std.proofs.Common.{◌≡◌, ◌∷◌, take}
use Rattle.wc_keys.specs.declared.key.Key.{Key}
use Rattle.wc_hdata.proofs.TextLemmas.{texts}
use Rattle.wc_hdata.proofs.keys.keys_text.Given as goal

abbrev pub invariant-loop-key : goal.invariant-loop-key
invariant-loop-key l = (first : Key) × (l.keys ≡ first ∷ l.others) × (l.text ≡ texts first (take l.key-index l.others))
