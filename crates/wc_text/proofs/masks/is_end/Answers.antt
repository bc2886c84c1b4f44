use Rattle.std.proofs.Common.{◌≡◌, ◌-◌, length, Option, Some, None, is_some, Bor, List, ℕ, refl, sym, ap, ◌∙◌, arith}
use Rattle.std.specs.Option.{option_copied}
use Rattle.wc_text.specs.Mask.{after_front}
use Rattle.wc_text.proofs.MaskLemmas.{no_end, ends_long}
use Rattle.wc_text.proofs.masks.is_end.Goals as goal

pub returns-then-text-mask : goal.returns-then-text-mask
returns-then-text-mask c = sym (no_end c.args.fold c.args.mask.now c.args.text.now c.requires c.if-text-mask.true)

copied_some : (found : Option (Bor (List ℕ))) → is_some found ≡ is_some (option_copied found)
copied_some None = refl
copied_some (Some rest) = refl

pub returns : goal.returns
returns c =
    let mask = c.args.mask.now in
    let text = c.args.text.now in
    let n = length text - length mask in
    c.is_some.ensures ∙ copied_some c.after_front.result ∙ ap is_some c.after_front.ensures
    ∙ ap (λ end. is_some (after_front c.args.fold mask end)) c.split_at.ensures.back
    ∙ sym (ends_long c.args.fold mask text n c.requires (omega arith))
