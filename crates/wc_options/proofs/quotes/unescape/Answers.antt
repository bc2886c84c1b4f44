use Rattle.std.proofs.Common.{◌∙◌, ap, sym, get_or, List, ℕ}
use Rattle.wc_options.specs.Quotes.{is_marked}
use Rattle.wc_options.proofs.QuotesLemmas.{marked_first, unescaped_closing, unescaped_byte, unescaped_wrong, unescaped_end}
use Rattle.wc_options.proofs.quotes.unescape.Goals as goal

pub mark_of-requires : goal.mark_of-requires
mark_of-requires c =
    ap (λ (t : List ℕ). is_marked (get_or t 0 0)) c.split_at.ensures.back ∙ marked_first c.loop-place.rest.now c.in-Some.place (sym c.in-Some.ensures)

pub returns-in-Closing : goal.returns-in-Closing
returns-in-Closing c =
    unescaped_closing c.args.text.now c.loop-place.value c.loop-place.rest.now c.split_at.result.0.now c.split_at.result.1.now c.append.new.self c.in-Some.place
    (sym c.in-Some.ensures) c.split_at.ensures.front c.split_at.ensures.back c.loop-place.invariant c.in_ok-append.ensures.ok c.in-Closing.ensures.value

pub loop-place-preserved : goal.loop-place-preserved
loop-place-preserved c =
    unescaped_byte c.args.text.now c.loop-place.value c.loop-place.rest.now c.split_at.result.0.now c.split_at.result.1.now c.append.new.self c.append-in-Byte.new.self c.in-Byte.others.now c.in-Some.place c.in-Byte.byte
    (sym c.in-Some.ensures) c.split_at.ensures.front c.split_at.ensures.back c.loop-place.invariant c.in_ok-append.ensures.ok c.in-Byte.ensures.value c.in_ok-append-in-Byte.ensures.ok

pub returns-in-Stray : goal.returns-in-Stray
returns-in-Stray c =
    unescaped_wrong c.args.text.now c.loop-place.value c.loop-place.rest.now c.split_at.result.0.now c.split_at.result.1.now c.in-Some.place
    (sym c.in-Some.ensures) c.split_at.ensures.front c.split_at.ensures.back c.loop-place.invariant c.in-Stray.ensures.value

pub returns : goal.returns
returns c = sym (unescaped_end c.args.text.now c.loop-place.value c.loop-place.rest.now (sym c.in_default.ensures) c.loop-place.invariant)
