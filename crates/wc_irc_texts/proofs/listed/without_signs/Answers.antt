use Rattle.std.proofs.Common.{ap, sym, ◌∙◌, subst, List, ℕ}
use Rattle.std.specs.List.{concat}
use Rattle.wc_irc_texts.specs.Listed.{front_signs, bits_of, listed_bits}
use Rattle.wc_irc_texts.specs.Texts.{char_texts}
use Rattle.wc_irc_texts.specs.ListedSeen.{HasNoSign, HasSign}
use Rattle.wc_irc_texts.proofs.ListedLemmas.{concat-chars, bits_step, bits_end}
use Rattle.wc_irc_texts.proofs.listed.without_signs.Goals as goal

pub loop-place-preserved : goal.loop-place-preserved
loop-place-preserved c =
    let signs = char_texts c.args.prefixes.now.chars in
    let nick = c.loop-place.nick.now in
    let others = c.in-Some.others.now in
    let cut : HasSign signs nick c.in-Some.place others = subst (λ (l : List ℕ). HasSign (char_texts l) nick c.in-Some.place others) c.as_slice.ensures c.in-Some.ensures in
    record {
      nick = sym cut.same ∙ c.loop-place.invariant.nick;
      bits = ap (λ (b : ℕ). bits_of b (front_signs signs (char_texts others))) c.changed-modes.ensures
          ∙ bits_step c.loop-place.modes.0 (front_signs signs (char_texts nick)) (front_signs signs (char_texts others)) c.in-Some.place (listed_bits c.args.prefixes.now c.args.name.now) cut.first c.loop-place.invariant.bits;
    }

pub returns-clause-nick : goal.returns-clause-nick
returns-clause-nick c =
    let cut : HasNoSign (char_texts c.args.prefixes.now.chars) c.loop-place.nick.now = subst (λ (l : List ℕ). HasNoSign (char_texts l) c.loop-place.nick.now) c.as_slice.ensures c.in_default.ensures in
    sym (concat-chars c.loop-place.nick.now) ∙ ap concat (sym cut.whole ∙ c.loop-place.invariant.nick)

pub returns-clause-modes : goal.returns-clause-modes
returns-clause-modes c =
    let signs = char_texts c.args.prefixes.now.chars in
    let cut : HasNoSign signs c.loop-place.nick.now = subst (λ (l : List ℕ). HasNoSign (char_texts l) c.loop-place.nick.now) c.as_slice.ensures c.in_default.ensures in
    bits_end c.loop-place.modes.0 (front_signs signs (char_texts c.loop-place.nick.now)) (listed_bits c.args.prefixes.now c.args.name.now) cut.none c.loop-place.invariant.bits
