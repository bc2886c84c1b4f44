use Rattle.std.proofs.Common.{sym, ◌∙◌}
use Rattle.wc_ircmsg.proofs.TokenLemmas.{copies_spell, copies_same, not_parted, not_modes, not_chars}
use Rattle.wc_ircmsg.proofs.prefixes.read_prefix_token.Goals as goal
use Rattle.wc_ircmsg.proofs.prefixes.read_prefix_token.Goals.{then-not-are_modes-via-then-not-are_modes, then-not-are_modes-via-else-not-are_modes+in_ok-are_chars+then-not-branch}

pub returns-in_default-clause-only : goal.returns-in_default-clause-only
returns-in_default-clause-only c = λ prefixes spells. absurd (not_parted c.args.value.now prefixes (sym (rw c.in_default.is at c.cut_token.ensures)) spells)

pub returns-then-not-are_modes-clause-only : goal.returns-then-not-are_modes-clause-only
returns-then-not-are_modes-clause-only c = λ prefixes spells. absurd (elim c.then-not-are_modes.branch [
  | then-not-are_modes-via-then-not-are_modes w ↦ not_modes c.args.value.now c.in-Some.modes.now c.in-Some.chars.now prefixes (sym (rw c.in-Some.is at c.cut_token.ensures)) (sym c.are_modes.ensures ∙ w.if-not-are_modes.true) spells
  | then-not-are_modes-via-else-not-are_modes+in_ok-are_chars+then-not-branch w ↦
      not_chars c.args.value.now c.in-Some.modes.now c.in-Some.chars.now prefixes (sym (rw c.in-Some.is at c.cut_token.ensures)) (sym w.in_ok-are_chars.ensures ∙ w.if-not-branch.true) spells
])

pub returns-clause-found : goal.returns-clause-found
returns-clause-found c =
    copies_spell c.args.value.now c.in-Some.modes.now c.in-Some.chars.now _ _ c.in_ok-modes.ensures c.in_ok-chars.ensures (sym (rw c.in-Some.is at c.cut_token.ensures)) (sym c.are_modes.ensures ∙ c.if-not-are_modes.false)
    (sym c.in_ok-are_chars.ensures ∙ c.if-not-branch.false)

pub returns-clause-only : goal.returns-clause-only
returns-clause-only c = λ prefixes spells.
    copies_same c.args.value.now c.in-Some.modes.now c.in-Some.chars.now _ _ prefixes c.in_ok-modes.ensures c.in_ok-chars.ensures (sym (rw c.in-Some.is at c.cut_token.ensures)) spells
