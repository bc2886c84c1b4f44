use Rattle.std.proofs.Common.{◌≡◌, IsTrue, List, ℕ, rules, sym, subst}
use Rattle.wc_text.specs.Lossy.{lossy_of}
use Rattle.wc_ircmsg.specs.Grammar.{SpellsLine}
use Rattle.wc_ircmsg.specs.Written.{is_one_line, line_of, without_prefix}
use Rattle.wc_ircmsg.proofs.WriteLemmas.{SpellsLine-written, written_in_line, ReadsLine-written}
use Rattle.wc_ircmsg.proofs.write.write_line.Goals as goal

pub returns-clause-one_line : goal.returns-clause-one_line
returns-clause-one_line c =
    let is : c.put_params.new.text ≡ line_of c.args.message.now = search rules in
    subst (λ (t : List ℕ). IsTrue (is_one_line t)) (sym is) (written_in_line c.args.message.now c.requires)

pub returns-clause-spells : goal.returns-clause-spells
returns-clause-spells c =
    let is : c.put_params.new.text ≡ line_of c.args.message.now = search rules in
    subst (λ (t : List ℕ). SpellsLine t (without_prefix c.args.message.now)) (sym is) (SpellsLine-written c.args.message.now c.requires)

pub returns-clause-reads_back : goal.returns-clause-reads_back
returns-clause-reads_back c = λ utf8.
    let is : c.put_params.new.text ≡ line_of c.args.message.now = search rules in
    subst (λ (t : List ℕ). SpellsLine (lossy_of t) (without_prefix c.args.message.now)) (sym is) (ReadsLine-written c.args.message.now c.requires utf8)
