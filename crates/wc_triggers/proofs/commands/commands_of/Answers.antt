use Rattle.std.proofs.Common.{◌≡◌, ◌++◌, ◌∷◌, [], false, ap, sym, subst, ◌∙◌, arith}
use Rattle.std.specs.Prelude.{All, IfSome}
use Rattle.std.specs.Option.{option_copied}
use Rattle.std.specs.Str.{IsUtf8}
use Rattle.std.proofs.lemmas.List.Elements.{All-append}
use Rattle.wc_triggers.specs.Commands.{commands_of, filled_of, pieces_left}
use Rattle.wc_triggers.proofs.SlashLemmas.{Read, unslashed_utf8}
use Rattle.wc_triggers.proofs.CommandLemmas.{next_command, filled_utf8}
use Rattle.wc_triggers.proofs.commands.commands_of.Goals as goal

pub loop-rest-preserved : goal.loop-rest-preserved
loop-rest-preserved c =
    let commands = c.loop-rest.commands in
    let command = c.in_ok-command.command in
    let others = option_copied c.in_ok-command.others in
    let pieces = c.in-Some.pieces.now in
    let new = c.push_filled.new.commands in
    let read = c.in_ok-command.ensures.read in
    let made : new ≡ commands ++ filled_of (command ∷ []) =
    c.in_ok-push_filled.ensures ∙ ap (λ l. commands ++ filled_of (l ∷ [])) c.as_slice.ensures in
    let utf8 : IsUtf8 pieces = subst (λ o. IfSome (option_copied o) IsUtf8) c.in-Some.is c.loop-rest.invariant.rest in
    let both = unslashed_utf8 59 false pieces (omega arith) utf8 in
    let so_far : commands ++ filled_of (pieces_left (option_copied c.loop-rest.rest)) ≡ commands_of c.args.text.now = c.loop-rest.invariant.read in record {
      read = next_command commands new (commands_of c.args.text.now) pieces command others
          (ap (λ o. commands ++ filled_of (pieces_left (option_copied o))) (sym c.in-Some.is) ∙ so_far) read made;
      rest = subst (λ (r : Read). IfSome r.1 IsUtf8) (sym read) both.1;
      commands = subst (All IsUtf8) (sym made)
          (All-append IsUtf8 commands (filled_of (command ∷ [])) c.loop-rest.invariant.commands
          (filled_utf8 command (subst (λ (r : Read). IsUtf8 r.0) (sym read) both.0)));
    }
