use Rattle.std.proofs.Common.{◌≡◌, ℕ, ◌+◌, ◌∷◌, List, refl, ap, sym, subst, ◌∙◌, drop, get_or, arith}
use Rattle.std.specs.Prelude.{map, string_bytes}
use Rattle.std.proofs.lemmas.List.{drop_more}
use Rattle.wc_core.specs.CoreView.{CoreView}
use Rattle.wc_core.specs.Typed.{lines_of_text}
use Rattle.wc_core.specs.Step.{core_buffer, lines_step, commands_step}
use Rattle.wc_core.specs.Served.{Does}
use Rattle.wc_core.specs.Starts.{RunsCommands, RunsInput}
use Rattle.wc_core.proofs.DidLemmas.{Does-stays}
use Rattle.wc_core.proofs.StartLemmas.{commands-quit, commands-more, drop_past, none-of, command-last, command-more, runs-input}
use Rattle.wc_core.proofs.RunLemmas.{does-of}
use Rattle.wc_core.proofs.core_state.Core.run_commands.Goals as goal

pub run_lines-requires-clause-text : goal.run_lines-requires-clause-text
run_lines-requires-clause-text c = c.as_bytes.ensures.utf8

pub returns-then-self-clause-does : goal.returns-then-self-clause-does
returns-then-self-clause-does c =
    let a = c.loop-command.self in
    let b = c.run_lines.new.self in
    let i = c.loop-command.command-index in
    let all = c.args.commands.now in
    let item = c.command-item.result in
    let rest = map string_bytes (drop (i + 1) all) in
    let next : map string_bytes (drop i all) ≡ string_bytes (get_or all i item) ∷ rest = ap (map string_bytes) (drop_more all i item c.loop-command-test.true) in
    let text = c.as_bytes.ensures.value ∙ c.as_str.ensures.value ∙ ap string_bytes c.command-item.is in
    let P : List (List ℕ) → Type 0 = λ commands. Does a b (λ state. commands_step state commands) in
    let Q : List ℕ → Type 0 = λ command. Does a b (λ state. lines_step state core_buffer (lines_of_text command)) in
    let quit = ap (λ (core : CoreView). core.quits) (sym c.self.view_is) ∙ c.if-self.true in
    c.loop-command.invariant.onward b (subst P (sym next) (commands-quit a b (string_bytes (get_or all i item)) rest c.loop-command.invariant.going quit (subst Q text (does-of a b (λ state. lines_step state core_buffer (lines_of_text c.as_bytes.result.now)) c.run_lines.ensures))))

pub returns-then-self-clause-each : goal.returns-then-self-clause-each
returns-then-self-clause-each c =
    let a = c.loop-command.self in
    let b = c.run_lines.new.self in
    let i = c.loop-command.command-index in
    let all = c.args.commands.now in
    let item = c.command-item.result in
    let rest = map string_bytes (drop (i + 1) all) in
    let next : map string_bytes (drop i all) ≡ string_bytes (get_or all i item) ∷ rest = ap (map string_bytes) (drop_more all i item c.loop-command-test.true) in
    let text = c.as_bytes.ensures.value ∙ c.as_str.ensures.value ∙ ap string_bytes c.command-item.is in
    let P : List (List ℕ) → Type 0 = λ commands. RunsCommands commands a b in
    let Q : List ℕ → Type 0 = λ command. RunsInput a b (λ state. lines_step state core_buffer (lines_of_text command)) in
    let quit = ap (λ (core : CoreView). core.quits) (sym c.self.view_is) ∙ c.if-self.true in
    c.loop-command.invariant.each b (subst P (sym next) (command-last a b (string_bytes (get_or all i item)) rest quit (subst Q text (runs-input a b (λ state. lines_step state core_buffer (lines_of_text c.as_bytes.result.now)) c.run_lines.ensures))))

pub returns-then-self-clause-idle : goal.returns-then-self-clause-idle
returns-then-self-clause-idle c empty = absurd (omega (arith, c.loop-command-test.true, none-of string_bytes c.args.commands.now empty))

pub loop-command-preserved : goal.loop-command-preserved
loop-command-preserved c =
    let a = c.loop-command.self in
    let b = c.run_lines.new.self in
    let i = c.loop-command.command-index in
    let all = c.args.commands.now in
    let item = c.command-item.result in
    let rest = map string_bytes (drop (i + 1) all) in
    let next : map string_bytes (drop i all) ≡ string_bytes (get_or all i item) ∷ rest = ap (map string_bytes) (drop_more all i item c.loop-command-test.true) in
    let text = c.as_bytes.ensures.value ∙ c.as_str.ensures.value ∙ ap string_bytes c.command-item.is in
    let Q : List ℕ → Type 0 = λ command. Does a b (λ state. lines_step state core_buffer (lines_of_text command)) in
    let R : List ℕ → Type 0 = λ command. RunsInput a b (λ state. lines_step state core_buffer (lines_of_text command)) in
    let on = ap (λ (core : CoreView). core.quits) (sym c.self.view_is) ∙ c.if-self.false in
    record {
      going = on;
      onward = λ final more.
          let P : List (List ℕ) → Type 0 = λ commands. Does a final (λ state. commands_step state commands) in
          c.loop-command.invariant.onward final (subst P (sym next) (commands-more a b final (string_bytes (get_or all i item)) rest c.loop-command.invariant.going on (subst Q text (does-of a b (λ state. lines_step state core_buffer (lines_of_text c.as_bytes.result.now)) c.run_lines.ensures)) more));
      each = λ final more.
          let P : List (List ℕ) → Type 0 = λ commands. RunsCommands commands a final in
          c.loop-command.invariant.each final (subst P (sym next) (command-more a b final (string_bytes (get_or all i item)) rest on (subst R text (runs-input a b (λ state. lines_step state core_buffer (lines_of_text c.as_bytes.result.now)) c.run_lines.ensures)) more));
      idle = λ empty. absurd (omega (arith, c.loop-command-test.true, none-of string_bytes all empty));
    }

pub returns-clause-does : goal.returns-clause-does
returns-clause-does c =
    let a = c.loop-command.self in
    let P : List (List ℕ) → Type 0 = λ commands. Does a a (λ state. commands_step state commands) in
    c.loop-command.invariant.onward a (subst P (sym (ap (map string_bytes) (drop_past c.loop-command.command-index c.args.commands.now c.loop-command-test.false))) (Does-stays a))

pub returns-clause-each : goal.returns-clause-each
returns-clause-each c =
    let a = c.loop-command.self in
    let P : List (List ℕ) → Type 0 = λ commands. RunsCommands commands a a in
    c.loop-command.invariant.each a (subst P (sym (ap (map string_bytes) (drop_past c.loop-command.command-index c.args.commands.now c.loop-command-test.false))) refl)
