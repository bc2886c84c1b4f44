use Rattle.wc_core.specs.ServerTyped.{connect_all_step}
use Rattle.std.proofs.Common.{ap, sym, ◌∙◌}
use Rattle.std.specs.Prelude.{map, string_bytes}
use Rattle.wc_core.specs.CoreView.{CoreView}
use Rattle.wc_core.proofs.StartLemmas.{starts-quit, starts-more, start-last, start-more}
use Rattle.wc_core.proofs.RunLemmas.{does-of}
use Rattle.wc_core.proofs.core_state.Core.run_start.Goals as goal

pub returns-then-self-clause-does : goal.returns-then-self-clause-does
returns-then-self-clause-does c =
    starts-quit c.args.self.now c.run_commands.new.self (map string_bytes c.args.commands.now) c.requires (ap (λ (core : CoreView). core.quits) (sym c.self.view_is) ∙ c.if-self.true) c.run_commands.ensures.does

pub returns-clause-does : goal.returns-clause-does
returns-clause-does c =
    starts-more c.args.self.now c.run_commands.new.self c.connect_all.new.self (map string_bytes c.args.commands.now) c.requires (ap (λ (core : CoreView). core.quits) (sym c.self.view_is) ∙ c.if-self.false) c.run_commands.ensures.does (does-of c.run_commands.new.self c.connect_all.new.self connect_all_step c.connect_all.ensures.does)

pub returns-then-self-clause-each : goal.returns-then-self-clause-each
returns-then-self-clause-each c =
    start-last c.args.self.now c.run_commands.new.self (map string_bytes c.args.commands.now) (ap (λ (core : CoreView). core.quits) (sym c.self.view_is) ∙ c.if-self.true) c.run_commands.ensures.each

pub returns-clause-each : goal.returns-clause-each
returns-clause-each c =
    start-more c.args.self.now c.run_commands.new.self c.connect_all.new.self (map string_bytes c.args.commands.now) (ap (λ (core : CoreView). core.quits) (sym c.self.view_is) ∙ c.if-self.false) c.run_commands.ensures.each c.connect_all.ensures.does
