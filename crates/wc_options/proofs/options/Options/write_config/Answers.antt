use Rattle.std.proofs.Common.{◌∙◌, ◌++◌, ◌∷◌, [], List, ℕ, ap, sym}
use Rattle.std.specs.List.{flat_map}
use Rattle.wc_options.specs.Config.{config_of, text_of_lines, set_lines, server_lines}
use Rattle.wc_options.specs.Version.{version_line}
use Rattle.wc_options.specs.Table.{globals}
use Rattle.wc_options.proofs.RoundTrip.{config_of-config_text}
use Rattle.wc_options.proofs.WriteLemmas.{config_text-is}
use Rattle.wc_options.proofs.options.Options.write_config.Goals as goal

pub returns-clause-written : goal.returns-clause-written
returns-clause-written c =
    c.in_ok-write_servers.ensures
    ∙ ap (λ (t : List ℕ). t ++ text_of_lines (flat_map server_lines c.args.self.now.servers))
    (c.in_ok-write_globals.ensures.written
    ∙ ap (λ (t : List ℕ). t ++ text_of_lines (set_lines [] globals c.args.self.now.set))
    (c.in_ok-append-2.ensures.ok ∙ ap (λ (t : List ℕ). t ++ 10 ∷ []) (c.in_ok-append.ensures.ok ∙ ap (λ (t : List ℕ). t ++ version_line) c.new-text.ensures)))
    ∙ config_text-is c.args.self.now

pub returns-clause-reads_back : goal.returns-clause-reads_back
returns-clause-reads_back c =
    ap config_of
    (c.in_ok-write_servers.ensures
    ∙ ap (λ (t : List ℕ). t ++ text_of_lines (flat_map server_lines c.args.self.now.servers))
    (c.in_ok-write_globals.ensures.written
    ∙ ap (λ (t : List ℕ). t ++ text_of_lines (set_lines [] globals c.args.self.now.set))
    (c.in_ok-append-2.ensures.ok ∙ ap (λ (t : List ℕ). t ++ 10 ∷ []) (c.in_ok-append.ensures.ok ∙ ap (λ (t : List ℕ). t ++ version_line) c.new-text.ensures)))
    ∙ config_text-is c.args.self.now)
    ∙ config_of-config_text c.args.self.now c.in_ok-write_globals.ensures.kept

pub returns-clause-reads_old_back : goal.returns-clause-reads_old_back
returns-clause-reads_old_back c = λ old e. returns-clause-reads_back c ∙ sym e
