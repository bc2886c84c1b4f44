use Rattle.std.proofs.Common.{◌≡◌, ◌∙◌, ◌++◌, ◌∷◌, [], List, ℕ, Option, ap, subst, length}
use Rattle.std.specs.Result.{OnOk}
use Rattle.wc_options.specs.Config.{text_of_lines, set_lines, prefix_of}
use Rattle.wc_options.specs.Names.{server_prefix}
use Rattle.wc_options.specs.Table.{of_server}
use Rattle.wc_options.proofs.server.Server.write.Goals as goal

pub write_values-requires : goal.write_values-requires
write_values-requires c = ap length c.all_own.ensures ∙ c.requires

pub returns : goal.returns
unfolding of_server
returns c =
    let prefix : c.as_slice.result.now ≡ prefix_of c.args.self.now.name =
    c.as_slice.ensures
    ∙ c.in_ok-append-3.ensures.ok
    ∙ ap (λ (t : List ℕ). t ++ 46 ∷ []) (c.in_ok-append-2.ensures.ok ∙ ap (λ (t : List ℕ). t ++ c.name.result.now) (c.in_ok-append.ensures.ok ∙ ap (λ (t : List ℕ). t ++ server_prefix) c.new-prefix.ensures))
    ∙ ap prefix_of c.name.ensures in
    subst (λ (p : List ℕ). OnOk c.write_values.result (c.write_values.new.text ≡ c.args.text.now ++ text_of_lines (set_lines p of_server c.args.self.now.own))) prefix
    (subst (λ (own : List (Option (List ℕ))). OnOk c.write_values.result (c.write_values.new.text ≡ c.args.text.now ++ text_of_lines (set_lines c.as_slice.result.now of_server own))) c.all_own.ensures c.write_values.ensures)
