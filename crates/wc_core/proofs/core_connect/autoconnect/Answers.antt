use Rattle.std.proofs.Common.{◌≡◌, ℕ, List, [], ◌++◌, codes, Option, ap, sym, ◌∙◌, append_assoc}
use Rattle.std.specs.Prelude.{unwrap_or}
use Rattle.wc_options.specs.Options.{value_of}
use Rattle.wc_irc.specs.Start.{option_name}
use Rattle.wc_core.proofs.core_connect.autoconnect.Goals as goal

named : (server : List ℕ) → codes "irc.server." ++ (server ++ (codes "." ++ codes "autoconnect")) ≡ option_name server (codes "autoconnect")
named server = ap (λ (t : List ℕ). codes "irc.server." ++ t) (sym (append_assoc server (codes ".") (codes "autoconnect")))

pub returns-in-Some : goal.returns-in-Some
returns-in-Some c =
    c.as_slice-in-Some.ensures ∙ ap (λ (o : Option (List ℕ)). unwrap_or o []) (c.in-Some.ensures ∙ ap (value_of c.args.options.now) (c.as_slice.ensures ∙ c.in_ok-option.ensures ∙ named c.args.name.now))

pub returns : goal.returns
returns c = ap (λ (o : Option (List ℕ)). unwrap_or o []) (c.in-None.ensures ∙ ap (value_of c.args.options.now) (c.as_slice.ensures ∙ c.in_ok-option.ensures ∙ named c.args.name.now))
