use Rattle.std.proofs.Common.{rules, ◌≡◌, ◌∙◌, ◌+◌, ap, length, List, ℕ}
use Rattle.std.specs.Prelude.{string_bytes}
use Rattle.wc_eval.specs.Stored.{names_of}
use Rattle.wc_eval.specs.Progress.{Progress, with_name, define}
use Rattle.wc_eval.proofs.KeptLemmas.{names_set}
use Rattle.wc_eval.proofs.kept.Kept.define.Goals as goal

pub returns : goal.returns
returns c =
    let kept = c.self.inside in
    let name : c.in_ok-key.key.items ≡ c.args.name.now = search rules in
    let value : string_bytes c.in_ok-text.text ≡ c.args.value.now = search rules in
    let names : names_of c.insert.new.self.entries
    ≡ with_name c.args.name.now c.args.value.now (names_of kept.names.entries) =
    ap names_of c.in-Ok.ensures.entries
    ∙ names_set c.in_ok-key.key c.in_ok-text.text kept.names.entries
    ∙ ap (λ n. with_name n (string_bytes c.in_ok-text.text) (names_of kept.names.entries)) name
    ∙ ap (λ v. with_name c.args.name.now v (names_of kept.names.entries)) value in
    let made : List (List ℕ × List ℕ) → ℕ → ℕ → Progress = λ names named defined. record {
      names = names;
      forms = kept.forms;
      named = named;
      defined = defined;
      made = kept.made;
    } in
    let set = names_of c.insert.new.self.entries in
    let is = ap (λ n. made set n c.in_ok-defined.defined) c.in_ok-named.ensures
    ∙ ap (made set (kept.named + length c.args.name.now)) c.in_ok-defined.ensures
    ∙ ap (λ l. made l (kept.named + length c.args.name.now) (kept.defined + length c.args.value.now)) names
    ∙ ap (define c.args.name.now c.args.value.now) c.self.view_is in
    record { ok = is }
