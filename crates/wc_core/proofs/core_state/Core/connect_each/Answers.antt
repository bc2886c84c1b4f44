use Rattle.std.proofs.Common.{◌≡◌, ◌∙◌, ap, ℕ, ◌+◌, List, sym, subst, drop, get_or}
use Rattle.wc_core.specs.CoreView.{CoreView}
use Rattle.std.proofs.lemmas.List.{drop_more}
use Rattle.wc_core.specs.ServerTyped.{connect_own_step, connect_each_step}
use Rattle.wc_core.proofs.StartLemmas.{drop_past}
use Rattle.wc_core.proofs.AskedLemmas.{each-more, each-cut}
use Rattle.wc_core.proofs.core_state.Core.connect_each.Goals as goal
use Rattle.wc_core.specs.Contained.{Runs}
use Rattle.wc_core.proofs.RunLemmas.{Runs-stays}

pub loop-name-preserved : goal.loop-name-preserved
loop-name-preserved c = λ final more.
    let a = c.loop-name.self in
    let b = c.connect_own.new.self in
    let i = c.loop-name.name-index in
    let all = c.args.names.now in
    let item = c.name-item.result in
    let before : c.self.inside.cuts ≡ a.cuts = ap (λ (core : CoreView). core.cuts) c.self.view_is in
    let following : c.self-in-loop-name.inside.cuts ≡ b.cuts = ap (λ (core : CoreView). core.cuts) c.self-in-loop-name.view_is in
    let uncut : b.cuts ≡ a.cuts = sym following ∙ c.if-self-cuts.false ∙ before in
    let P : List (List ℕ) → Type 0 = λ names. Runs a final (λ state. connect_each_step state names) in
    let Q : List ℕ → Type 0 = λ name. Runs a b (λ state. connect_own_step state name) in
    c.loop-name.invariant final (subst P (sym (drop_more all i item c.loop-name-test.true)) (each-more a b final (get_or all i item) (drop (i + 1) all) uncut (subst Q c.name-item.is c.connect_own.ensures) more))

pub returns-then-self-cuts : goal.returns-then-self-cuts
returns-then-self-cuts c =
    let a = c.loop-name.self in
    let b = c.connect_own.new.self in
    let i = c.loop-name.name-index in
    let all = c.args.names.now in
    let item = c.name-item.result in
    let before : c.self.inside.cuts ≡ a.cuts = ap (λ (core : CoreView). core.cuts) c.self.view_is in
    let following : c.self-in-loop-name.inside.cuts ≡ b.cuts = ap (λ (core : CoreView). core.cuts) c.self-in-loop-name.view_is in
    let P : List (List ℕ) → Type 0 = λ names. Runs a b (λ state. connect_each_step state names) in
    let Q : List ℕ → Type 0 = λ name. Runs a b (λ state. connect_own_step state name) in
    c.loop-name.invariant b (subst P (sym (drop_more all i item c.loop-name-test.true)) (each-cut a b (get_or all i item) (drop (i + 1) all) (λ same. c.if-self-cuts.true (following ∙ same ∙ sym before)) (subst Q c.name-item.is c.connect_own.ensures)))

pub returns : goal.returns
returns c =
    let a = c.loop-name.self in
    let P : List (List ℕ) → Type 0 = λ names. Runs a a (λ state. connect_each_step state names) in
    c.loop-name.invariant a (subst P (sym (drop_past c.loop-name.name-index c.args.names.now c.loop-name-test.false)) (Runs-stays a))
