use Rattle.std.proofs.Common.{◌+◌, ◌∷◌, List, sym, subst, drop}
use Rattle.std.proofs.lemmas.List.{drop_more}
use Rattle.std.proofs.lemmas.List.Elements.{All-get_or}
use Rattle.wc_text.specs.declared.names.Pair.{Pair}
use Rattle.wc_core.specs.ServerTyped.{HasTextValue, settings_step}
use Rattle.wc_core.proofs.StartLemmas.{drop_past}
use Rattle.wc_core.proofs.AskedLemmas.{settings-more, settings-stop}
use Rattle.wc_core.proofs.core_state.Core.set_each.Goals as goal
use Rattle.wc_core.specs.Contained.{Runs}
use Rattle.wc_core.proofs.RunLemmas.{Runs-stays}

pub set-requires : goal.set-requires
set-requires c = record { value_is_text = subst HasTextValue (sym c.setting-item.is) (All-get_or HasTextValue c.args.settings.now c.loop-setting.setting-index c.setting-item.result c.loop-setting-test.true c.requires) }

pub loop-setting-preserved : goal.loop-setting-preserved
loop-setting-preserved c = λ final more.
    let a = c.loop-setting.self in
    let i = c.loop-setting.setting-index in
    let all = c.args.settings.now in
    let item = c.setting-item.result in
    let rest = drop (i + 1) all in
    let P : List Pair → Type 0 = λ settings. Runs a final (λ state. settings_step state settings) in
    let Q : Pair → Type 0 = λ setting. Runs a final (λ state. settings_step state (setting ∷ rest)) in
    c.loop-setting.invariant final (subst P (sym (drop_more all i item c.loop-setting-test.true))
    (subst Q c.setting-item.is (rw (← c.self.view_is) (settings-more _ final c.set.new.self item rest c.in-Ok.ensures.accepted c.in-Ok.ensures.after more))))

pub returns-in-Err : goal.returns-in-Err
returns-in-Err c =
    let a = c.loop-setting.self in
    let b = c.refuse_setting.new.self in
    let i = c.loop-setting.setting-index in
    let all = c.args.settings.now in
    let item = c.setting-item.result in
    let rest = drop (i + 1) all in
    let P : List Pair → Type 0 = λ settings. Runs a b (λ state. settings_step state settings) in
    let Q : Pair → Type 0 = λ setting. Runs a b (λ state. settings_step state (setting ∷ rest)) in
    c.loop-setting.invariant b (subst P (sym (drop_more all i item c.loop-setting-test.true))
    (subst Q c.setting-item.is (rw (← c.self.view_is) (settings-stop _ b c.set.new.self item rest c.in-Err.refused c.in-Err.ensures.unchanged c.in-Err.ensures.refused c.refuse_setting.ensures.told c.refuse_setting.ensures.starves))))

pub returns : goal.returns
returns c =
    let a = c.loop-setting.self in
    let P : List Pair → Type 0 = λ settings. Runs a a (λ state. settings_step state settings) in
    c.loop-setting.invariant a (subst P (sym (drop_past c.loop-setting.setting-index c.args.settings.now c.loop-setting-test.false)) (Runs-stays a))
