use Rattle.wc_core.proofs.OptionLemmas.{set-refused, refused_text, set-done}
use Rattle.wc_core.proofs.core_state.Core.set_value.Goals as goal

pub refuse_option-requires : goal.refuse_option-requires
refuse_option-requires c = refused_text c.self.inside.options c.args.pair.now.name c.args.pair.now.value c.in-Err.refused c.requires.name c.in-Err.ensures.refused

pub returns-in-Err : goal.returns-in-Err
returns-in-Err c = rw (← c.self.view_is) (set-refused _ c.refuse_option.new.self c.set.new.self c.args.pair.now.name c.args.pair.now.value c.in-Err.refused c.in-Err.ensures.unchanged c.in-Err.ensures.refused c.refuse_option.ensures.told c.refuse_option.ensures.starves)

pub returns-in-Ok : goal.returns-in-Ok
returns-in-Ok c = rw (← c.self.view_is) (set-done _ c.set.new.self c.args.pair.now.name c.args.pair.now.value c.in-Ok.ensures.accepted c.in-Ok.ensures.after)
