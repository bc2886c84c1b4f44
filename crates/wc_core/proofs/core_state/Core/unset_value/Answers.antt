use Rattle.wc_core.proofs.OptionLemmas.{unset-refused, unset_text, unset-done}
use Rattle.wc_core.proofs.core_state.Core.unset_value.Goals as goal

pub refuse_option-requires : goal.refuse_option-requires
refuse_option-requires c = unset_text c.args.name.now c.in-Err.refused c.requires c.in-Err.ensures.refused

pub returns-in-Err : goal.returns-in-Err
returns-in-Err c = rw (← c.self.view_is) (unset-refused _ c.refuse_option.new.self c.unset.new.self c.args.name.now c.in-Err.refused c.in-Err.ensures.unchanged c.in-Err.ensures.refused c.in-Err.ensures.unknown c.refuse_option.ensures.told)

pub returns-in-Ok : goal.returns-in-Ok
returns-in-Ok c = rw (← c.self.view_is) (unset-done _ c.unset.new.self c.args.name.now c.in-Ok.ensures.known c.in-Ok.ensures.after)
