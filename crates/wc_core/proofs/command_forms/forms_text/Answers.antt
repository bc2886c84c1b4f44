use Rattle.std.proofs.Common.{refl}
use Rattle.wc_core.specs.Forms.{command_forms}
use Rattle.wc_core.proofs.command_forms.forms_text.Goals as goal

pub returns : goal.returns
unfolding command_forms
returns c = refl
