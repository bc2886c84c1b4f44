use Rattle.wc_core.proofs.FormLemmas.{forms_begin, forms_once, forms_found}
use Rattle.wc_core.proofs.laws.each_command_has_one_form.Goals as goal

pub returns-clause-begun : goal.returns-clause-begun
returns-clause-begun c = forms_begin

pub returns-clause-once : goal.returns-clause-once
returns-clause-once c = forms_once

pub returns-clause-found : goal.returns-clause-found
returns-clause-found c = forms_found
