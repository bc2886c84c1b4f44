-- What the code keeps of what a text may name.
use Rattle.std.specs.Prelude.{◌≡◌, []}
use Rattle.wc_text.specs.declared.names.Handle.{Handle}
use Rattle.wc_buffers.specs.Calls.{EntryGroups}
use Rattle.wc_eval.specs.Names.{Facts}
use Rattle.wc_options.specs.Options.{OptionsValue}
use Rattle.wc_core.specs.declared.evaluated.Surroundings.{Surroundings}
use Rattle.wc_core.specs.Evaluated.{buffer_or_core, facts_of_buffer, locals_of_buffer}

-- what a text may name, these options among it
abbrev pub facts_around : OptionsValue → Surroundings → Facts
facts_around options around = record {
  vars = around.vars;
  options = options;
  facts = around.facts;
  locals = around.locals;
  groups = around.groups;
}

-- it is what is known of a buffer
pub record IsAround (groups : EntryGroups) (buffer : Handle) (around : Surroundings) : Type 0 where
  pub vars : around.vars ≡ []
  pub facts : around.facts ≡ facts_of_buffer groups (buffer_or_core groups buffer)
  pub locals : around.locals ≡ locals_of_buffer groups (buffer_or_core groups buffer)
  pub groups_none : around.groups ≡ []
