-- The refusal of a change that the buffers refused.
use Rattle.wc_buffers.specs.declared.refused.BufferRefused.{BufferRefused}
use Rattle.wc_buffers.specs.declared.refused.BufferRefused.TheVariants.{NoBuffer, IsCore, BadName}
use Rattle.wc_buffers.specs.declared.refused.BufferRefused.TheVariants.{FixedVar, NameTaken, NoVar}
use Rattle.wc_buffers.specs.declared.refused.BufferRefused.TheVariants.{SameGroup, NotMerged}
use Rattle.wc_buffers.specs.declared.refused.BufferRefused.TheVariants.{BadNumber, TooMany}
use Rattle.wc_buffers.specs.declared.refused.BufferRefused.TheVariants.{NoMemory}
use Rattle.wc_model.specs.declared.refused.ChangeRefused.{ChangeRefused}

-- want of memory is one reason, whoever was refused it
abbrev pub refused_by : BufferRefused → ChangeRefused
refused_by NoMemory = ChangeRefused.NoMemory
refused_by (NoBuffer h) = ChangeRefused.Buffer (NoBuffer h)
refused_by IsCore = ChangeRefused.Buffer IsCore
refused_by (BadName n) = ChangeRefused.Buffer (BadName n)
refused_by (FixedVar name) = ChangeRefused.Buffer (FixedVar name)
refused_by (NameTaken name) = ChangeRefused.Buffer (NameTaken name)
refused_by (NoVar name) = ChangeRefused.Buffer (NoVar name)
refused_by (SameGroup n) = ChangeRefused.Buffer (SameGroup n)
refused_by NotMerged = ChangeRefused.Buffer NotMerged
refused_by (BadNumber n) = ChangeRefused.Buffer (BadNumber n)
refused_by (TooMany n) = ChangeRefused.Buffer (TooMany n)
