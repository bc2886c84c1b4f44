-- A part that was read, as definitions see it.
use Rattle.wc_triggers.specs.declared.replacements.Written.{Written as Lent}
use Rattle.wc_triggers.specs.Replacements.{Written}

abbrev pub seen : Lent → Written
seen part = record {
  pattern = part.pattern.now;
  replacement = part.replacement.now;
  name = part.name.now;
  rest = part.rest.now;
}
