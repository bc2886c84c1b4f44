-- Lines that are printed for a message have the moment that the server tells of it, where this
-- capability stands (IRCv3).
use Rattle.std.specs.Prelude.{List, map, codes, Option, Some, None, if◌then◌else◌}
use Rattle.wc_ircmsg.specs.declared.message.Message.{Message}
use Rattle.wc_model.specs.declared.change.LineSpec.{LineSpec}
use Rattle.wc_model.specs.declared.change.What.{What}
use Rattle.wc_model.specs.declared.change.What.TheVariants as what
use Rattle.wc_irc.specs.declared.act.Act.{Act}
use Rattle.wc_irc.specs.declared.act.Act.TheVariants as act
use Rattle.wc_irc.specs.Servers.{ServerState, has_capability}
use Rattle.wc_irc_texts.specs.Tags.{tag_time}
use Rattle.wc_irc_texts.specs.declared.moment.Moment.{Moment}

abbrev pub moment_of : ServerState → Message → Option Moment
moment_of s m = if has_capability (codes "server-time") s then tag_time m.tags else None

abbrev pub dated_line : Moment → LineSpec → LineSpec
dated_line moment line = record line { date = moment.seconds; usec = moment.microseconds }

abbrev pub dated_what : Moment → What → What
dated_what moment (what.Print line) = what.Print (dated_line moment line)
dated_what moment other = other

abbrev pub dated : Moment → Act → Act
dated moment (act.On full_name change) = act.On full_name (dated_what moment change)
dated moment other = other

abbrev pub dated_acts : Option Moment → List Act → List Act
dated_acts None acts = acts
dated_acts (Some moment) acts = map (dated moment) acts
