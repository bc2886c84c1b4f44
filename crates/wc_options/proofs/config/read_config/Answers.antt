use Rattle.std.proofs.Common.{sym}
use Rattle.wc_options.proofs.ConfigLemmas.{config_told, config_untold}
use Rattle.wc_options.proofs.config.read_config.Goals as goal

pub returns-in-Some-told_version-clause-read : goal.returns-in-Some-told_version-clause-read
returns-in-Some-told_version-clause-read c =
    rw (config_told c.args.bytes.now c.in-Some.line.now c.in-Some.rest.now c.in-Ok.options c.in-Some-told_version.version c.in-Some.ensures.first (sym c.in-Some-told_version.ensures) c.in-Ok.ensures) c.read_lines.ensures.read

pub returns-in-Some-told_version-clause-bad_line : goal.returns-in-Some-told_version-clause-bad_line
returns-in-Some-told_version-clause-bad_line c =
    rw (config_told c.args.bytes.now c.in-Some.line.now c.in-Some.rest.now c.in-Ok.options c.in-Some-told_version.version c.in-Some.ensures.first (sym c.in-Some-told_version.ensures) c.in-Ok.ensures) c.read_lines.ensures.bad_line

pub returns-in-None-told_version-clause-read : goal.returns-in-None-told_version-clause-read
returns-in-None-told_version-clause-read c =
    rw (config_untold c.args.bytes.now c.in-Some.line.now c.in-Some.rest.now c.in-Ok.options c.in-Some.ensures.first (sym c.in-None-told_version.ensures) c.in-Ok.ensures) c.read_lines-in-None-told_version.ensures.read

pub returns-in-None-told_version-clause-bad_line : goal.returns-in-None-told_version-clause-bad_line
returns-in-None-told_version-clause-bad_line c =
    rw (config_untold c.args.bytes.now c.in-Some.line.now c.in-Some.rest.now c.in-Ok.options c.in-Some.ensures.first (sym c.in-None-told_version.ensures) c.in-Ok.ensures) c.read_lines-in-None-told_version.ensures.bad_line
