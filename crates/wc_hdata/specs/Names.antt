-- How the parts of paths are written.
use Rattle.std.specs.Prelude.{ℕ, List, codes}
use Rattle.wc_hdata.specs.declared.element.Element.{Element}
use Rattle.wc_hdata.specs.declared.element.Element.TheVariants as Elements
use Rattle.wc_hdata.specs.declared.variable.Variable.{Variable}
use Rattle.wc_hdata.specs.declared.variable.Variable.TheVariants as Variables
use Rattle.wc_keys.specs.declared.key.Key.TheVariants as k
use Rattle.wc_keys.specs.Events.{buffer_path, line_path}
pub use Rattle.wc_keys.specs.Keys.{key_name}

abbrev pub element_name : Element → List ℕ
element_name Elements.Buffer = buffer_path
element_name Elements.Lines = codes "lines"
element_name Elements.Line = codes "line"
element_name Elements.LineData = line_path

abbrev pub variable_name : Variable → List ℕ
variable_name Variables.OwnLines = codes "own_lines"
variable_name Variables.Lines = codes "lines"
variable_name Variables.FirstLine = key_name k.FirstLine
variable_name Variables.LastLine = key_name k.LastLine
variable_name Variables.Data = key_name k.Data
variable_name Variables.Buffer = key_name k.Buffer
