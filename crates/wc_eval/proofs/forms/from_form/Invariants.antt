use Rattle.std.proofs.Common.{◌≡◌, ◌≤◌, length}
use Rattle.wc_eval.specs.Walks.{from_form}
use Rattle.wc_eval.proofs.forms.from_form.Given as goal

abbrev pub invariant-bytes : goal.invariant-bytes
invariant-bytes l = record {
  text : from_form l.rest ≡ from_form l.text;
  shorter : length l.rest ≤ length l.text;
}

abbrev pub decreases-bytes : goal.decreases-bytes
decreases-bytes l = length l.rest
