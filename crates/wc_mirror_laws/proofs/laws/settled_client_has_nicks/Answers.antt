use Rattle.wc_mirror_laws.specs.Held.{Nicks}
use Rattle.wc_mirror_laws.proofs.RunLemmas.{mirrors}
use Rattle.wc_mirror_laws.proofs.laws.settled_client_has_nicks.Goals as goal

pub returns : goal.returns
returns c = λ limit oracle options lines commands connects events link id most texts within settled limited. mirrors Nicks limit oracle options lines commands connects events link id most texts within settled limited
