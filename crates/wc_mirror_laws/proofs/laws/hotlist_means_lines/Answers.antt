use Rattle.wc_mirror_laws.proofs.RunLemmas.{run_means}
use Rattle.wc_mirror_laws.proofs.laws.hotlist_means_lines.Goals as goal

pub returns : goal.returns
returns c = λ oracle options lines commands connects events most texts. run_means oracle options lines commands connects events most texts
