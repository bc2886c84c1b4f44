use Rattle.wc_mirror_laws.proofs.BytesLemmas.{bytes_show, run_spells, spell_once}
use Rattle.wc_mirror_laws.proofs.laws.sent_bytes_show_lines.Goals as goal

pub returns-clause-shows : goal.returns-clause-shows
returns-clause-shows c = λ limit oracle options lines commands connects events link id most texts short settled limited. bytes_show limit oracle options lines commands connects events link id most texts short settled limited

pub returns-clause-spells : goal.returns-clause-spells
returns-clause-spells c = λ oracle options lines commands connects events link most texts. run_spells oracle options lines commands connects events link most texts

pub returns-clause-once : goal.returns-clause-once
returns-clause-once c = λ bytes a b p q. spell_once bytes a b p q
