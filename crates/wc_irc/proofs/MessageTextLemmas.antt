-- The texts of messages.
use Rattle.std.proofs.Common.{◌≡◌, ℕ, zero, suc, List, [], ◌∷◌, ◌++◌, ◌∙◌, append_assoc}
use Rattle.std.proofs.lemmas.Str.{IsUtf8-nil}
use Rattle.std.specs.Prelude.{slice_index_or}
use Rattle.std.specs.Str.{IsUtf8}
use Rattle.wc_ircmsg.specs.declared.message.Message.{Message}
use Rattle.wc_ircmsg.specs.Utf8.{AreUtf8Texts, MessageIsUtf8}
use Rattle.wc_irc_texts.specs.Rows.{param}

text_at : (n : ℕ) (texts : List (List ℕ)) → AreUtf8Texts texts → IsUtf8 (slice_index_or texts n [])
text_at n [] are = IsUtf8-nil
text_at zero (text ∷ texts) are = are.0
text_at (suc n) (text ∷ texts) are = text_at n texts are.1

pub param_text : (n : ℕ) (m : Message) → MessageIsUtf8 m → IsUtf8 (param n m)
param_text n m is = text_at n m.params is.params

-- ---- texts of several parts

pub parts_4 : (a b c d : List ℕ) → ((a ++ b) ++ c) ++ d ≡ a ++ (b ++ (c ++ d))
parts_4 a b c d = append_assoc (a ++ b) c d ∙ append_assoc a b (c ++ d)

pub parts_5 : (a b c d e : List ℕ) → (((a ++ b) ++ c) ++ d) ++ e ≡ a ++ (b ++ (c ++ (d ++ e)))
parts_5 a b c d e = append_assoc ((a ++ b) ++ c) d e ∙ parts_4 a b c (d ++ e)

pub parts_6 : (a b c d e f : List ℕ) → ((((a ++ b) ++ c) ++ d) ++ e) ++ f ≡ a ++ (b ++ (c ++ (d ++ (e ++ f))))
parts_6 a b c d e f = append_assoc (((a ++ b) ++ c) ++ d) e f ∙ parts_5 a b c d (e ++ f)
