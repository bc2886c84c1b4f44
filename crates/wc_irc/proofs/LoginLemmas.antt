-- The lines of a login.
use Rattle.std.proofs.Common.{◌≡◌, ℕ, true, List, refl, sym, subst, arith, codes}
use Rattle.std.specs.Prelude.{◌&&◌, not}
use Rattle.std.proofs.lemmas.Bool.{and_from}
use Rattle.wc_ircmsg.specs.Written.{is_one_line, IsWritable, needs_colon}
use Rattle.wc_irc.specs.Autojoin.{message}
use Rattle.wc_irc.specs.LoginActs.{cap_params}
use Rattle.wc_irc_texts.specs.Texts.{in_one_line}
use Rattle.wc_irc_texts.proofs.PieceLemmas.{one_line_made}

pub cap_writable : (word text command : List ℕ) (params : List (List ℕ)) → not (needs_colon word) ≡ true → is_one_line word ≡ true → command ≡ codes "CAP" → params ≡ cap_params word text → IsWritable (message command params)
cap_writable word text command params bare line named are =
    subst (λ (w : List ℕ). IsWritable (message w params)) (sym named) (
    subst (λ (p : List (List ℕ)). IsWritable (message (codes "CAP") p)) (sym are) (record {
      command = refl;
      few = omega arith;
      words = and_from (not (needs_colon word)) true bare refl;
      one_line = and_from (is_one_line word) (is_one_line (in_one_line text) && true) line (and_from (is_one_line (in_one_line text)) true (one_line_made text) refl);
    }))
