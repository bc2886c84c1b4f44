-- The line that tells the user of a link.
use Rattle.std.proofs.Common.{◌≡◌, ℕ, Bool, true, false, cond, List, [], ◌∷◌, refl, sym, subst, arith, codes}
use Rattle.std.specs.Prelude.{◌&&◌, ◌==◌, not}
use Rattle.std.proofs.lemmas.Bool.{and_from}
use Rattle.wc_ircmsg.specs.Written.{is_one_line, IsWritable, needs_colon}
use Rattle.wc_irc.specs.Autojoin.{message, first_word}
use Rattle.wc_irc.specs.LinkActs.{word_or_own, user_word, user_params}
use Rattle.wc_irc_texts.specs.Pieces.{is_bare}
use Rattle.wc_irc_texts.specs.Texts.{in_one_line}
use Rattle.wc_irc_texts.proofs.PieceLemmas.{no_colon, bare_line, one_line_made}
use Rattle.wc_irc.proofs.AutojoinLemmas.{bare_first}

-- a word that needs no colon
abbrev IsSendable : List ℕ → Type 0
IsSendable word = (not (needs_colon word) ≡ true) × (is_one_line word ≡ true)

sendable : (word : List ℕ) → is_bare word ≡ true → IsSendable (word_or_own word)
sendable [] bare = (refl, refl)
sendable (b ∷ word) bare = by (b == 58) refl where
  by : (t : Bool) → (b == 58) ≡ t → IsSendable (cond (not t) (b ∷ word) (codes "weechat"))
  by true e = (refl, refl)
  by false e = (no_colon b word e bare, bare_line (b ∷ word) bare)

pub user_writable : (user real_name word : List ℕ) (params : List (List ℕ)) → word ≡ codes "USER" → params ≡ user_params user real_name → IsWritable (message word params)
user_writable user real_name word params named are =
    let sent = sendable (first_word (in_one_line user)) (bare_first (in_one_line user) (one_line_made user)) in
    subst (λ (w : List ℕ). IsWritable (message w params)) (sym named) (
    subst (λ (p : List (List ℕ)). IsWritable (message (codes "USER") p)) (sym are) (record {
      command = refl;
      few = omega arith;
      words = and_from (not (needs_colon (user_word user))) true sent.0 refl;
      one_line = and_from (is_one_line (user_word user)) (is_one_line (in_one_line real_name) && true) sent.1 (and_from (is_one_line (in_one_line real_name)) true (one_line_made real_name) refl);
    }))
