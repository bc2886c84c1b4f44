-- The prefix of a message, which names its source.
use Rattle.std.specs.Prelude.{◌≡◌, ℕ, List, [], ◌∷◌, ◌++◌, Option, Some, None, unwrap_or}
use Rattle.wc_text.specs.Splits.{before, text_after, Lacks}

-- a text after its mark, or nothing
abbrev pub text_with_mark : ℕ → Option (List ℕ) → List ℕ
text_with_mark mark None = []
text_with_mark mark (Some text) = mark ∷ text

-- a text, or the empty one
abbrev pub or_empty : Option (List ℕ) → List ℕ
or_empty text = unwrap_or text []

-- A source is a nick or the name of a server, after `!` a user or none, and after `@` a host or
-- none. The nick has neither mark, and the user has no `@`.
pub record Names (source nick user host : List ℕ) : Type 0 where
  pub user_part : Option (List ℕ)
  pub host_part : Option (List ℕ)
  pub spelled : source ≡ (nick ++ text_with_mark 33 user_part) ++ text_with_mark 64 host_part
  pub nick_unmarked : Lacks 33 nick × Lacks 64 nick
  pub user_unmarked : Lacks 64 (or_empty user_part)
  pub user_is : user ≡ or_empty user_part
  pub host_is : host ≡ or_empty host_part

abbrev pub nick_of : List ℕ → List ℕ
nick_of source = before 33 (before 64 source)

abbrev pub user_of : List ℕ → List ℕ
user_of source = or_empty (text_after 33 (before 64 source))

abbrev pub host_of : List ℕ → List ℕ
host_of source = or_empty (text_after 64 source)
