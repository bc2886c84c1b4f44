-- Salts that begin with a nonce.
use Rattle.std.proofs.Common.{◌≡◌, ◌≢◌, ℕ, List, [], ◌∷◌, ◌++◌, length, ap, sym, ◌∙◌, arith, eqb, Bool, true, false, not}
use Rattle.std.proofs.lemmas.Bool.{false≢true}
use Rattle.std.proofs.lemmas.List.{append_cancel_left}
use Rattle.wc_relaycmd.specs.Logins.{IsSalted}

pub salted_some : (salt nonce more : List ℕ) (empty : Bool) → salt ≡ nonce ++ more → empty ≡ eqb (length more) 0 → (not empty ≡ true → IsSalted salt nonce) × (IsSalted salt nonce → not empty ≡ true)
salted_some salt nonce [] empty begins is = (
  λ some. absurd (false≢true (sym (ap not is) ∙ some)),
  λ salted. absurd (salted.2 (append_cancel_left nonce salted.0 [] (sym salted.1 ∙ begins))),
)
salted_some salt nonce (b ∷ more) empty begins is = (
  λ some. (b ∷ more, begins, λ e. cc),
  λ salted. ap not (is ∙ longer),
) where
  longer : eqb (length (b ∷ more)) 0 ≡ false
  longer = grind arith

pub salted_none : (salt nonce : List ℕ) → ((more : List ℕ) → salt ≢ nonce ++ more) → (false ≡ true → IsSalted salt nonce) × (IsSalted salt nonce → false ≡ true)
salted_none salt nonce none = (λ e. absurd (false≢true e), λ salted. absurd (none salted.0 salted.1))
