-- What contracts see of a session.
use Rattle.std.specs.Prelude.{ℕ, Bool, true, false, List, [], Option, Some, None}
use Rattle.wc_relaycmd.specs.declared.algorithm.Algorithm.{Algorithm}
use Rattle.wc_relaycmd.specs.declared.algorithm.Algorithm.TheVariants as algorithm
use Rattle.wc_text.specs.declared.names.LinkId.{LinkId}
use Rattle.wc_session.specs.declared.client.Client.{Client}
use Rattle.wc_session.specs.Sync.{no_options}

-- what is known of the client, and the bytes that are still to be sent to it
pub record Known : Type 0 where
  pub client : Client
  pub unsent : List ℕ

-- a client that has said nothing
abbrev pub new_client : LinkId → List ℕ → Client
new_client link nonce = record {
  link = link;
  nonce = nonce;
  chosen = None;
  escaped = false;
  logged_in = false;
  everywhere = no_options;
  sets = [];
}

abbrev pub new_session : LinkId → List ℕ → Known
new_session link nonce = record { client = new_client link nonce; unsent = [] }

-- whether a client is to prove by PBKDF2 that it knows the password
abbrev pub proves_slowly : Option Algorithm → Bool
proves_slowly None = false
proves_slowly (Some algorithm.Plain) = false
proves_slowly (Some algorithm.Sha256) = false
proves_slowly (Some algorithm.Sha512) = false
proves_slowly (Some algorithm.Pbkdf2Sha256) = true
proves_slowly (Some algorithm.Pbkdf2Sha512) = true
