-- Servers by their names.
use Rattle.std.proofs.Common.{◌≡◌, ℕ, Bool, true, false, cond, List, [], ◌∷◌, map, Some, refl}
use Rattle.std.specs.Prelude.{◌||◌, find, is_some, bytes_eq}
use Rattle.std.specs.List.{list_any}
use Rattle.wc_options.specs.Options.{ServerOptions, is_named, has_server}

pub server_named : (name : List ℕ) (servers : List ServerOptions) → list_any (λ other. bytes_eq other name) (map (λ (server : ServerOptions). server.name) servers) ≡ has_server name servers
server_named name [] = refl
server_named name (server ∷ servers) = by (bytes_eq server.name name) (server_named name servers) where
  by : (t : Bool) → list_any (λ other. bytes_eq other name) (map (λ (server : ServerOptions). server.name) servers) ≡ has_server name servers
      → (t || list_any (λ other. bytes_eq other name) (map (λ (server : ServerOptions). server.name) servers)) ≡ is_some (cond t (Some server) (find (is_named name) servers))
  by true more = refl
  by false more = more
