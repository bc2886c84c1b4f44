-- The words of the run.
use Rattle.std.specs.Prelude.{ℕ, List, [], ◌∷◌, codes}

-- a password, and a server that the program connects to
abbrev pub start_words : List (List ℕ)
start_words = codes "-r" ∷ codes "/set relay.network.password x"
    ∷ codes "-r" ∷ codes "/server add demo 127.0.0.1/6667 -notls"
    ∷ codes "-r" ∷ codes "/connect demo" ∷ []
