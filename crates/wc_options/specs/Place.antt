use Rattle.wc_options.specs.Names.{Located, AtGlobal, AtServer}
use Rattle.wc_options.specs.declared.place.Place.{Place}
use Rattle.wc_options.specs.declared.place.Place.TheVariants.{Global, OfServer}

-- the option that a place of the code stands for
abbrev pub located_of : Place → Located
located_of (Global place) = AtGlobal place
located_of (OfServer server place) = AtServer server.now place
