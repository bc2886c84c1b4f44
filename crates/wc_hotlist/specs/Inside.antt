-- What always holds of the fields.
use Rattle.std.specs.Prelude.{◌≤◌, vec_len, vec_capacity}
use Rattle.wc_hotlist.specs.declared.hotlist.Hotlist.TheInside.{Inside}

-- there is room for 256 rows
pub record HasRoom (a : Inside) : Type 0 where
  pub room : 256 ≤ vec_capacity a.rows
  pub within : vec_len a.rows ≤ 256
