-- What holds of each code.
use Rattle.std.specs.Prelude.{◌<◌, ◌≤◌, ◌^◌, length}
use Rattle.np_code.specs.declared.code.Code.TheInside.{Inside}
use Rattle.np_code.specs.declared.limits.TheConstants.{MOST_CODE_NODES}

-- there are not too many nodes, and the sites can be counted
pub record IsCode (code : Inside) : Type 0 where
  pub nodes : length code.nodes ≤ MOST_CODE_NODES
  pub sites : length code.sites < 2 ^ 32
