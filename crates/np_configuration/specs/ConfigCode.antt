-- A configuration is stored as its parts.
use Rattle.std.specs.Prelude.{ℕ, List, refl}
use Rattle.std.specs.Coded.{Coded, code_by, coded×, coded_ℕ, coded_list}
use Rattle.std.specs.FinMap as map
use Rattle.std.specs.FinSet as set
use Rattle.np_syntax.specs.declared.value.Value.{Value}
use Rattle.np_syntax.specs.contracts.value.Value as datum
use Rattle.np_syntax.specs.contracts.value.Name as name
use Rattle.np_calculus.specs.declared.config.Atom.{Atom}
use Rattle.np_calculus.specs.declared.config.Packet.{Packet}
use Rattle.np_calculus.specs.declared.config.Place.{Place}
use Rattle.np_calculus.specs.contracts.config.Atom as atom
use Rattle.np_calculus.specs.contracts.config.Packet as packet
use Rattle.np_calculus.specs.contracts.config.Place as place
use Rattle.np_tables.specs.Names.{NameMap, NameSet}
use Rattle.np_calculus.specs.Config.{Config}

abbrev pub Parts : Type 0
Parts = ℕ × (NameMap Place × (NameMap Atom × (NameMap Packet × (NameSet × List (ℕ × Value)))))

abbrev pub parts_code : Coded Parts
parts_code =
    coded× coded_ℕ (coded× (map.code name.the_row.coded place.the_row.coded) (coded× (map.code name.the_row.coded atom.the_row.coded)
    (coded× (map.code name.the_row.coded packet.the_row.coded)
    (coded× (set.code name.the_row.coded) (coded_list (coded× coded_ℕ datum.the_row.coded))))))

abbrev pub config_code : Coded Config
config_code =
    code_by Parts parts_code (λ c. (c.sites, (c.places, (c.atoms, (c.packets, (c.born, c.said))))))
    (λ p. record { sites = p.0; places = p.1.0; atoms = p.1.1.0; packets = p.1.1.1.0; born = p.1.1.1.1.0; said = p.1.1.1.1.1 }) (λ _. refl)
