-- There is one configuration that sites and links show.
use Rattle.std.proofs.Common.{◌≡◌, ap, sym, Some, ◌∙◌}
use Rattle.std.specs.FinSet.{same_set}
use Rattle.np_tables.proofs.Tables.{exact, same_tables, total}
use Rattle.np_calculus.proofs.Common.{Contents, inside}
use Rattle.np_site_runs.specs.merged.StampedLaws.{EndIsShown, IsToldByParts}
use Rattle.np_site_runs.proofs.merged.Running.{merged_is_run}
use Rattle.np_site_runs.proofs.merged.Saying.{said_in_order}

pub told_by_parts : IsToldByParts
told_by_parts n g c d i j said =
    let same : inside c ≡ inside d = i.joined.is ∙ sym j.joined.is in
    let sites : c.sites ≡ d.sites = i.number 0 ∙ sym (j.number 0) in
    let places : c.places ≡ d.places = same_tables c.places d.places (λ q. ap (λ (x : Contents). x.place q) same) in
    let atoms : c.atoms ≡ d.atoms = same_tables c.atoms d.atoms (λ q. ap (λ (x : Contents). x.atom q) same) in
    let packets : c.packets ≡ d.packets = same_tables c.packets d.packets (λ q. ap (λ (x : Contents). x.packet q) same) in
    let born : c.born ≡ d.born = same_set total exact c.born d.born (λ q. i.own q ∙ sym (j.own q)) in
    λ k. record { sites = sites k; places = places k; atoms = atoms k; packets = packets k; born = born k; said = said k }

pub end_is_shown : EndIsShown
end_is_shown n r hs c d runs are values begins ends said =
    let one = merged_is_run n r hs c runs are begins in
    let first = said_in_order n r hs c one.0 runs are values begins one.1 one.2 in
    one.1 ∙ ap Some (told_by_parts n _ one.0 d one.2 ends (first ∙ sym said))
