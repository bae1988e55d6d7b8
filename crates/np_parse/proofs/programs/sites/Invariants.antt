use Rattle.std.proofs.Common.{◌≡◌, [], ◌∷◌, length}
use Rattle.np_parse.specs.Read.Programs.{sites}
use Rattle.np_parse.proofs.programs.sites.Given as goal

abbrev pub invariant-sites : goal.invariant-sites
invariant-sites l = record { same : sites (l.fn.first ∷ []) l.initial.tokens ≡ sites l.found l.tokens }

abbrev pub decreases-sites : goal.decreases-sites
decreases-sites l = length l.tokens
