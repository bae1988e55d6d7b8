-- A low program is kept where it has a table, and refused where its nodes are too many.
use Rattle.std.proofs.Common.{◌≡◌, ◌≢◌, ℕ, ◌*◌, ◌≤◌, ◌<◌, inr, refl, List, length, Result, Ok, Err, IfOk, IfErr, sym, subst, ◌∙◌, arith}
use Rattle.np_syntax.specs.declared.program.LowProgram.{LowProgram}
use Rattle.np_syntax.specs.declared.program.Program.{Program}
use Rattle.np_syntax.specs.declared.limits.TheConstants.{MOST_EVENTS, MOST_SITES}
use Rattle.np_calculus.specs.Runs.{RunsWell}
use Rattle.np_calculus.specs.Starts.{start_low}
use Rattle.np_check.specs.Faults.{IsAccepted}
use Rattle.np_code.specs.Sizes.{program_nodes}
use Rattle.np_code.specs.declared.limits.TheConstants.{MOST_CODE_NODES}
use Rattle.np_serial.proofs.SerialEvents.{low-sites}
use Rattle.np_verdict.specs.Faults.{IsWellTyped}
use Rattle.np_verdict.specs.declared.refusal.Refusal.{Refusal}
use Rattle.np_verdict.specs.declared.refusal.Refusal.TheVariants.{Memory, TooManyEvents}
use Rattle.np_words.specs.declared.modes.Infrastructure.{Infrastructure}
use Rattle.np_on_sites.specs.ByInfrastructure.{low_by}
use Rattle.np_sources.specs.declared.lowering.Lowered.{Lowered}
use Rattle.np_sources.specs.Reaches.{Reach, CannotRun, FaultyTo, HasManyNodes, IsCompiled, IsLowOf}

-- what is kept of the low program of a program is its low program
pub is_compiled : (infrastructure : Infrastructure) (p : Program) (low : LowProgram) → IsAccepted p → low ≡ low_by infrastructure p
    → (r : Result Lowered Refusal) → IfOk r (λ made. made.low ≡ low) → IfOk r (λ made. program_nodes made.low ≤ MOST_CODE_NODES)
    → IfOk r (λ made. IsCompiled infrastructure p made.low)
is_compiled infrastructure p low accepted gives (Ok made) same few = record { accepted = accepted; is = same ∙ gives; few = few }
is_compiled infrastructure p low accepted gives (Err e) same few = tt

-- it runs as well as before
pub runs_well : (low : LowProgram) → RunsWell (start_low low) low.at → (r : Result Lowered Refusal) → IfOk r (λ made. made.low ≡ low)
    → IfOk r (λ made. RunsWell (start_low made.low) made.low.at)
runs_well low runs (Ok made) same = subst (λ (p : LowProgram). RunsWell (start_low p) p.at) (sym same) runs
runs_well low runs (Err e) same = tt

-- where it is not kept, its nodes are too many
pub too_many : (infrastructure : Infrastructure) (p : Program) (low : LowProgram) → low ≡ low_by infrastructure p → (r : Result Lowered Refusal)
    → IfErr r (λ refusal. refusal ≢ Memory → HasManyNodes low refusal) → IfErr r (λ refusal. refusal ≢ Memory → HasManyNodes (low_by infrastructure p) refusal)
too_many infrastructure p low gives (Ok made) refused = tt
too_many infrastructure p low gives (Err e) refused = λ some. subst (λ (p : LowProgram). HasManyNodes p e) gives (refused some)

-- the low program of the program of a source is that of the source, and where there is none the source is too large
pub low_of_source : (infrastructure : Infrastructure) (bytes : List ℕ) (p : Program) → IsWellTyped bytes p → (r : Result LowProgram Refusal)
    → IfOk r (IsCompiled infrastructure p) → IfOk r (IsLowOf infrastructure bytes)
low_of_source infrastructure bytes p typed (Ok low) is = record { program = p; accepted = typed; is = is.is; few = is.few }
low_of_source infrastructure bytes p typed (Err e) is = tt

pub too_large : (infrastructure : Infrastructure) (bytes : List ℕ) (p : Program) → IsWellTyped bytes p → (r : Result LowProgram Refusal)
    → IfErr r (λ refusal. refusal ≢ Memory → HasManyNodes (low_by infrastructure p) refusal) → IfErr r (λ refusal. refusal ≢ Memory → FaultyTo (Reach.low infrastructure) bytes refusal)
too_large infrastructure bytes p typed (Ok low) refused = tt
too_large infrastructure bytes p typed (Err e) refused = λ some. inr (record { program = p; accepted = typed; large = refused some })

-- it could make too many events
pub makes_many : (infrastructure : Infrastructure) (budget : ℕ) (p : Program) (low : LowProgram) → IsCompiled infrastructure p low → MOST_EVENTS < length low.sites * budget
    → CannotRun infrastructure budget p TooManyEvents
makes_many infrastructure budget p low is many = inr (record {
  few = subst (λ (q : LowProgram). program_nodes q ≤ MOST_CODE_NODES) is.is is.few;
  many = subst (λ (q : LowProgram). MOST_EVENTS < length q.sites * budget) is.is many;
  is = refl;
})

pub at_site : (low : LowProgram) → RunsWell (start_low low) low.at → low.at < length low.sites
at_site low runs = omega (arith, runs.site, low-sites low)

pub few_sites : (low : LowProgram) → RunsWell (start_low low) low.at → length low.sites ≤ MOST_SITES
few_sites low runs = omega (arith, runs.sites, low-sites low)
