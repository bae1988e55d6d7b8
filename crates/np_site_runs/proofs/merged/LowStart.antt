-- At the low start nothing is under way.
use Rattle.std.proofs.Common.{◌<◌, ◌⊎◌, ⊎_elim, ℕ, length, IsSome, refl, sym, subst, arith}
use Rattle.std.specs.FinMap as table
use Rattle.np_tables.specs.Names.{NameMap}
use Rattle.np_tables.proofs.Tables.{get-none, kept, put_there}
use Rattle.np_calculus.proofs.Common.{Config, Proc, inside}
use Rattle.np_calculus.specs.declared.config.Atom.{Atom}
use Rattle.np_calculus.specs.declared.config.Place.{Place}
use Rattle.np_calculus.specs.declared.config.Place.TheVariants as place
use Rattle.np_calculus.specs.Starts.{daemon_agent, daemon_mark, main_agent, main_mark, names_alone, start_low, with_agent}
use Rattle.np_calculus.proofs.LowStart.{marked, names-born, placed}
use Rattle.np_site_runs.specs.merged.Starting.{IsSettled, LowStartIsSettled}

abbrev empty_map : (X : Type 0) → NameMap X
empty_map X = table.empty

module _ (n at : ℕ) (main daemon : Proc) (less : at < n) where
  abbrev c : Config
  c = with_agent (with_agent (names_alone n) (main_agent n) at (main_mark n) main) (daemon_agent n) 0 (daemon_mark n) daemon

  has-daemon : IsSome ((inside c).place (daemon_agent n))
  has-daemon = put_there (table.insert (empty_map Place) (main_agent n) (place.At at)) (daemon_agent n) (place.At 0)

  has-main : IsSome ((inside c).place (main_agent n))
  has-main = kept (table.insert (empty_map Place) (main_agent n) (place.At at)) (main_agent n) (daemon_agent n) (place.At 0) (put_there (empty_map Place) (main_agent n) (place.At at))

  settled : IsSettled n c
  settled = record {
    agents = λ q p h. ⊎_elim (λ last. (0, omega arith, last.1)) (λ first. (at, less, first.1)) (placed n at main daemon q p h);
    packets = λ m. get-none m;
    lodged = record {
      each = λ m a h. ⊎_elim
          (λ last. subst (λ (a : Atom). IsSome ((inside c).place a.agent)) (sym last.1) has-daemon)
          (λ first. subst (λ (a : Atom). IsSome ((inside c).place a.agent)) (sym first.1) has-main)
          (marked n at main daemon m a h);
    };
    born = names-born n at main daemon;
    silent = refl;
  }

pub low_start_is_settled : LowStartIsSettled
unfolding start_low
low_start_is_settled q less = settled (length q.sites) q.at q.main q.daemon less
