-- The starts are housed where their processes name no agents but their own, and along each run from what is housed the agent of each
-- atom has a place.
use Rattle.std.proofs.Common.{◌≡◌, ℕ, inl, inr, List, [], ◌∷◌, length, Some, refl, subst, sym, ◌∙◌}
use Rattle.std.specs.Prelude.{◌⊎◌}
use Rattle.std.specs.FinMap as map
use Rattle.np_calculus.proofs.Common.{Name, Proc, Event, then, done, Atom, Config, apply}
use Rattle.np_syntax.specs.declared.program.Program.{Program}
use Rattle.np_syntax.specs.declared.program.LowProgram.{LowProgram}
use Rattle.np_tables.specs.Names.{name_cmp}
use Rattle.np_tables.proofs.Tables.{get-none, put_there, kept}
use Rattle.np_calculus.specs.declared.config.Place.TheVariants as place
use Rattle.np_calculus.specs.Agents.{Each, HasPlace, Housed, OfAtom, StaysLodged, proc_agents}
use Rattle.np_calculus.specs.Starts.{start_high, start_low, main_agent, daemon_agent, main_mark, daemon_mark, first_atom}
use Rattle.np_calculus.specs.Changes.{put}
use Rattle.np_calculus.specs.Reductions.{run}
use Rattle.np_calculus.proofs.HousedKept.{atoms-wider, kept-at, nothing-fits}
use Rattle.np_calculus.proofs.Writes.{each-written}

kept-run : (events : List Event) (c d : Config) → Housed c → run c events ≡ Some d → Housed d
kept-run [] c d i h = subst Housed (sym (done h)) i
kept-run (e ∷ es) c d i h = then (apply c e) _ h λ m first h. kept-run es m d (kept-at c e m i first) h

pub stays-lodged : StaysLodged
stays-lodged c i events d h = record { each = λ m a is. ((kept-run events c d i h).atoms m a is).agent }

pub nothing : {X : Type 0} (q : Name) (x : X) → map.get (map.empty {K = Name} {X = X} {R = name_cmp}) q ≡ Some x → ⊥
nothing q x h = let e = sym (get-none q) ∙ h in cc

none-fits : {P : Name → Type 0} (m : Name) (a : Atom) → map.get (map.empty {K = Name} {X = Atom} {R = name_cmp}) m ≡ Some a → OfAtom P a
none-fits m a is = absurd (nothing m a is)

first-fits : (P : Name → Type 0) (agent : Name) (p : Proc) → P agent → Each P (proc_agents p) → OfAtom P (first_atom agent p)
first-fits P agent p own named = record { agent = own; proc = named; env = nothing-fits P }

pub high-housed : (p : Program) → Each (λ a. a ≡ main_agent (length p.sites)) (proc_agents p.main) → Housed (start_high p)
unfolding start_high
high-housed p named =
    let n : ℕ = length p.sites in
    let P : Name → Type 0 = λ a. a ≡ main_agent n in
    let there : HasPlace (start_high p).places (main_agent n) = put_there map.empty (main_agent n) (place.At p.at) in
    let placed : (a : Name) → P a → HasPlace (start_high p).places a = λ a own. subst (HasPlace (start_high p).places) (sym own) there in
    record {
      atoms = atoms-wider P _ placed _ (each-written _ (put (main_mark n) _ ∷ []) map.empty (first-fits P (main_agent n) p.main refl named, tt) none-fits);
      packets = λ m q is. absurd (nothing m q is);
    }

-- the agent is main or the daemon
abbrev pub IsOwn : ℕ → Name → Type 0
IsOwn n a = (a ≡ main_agent n) ⊎ (a ≡ daemon_agent n)

pub low-housed : (q : LowProgram) → Each (IsOwn (length q.sites)) (proc_agents q.main) → Each (IsOwn (length q.sites)) (proc_agents q.daemon) → Housed (start_low q)
unfolding start_low
low-housed q main daemon =
    let n : ℕ = length q.sites in
    let with_main = map.insert map.empty (main_agent n) (place.At q.at) in
    let main_there : HasPlace (start_low q).places (main_agent n) = kept with_main (main_agent n) (daemon_agent n) (place.At 0) (put_there map.empty (main_agent n) (place.At q.at)) in
    let daemon_there : HasPlace (start_low q).places (daemon_agent n) = put_there with_main (daemon_agent n) (place.At 0) in
    let placed : (a : Name) → IsOwn n a → HasPlace (start_low q).places a = λ a own. elim own [
      | inl e ↦ subst (HasPlace (start_low q).places) (sym e) main_there
      | inr e ↦ subst (HasPlace (start_low q).places) (sym e) daemon_there
    ] in
    let first = first-fits (IsOwn n) (main_agent n) q.main (inl refl) main in
    let second = first-fits (IsOwn n) (daemon_agent n) q.daemon (inr refl) daemon in
    record {
      atoms = atoms-wider (IsOwn n) _ placed _ (each-written _ (put (main_mark n) _ ∷ put (daemon_mark n) _ ∷ []) map.empty (first, (second, tt)) none-fits);
      packets = λ m q is. absurd (nothing m q is);
    }
