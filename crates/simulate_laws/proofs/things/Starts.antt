-- The things of the two atoms of the low start.
use Rattle.std.proofs.Common.{◌≡◌, ℕ, false, Some, [], ◌∷◌, length, refl, sym, ap, subst, ◌∙◌, List, ◌++◌}
use Rattle.std.specs.FinMap as map
use Rattle.std.specs.List.{AllByRecursion}
use Rattle.np_syntax.specs.declared.value.Name.{Name}
use Rattle.np_syntax.specs.declared.value.Value.{Value}
use Rattle.np_syntax.specs.declared.value.Value as value
use Rattle.np_syntax.specs.declared.value.Value.TheVariants.{outs-Chan}
use Rattle.np_syntax.specs.declared.expression.ExprForm as expr
use Rattle.np_syntax.specs.declared.process.Proc.{Proc}
use Rattle.np_syntax.specs.declared.process.ProcForm.TheVariants.{outs-Out}
use Rattle.np_syntax.specs.declared.program.Program.{Program}
use Rattle.np_syntax.specs.declared.program.LowProgram.{LowProgram}
use Rattle.np_tables.specs.Names.{same_name}
use Rattle.np_tables.proofs.Tables.{same_name-is}
use Rattle.np_calculus.specs.Reductions.{sends}
use Rattle.np_calculus.specs.Starts.{daemon_agent, first_atom, main_agent, own}
use Rattle.np_calculus.proofs.OwnNames.{not_true}
use Rattle.np_eval.specs.Eval.{Env, eval}
use Rattle.np_eval.proofs.Evals.{eval-form, eval-val}
use Rattle.simulate_laws.specs.protocol.Chips.{Service}
use Rattle.np_scope.specs.Sound.{IsSound}
use Rattle.infrastructure_texts.specs.Pieces.{beside, currentloc, expression, gives, here, main, site}
use Rattle.infrastructure_texts.specs.Texts.{server_text}
use Rattle.infrastructure_texts.specs.Daemon.{first_places, daemon_text}
use Rattle.infrastructure_texts.specs.Infrastructures.{Infrastructure}
use Rattle.infrastructure_texts.specs.InfrastructureTexts.{main_of, daemon_of}
use Rattle.daemon_encode.specs.Translates.{IsLowOf}
use Rattle.infrastructure_texts.specs.CacheTexts.{empty_cache, found_server}
use Rattle.simulate_laws.specs.things.Sources.{Names}
use Rattle.simulate_laws.proofs.things.Sources.{sound-is-source}
use Rattle.simulate_laws.specs.things.Desks.{desk, server}
use Rattle.simulate_laws.specs.things.Laws.{StartsWithThings}
use Rattle.simulate_laws.specs.things.Shapes.{Are, Gives, IsAgents, IsLetters, IsOfSource}
use Rattle.simulate_laws.specs.things.Starts.{daemon_things, main_things, first_cache}
use Rattle.simulate_laws.specs.things.Things.{Thing}

-- own names of two numbers are two names
pub own-apart : (n i j : ℕ) → (i ≡ j → ⊥) → same_name (own n i) (own n j) ≡ false
own-apart n i j apart = not_true _ (λ e. apart (ap (λ (x : Name). x.n) (same_name-is (own n i) (own n j) e)))

pub constant-is : (v : Value) (env : Env) → eval (expression (expr.Val v)) env ≡ Some v
constant-is v env = eval-form (expression (expr.Val v)) env ∙ eval-val v env

-- an output of a value on an own channel
pub gives-own : (n i k : ℕ) (a : Name) (v : Value) (env : Env) → sends (record { agent = a; proc = gives k (expression (expr.Val (value.Chan (own n i)))) (expression (expr.Val v)); env = env }) ≡ Some (own n i, v)
gives-own n i k a v env = rw (outs-Out (expression (expr.Val (value.Chan (own n i)))) (expression (expr.Val v)), constant-is (value.Chan (own n i)) env, outs-Chan (own n i), constant-is v env) refl

-- what all have, the first cache of an agent has too
pub caching_holds : (i : Infrastructure) (a : Name) (P : Thing → Type 0) → P (Thing.cache a []) → P (Thing.keeping a) → (ts : List Thing) → AllByRecursion P ts
    → AllByRecursion P (first_cache i a ++ ts)
caching_holds Infrastructure.central a P p q ts h = h
caching_holds Infrastructure.cached a P p q ts h = (p, (q, h))

module _ {structure : Infrastructure} (p : Program) (q : LowProgram) (low : IsLowOf structure p q) (sound : IsSound p) where
  abbrev n : ℕ
  n = length p.sites

  agents : IsAgents n (main_agent n)
  agents = own-apart n 0 1 (λ e. cc)

  abbrev before : Proc
  before = beside 0 low.body (gives 0 (currentloc n) (site p.at))

  abbrev main_bracket : Proc
  main_bracket = beside 0 before (server_text n 0 (main n) low.letter low.place)

  bracket_are : Are structure n p.binders low.first (first_atom (main_agent n) main_bracket)
      (Thing.source (main n) (first_atom (main_agent n) p.main) ∷ Thing.token (main_agent n) p.at ∷ Thing.letters (main_agent n) ∷ [])
  bracket_are =
      Are.both {k = 0} {p = before} {q = server_text n 0 (main n) low.letter low.place} refl
      (Are.both {k = 0} {p = low.body} {q = gives 0 (currentloc n) (site p.at)} refl (Are.one source) (Are.one token))
      (Are.one letters)
    where
      source : IsOfSource structure n p.binders (main n) (first_atom (main_agent n) p.main) (first_atom (main_agent n) low.body)
      source = record {
        stands = record { agent = refl; apart = agents; source = sound-is-source p sound; agrees = record { same = λ x h. refl }; called = constant-is (value.Agent (main_agent n)) map.empty };
        translates = low.translates;
      }

      token : Gives (main_agent n) (own n 9) (value.Site p.at) (first_atom (main_agent n) (gives 0 (currentloc n) (site p.at))) × IsAgents n (main_agent n)
      token = (record { agent = refl; gives = gives-own n 9 0 (main_agent n) (value.Site p.at) map.empty }, agents)

      letters : IsLetters n p.binders (main_agent n) (first_atom (main_agent n) (server_text n 0 (main n) low.letter low.place))
      letters = record {
        agent = refl;
        apart = agents;
        node = 0;
        named = main n;
        letter = low.letter;
        place = low.place;
        letter_above = low.letter_above;
        place_above = low.place_above;
        distinct = low.apart;
        names = Names.as_main;
        calls = constant-is (value.Agent (main_agent n)) map.empty;
        is = refl;
      }

  abbrev its_server : Service → Proc
  its_server k = server n (desk n low.first k)

  serves : (k : Service) → Are structure n p.binders low.first (first_atom (daemon_agent n) (its_server k)) (Thing.serving k ∷ [])
  serves k = Are.one (record { agent = refl; is = refl })

  abbrev two_parts : Proc
  two_parts = beside 0 (first_places n) (gives 0 (here n) (site p.at))

  abbrev with_registers : Proc
  with_registers = beside 0 two_parts (its_server Service.registers)

  abbrev with_grants : Proc
  with_grants = beside 0 with_registers (its_server Service.grants)

  abbrev with_notes : Proc
  with_notes = beside 0 with_grants (its_server Service.notes_moves)

  abbrev with_passes : Proc
  with_passes = beside 0 with_notes (its_server Service.passes_on)

  servers_are : Are structure n p.binders low.first (first_atom (daemon_agent n) (beside 0 with_passes (its_server Service.ends_deliveries)))
      (daemon_things Infrastructure.central n p.at)
  servers_are =
      Are.both {k = 0} {p = with_passes} {q = its_server Service.ends_deliveries} refl
      (Are.both {k = 0} {p = with_notes} {q = its_server Service.passes_on} refl
      (Are.both {k = 0} {p = with_grants} {q = its_server Service.notes_moves} refl
      (Are.both {k = 0} {p = with_registers} {q = its_server Service.grants} refl
      (Are.both {k = 0} {p = two_parts} {q = its_server Service.registers} refl
      (Are.both {k = 0} {p = first_places n} {q = gives 0 (here n) (site p.at)} refl
      (Are.one (record { agent = refl; gives = gives-own n 10 0 (daemon_agent n) (value.Places ((own n 0, own n 13) ∷ [])) map.empty }))
      (Are.one (record { agent = refl; gives = gives-own n 13 0 (daemon_agent n) (value.Site p.at) map.empty })))
      (serves Service.registers))
      (serves Service.grants))
      (serves Service.notes_moves))
      (serves Service.passes_on))
      (serves Service.ends_deliveries)

-- by each infrastructure
main_are : (i : Infrastructure) (p : Program) (q : LowProgram) (low : IsLowOf i p q) (sound : IsSound p)
    → Are i (length p.sites) p.binders low.first (first_atom (main_agent (length p.sites)) (main_of i (length p.sites) p.at low.letter low.place low.cache low.body))
    (main_things i (length p.sites) p.at p.main)
main_are Infrastructure.central p q low sound = bracket_are p q low sound
main_are Infrastructure.cached p q low sound =
    let n : ℕ = length p.sites in
    let bracket : Proc = main_bracket p q low sound in
    Are.both {k = 0} {p = beside 0 bracket (empty_cache n 0)} {q = found_server n 0 low.cache} refl
    (Are.both {k = 0} {p = bracket} {q = empty_cache n 0} refl
    (bracket_are p q low sound)
    (Are.one (refl, record { agent = refl; gives = gives-own n 14 0 (main_agent n) (value.Places []) map.empty }, agents p q low sound)))
    (Are.one (refl, record { agent = refl; node = 0; x = low.cache; above = low.cache_above; is = refl }, agents p q low sound))

daemon_are : (i : Infrastructure) (p : Program) (q : LowProgram) (low : IsLowOf i p q) (sound : IsSound p)
    → Are i (length p.sites) p.binders low.first (first_atom (daemon_agent (length p.sites)) (daemon_of i (length p.sites) p.at low.first)) (daemon_things i (length p.sites) p.at)
daemon_are Infrastructure.central p q low sound = servers_are p q low sound
daemon_are Infrastructure.cached p q low sound =
    let n : ℕ = length p.sites in
    Are.both {k = 0} {p = daemon_text n p.at low.first} {q = server n (desk n low.first Service.tells)} refl (servers_are p q low sound)
    (serves p q low sound Service.tells)

pub starts-with-things : {i : Infrastructure} → StartsWithThings i
starts-with-things {i} p q low sound = record {
  main = subst (λ b. Are i (length p.sites) p.binders low.first (first_atom (main_agent (length p.sites)) b) (main_things i (length p.sites) p.at p.main)) (sym low.main) (main_are i p q low sound);
  daemon = subst (λ b. Are i (length p.sites) p.binders low.first (first_atom (daemon_agent (length p.sites)) b) (daemon_things i (length p.sites) p.at)) (sym low.daemon) (daemon_are i p q low sound);
}
