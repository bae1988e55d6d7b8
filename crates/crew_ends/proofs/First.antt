-- How a crew begins.
use Rattle.std.proofs.Common.{◌≡◌, ◌+◌, ◌<◌, ◌≤◌, ◌==◌, ℕ, Bool, true, false, cond, nat_eq, List, [], ◌∷◌, ◌++◌, length, Option, None, Some, option_map}
use Rattle.std.proofs.Common.{refl, sym, ap, ap₂, subst, ◌∙◌, arith, append_assoc, length-append, inl, inr, append-nil}
use Rattle.std.specs.FinMap as table
use Rattle.std.proofs.lemmas.List.{length_push}
use Rattle.np_syntax.specs.declared.value.Name.{Name}
use Rattle.np_syntax.specs.declared.process.Proc.{Proc}
use Rattle.np_tables.specs.Names.{NameMap, same_name}
use Rattle.np_tables.specs.Mapped.{mapped}
use Rattle.np_tables.proofs.Mapped.{get-mapped, mapped-empty, mapped-put}
use Rattle.np_tables.proofs.Tables.{get-none, get-put, same_name-is}
use Rattle.np_eval.specs.Eval.{Env}
use Rattle.np_calculus.specs.Starts.{daemon_agent, daemon_mark, main_agent, main_mark}
use Rattle.np_site_runs.proofs.merged.Steps.{false_eq}
use Rattle.site_links.proofs.Rows.{get-push_old, get-push_at, get-push_cases}
use Rattle.np_site_runs.specs.Starting.{alone, with_if}
use Rattle.np_code.specs.Programs.{ProgramTable}
use Rattle.np_code.specs.Trees.{nth}
use Rattle.agent_index.specs.declared.wait.Wait.TheVariants as wait
use Rattle.agent_pool.specs.declared.held.Held.TheVariants as held
use Rattle.agent_pool.specs.Pools.{Pool, atoms_of, seen_as}
use Rattle.site_state.specs.Standings.{IsNew, IsSettled, Standing}
use Rattle.site_turn.specs.declared.seat.Seat.{Seat}
use Rattle.crew_ends.specs.Starts.{AreFirst, HasFirst, IsFirst, IsFirstSite}

first-atoms : (ts : List Proc) (agent mark : Name) (root : ℕ) → mapped (seen_as ts agent) (table.insert table.empty mark (wait.Acts, held.Node root table.empty)) ≡ alone agent mark (nth ts root)
first-atoms ts agent mark root =
    mapped-put (seen_as ts agent) table.empty mark (wait.Acts, held.Node root table.empty) ∙ ap (λ m. table.insert m mark (seen_as ts agent (wait.Acts, held.Node root table.empty))) (mapped-empty (seen_as ts agent))

-- a new agent stands there
pub has_first : (code : ProgramTable) (here : Bool) (agent mark : Name) (root : ℕ) (p : Pool) (old new : Standing) (env : Env) → here ≡ true → p.name ≡ agent → env ≡ table.empty
    → p.atoms ≡ table.insert table.empty mark (wait.Acts, held.Node root env) → IsSettled old p new → HasFirst code here agent mark root old new
has_first code here agent mark root p old new env is name none stored settled = record {
  agents =
      let f = atoms_of code.processes in
      let atoms : p.atoms ≡ table.insert table.empty mark (wait.Acts, held.Node root table.empty) = stored ∙ ap (λ e. table.insert table.empty mark (wait.Acts, held.Node root e)) none in
      let first : f p ≡ alone agent mark (nth code.processes root) = ap₂ (λ n m. mapped (seen_as code.processes n) m) name atoms ∙ first-atoms code.processes agent mark root in
      ap (mapped f) settled.agents ∙ mapped-put f old.agents p.name p ∙ ap₂ (λ n a. table.insert (mapped f old.agents) n a) name first
      ∙ ap (λ t. with_if t (mapped f old.agents) agent (alone agent mark (nth code.processes root))) (sym is);
  quiet = settled.quiet code;
  same = settled.same;
  outgoing = settled.outgoing;
}

-- nothing is to stand there
pub has_none : (code : ProgramTable) (here : Bool) (agent mark : Name) (root : ℕ) (s : Standing) → here ≡ false → HasFirst code here agent mark root s s
has_none code here agent mark root s is = record {
  agents = ap (λ t. with_if t (mapped (atoms_of code.processes) s.agents) agent (alone agent mark (nth code.processes root))) (sym is);
  quiet = λ h. h;
  same = record { site = refl; next = refl; clock = refl; history = refl };
  outgoing = refl;
}

is-none : {X Y : Type 0} (f : X → Y) (o : Option X) → option_map f o ≡ None → o ≡ None
is-none f None e = refl
is-none f (Some x) e = absurd (let h = e in cc)

abbrev empty_map : (X : Type 0) → NameMap X
empty_map X = table.empty

with-none : {X : Type 0} (t : Bool) (k q : Name) (v : X) → same_name q k ≡ false → table.get (with_if t (empty_map X) k v) q ≡ None
with-none {X} true k q v apart = get-put (empty_map X) k v q ∙ ap (λ t. cond t (Some v) (table.get (empty_map X) q)) apart ∙ get-none q
with-none false k q v apart = get-none q

-- one agent leaves another name free
pub still_free : (code : ProgramTable) (here : Bool) (agent mark other : Name) (root : ℕ) (old new : Standing) → HasFirst code here agent mark root old new → old.agents ≡ table.empty
    → same_name other agent ≡ false → table.get new.agents other ≡ None
still_free code here agent mark other root old new has empty apart =
    let f = atoms_of code.processes in
    is-none f (table.get new.agents other)
    (sym (get-mapped f new.agents other) ∙ ap (λ m. table.get m other) (has.agents ∙ ap (λ m. with_if here (mapped f m) agent (alone agent mark (nth code.processes root))) empty
    ∙ ap (λ m. with_if here m agent (alone agent mark (nth code.processes root))) (mapped-empty f)) ∙ with-none here agent other (alone agent mark (nth code.processes root)) apart)

is-false : (b : Bool) → (b ≡ true → ⊥) → b ≡ false
is-false true f = absurd (f refl)
is-false false f = refl

pub agents_apart : (n : ℕ) → same_name (daemon_agent n) (main_agent n) ≡ false
agents_apart n = is-false (same_name (daemon_agent n) (main_agent n)) (λ e.
    let h : 1 ≡ 0 = ap (λ (m : Name). m.n) (same_name-is (daemon_agent n) (main_agent n) e) in
    absurd (omega arith))

pub none_there : (s : Standing) (q : Name) → s.agents ≡ table.empty → table.get s.agents q ≡ None
none_there s q e = ap (λ m. table.get m q) e ∙ get-none q

none-at : {X : Type 0} (m : NameMap X) (q : Name) → m ≡ table.empty → table.get m q ≡ None
none-at m q e = ap (λ v. table.get v q) e ∙ get-none q

-- both agents of the start
pub first_is : (code : ProgramTable) (budget number : ℕ) (a b c : Standing) → IsNew number (length code.sites) budget a
    → HasFirst code (a.site == code.at) (main_agent (length code.sites)) (main_mark (length code.sites)) code.main a b
    → HasFirst code (b.site == 0) (daemon_agent (length code.sites)) (daemon_mark (length code.sites)) code.daemon b c
    → number < length code.sites → IsFirstSite code budget number c
first_is code budget number a b c new main daemon low =
    let f = atoms_of code.processes in
    let n : ℕ = length code.sites in
    let here : a.site ≡ number = new.number in
    let one : mapped f b.agents ≡ with_if (number == code.at) table.empty (main_agent n) (alone (main_agent n) (main_mark n) (nth code.processes code.main)) =
    main.agents ∙ ap (λ k. with_if (k == code.at) (mapped f a.agents) (main_agent n) (alone (main_agent n) (main_mark n) (nth code.processes code.main))) here
    ∙ ap (λ m. with_if (number == code.at) (mapped f m) (main_agent n) (alone (main_agent n) (main_mark n) (nth code.processes code.main))) new.agents
    ∙ ap (λ m. with_if (number == code.at) m (main_agent n) (alone (main_agent n) (main_mark n) (nth code.processes code.main))) (mapped-empty f) in
    let two = daemon.agents ∙ ap (λ k. with_if (k == 0) (mapped f b.agents) (daemon_agent n) (alone (daemon_agent n) (daemon_mark n) (nth code.processes code.daemon))) (main.same.site ∙ here)
    ∙ ap (λ m. with_if (number == 0) m (daemon_agent n) (alone (daemon_agent n) (daemon_mark n) (nth code.processes code.daemon))) one in
    let site : c.site ≡ number = daemon.same.site ∙ main.same.site ∙ new.number in
    let next : c.next ≡ 0 = daemon.same.next ∙ main.same.next ∙ new.next in
    let history = daemon.same.history ∙ main.same.history ∙ new.history in
    let apart : nat_eq number n ≡ false = false_eq number n (λ e. absurd (omega arith)) in
    record {
      number = site;
      holding = rw (site, two, next, history, apart) refl;
      clock = daemon.same.clock ∙ main.same.clock ∙ new.clock;
      history = history;
      quiet = daemon.quiet (main.quiet (record { each = λ q p found at. absurd (let none : None ≡ Some true = sym (none-at a.quiet q new.quiet) ∙ found in cc) }));
      outgoing = rw (daemon.outgoing ∙ main.outgoing) new.outgoing;
    }

-- ---- seats in order

module _ {P : Type 0} {code : ProgramTable} {budget : ℕ} where
  seated_more : {ps : List P} {cs : List (Seat P)} (n : ℕ) (p : P) (c : Seat P) → AreFirst code budget ps cs → n ≡ length ps → IsFirst code budget n p c → AreFirst code budget (ps ++ p ∷ []) (cs ++ c ∷ [])
  seated_more {ps} {cs} n p c s e b = record {
    count = length_push cs c ∙ (ap (λ m. m + 1) s.count ∙ sym (length_push ps p));
    each = λ k v h. elim (get-push_cases cs k c v h) [
      | inl w ↦ let o = s.each k v w in (o.0, get-push_old ps k o.0 p o.1, o.2)
      | inr w ↦
          let at : k ≡ n = w.0 ∙ (s.count ∙ sym e) in
          (p, get-push_at ps k p (sym e ∙ sym at), subst (λ (m : ℕ). IsFirst code budget m p v) (sym at) (subst (λ (o : Seat P). IsFirst code budget n p o) (sym w.1) b))
    ];
  }

  pub seated_push : {ps : List P} {cs cs' : List (Seat P)} (n : ℕ) (p : P) (c : Seat P) → AreFirst code budget ps cs → n ≡ length ps → IsFirst code budget n p c → cs' ≡ cs ++ c ∷ []
      → AreFirst code budget (ps ++ p ∷ []) cs'
  seated_push {ps} {cs} {cs'} n p c s e b f = subst (λ (v : List (Seat P)). AreFirst code budget (ps ++ p ∷ []) v) (sym f) (seated_more n p c s e b)

  pub seated_whole : {ps qs : List P} {cs : List (Seat P)} → AreFirst code budget ps cs → ps ≡ qs → AreFirst code budget qs cs
  seated_whole {ps} {qs} {cs} s e = subst (λ (v : List P). AreFirst code budget v cs) e s

pub whole_more : {P : Type 0} {all : List P} (ys rest rest' : List P) (p : P) → all ≡ ys ++ rest → rest ≡ p ∷ rest' → all ≡ ys ++ p ∷ [] ++ rest'
whole_more ys rest rest' p e f = e ∙ (ap (λ v. ys ++ v) f ∙ sym (append_assoc ys (p ∷ []) rest'))

pub whole_length : {P : Type 0} {all : List P} (ys rest : List P) → all ≡ ys ++ rest → length ys ≤ length all
whole_length ys rest e = omega (arith, ap length e ∙ length-append ys rest)

pub whole_end : {P : Type 0} {all : List P} (ys rest : List P) → all ≡ ys ++ rest → length rest ≡ 0 → ys ≡ all
whole_end ys [] e z = sym (e ∙ append-nil ys)
whole_end ys (x ∷ rest) e z = absurd (omega arith)
