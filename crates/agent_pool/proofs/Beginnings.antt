-- Where an atom begins an event alone, or with an output, the row is met; and where a row is met, it does.
use Rattle.std.proofs.Common.{◌≡◌, ℕ, Bool, true, false, cond, ◌&&◌, ◌⊎◌, inl, inr, length, Option, None, Some, IsSome, refl, sym, subst, ap, ◌∙◌}
use Rattle.std.specs.Prelude.{is_some}
use Rattle.std.specs.FinMap as map
use Rattle.np_calculus.proofs.Common.{Name, Value, Expr, Pat, Proc, ProcForm-F, Event, Kind, ◌>>=◌, ◌>>◌, need, then, when, done, NameMap, same_name, same_name-itself}
use Rattle.np_calculus.proofs.Common.{chan_of, agent_of, truth_of, letter_of, places_of, eval, bind, Layer, layer, Sight, Change, same_tag, sends, offered_in}
use Rattle.np_calculus.proofs.Common.{acting_in, act, here_row, away_row, none_made, one_made, two_made, no_other}
use Rattle.np_syntax.specs.declared.process.Tag.{Tag}
use Rattle.np_syntax.specs.declared.event.Kind.TheVariants as kind
use Rattle.np_syntax.specs.declared.event.Made.TheVariants as made
use Rattle.np_eval.specs.Eval.{Env}
use Rattle.np_eval.specs.Fitting.{fits}
use Rattle.np_calculus.specs.declared.config.Atom.{Atom}
use Rattle.np_calculus.specs.Reductions.{role_index, site_in}
use Rattle.np_calculus.specs.Rows.{change_in, made_of}
use Rattle.np_calculus.proofs.Rows.{parts}
use Rattle.np_calculus.proofs.Steps.{same_site}
use Rattle.np_code.specs.Programs.{ProgramTable}
use Rattle.np_calculus.proofs.Enabled.{tag-itself}
use Rattle.agent_pool.specs.declared.ready.Ready.{Ready}
use Rattle.agent_pool.specs.Deciding.{posts, post_in}
use Rattle.agent_pool.specs.Readies.{sight_of, IsReady, NothingReady, begins, alone_in, taken_by, offers_in, offers, meets, pair_in, NoneAlone, NoneMeet}
use Rattle.agent_pool.specs.Rows.{event_of}

is-there : {A : Type 0} (o : Option A) {R : Type 0} → is_some o ≡ true → ((a : A) → o ≡ Some a → R) → R
is-there None h f = absurd cc
is-there (Some a) h f = f a refl

-- both steps of a pattern that fits
fit-there : (pat : Pat) (e : Expr) (a : Atom) {R : Type 0} → fits pat e a.env ≡ true → ((v : Value) → eval e a.env ≡ Some v → is_some (bind pat v a.env) ≡ true → R) → R
fit-there pat e a h f = by (eval e a.env) h f
  where
    by : {R : Type 0} (o : Option Value) → is_some (o >>= λ v. bind pat v a.env) ≡ true → ((v : Value) → o ≡ Some v → is_some (bind pat v a.env) ≡ true → R) → R
    by None h f = absurd cc
    by (Some v) h f = f v refl h

module _ (code : ProgramTable) (atoms : NameMap Atom) (mark : Name) (a : Atom) (there : map.get atoms mark ≡ Some a) (here : Bool) (first second : Name) where
  abbrev event : Kind → Option Name → Event
  event k other = event_of 0 (record { kind = k; actor = mark; other = other; tag = a.proc.tag }) (made_of k here first second)

  acts : (k : Kind) (other : Option Name) → acting_in (sight_of code atoms here) (event k other) ≡ Some a
  acts k other = rw (there, tag-itself a.proc.tag) refl

  abbrev pub Met : Option Name → Kind → Type 0
  Met other k = IsSome (change_in k (sight_of code atoms here) (event k other))

  so : (other : Option Name) {k j : Kind} → Some j ≡ Some k → Met other j → Met other k
  so other h m = subst (Met other) (sym (done h)) m

  -- a location test, whether or not its agent is here
  tested : (t : Bool) (e : Event) (met unmet : Proc) (b n : Name) (v : Value) → e.made ≡ cond t (made.One first) made.Nothing → IsSome (cond t (here_row e a met b n v) (away_row e a unmet))
  unfolding here_row away_row
  tested true e met unmet b n v h = rw h refl
  tested false e met unmet b n v h = rw h refl

  pub alone-met : (l : Layer) → layer a.proc ≡ l → (k : Kind) → begins (length code.sites) a.env l ≡ Some k → Met None k
  unfolding act
  alone-met ProcForm-F.Stop is k h = so None h (rw (acts kind.Stop None, is) refl)
  alone-met (ProcForm-F.Par left right) is k h = so None h (rw (acts kind.Fork None, is) refl)
  alone-met (ProcForm-F.New x ty body) is k h = so None h (rw (acts kind.New None, is) refl)
  alone-met (ProcForm-F.Agent b body rest) is k h = so None h (rw (acts kind.Agent None, is) refl)
  alone-met (ProcForm-F.Migrate s body) is k h = then (site_in (length code.sites) s a.env) _ h λ t to h. so None h (rw (acts kind.Depart None, is, to) refl)
  alone-met (ProcForm-F.IfLocal b c e met unmet) is k h =
      then (agent_of b a.env) _ h λ agent names h. then (chan_of c a.env) _ h λ chan on h. when (is_some (eval e a.env)) _ h λ has h.
      is-there (eval e a.env) has λ v gives. so None h (rw (acts kind.Local None, is, names, on, gives) (tested here (event kind.Local None) met unmet agent chan v refl))
  alone-met (ProcForm-F.Send b s c e) is k h =
      then (agent_of b a.env) _ h λ agent names h. then (site_in (length code.sites) s a.env) _ h λ t to h. then (chan_of c a.env) _ h λ chan on h.
      when (is_some (eval e a.env)) _ h λ has h. is-there (eval e a.env) has λ v gives. so None h (rw (acts kind.Send None, is, names, to, on, gives) refl)
  alone-met (ProcForm-F.If e met unmet) is k h = when (is_some (truth_of e a.env)) _ h λ has h. is-there (truth_of e a.env) has λ t truth. so None h (rw (acts kind.If None, is, truth) refl)
  alone-met (ProcForm-F.Let pat e body) is k h =
      when (fits pat e a.env) _ h λ fit h. fit-there pat e a fit λ v gives has. is-there (bind pat v a.env) has λ env binds. so None h (rw (acts kind.Let None, is, gives, binds) refl)
  alone-met (ProcForm-F.Print e) is k h = when (is_some (eval e a.env)) _ h λ has h. is-there (eval e a.env) has λ v gives. so None h (rw (acts kind.Print None, is, gives) refl)
  alone-met (ProcForm-F.Open e) is k h = when (is_some (letter_of e a.env)) _ h λ has h. is-there (letter_of e a.env) has λ v gives. so None h (rw (acts kind.Open None, is, gives) refl)
  alone-met (ProcForm-F.Lookup b m x met unmet) is k h =
      then (agent_of b a.env) _ h λ agent names h. when (is_some (places_of m a.env)) _ h λ has h. is-there (places_of m a.env) has λ ps among.
      so None h (rw (acts kind.Lookup None, is, names, among) refl)
  alone-met _ is k h = absurd cc

  pub post-met : (l : Layer) → layer a.proc ≡ l → (k : Kind) → posts a.env l ≡ Some k → Met None k
  unfolding act
  post-met (ProcForm-F.Post b c e) is k h =
      then (agent_of b a.env) _ h λ agent names h. then (chan_of c a.env) _ h λ chan on h. when (is_some (eval e a.env)) _ h λ has h.
      is-there (eval e a.env) has λ v gives. so None h (rw (acts kind.Post None, is, names, on, gives) refl)
  post-met _ is k h = absurd cc

  -- an output of the agent whose value on the channel fits
  module _ (other : Name) (b : Atom) (stands : map.get atoms other ≡ Some b) (together : b.agent ≡ a.agent) where
    offered : (n : Name) (sent : Name × Value) → sends b ≡ Some sent → same_name n sent.0 ≡ true → offered_in (map.get atoms) other a.agent n ≡ Some sent.1
    offered n sent gives same = rw (stands, together, same_name-itself a.agent, gives, same) refl

    both-true : {R : Type 0} (s t : Bool) → (s && t) ≡ true → (s ≡ true → t ≡ true → R) → R
    both-true true true h f = f refl refl
    both-true true false h f = absurd cc
    both-true false t h f = absurd cc

    -- what an output offers, if its value fits
    offer-by : {R : Type 0} (n : Name) (pat : Pat) (o : Option (Name × Value)) → sends b ≡ o → offers_in o n pat a.env ≡ true
        → ((sent : Name × Value) (env : Env) → sends b ≡ Some sent → same_name n sent.0 ≡ true → bind pat sent.1 a.env ≡ Some env → R) → R
    offer-by n pat None is h f = absurd cc
    offer-by n pat (Some sent) is h f = both-true (same_name n sent.0) (is_some (bind pat sent.1 a.env)) h λ same has. is-there (bind pat sent.1 a.env) has λ env binds. f sent env is same binds

    pub pair-met : (l : Layer) → layer a.proc ≡ l → (k : Kind) → (taken_by l >>= λ t. chan_of t.1 a.env >>= λ n. need (offers b n t.2 a.env) >> Some t.0) ≡ Some k → Met (Some other) k
    unfolding act
    pair-met (ProcForm-F.Inp c pat body) is k h =
        then (chan_of c a.env) _ h λ n on h. when (offers b n pat a.env) _ h λ fit h. offer-by n pat (sends b) refl fit λ sent env gives same binds.
        so (Some other) h (rw (acts kind.Comm (Some other), is, on, offered n sent gives same, binds) refl)
    pair-met (ProcForm-F.Rep c pat body) is k h =
        then (chan_of c a.env) _ h λ n on h. when (offers b n pat a.env) _ h λ fit h. offer-by n pat (sends b) refl fit λ sent env gives same binds.
        so (Some other) h (rw (acts kind.Rep (Some other), is, on, offered n sent gives same, binds) refl)
    pair-met _ is k h = absurd cc

-- an atom begins the event alone
pub record Lone (sites : ℕ) (a : Atom) (e : Event) (k : Kind) : Type 0 where
  pub begun : begins sites a.env (layer a.proc) ≡ Some k
  pub other : e.other ≡ None

-- an output of the agent that the input takes
pub record MetWith (atoms : NameMap Atom) (a : Atom) (e : Event) (k : Kind) : Type 0 where
  pub mark : Name
  pub atom : Atom
  pub other : e.other ≡ Some mark
  pub there : map.get atoms mark ≡ Some atom
  pub meet : meets a atom ≡ Some k

-- what a row that is met says of its acting atom: it begins the event alone, or with an output of its agent
pub record Begun (code : ProgramTable) (atoms : NameMap Atom) (e : Event) (k : Kind) : Type 0 where
  pub atom : Atom
  pub there : map.get atoms e.actor ≡ Some atom
  pub how : Lone (length code.sites) atom e k ⊎ MetWith atoms atom e k

module _ (code : ProgramTable) (atoms : NameMap Atom) (here : Bool) (e : Event) where
  abbrev w : Sight
  w = sight_of code atoms here

  other-none : (o : Option Name) (u : Unit {0}) → no_other o ≡ Some u → o ≡ None
  other-none None u h = refl
  other-none (Some m) u h = absurd cc

  lone-other : (y : Change) {x : Change} → (none_made e.made >> (no_other e.other >> Some y)) ≡ Some x → e.other ≡ None
  lone-other y h = then (none_made e.made) _ h λ u made h. then (no_other e.other) _ h λ v other h. other-none e.other v other

  have : {A : Type 0} (o : Option A) (x : A) → o ≡ Some x → is_some o ≡ true
  have o x h = rw h refl

  fits-both : (pat : Pat) (b : Expr) (a : Atom) (v : Value) (env : Env) → eval b a.env ≡ Some v → bind pat v a.env ≡ Some env → fits pat b a.env ≡ true
  fits-both pat b a v env gives binds = rw (gives, binds) refl

  module _ (a : Atom) (there : map.get atoms e.actor ≡ Some a) (d : Change) where
    abbrev Alone : Kind → Layer → Type 0
    Alone k l = begins (length code.sites) a.env l ≡ Some k

    alone : (k : Kind) → Alone k (layer a.proc) → e.other ≡ None → Begun code atoms e k
    alone k h none = record { atom = a; there = there; how = inl (record { begun = h; other = none }) }

    -- an input takes what the atom of a mark offers
    met : (k : Kind) (c : Expr) (pat : Pat) (n o : Name) (v : Value) (env : Env) → taken_by (layer a.proc) ≡ Some (k, c, pat) → chan_of c a.env ≡ Some n → e.other ≡ Some o
        → offered_in w.atom o a.agent n ≡ Some v → bind pat v a.env ≡ Some env → Begun code atoms e k
    met k c pat n o v env form on other offer binds =
        then (map.get atoms o) _ offer λ b stands h. when (same_name a.agent b.agent) _ h λ together h. then (sends b) _ h λ sent gives h.
        when (same_name n sent.0) _ h λ same h.
        record { atom = a; there = there; how = inr (record { mark = o; atom = b; other = other; there = stands; meet = rw (form, on, gives, same, sym (done h), binds) refl }) }

    pub row-begun : (k : Kind) → (k ≡ kind.Post → ⊥) → act k (layer a.proc) w e a ≡ Some d → Begun code atoms e k
    unfolding act
    row-begun kind.Stop differs h = parts kind.Stop w e a h λ q form h. alone kind.Stop (rw form refl) (lone-other _ h)
    row-begun kind.Fork differs h = parts kind.Fork w e a h λ q form h. then (one_made e.made) _ h λ m made h. then (no_other e.other) _ h λ u other h.
        alone kind.Fork (rw form refl) (other-none e.other u other)
    row-begun kind.New differs h = parts kind.New w e a h λ q form h. then (one_made e.made) _ h λ m made h. then (no_other e.other) _ h λ u other h.
        alone kind.New (rw form refl) (other-none e.other u other)
    row-begun kind.Let differs h = parts kind.Let w e a h λ q form h. then (eval q.1 a.env) _ h λ v gives h. then (bind q.0 v a.env) _ h λ env binds h.
        alone kind.Let (rw (form, fits-both q.0 q.1 a v env gives binds) refl) (lone-other _ h)
    row-begun kind.If differs h = parts kind.If w e a h λ q form h. then (truth_of q.0 a.env) _ h λ t truth h. alone kind.If (rw (form, have _ t truth) refl) (lone-other _ h)
    row-begun kind.Comm differs h = parts kind.Comm w e a h λ q form h. then (chan_of q.0 a.env) _ h λ n on h. then e.other _ h λ o other h.
        then (offered_in w.atom o a.agent n) _ h λ v offer h. then (bind q.1 v a.env) _ h λ env binds h. met kind.Comm q.0 q.1 n o v env (rw form refl) on other offer binds
    row-begun kind.Rep differs h = parts kind.Rep w e a h λ q form h. then (chan_of q.0 a.env) _ h λ n on h. then e.other _ h λ o other h.
        then (offered_in w.atom o a.agent n) _ h λ v offer h. then (bind q.1 v a.env) _ h λ env binds h. met kind.Rep q.0 q.1 n o v env (rw form refl) on other offer binds
    row-begun kind.Agent differs h = parts kind.Agent w e a h λ q form h. then (two_made e.made) _ h λ m made h. then (no_other e.other) _ h λ u other h.
        alone kind.Agent (rw form refl) (other-none e.other u other)
    row-begun kind.Depart differs h = parts kind.Depart w e a h λ q form h. then (site_in (length code.sites) q.0 a.env) _ h λ t to h. alone kind.Depart (rw (form, to) refl) (lone-other _ h)
    row-begun kind.Local differs h = parts kind.Local w e a h λ q form h. then (agent_of q.0 a.env) _ h λ b names h. then (chan_of q.1 a.env) _ h λ n on h. then (eval q.2 a.env) _ h λ v gives h.
        then (no_other e.other) _ h λ u other h. alone kind.Local (rw (form, names, on, have _ v gives) refl) (other-none e.other u other)
    row-begun kind.Send differs h = parts kind.Send w e a h λ q form h. then (agent_of q.0 a.env) _ h λ b names h. then (site_in (length code.sites) q.1 a.env) _ h λ t to h.
        then (chan_of q.2 a.env) _ h λ n on h. then (eval q.3 a.env) _ h λ v gives h. alone kind.Send (rw (form, names, to, on, have _ v gives) refl) (lone-other _ h)
    row-begun kind.Print differs h = parts kind.Print w e a h λ q form h. then (eval q a.env) _ h λ v gives h. alone kind.Print (rw (form, have _ v gives) refl) (lone-other _ h)
    row-begun kind.Open differs h = parts kind.Open w e a h λ q form h. then (letter_of q a.env) _ h λ v gives h. alone kind.Open (rw (form, have _ v gives) refl) (lone-other _ h)
    row-begun kind.Lookup differs h = parts kind.Lookup w e a h λ q form h. then (agent_of q.0 a.env) _ h λ b names h. then (places_of q.1 a.env) _ h λ ps among h.
        alone kind.Lookup (rw (form, names, have _ ps among) refl) (lone-other _ h)
    row-begun kind.Post differs h = absurd (differs refl)
    row-begun _ differs h = absurd cc

    -- a post whose row is met
    pub post-begun : act kind.Post (layer a.proc) w e a ≡ Some d → (posts a.env (layer a.proc) ≡ Some kind.Post) × (e.other ≡ None)
    unfolding act
    post-begun h = parts kind.Post w e a h λ q form h. then (agent_of q.0 a.env) _ h λ b names h. then (chan_of q.1 a.env) _ h λ n on h. then (eval q.2 a.env) _ h λ v gives h.
        (rw (form, names, on, have _ v gives) refl, lone-other _ h)

-- what a ready that is found says
pub post-ready : (code : ProgramTable) (atoms : NameMap Atom) (mark : Name) (r : Ready) → post_in atoms mark ≡ Some r → IsReady code atoms r
post-ready code atoms mark r h =
    then (map.get atoms mark) _ h λ a there h. then (posts a.env (layer a.proc)) _ h λ k begun h.
    subst (IsReady code atoms) (sym (done h)) λ here first second. post-met code atoms mark a there here first second (layer a.proc) refl k begun

pub alone-ready : (code : ProgramTable) (atoms : NameMap Atom) (mark : Name) (r : Ready) → alone_in (length code.sites) atoms mark ≡ Some r → IsReady code atoms r
alone-ready code atoms mark r h =
    then (map.get atoms mark) _ h λ a there h. then (begins (length code.sites) a.env (layer a.proc)) _ h λ k begun h.
    subst (IsReady code atoms) (sym (done h)) λ here first second. alone-met code atoms mark a there here first second (layer a.proc) refl k begun

pub pair-ready : (code : ProgramTable) (atoms : NameMap Atom) (mark other : Name) (r : Ready) → ((a b : Atom) → map.get atoms mark ≡ Some a → map.get atoms other ≡ Some b → b.agent ≡ a.agent)
    → pair_in atoms mark other ≡ Some r → IsReady code atoms r
pair-ready code atoms mark other r together h =
    then (map.get atoms mark) _ h λ a there h. then (map.get atoms other) _ h λ b stands h. then (meets a b) _ h λ k meet h.
    subst (IsReady code atoms) (sym (done h)) λ here first second. pair-met code atoms mark a there here first second other b stands (together a b there stands) (layer a.proc) refl k meet

some-none : {A : Type 0} (o : Option A) (a : A) → o ≡ None → o ≡ Some a → ⊥
some-none o a e f = cc

-- where no atom can do anything, alone or with another, nothing is ready
pub nothing-ready : (code : ProgramTable) (atoms : NameMap Atom) → NoneAlone (length code.sites) atoms → NoneMeet atoms → NothingReady code atoms
nothing-ready code atoms no_lone no_meet = record { none = λ here e no_post. by here e no_post (change_in e.kind (sight_of code atoms here) e) refl }
  where
    impossible : (e : Event) (k : Kind) → Begun code atoms e k → ⊥
    impossible e k b = from b.how
      where
        from : Lone (length code.sites) b.atom e k ⊎ MetWith atoms b.atom e k → ⊥
        from (inl l) =
            some-none (alone_in (length code.sites) atoms e.actor) (record { kind = k; actor = e.actor; other = None; tag = b.atom.proc.tag }) (no_lone.each e.actor) (rw (b.there, l.begun) refl)
        from (inr m) =
            some-none (pair_in atoms e.actor m.mark) (record { kind = k; actor = e.actor; other = Some m.mark; tag = b.atom.proc.tag }) (no_meet.each e.actor m.mark)
            (rw (b.there, m.there, m.meet) refl)

    by : (here : Bool) (e : Event) → (e.kind ≡ kind.Post → ⊥) → (o : Option Change) → change_in e.kind (sight_of code atoms here) e ≡ o → o ≡ None
    by here e no_post None is = refl
    by here e no_post (Some d) is =
        absurd (then (acting_in (sight_of code atoms here) e) _ is λ a acts h. then (map.get atoms e.actor) _ acts λ b there acts. when (same_tag b.proc.tag e.tag) _ acts λ tag acts.
        impossible e e.kind (row-begun code atoms here e a (there ∙ ap Some (sym (done acts))) d e.kind no_post h))
