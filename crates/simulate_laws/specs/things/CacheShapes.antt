-- Which of the things that there are with caches an atom of the low level is (docs/TRANSLATION.md, "Translation and daemon"). Here n is
-- the number of sites, the source's binders are below `from`, and the daemon's are numbered from `first`. What a messenger does is told by
-- the values of its expressions.
use Rattle.std.specs.Prelude.{◌≡◌, ◌≤◌, ◌+◌, ℕ, Some, List}
use Rattle.std.specs.FinMap as map
use Rattle.np_syntax.specs.declared.value.Name.{Name}
use Rattle.np_syntax.specs.declared.value.Value.{Value}
use Rattle.np_syntax.specs.declared.value.Value as value
use Rattle.np_syntax.specs.declared.expression.Expr.{Expr}
use Rattle.np_syntax.specs.declared.process.Tag.{Tag}
use Rattle.np_syntax.specs.declared.process.Proc.{Proc}
use Rattle.np_syntax.specs.declared.process.ProcForm as form
use Rattle.np_calculus.specs.declared.config.Atom.{Atom}
use Rattle.np_calculus.specs.Starts.{daemon_agent}
use Rattle.np_eval.specs.Eval.{Env, agent_of, chan_of, eval}
use Rattle.infrastructure_texts.specs.Pieces.{beside, gives, name, nothing, stop, takes, variable}
use Rattle.infrastructure_texts.specs.Texts as central
use Rattle.infrastructure_texts.specs.CacheTexts.{adds, cache, found_server, goes_by_daemon, goes_by_hint, looks, makes_messenger}
use Rattle.infrastructure_texts.specs.CacheTexts.{messenger_text, replaces, tries}
use Rattle.infrastructure_texts.specs.CacheDaemon.{hints, reads_locks}
use Rattle.daemon_encode.specs.Translates.{source}
use Rattle.simulate_laws.specs.things.Desks.{looks_back}
use Rattle.simulate_laws.specs.things.Mail.{Posted}

-- ---- posts

-- the atom of the high level is about to post: to this agent, on this channel, this value; its low text has binders from a number on,
-- none of the source's
pub record Posts (from : ℕ) (high : Atom) : Type 0 where
  pub tag : Tag
  pub at : ℕ
  pub to : Expr
  pub on : Expr
  pub sent : Expr
  pub binder : ℕ
  pub above : from ≤ binder
  pub is : high.proc ≡ source tag at (form.Post to on sent)

-- lookup b in m then l -> (..) else (..), where m is the cache
pub record IsCalling (n from : ℕ) (named : Expr) (high : Atom) (ps : List (Name × Name)) (low : Atom) : Type 0 where
  pub posts : Posts from high
  pub is : low.proc
      ≡ looks posts.tag.node posts.to posts.binder (posts.binder + 1)
      (goes_by_hint n posts.tag.node named posts.to posts.on posts.sent posts.binder)
      (goes_by_daemon n posts.tag.node named posts.to posts.on posts.sent posts.binder)
  pub holds : map.get low.env posts.binder ≡ Some (value.Places ps)

-- l?s -> (agent t = M in 0 | l!s), where l is the hint's lock
pub record IsHoping (n from : ℕ) (named : Expr) (high : Atom) (l : Name) (low : Atom) : Type 0 where
  pub posts : Posts from high
  pub is : low.proc
      ≡ takes posts.tag.node (variable (posts.binder + 1)) (name (posts.binder + 2))
      (beside posts.tag.node
      (makes_messenger n posts.tag.node named posts.to posts.on posts.sent (posts.binder + 2) (posts.binder + 3))
      (gives posts.tag.node (variable (posts.binder + 1)) (variable (posts.binder + 2))))
  pub waits : map.get low.env (posts.binder + 1) ≡ Some (value.Chan l)

-- agent t = M in 0
pub record IsHiring (n from : ℕ) (named : Expr) (high low : Atom) : Type 0 where
  pub posts : Posts from high
  pub is : low.proc ≡ makes_messenger n posts.tag.node named posts.to posts.on posts.sent (posts.binder + 2) (posts.binder + 3)

-- <D@SD>message![b pack(c, v)], which is the post
pub record IsPassing (n from : ℕ) (high low : Atom) : Type 0 where
  pub posts : Posts from high
  pub is : low.proc ≡ central.post_text n posts.tag.node posts.to posts.on posts.sent

-- ---- what keeps an agent's cache: its binders are numbered from x

-- *found?[x y] -> ..
pub record IsKeeping (n from : ℕ) (a : Name) (low : Atom) : Type 0 where
  pub agent : low.agent ≡ a
  pub node : ℕ
  pub x : ℕ
  pub above : from ≤ x
  pub is : low.proc ≡ found_server n node x

-- a copy of it in an agent, that has taken an answer: some agent and some site
pub record HasAnswer (a : Name) (x : ℕ) (low : Atom) : Type 0 where
  pub agent : low.agent ≡ a
  pub site : Value
  pub its_site : map.get low.env (x + 1) ≡ Some site

-- lookup x in m then l -> (l?_ -> l!y | cache!m) else new l : ^Site in (..)
abbrev pub changes : ℕ → ℕ → ℕ → Proc
changes n k x = looks k (variable x) (x + 2) (x + 3) (replaces n k (x + 1) (x + 2) (x + 3)) (adds n k x (x + 1) (x + 2) (x + 4))

-- cache?m -> ..
pub record IsTold (n : ℕ) (a : Name) (low : Atom) : Type 0 where
  pub node : ℕ
  pub x : ℕ
  pub answer : HasAnswer a x low
  pub is : low.proc ≡ takes node (cache n) (name (x + 2)) (changes n node x)

-- lookup x in m then l -> ..
pub record IsTelling (n : ℕ) (a : Name) (ps : List (Name × Name)) (low : Atom) : Type 0 where
  pub node : ℕ
  pub x : ℕ
  pub answer : HasAnswer a x low
  pub is : low.proc ≡ changes n node x
  pub holds : map.get low.env (x + 2) ≡ Some (value.Places ps)

-- l?_ -> l!y
pub record IsReplacing (a l : Name) (low : Atom) : Type 0 where
  pub node : ℕ
  pub x : ℕ
  pub answer : HasAnswer a x low
  pub is : low.proc ≡ takes node (variable (x + 3)) nothing (gives node (variable (x + 3)) (variable (x + 1)))
  pub waits : map.get low.env (x + 3) ≡ Some (value.Chan l)

-- new l : ^Site in (cache!(m with x -> l) | l!y)
pub record IsAdding (n : ℕ) (a : Name) (ps : List (Name × Name)) (b : Name) (low : Atom) : Type 0 where
  pub node : ℕ
  pub x : ℕ
  pub answer : HasAnswer a x low
  pub is : low.proc ≡ adds n node x (x + 1) (x + 2) (x + 4)
  pub holds : map.get low.env (x + 2) ≡ Some (value.Places ps)
  pub other : map.get low.env x ≡ Some (value.Agent b)

-- ---- messengers

-- the values of a messenger's expressions are the letter, and the agent that sent it
pub record Carries (p : Posted) (a : Name) (named to on sent : Expr) (env : Env) : Type 0 where
  pub for_agent : agent_of to env ≡ Some p.agent
  pub its_chan : chan_of on env ≡ Some p.chan
  pub its_value : eval sent env ≡ Some p.value
  pub sender : agent_of named env ≡ Some a

-- migrate to s -> iflocal <b>c!v then 0 else (..)
pub record IsCarrying (n : ℕ) (p : Posted) (t a : Name) (low : Atom) : Type 0 where
  pub agent : low.agent ≡ t
  pub node : ℕ
  pub named : Expr
  pub to : Expr
  pub on : Expr
  pub sent : Expr
  pub site : ℕ
  pub is : low.proc ≡ messenger_text n node named to on sent site
  pub carries : Carries p a named to on sent low.env

-- iflocal <b>c!v then 0 else (..)
pub record IsTrying (n : ℕ) (p : Posted) (t a : Name) (low : Atom) : Type 0 where
  pub agent : low.agent ≡ t
  pub node : ℕ
  pub named : Expr
  pub to : Expr
  pub on : Expr
  pub sent : Expr
  pub is : low.proc ≡ tries n node named to on sent
  pub carries : Carries p a named to on sent low.env

-- 0
pub record IsEnded (low : Atom) : Type 0 where
  pub node : ℕ
  pub is : low.proc ≡ stop node

-- ---- the daemon's server of `where`, for the agent a that asks where b is

pub record Asks (n first : ℕ) (a b : Name) (low : Atom) : Type 0 where
  pub agent : low.agent ≡ daemon_agent n
  pub asker : map.get low.env (first + 21) ≡ Some (value.Agent a)
  pub sought : map.get low.env (first + 22) ≡ Some (value.Agent b)

-- lookup a in m then k -> (..) else 0
pub record IsLookingBack (n first : ℕ) (a b l : Name) (ps : List (Name × Name)) (low : Atom) : Type 0 where
  pub asks : Asks n first a b low
  pub is : low.proc ≡ looks_back n first
  pub places : map.get low.env (first + 23) ≡ Some (value.Places ps)
  pub lock : map.get low.env (first + 24) ≡ Some (value.Chan l)

-- l?s -> (l!s | k?u -> ..)
pub record IsReading (n first : ℕ) (a b l k : Name) (low : Atom) : Type 0 where
  pub asks : Asks n first a b low
  pub is : low.proc ≡ reads_locks n (first + 21) (first + 22) (first + 24) (first + 25) (first + 26) (first + 27)
  pub lock : map.get low.env (first + 24) ≡ Some (value.Chan l)
  pub asker_lock : map.get low.env (first + 25) ≡ Some (value.Chan k)

-- k?u -> (k!u | <a@u>found![b s])
pub record IsReadingBack (n first : ℕ) (a k : Name) (low : Atom) : Type 0 where
  pub b : Name
  pub asks : Asks n first a b low
  pub site : ℕ
  pub is : low.proc ≡ takes 0 (variable (first + 25)) (name (first + 27))
      (hints n (first + 21) (first + 22) (first + 25) (first + 26) (first + 27))
  pub asker_lock : map.get low.env (first + 25) ≡ Some (value.Chan k)
  pub its_site : map.get low.env (first + 26) ≡ Some (value.Site site)
