-- Which thing an atom or a packet of the low level is (docs/TRANSLATION.md, "Translation and daemon"). Here i is the infrastructure, n the
-- number of sites, the source's binders are below `from`, and the daemon's are numbered from `first`. What only sends, outputs or opens is
-- told by the values of its expressions; what binds is told by its text.
use Rattle.std.specs.Prelude.{◌≡◌, ◌≤◌, ◌+◌, ℕ, false, Some, List, [], ◌∷◌, ◌++◌}
use Rattle.std.specs.FinMap as map
use Rattle.np_syntax.specs.declared.value.Name.{Name}
use Rattle.np_syntax.specs.declared.value.Value.{Value}
use Rattle.np_syntax.specs.declared.value.Value as value
use Rattle.np_syntax.specs.declared.expression.Expr.{Expr}
use Rattle.np_syntax.specs.declared.process.Tag.{Tag}
use Rattle.np_syntax.specs.declared.process.Role.TheVariants as role
use Rattle.np_syntax.specs.declared.process.Proc.{Proc}
use Rattle.np_syntax.specs.declared.process.ProcForm.{ProcForm-F}
use Rattle.np_syntax.specs.declared.process.ProcForm as form
use Rattle.np_tables.specs.Names.{same_name}
use Rattle.np_calculus.specs.declared.config.Atom.{Atom}
use Rattle.np_calculus.specs.declared.config.Packet.{Packet}
use Rattle.np_calculus.specs.Reductions.{goes, output_in, sends}
use Rattle.np_calculus.specs.Starts.{own, daemon_agent}
use Rattle.np_eval.specs.Eval.{agent_of, chan_of, eval, letter_of}
use Rattle.np_eval.specs.Forms.{layer}
use Rattle.simulate_laws.specs.protocol.Chips.{Service}
use Rattle.infrastructure_texts.specs.Pieces.{variable, nothing, name, pair, ack, deliver, beside, process, takes, sends as sends_text}
use Rattle.infrastructure_texts.specs.Texts.{begins, move_text, server_text, settles}
use Rattle.infrastructure_texts.specs.Daemon.{acks}
use Rattle.infrastructure_texts.specs.Infrastructures.{Infrastructure}
use Rattle.infrastructure_texts.specs.InfrastructureTexts.{child_of}
use Rattle.daemon_encode.specs.Translates.{Translates, source}
use Rattle.simulate_laws.specs.things.Sources.{Agrees, IsSource, Names}
use Rattle.simulate_laws.specs.things.CacheShapes.{IsAdding, IsCalling, IsCarrying, IsEnded, IsHiring, IsHoping, IsKeeping, IsLookingBack}
use Rattle.simulate_laws.specs.things.CacheShapes.{IsPassing, IsReading, IsReadingBack, IsReplacing, IsTelling, IsTold, IsTrying}
use Rattle.simulate_laws.specs.things.Desks.{Took, desk, server, takes_map}
use Rattle.simulate_laws.specs.things.Mail.{Mail, Posted, content, on_channel, packet_of, receiver as receiver_of, to_site}
use Rattle.simulate_laws.specs.things.Things.{Stage, Thing}

-- not the daemon's
abbrev pub IsAgents : ℕ → Name → Type 0
IsAgents n a = same_name a (daemon_agent n) ≡ false

-- an atom stands in the agent of an atom of the high level, whose process is of a source, for the agent that it names so; and under an
-- environment that agrees with that of the atom
pub record StandsFor (n from : ℕ) (named : Expr) (high low : Atom) : Type 0 where
  pub agent : low.agent ≡ high.agent
  pub apart : IsAgents n high.agent
  pub source : IsSource n from named high.proc
  pub agrees : Agrees from low.env high.env
  pub called : eval named high.env ≡ Some (value.Agent high.agent)

-- the atom of the high level is about to migrate, with this expression, process and translation
pub record Migrates (i : Infrastructure) (n from : ℕ) (named : Expr) (high : Atom) : Type 0 where
  pub tag : Tag
  pub at : ℕ
  pub to : Expr
  pub body : Proc
  pub low : Proc
  pub is : high.proc ≡ source tag at (form.Migrate to body)
  pub translates : Translates i n from named body low

-- it is about to make an agent, with these processes and their translations, and with binders that are none of the source's
pub record Creates (i : Infrastructure) (n from : ℕ) (named : Expr) (high : Atom) : Type 0 where
  pub tag : Tag
  pub at : ℕ
  pub binder : ℕ
  pub body : Proc
  pub rest : Proc
  pub site : ℕ
  pub letter : ℕ
  pub place : ℕ
  pub site_above : from ≤ site
  pub letter_above : from ≤ letter
  pub place_above : from ≤ place
  pub apart : letter ≡ place → ⊥
  pub cache : ℕ
  pub cache_above : from ≤ cache
  pub low_body : Proc
  pub low_rest : Proc
  pub is : high.proc ≡ source tag at (form.Agent binder body rest)
  pub body_translates : Translates i n from (variable binder) body low_body
  pub rest_translates : Translates i n from named rest low_rest

-- ---- in agents

-- the translation of its process
pub record IsOfSource (i : Infrastructure) (n from : ℕ) (named : Expr) (high low : Atom) : Type 0 where
  pub stands : StandsFor n from named high low
  pub translates : Translates i n from named high.proc low.proc

-- ack?_ -> migrate to e -> ..
pub record IsAsking (i : Infrastructure) (n from : ℕ) (named : Expr) (high low : Atom) : Type 0 where
  pub stands : StandsFor n from named high low
  pub migrates : Migrates i n from named high
  pub is : low.proc ≡ takes migrates.tag.node (ack n) nothing (move_text n migrates.tag.node named migrates.to migrates.low)

-- migrate to e -> (ack?_ -> ([[P]] | currentloc!e) | <D@SD>migrated![a e])
pub record IsLeaving (i : Infrastructure) (n from : ℕ) (named : Expr) (high low : Atom) : Type 0 where
  pub stands : StandsFor n from named high low
  pub migrates : Migrates i n from named high
  pub is : low.proc ≡ move_text n migrates.tag.node named migrates.to migrates.low

-- ack?_ -> ([[P]] | currentloc!e), where e is the site
pub record IsSettling (i : Infrastructure) (n from : ℕ) (named : Expr) (high : Atom) (site : ℕ) (low : Atom) : Type 0 where
  pub stands : StandsFor n from named high low
  pub node : ℕ
  pub at : Expr
  pub body : Proc
  pub translates : Translates i n from named high.proc body
  pub is : low.proc ≡ settles n node at body
  pub tells : eval at low.env ≡ Some (value.Site site)

-- agent b = (..) in ack?_ -> ([[Q]] | currentloc!S), where S is the site
pub record IsMaking (i : Infrastructure) (n from : ℕ) (named : Expr) (high : Atom) (site : ℕ) (low : Atom) : Type 0 where
  pub stands : StandsFor n from named high low
  pub creates : Creates i n from named high
  pub is : low.proc
      ≡ process creates.tag.node role.Plain (form.Agent creates.binder
      (child_of i n creates.tag.node named creates.binder creates.site creates.letter creates.place creates.cache creates.low_body)
      (settles n creates.tag.node (variable creates.site) creates.low_rest))
  pub tells : map.get low.env creates.site ≡ Some (value.Site site)

-- ack?_ -> ([[P]] | <a@S>ack![] | currentloc!S), where a is the parent and S the site
pub record IsBeginning (i : Infrastructure) (n from : ℕ) (named : Expr) (high : Atom) (parent : Name) (site : ℕ) (low : Atom) : Type 0 where
  pub stands : StandsFor n from named high low
  pub node : ℕ
  pub binder : ℕ
  pub maker : Expr
  pub body : Proc
  pub translates : Translates i n from named high.proc body
  pub is : low.proc ≡ begins n node maker binder body
  pub above : from ≤ binder
  pub calls : eval maker low.env ≡ Some (value.Agent parent)
  pub tells : map.get low.env binder ≡ Some (value.Site site)

-- an output of a value on a channel, in an agent
pub record Gives (a chan : Name) (v : Value) (low : Atom) : Type 0 where
  pub agent : low.agent ≡ a
  pub gives : sends low ≡ Some (chan, v)

-- *deliver?[l t] -> (open l | <D@SD>dack![a t]) in an agent a
pub record IsLetters (n from : ℕ) (a : Name) (low : Atom) : Type 0 where
  pub agent : low.agent ≡ a
  pub apart : IsAgents n a
  pub node : ℕ
  pub named : Expr
  pub letter : ℕ
  pub place : ℕ
  pub letter_above : from ≤ letter
  pub place_above : from ≤ place
  pub distinct : letter ≡ place → ⊥
  pub names : Names n from [] named
  pub calls : eval named low.env ≡ Some (value.Agent a)
  pub is : low.proc ≡ server_text n node named letter place

-- open e, of the letter
pub record Opens (p : Posted) (low : Atom) : Type 0 where
  pub agent : low.agent ≡ p.agent
  pub letter : Expr
  pub role : low.proc.tag.role ≡ role.Infra
  pub is : layer low.proc ≡ ProcForm-F.Open letter
  pub holds : letter_of letter low.env ≡ Some (p.chan, p.value)

-- a Send of the infrastructure, with the values of the mail, in an agent
pub record Mails (n : ℕ) (m : Mail) (a : Name) (low : Atom) : Type 0 where
  pub agent : low.agent ≡ a
  pub receiver : Expr
  pub to : Expr
  pub chan : Expr
  pub sent : Expr
  pub role : low.proc.tag.role ≡ role.Infra
  pub is : layer low.proc ≡ ProcForm-F.Send receiver to chan sent
  pub for_agent : agent_of receiver low.env ≡ Some (receiver_of n m)
  pub for_site : eval to low.env ≡ Some (value.Site (to_site m))
  pub on : chan_of chan low.env ≡ Some (own n (on_channel m))
  pub holds : eval sent low.env ≡ Some (content m)

-- a report is sent by the agent that it is of, and what is delivered by the daemon
abbrev pub IsSender : ℕ → Mail → Name → Type 0
IsSender n (Mail.migrated a t) x = a ≡ x
IsSender n (Mail.deliver p s) x = x ≡ daemon_agent n
IsSender n _ x = Unit {0}

abbrev pub IsMail : ℕ → Mail → Stage → Atom → Type 0
IsMail n m (Stage.in_agent x) low = Mails n m x low × IsSender n m x
IsMail n m Stage.on_the_way low = ⊥
IsMail n m Stage.there low = Gives (receiver_of n m) (own n (on_channel m)) (content m) low

-- ---- in the daemon

-- lock?m -> .., a copy of a server that took the mail
pub record HasTaken (n first : ℕ) (m : Mail) (low : Atom) : Type 0 where
  pub agent : low.agent ≡ daemon_agent n
  pub service : Service
  pub took : Took first service m low.env
  pub is : low.proc ≡ takes_map n (desk n first service)

-- what it does with the map
pub record IsLooking (n first : ℕ) (m : Mail) (ps : List (Name × Name)) (low : Atom) : Type 0 where
  pub agent : low.agent ≡ daemon_agent n
  pub service : Service
  pub took : Took first service m low.env
  pub map : map.get low.env (desk n first service).map ≡ Some (value.Places ps)
  pub is : low.proc ≡ (desk n first service).body

-- l?s -> <a@s>ack![], and l?s -> <b@s>deliver![v s]
abbrev pub granting : ℕ → ℕ → Proc
granting n x = takes 0 (variable (x + 6)) (name (x + 7)) (acks n (x + 4) (x + 7))

abbrev pub delivering : ℕ → ℕ → Proc
delivering n x = takes 0 (variable (x + 15)) (name (x + 16))
    (sends_text 0 (variable (x + 12)) (variable (x + 16)) (deliver n) (pair (variable (x + 13)) (variable (x + 16))))

abbrev pub WaitsFor : ℕ → ℕ → Mail → Name → Atom → Type 0
WaitsFor n x (Mail.migrating a) l low = (low.proc ≡ granting n x) × Took x Service.grants (Mail.migrating a) low.env
    × (map.get low.env (x + 6) ≡ Some (value.Chan l))
WaitsFor n x (Mail.message p) l low = (low.proc ≡ delivering n x) × Took x Service.passes_on (Mail.message p) low.env
    × (map.get low.env (x + 15) ≡ Some (value.Chan l))
WaitsFor n x _ l low = ⊥

pub record IsWanting (n first : ℕ) (m : Mail) (l : Name) (low : Atom) : Type 0 where
  pub agent : low.agent ≡ daemon_agent n
  pub waits : WaitsFor n first m l low

pub record IsServing (n first : ℕ) (k : Service) (low : Atom) : Type 0 where
  pub agent : low.agent ≡ daemon_agent n
  pub is : low.proc ≡ server n (desk n first k)

-- ---- all of them

-- what there is in agents with caches alone
abbrev pub IsCached : Infrastructure → Type 0
IsCached i = i ≡ Infrastructure.cached

-- the made output of the high level, with any tag
pub record IsOpened (n : ℕ) (p : Posted) (low : Atom) : Type 0 where
  pub apart : IsAgents n p.agent
  pub tag : Tag
  pub is : low ≡ output_in p.agent p.chan p.value tag

abbrev pub Is : Infrastructure → ℕ → ℕ → ℕ → Thing → Atom → Type 0
Is i n from first (Thing.source a h) low = IsOfSource i n from a h low
Is i n from first (Thing.asking a h) low = IsAsking i n from a h low
Is i n from first (Thing.leaving a h) low = IsLeaving i n from a h low
Is i n from first (Thing.settling a h s) low = IsSettling i n from a h s low
Is i n from first (Thing.making a h s) low = IsMaking i n from a h s low
Is i n from first (Thing.beginning a h p s) low = IsBeginning i n from a h p s low
Is i n from first (Thing.calling a h ps) low = IsCached i × StandsFor n from a h low × IsCalling n from a h ps low
Is i n from first (Thing.hoping a h l) low = IsCached i × StandsFor n from a h low × IsHoping n from a h l low
Is i n from first (Thing.hiring a h) low = IsCached i × StandsFor n from a h low × IsHiring n from a h low
Is i n from first (Thing.passing a h) low = IsCached i × StandsFor n from a h low × IsPassing n from h low
Is i n from first (Thing.opened p) low = IsOpened n p low
Is i n from first (Thing.token a s) low = Gives a (own n 9) (value.Site s) low × IsAgents n a
Is i n from first (Thing.letters a) low = IsLetters n from a low
Is i n from first (Thing.cache a ps) low = IsCached i × Gives a (own n 14) (value.Places ps) low × IsAgents n a
Is i n from first (Thing.hint a l) low = IsCached i × ((v : Value) × Gives a l v low) × IsAgents n a
Is i n from first (Thing.keeping a) low = IsCached i × IsKeeping n from a low × IsAgents n a
Is i n from first (Thing.told a) low = IsCached i × IsTold n a low × IsAgents n a
Is i n from first (Thing.telling a ps) low = IsCached i × IsTelling n a ps low × IsAgents n a
Is i n from first (Thing.replacing a l) low = IsCached i × IsReplacing a l low × IsAgents n a
Is i n from first (Thing.adding a ps b) low = IsCached i × IsAdding n a ps b low × IsAgents n a
Is i n from first (Thing.carrying p t a) low = IsCached i × IsCarrying n p t a low × IsAgents n t
Is i n from first (Thing.trying p t a) low = IsCached i × IsTrying n p t a low × IsAgents n t
Is i n from first Thing.ended low = IsCached i × IsEnded low
Is i n from first (Thing.opening p) low = Opens p low × IsAgents n p.agent
Is i n from first (Thing.mail m stage) low = IsMail n m stage low
Is i n from first (Thing.taken m) low = HasTaken n first m low
Is i n from first (Thing.looking m ps) low = IsLooking n first m ps low
Is i n from first (Thing.wanting m l) low = IsWanting n first m l low
Is i n from first (Thing.serving k) low = IsServing n first k low
Is i n from first (Thing.places ps) low = Gives (daemon_agent n) (own n 10) (value.Places ps) low
Is i n from first (Thing.free l s) low = Gives (daemon_agent n) l (value.Site s) low
Is i n from first (Thing.looking_back a b l ps) low = IsLookingBack n first a b l ps low
Is i n from first (Thing.reading a b l k) low = IsReading n first a b l k low
Is i n from first (Thing.reading_back a k) low = IsReadingBack n first a k low
Is i n from first (Thing.packet p) low = ⊥

-- The things of an atom. A bracket of the infrastructure is no thing by itself: it has the things of its parts.
pub data Are (i : Infrastructure) (n from first : ℕ) : Atom → List Thing → Type 0 where
  one : {low : Atom} {t : Thing} → Is i n from first t low → Are i n from first low (t ∷ [])
  both : {low : Atom} {k : ℕ} {p q : Proc} {ts us : List Thing} → low.proc ≡ beside k p q → Are i n from first (goes low p) ts
      → Are i n from first (goes low q) us
      → Are i n from first low (ts ++ us)

-- the thing of a packet: mail of the infrastructure, or a packet of the source
abbrev pub IsUnderWay : ℕ → Thing → Packet → Type 0
IsUnderWay n (Thing.mail m Stage.on_the_way) k = (k ≡ packet_of n m k.tag) × (k.tag.role ≡ role.Plain → ⊥)
IsUnderWay n (Thing.packet p) k = (k ≡ p) × (k.tag.role ≡ role.Plain)
IsUnderWay n _ k = ⊥
