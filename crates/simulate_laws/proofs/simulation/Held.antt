-- What carries a letter under way holds it, and stands alone under its mark.
use Rattle.std.proofs.Common.{◌≡◌, ◌⊎◌, inl, inr, ℕ, ◌+◌, true, Some, List, [], ◌∷◌, refl, sym, ap, subst, ◌∙◌, arith}
use Rattle.std.specs.List.{All}
use Rattle.std.proofs.lemmas.List.Elements.{All-head}
use Rattle.std.specs.FinMap as map
use Rattle.std.specs.FinSet as set
use Rattle.np_syntax.specs.declared.value.Name.{Name}
use Rattle.np_syntax.specs.declared.value.Value as value
use Rattle.np_syntax.specs.declared.value.Value.TheVariants as outs
use Rattle.np_syntax.specs.declared.expression.Expr.{Expr}
use Rattle.np_syntax.specs.declared.process.Proc.{Proc}
use Rattle.np_syntax.specs.declared.process.ProcForm.TheVariants as forms
use Rattle.np_syntax.specs.Options.{◌>>=◌}
use Rattle.np_syntax.proofs.Options.{done}
use Rattle.np_tables.specs.Names.{NameSet}
use Rattle.np_calculus.specs.declared.config.Atom.{Atom}
use Rattle.np_calculus.specs.declared.config.Packet.{Packet}
use Rattle.np_calculus.specs.Config.{Config}
use Rattle.np_calculus.specs.Starts.{daemon_agent}
use Rattle.np_eval.specs.Eval.{eval}
use Rattle.np_eval.specs.Forms.{layer}
use Rattle.np_lift.specs.Posts.{Letter, letter_sent}
use Rattle.np_lift.specs.CachedPosts.{letter_carried, letter_tried}
use Rattle.infrastructure_texts.specs.Pieces.{stop, variable}
use Rattle.infrastructure_texts.specs.CacheTexts.{hands_back, tries}
use Rattle.infrastructure_texts.specs.Infrastructures.{Infrastructure}
use Rattle.simulate_laws.specs.protocol.Chips.{Service}
use Rattle.simulate_laws.specs.things.CacheShapes.{Carries, IsCarrying, IsTrying}
use Rattle.simulate_laws.specs.things.Desks.{Took}
use Rattle.simulate_laws.specs.things.Mail.{Mail, Posted, content}
use Rattle.simulate_laws.specs.things.Shapes.{Are, Is, IsMail, IsUnderWay, WaitsFor}
use Rattle.simulate_laws.specs.things.Things.{Stage, Thing, carried, letter_of_mail}
use Rattle.simulate_laws.specs.levels.Coupled.{Coupled, IsCarrier, IsShaped, View}
use Rattle.simulate_laws.specs.levels.Letters.{as_letter, first_letter_of, letter_under}
use Rattle.simulate_laws.specs.simulation.HeldLetters.{CarriesLetter, HasLetter, HoldsLetter, IsPlace, KeepsLetter, OfLeft}
use Rattle.simulate_laws.specs.simulation.OnePlace.{IsHolder}
use Rattle.simulate_laws.proofs.simulation.Holding.{are-some, no_value, packet-holder}

-- what is sent to the daemon, and what it delivers
in_message : (p : Posted) → HasLetter (as_letter p) (content (Mail.message p))
in_message p = HasLetter.in_tuple (value.Agent p.agent ∷ value.Letter p.chan p.value ∷ []) refl (1, omega arith, refl)

in_delivery : (p : Posted) (s : ℕ) → HasLetter (as_letter p) (content (Mail.deliver p s))
in_delivery p s = HasLetter.in_tuple (value.Letter p.chan p.value ∷ value.Site s ∷ []) refl (0, omega arith, refl)

-- ---- an atom

-- a copy of the daemon's server that took a message has its letter under a binder
took-letter : (first : ℕ) (service : Service) (m : Mail) (p : Posted) (a : Atom) → Took first service m a.env → letter_of_mail m ≡ Some p → KeepsLetter (as_letter p) a
took-letter first Service.passes_on (Mail.message q) p a took its = KeepsLetter.binds (first + 13) (took.1 ∙ ap (λ (r : Posted). Some (value.Letter r.chan r.value)) (sym (done its)))
took-letter first _ (Mail.message q) p a took its = absurd took
took-letter first Service.registers (Mail.deliver q s) p a took its = absurd took
took-letter first Service.grants (Mail.deliver q s) p a took its = absurd took
took-letter first Service.notes_moves (Mail.deliver q s) p a took its = absurd took
took-letter first Service.passes_on (Mail.deliver q s) p a took its = absurd took
took-letter first Service.ends_deliveries (Mail.deliver q s) p a took its = absurd took
took-letter first Service.tells (Mail.deliver q s) p a took its = absurd took
took-letter first _ _ p a took its = absurd cc

waits-letter : (n first : ℕ) (m : Mail) (l : Name) (p : Posted) (a : Atom) → WaitsFor n first m l a → letter_of_mail m ≡ Some p → KeepsLetter (as_letter p) a
waits-letter n first (Mail.message q) l p a w its = took-letter first Service.passes_on (Mail.message q) p a w.1 its
waits-letter n first (Mail.deliver q s) l p a w its = absurd w
waits-letter n first _ l p a w its = absurd cc

module _ (n : ℕ) (messengers : NameSet) (a : Atom) where
  by-holder : (l : Letter) → IsHolder n messengers l a.agent → KeepsLetter l a → CarriesLetter l a → HoldsLetter n messengers l a
  by-holder l (inl here) keeps carries = HoldsLetter.by_daemon here keeps
  by-holder l (inr (inl here)) keeps carries = HoldsLetter.by_receiver here keeps
  by-holder l (inr (inr here)) keeps carries = HoldsLetter.by_messenger here carries

  -- mail that has a letter, about to be sent from an agent
  leaves : (m : Mail) (x : Name) (p : Posted) → IsMail n m (Stage.in_agent x) a → letter_of_mail m ≡ Some p → IsHolder n messengers (as_letter p) a.agent
      → HoldsLetter n messengers (as_letter p) a
  leaves (Mail.message q) x p is its holder =
      let mails = is.0 in
      let has : HasLetter (as_letter p) (content (Mail.message q)) = subst (λ r. HasLetter (as_letter r) (content (Mail.message q))) (sym (done its)) (in_message q) in
      let holds : eval mails.sent a.env ≡ Some (value.Tuple (value.Agent q.agent ∷ value.Letter q.chan q.value ∷ [])) = mails.holds in
      let sent : letter_sent (layer a.proc) a.env ≡ Some (as_letter q) =
      ap (λ l. letter_sent l a.env) mails.is
      ∙ rw (holds, outs.outs-Tuple (value.Agent q.agent ∷ value.Letter q.chan q.value ∷ []), outs.outs-Agent q.agent, outs.outs-Letter q.chan q.value) refl in
      by-holder (as_letter p) holder (KeepsLetter.mails mails.is mails.holds has) (CarriesLetter.hands_back (sent ∙ ap (λ r. Some (as_letter r)) (sym (done its))))
  leaves (Mail.deliver q s) x p is its holder =
      let mails = is.0 in
      HoldsLetter.by_daemon (mails.agent ∙ is.1)
      (KeepsLetter.mails mails.is mails.holds (subst (λ r. HasLetter (as_letter r) (content (Mail.deliver q s))) (sym (done its)) (in_delivery q s)))
  leaves _ x p is its holder = absurd cc

  -- there as an output
  stands : (m : Mail) (p : Posted) → IsMail n m Stage.there a → letter_of_mail m ≡ Some p → HoldsLetter n messengers (as_letter p) a
  stands (Mail.message q) p is its =
      HoldsLetter.by_daemon is.agent (KeepsLetter.outputs is.gives (subst (λ r. HasLetter (as_letter r) (content (Mail.message q))) (sym (done its)) (in_message q)))
  stands (Mail.deliver q s) p is its =
      HoldsLetter.by_receiver (is.agent ∙ ap (λ (r : Posted). r.agent) (sym (done its)))
      (KeepsLetter.outputs is.gives (subst (λ r. HasLetter (as_letter r) (content (Mail.deliver q s))) (sym (done its)) (in_delivery q s)))
  stands _ p is its = absurd cc

  -- with a messenger
  its-test : (node : ℕ) (named to on sent : Expr) (p : Posted) (s : Name) → Carries p s named to on sent a.env
      → letter_tried (layer (tries n node named to on sent)) a.env ≡ Some (as_letter p)
  its-test node named to on sent p s carries =
      rw (forms.outs-IfLocal to on sent (stop node) (hands_back n node named to on sent), carries.for_agent, carries.its_chan, carries.its_value) refl

  travels : (p : Posted) (t s : Name) → IsCarrying n p t s a → set.contains messengers t ≡ true → HoldsLetter n messengers (as_letter p) a
  travels p t s is one =
      let text = ap layer is.is ∙ forms.outs-Migrate (variable is.site) (tries n is.node is.named is.to is.on is.sent) in
      HoldsLetter.by_messenger (ap (set.contains messengers) is.agent ∙ one)
      (CarriesLetter.travels (ap (λ l. letter_carried l a.env) text ∙ its-test is.node is.named is.to is.on is.sent p s is.carries))

  tests : (p : Posted) (t s : Name) → IsTrying n p t s a → set.contains messengers t ≡ true → HoldsLetter n messengers (as_letter p) a
  tests p t s is one =
      HoldsLetter.by_messenger (ap (set.contains messengers) is.agent ∙ one)
      (CarriesLetter.tries (ap (λ (q : Proc). letter_tried (layer q) a.env) is.is ∙ its-test is.node is.named is.to is.on is.sent p s is.carries))

  -- by what the atom is there for
  holds-letter : (i : Infrastructure) (from first : ℕ) (t : Thing) (p : Posted) → Is i n from first t a → IsCarrier messengers t → carried t ≡ Some p
      → IsHolder n messengers (as_letter p) a.agent → HoldsLetter n messengers (as_letter p) a
  holds-letter i from first (Thing.opening q) p is one its holder =
      let opens = is.0 in
      HoldsLetter.by_receiver (opens.agent ∙ ap (λ (r : Posted). r.agent) (sym (done its)))
      (KeepsLetter.opens opens.is (opens.holds ∙ ap (λ (r : Posted). Some (r.chan, r.value)) (sym (done its))))
  holds-letter i from first (Thing.mail m (Stage.in_agent x)) p is one its holder = leaves m x p is its holder
  holds-letter i from first (Thing.mail m Stage.on_the_way) p is one its holder = absurd is
  holds-letter i from first (Thing.mail m Stage.there) p is one its holder = stands m p is its
  holds-letter i from first (Thing.taken m) p is one its holder = HoldsLetter.by_daemon is.agent (took-letter first is.service m p a is.took its)
  holds-letter i from first (Thing.looking m ps) p is one its holder = HoldsLetter.by_daemon is.agent (took-letter first is.service m p a is.took its)
  holds-letter i from first (Thing.wanting m l) p is one its holder = HoldsLetter.by_daemon is.agent (waits-letter n first m l p a is.waits its)
  holds-letter i from first (Thing.carrying q t s) p is one its holder = subst (λ r. HoldsLetter n messengers (as_letter r) a) (sym (done its)) (travels q t s is.1 one)
  holds-letter i from first (Thing.trying q t s) p is one its holder = subst (λ r. HoldsLetter n messengers (as_letter r) a) (sym (done its)) (tests q t s is.1 one)
  holds-letter i from first _ p is one its holder = absurd cc

-- of several things the first
abbrev IsFirstCarrier : NameSet → List Thing → Type 0
IsFirstCarrier messengers [] = Unit {0}
IsFirstCarrier messengers (t ∷ ts) = IsCarrier messengers t

first-carrier : (messengers : NameSet) (ts : List Thing) → All (IsCarrier messengers) ts → IsFirstCarrier messengers ts
first-carrier messengers [] all = tt
first-carrier messengers (t ∷ ts) all = All-head (IsCarrier messengers) t ts all

left-holds : {i : Infrastructure} {n from first : ℕ} (messengers : NameSet) (p : Posted) {a : Atom} {ts : List Thing} → Are i n from first a ts → IsFirstCarrier messengers ts
    → first_letter_of ts ≡ Some p → IsHolder n messengers (as_letter p) a.agent → OfLeft (HoldsLetter n messengers (as_letter p)) a
left-holds {i = i} {n = n} {from = from} {first = first} messengers p {a = a} (Are.one {t = t} is) one its holder = OfLeft.here (holds-letter n messengers a i from first t p is one its holder)
left-holds messengers p (Are.both {ts = []} is left right) one its holder = absurd (are-some left refl)
left-holds messengers p (Are.both {p = q} {q = r} {ts = t ∷ ts} is left right) one its holder =
    OfLeft.left (ap layer is ∙ forms.outs-Par q r) (left-holds messengers p left one its holder)

-- ---- a packet

packet-has : (n : ℕ) (t : Thing) (k : Packet) (p : Posted) → IsUnderWay n t k → carried t ≡ Some p → HasLetter (as_letter p) k.value
packet-has n (Thing.mail (Mail.message q) Stage.on_the_way) k p is its =
    subst (HasLetter (as_letter p)) (sym (ap (λ (k : Packet). k.value) is.0)) (subst (λ r. HasLetter (as_letter r) (content (Mail.message q))) (sym (done its)) (in_message q))
packet-has n (Thing.mail (Mail.deliver q s) Stage.on_the_way) k p is its =
    subst (HasLetter (as_letter p)) (sym (ap (λ (k : Packet). k.value) is.0)) (subst (λ r. HasLetter (as_letter r) (content (Mail.deliver q s))) (sym (done its)) (in_delivery q s))
packet-has n (Thing.mail m Stage.on_the_way) k p is its = absurd cc
packet-has n (Thing.packet q) k p is its = absurd cc
packet-has n _ k p is its = absurd is

-- ---- what is under a mark with a letter

module _ {i : Infrastructure} {n from first : ℕ} {low high : Config} {v : View} (c : Coupled i n from first low high v) where
  pub place : (m : Name) (p : Posted) → letter_under v.things m ≡ Some p
      → ((a : Atom) → map.get low.atoms m ≡ Some a → IsHolder n v.standing.messengers (as_letter p) a.agent)
      → IsPlace low v.standing.messengers (as_letter p) m
  place m p has holder = go (c.shaped m)
    where
      go : IsShaped i n from first low v.things m → IsPlace low v.standing.messengers (as_letter p) m
      go (IsShaped.nothing x y none) = no_value (letter_under v.things m) (ap (λ o. o >>= first_letter_of) none) has
      go (IsShaped.atom {a = a} {ts = ts} x y there headed are) =
          IsPlace.atom x y (subst (λ k. OfLeft (HoldsLetter k v.standing.messengers (as_letter p)) a) (sym c.low_sites)
          (left-holds v.standing.messengers p are (first-carrier v.standing.messengers ts (c.carriers m ts there)) (sym (ap (λ o. o >>= first_letter_of) there) ∙ has) (holder a x)))
      go (IsShaped.packet {k = k} {t = t} x y there is) =
          let its : carried t ≡ Some p = sym (ap (λ o. o >>= first_letter_of) there) ∙ has in
          IsPlace.packet y x (subst (λ s. (k.agent ≡ daemon_agent s) ⊎ (k.agent ≡ p.agent)) (sym c.low_sites) (packet-holder n t k p is its)) (packet-has n t k p is its)
