-- Where no site can act, each mark is that of one atom that waits, and nothing stands there that an atom waits for.
use Rattle.std.proofs.Common.{◌≡◌, ℕ, true, false, inl, inr, Option, None, Some, IsSome, List, [], ◌∷◌, refl, sym, ap, ◌∙◌}
use Rattle.std.specs.FinMap as map
use Rattle.np_syntax.specs.declared.value.Name.{Name}
use Rattle.np_syntax.specs.declared.value.Value.{Value}
use Rattle.np_syntax.specs.declared.value.Value.TheVariants as outs
use Rattle.np_syntax.specs.declared.value.Value as value
use Rattle.np_syntax.specs.declared.expression.Expr.{Expr}
use Rattle.np_syntax.specs.declared.pattern.Pat.{Pat}
use Rattle.np_syntax.specs.declared.process.Proc.{Proc}
use Rattle.np_syntax.specs.declared.process.ProcForm.TheVariants as forms
use Rattle.np_syntax.proofs.Options.{done}
use Rattle.np_calculus.specs.declared.config.Atom.{Atom}
use Rattle.np_calculus.specs.declared.config.Packet.{Packet}
use Rattle.np_calculus.specs.declared.config.Place.{Place}
use Rattle.np_calculus.specs.declared.config.Place.TheVariants as place
use Rattle.np_calculus.specs.Config.{Config}
use Rattle.np_calculus.specs.Idle.{Idle, waits}
use Rattle.np_calculus.specs.Parts.{IsLodged}
use Rattle.np_calculus.specs.Sight.{inside}
use Rattle.np_calculus.specs.Starts.{own}
use Rattle.np_eval.specs.Eval.{chan_of}
use Rattle.np_eval.specs.Forms.{given_on, layer, taken_on}
use Rattle.infrastructure_texts.specs.Pieces.{ack, beside, channel, currentloc, gives, nothing, sends, serves as serves_text, takes as takes_text, unit, variable}
use Rattle.infrastructure_texts.specs.Texts.{move_text}
use Rattle.infrastructure_texts.specs.Infrastructures.{Infrastructure}
use Rattle.simulate_laws.specs.things.Shapes.{Are, Gives, Is, IsAsking, IsBeginning, IsSettling}
use Rattle.simulate_laws.specs.things.Things.{Thing}
use Rattle.simulate_laws.specs.levels.Coupled.{Coupled, IsShaped, View}
use Rattle.simulate_laws.proofs.levels.Outputs.{is_output}
use Rattle.simulate_laws.proofs.levels.Values.{channel-is, no_value, variable-is}

-- an atom gives on a channel, and takes from one
pub record Giving (a : Atom) (chan : Name) : Type 0 where
  pub from : Expr
  pub form : given_on (layer a.proc) ≡ Some from
  pub on : chan_of from a.env ≡ Some chan

pub record Taking (a : Atom) (chan : Name) : Type 0 where
  pub to : Expr × Pat
  pub form : taken_on (layer a.proc) ≡ Some to
  pub on : chan_of to.0 a.env ≡ Some chan

pub gives_there : {a chan : Name} {v : Value} {low : Atom} → Gives a chan v low → Giving low chan
gives_there {a} {chan} {v} {low} g = let o = is_output low (chan, v) g.gives in record { from = o.on; form = ap given_on o.form; on = o.its_chan }

pub takes_own : (low : Atom) (n i k : ℕ) (x : Pat) (p : Proc) → low.proc ≡ takes_text k (channel n i) x p → Taking low (own n i)
takes_own low n i k x p is = record { to = (channel n i, x); form = ap (λ (q : Proc). taken_on (layer q)) is ∙ ap taken_on (forms.outs-Inp _ _ _); on = channel-is (own n i) low.env }

pub serves_own : (low : Atom) (n i k : ℕ) (x : Pat) (p : Proc) → low.proc ≡ serves_text k (channel n i) x p → Taking low (own n i)
serves_own low n i k x p is = record { to = (channel n i, x); form = ap (λ (q : Proc). taken_on (layer q)) is ∙ ap taken_on (forms.outs-Rep _ _ _); on = channel-is (own n i) low.env }

pub takes_bound : (low : Atom) (y k : ℕ) (x : Pat) (p : Proc) (l : Name) → low.proc ≡ takes_text k (variable y) x p → map.get low.env y ≡ Some (value.Chan l) → Taking low l
takes_bound low y k x p l is at = record {
  to = (variable y, x);
  form = ap (λ (q : Proc). taken_on (layer q)) is ∙ ap taken_on (forms.outs-Inp _ _ _);
  on = rw (variable-is y low.env, at, outs.outs-Chan l) refl;
}

-- who waits for the grant of a move, for the end of an affair, or to begin, takes an acknowledgement
pub asking_takes : {i : Infrastructure} (n from : ℕ) (x : Expr) (h low : Atom) → IsAsking i n from x h low → Taking low (own n 7)
asking_takes n from x h low i = takes_own low n 7 i.migrates.tag.node nothing (move_text n i.migrates.tag.node x i.migrates.to i.migrates.low) i.is

pub settling_takes : {i : Infrastructure} (n from : ℕ) (x : Expr) (h low : Atom) (s : ℕ) → IsSettling i n from x h s low → Taking low (own n 7)
settling_takes n from x h low s i = takes_own low n 7 i.node nothing (beside i.node i.body (gives i.node (currentloc n) i.at)) i.is

pub beginning_takes : {i : Infrastructure} (n from : ℕ) (x : Expr) (h low : Atom) (p : Name) (s : ℕ) → IsBeginning i n from x h p s low → Taking low (own n 7)
beginning_takes n from x h low p s i =
    takes_own low n 7 i.node nothing (beside i.node (beside i.node i.body (sends i.node i.maker (variable i.binder) (ack n) unit)) (gives i.node (currentloc n) (variable i.binder))) i.is

module _ {i : Infrastructure} {n from first : ℕ} {low high : Config} {v : View} (c : Coupled i n from first low high v) (lodged : IsLodged (inside low)) (idle : Idle low) where
  pub no_packet : (m : Name) (k : Packet) → map.get low.packets m ≡ Some k → ⊥
  no_packet m k h = idle k.to (inl (record { mark = m; packet = k; flies = h; to = refl }))

  pub no_arrival : (a : Name) (s : ℕ) → map.get low.places a ≡ Some (place.Way s) → ⊥
  no_arrival a s h = idle s (inr (inl (record { agent = a; comes = h })))

  -- an atom's agent is at a site
  stands : (m : Name) (a : Atom) → map.get low.atoms m ≡ Some a → (s : ℕ) × (map.get low.places a.agent ≡ Some (place.At s))
  stands m a h = go (map.get low.places a.agent) refl (lodged.each m a h)
    where
      go : (o : Option Place) → map.get low.places a.agent ≡ o → IsSome o → (s : ℕ) × (map.get low.places a.agent ≡ Some (place.At s))
      go None e i = absurd (let bad : false ≡ true = i in cc)
      go (Some (place.At s)) e i = (s, e)
      go (Some (place.Way s)) e i = absurd (no_arrival a.agent s e)

  -- none acts alone
  pub no_work : {A : Type 0} (m : Name) (a : Atom) → map.get low.atoms m ≡ Some a → waits (layer a.proc) ≡ false → A
  no_work m a h free =
      let s = stands m a h in
      absurd (idle s.0 (inr (inr (record { agent = a.agent; stands = s.1; works = inl (record { mark = m; atom = a; there = h; of = refl; acts = free }) }))))

  -- no two meet
  pub no_meeting : {A : Type 0} (o i : Name) (b a : Atom) (chan : Name) → map.get low.atoms o ≡ Some b → map.get low.atoms i ≡ Some a → b.agent ≡ a.agent → Giving b chan → Taking a chan → A
  no_meeting o i b a chan there here together g t =
      let s = stands i a here in
      absurd (idle s.0 (inr (inr (record {
        agent = a.agent;
        stands = s.1;
        works = inr (record {
          output = o;
          giver = b;
          gives = there;
          giver_of = together;
          input = i;
          taker = a;
          takes = here;
          taker_of = refl;
          from = g.from;
          output_form = g.form;
          to = t.to;
          input_form = t.form;
          chan = chan;
          given = g.on;
          taken = t.on;
        });
      }))))

  -- the one thing under a mark, and its atom
  pub record Alone (m : Name) (ts : List Thing) : Type 0 where
    pub thing : Thing
    pub alone : ts ≡ thing ∷ []
    pub atom : Atom
    pub there : map.get low.atoms m ≡ Some atom
    pub is : Is i n from first thing atom

  pub one_thing : (m : Name) (ts : List Thing) → map.get v.things m ≡ Some ts → Alone m ts
  one_thing m ts h = go (c.shaped m)
    where
      by_things : (a : Atom) (us : List Thing) → map.get low.atoms m ≡ Some a → ts ≡ us → Are i n from first a us → Alone m ts
      by_things a us there same (Are.one {t = t} i) = record { thing = t; alone = same; atom = a; there = there; is = i }
      by_things a us there same (Are.both is x y) = no_work m a there (ap (λ (q : Proc). waits (layer q)) is ∙ ap waits (forms.outs-Par _ _))

      go : IsShaped i n from first low v.things m → Alone m ts
      go (IsShaped.nothing a k t) = no_value (sym t ∙ h)
      go (IsShaped.packet {k = p} a k t u) = absurd (no_packet m p k)
      go (IsShaped.atom {a = a} {ts = us} there k t u r) = by_things a us there (done (sym t ∙ h)) r
