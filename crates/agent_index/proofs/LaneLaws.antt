-- How one write of the table of lanes shows in the lines, in the rooms and in who waits.
use Rattle.std.proofs.Common.{◌≡◌, ◌≤◌, ◌+◌, Bool, true, false, cond, ◌&&◌, List, [], ◌∷◌, ◌++◌, Option, None, Some, Result, Ok, Err, MatchOption, OnOk, refl, sym, ap, subst, ◌∙◌, arith}
use Rattle.std.specs.FinMap as map
use Rattle.np_syntax.specs.declared.value.Name.{Name}
use Rattle.np_syntax.proofs.Options.{done}
use Rattle.np_tables.specs.Names.{NameMap, same_name}
use Rattle.np_tables.proofs.Tables.{get-none, get-put, get-cut, same_name-is, same_name-itself, same_name-swap, cut-put, put_here}
use Rattle.agent_index.specs.declared.wait.Wait.{Wait}
use Rattle.agent_index.specs.declared.wait.Wait.TheVariants as wait
use Rattle.agent_index.specs.Lines.{Waiting, is_none, is_bare, inputs_in, outputs_in, in_line, same_line, without, SetsLine}
use Rattle.agent_index.specs.Lanes.{free, owes, HasRooms, AreFilled, HadRoom, HasLeft, IsOpened, LosesInput, LosesOutput, OwesMore, IsGrown, BothGrown, AreGrown, IsPaid}

-- what was opened has a place
pub opened-room : (lanes : NameMap Waiting) (f s : Option Name) (chan : Name) (w : Waiting) → HasRooms lanes f s → 1 ≤ free f + free s → IsOpened (map.get lanes chan) w
    → 2 ≤ w.room + (owes f chan + owes s chan)
opened-room lanes f s chan w rooms h opened = by (map.get lanes chan) refl opened.room
  where
    by : (o : Option Waiting) → map.get lanes chan ≡ o → HadRoom o w.room → 2 ≤ w.room + (owes f chan + owes s chan)
    by None is had = omega (arith, had)
    by (Some v) is had = let r = rooms.each chan v is in omega (arith, had, r)

-- the table after a write for a channel: this stands for it, or nothing
module _ (old after : NameMap Waiting) (chan : Name) (o : Option Waiting) (is : (q : Name) → map.get after q ≡ cond (same_name q chan) o (map.get old q)) where
  put_line : (side : Option Waiting → List Name) (line : List Name) → side o ≡ line → (c : Name) → side (map.get after c) ≡ cond (same_name chan c) line (side (map.get old c))
  put_line side line h c = ap side (is c) ∙ by (same_name c chan) ∙ ap (λ t. cond t line (side (map.get old c))) (same_name-swap c chan)
    where
      by : (t : Bool) → side (cond t o (map.get old c)) ≡ cond t line (side (map.get old c))
      by true = h
      by false = refl

  keep_line : (side : Option Waiting → List Name) → side o ≡ side (map.get old chan) → (c : Name) → side (map.get after c) ≡ side (map.get old c)
  keep_line side h c = ap side (is c) ∙ by (same_name c chan) refl
    where
      by : (t : Bool) → same_name c chan ≡ t → side (cond t o (map.get old c)) ≡ side (map.get old c)
      by true same = h ∙ ap (λ d. side (map.get old d)) (sym (same_name-is c chan same))
      by false same = refl

  pub gives-set : (line : List Name) → outputs_in o ≡ line → inputs_in o ≡ inputs_in (map.get old chan) → SetsLine old after (wait.Gives chan) line
  gives-set line outs ins = record { at = by }
    where
      by : (f : Wait) → in_line after f ≡ cond (same_line (wait.Gives chan) f) line (in_line old f)
      by (wait.Gives c) = put_line outputs_in line outs c
      by (wait.Takes c) = keep_line inputs_in ins c
      by wait.Acts = refl
      by wait.Stuck = refl

  pub takes-set : (line : List Name) → inputs_in o ≡ line → outputs_in o ≡ outputs_in (map.get old chan) → SetsLine old after (wait.Takes chan) line
  takes-set line ins outs = record { at = by }
    where
      by : (f : Wait) → in_line after f ≡ cond (same_line (wait.Takes chan) f) line (in_line old f)
      by (wait.Takes c) = put_line inputs_in line ins c
      by (wait.Gives c) = keep_line outputs_in outs c
      by wait.Acts = refl
      by wait.Stuck = refl

  pub rooms-set : (f s g t : Option Name) → HasRooms old f s → ((q : Name) → owes f q + owes s q ≤ owes g q + owes t q)
      → ((w : Waiting) → o ≡ Some w → 2 ≤ w.room + (owes g chan + owes t chan)) → HasRooms after g t
  rooms-set f s g t rooms more here = record { each = λ q w e. by q w (same_name q chan) refl (sym (is q) ∙ e) }
    where
      by : (q : Name) (w : Waiting) (u : Bool) → same_name q chan ≡ u → cond u o (map.get old q) ≡ Some w → 2 ≤ w.room + (owes g q + owes t q)
      by q w true same e = subst (λ c. 2 ≤ w.room + (owes g c + owes t c)) (sym (same_name-is q chan same)) (here w e)
      by q w false same e = let r = rooms.each q w e in let m = more q in omega (arith, r, m)

  pub filled-set : AreFilled old → ((w : Waiting) → o ≡ Some w → is_bare w ≡ false) → AreFilled after
  filled-set filled here = record { each = λ q w e. by q w (same_name q chan) refl (sym (is q) ∙ e) }
    where
      by : (q : Name) (w : Waiting) (u : Bool) → same_name q chan ≡ u → cond u o (map.get old q) ≡ Some w → is_bare w ≡ false
      by q w true same e = here w e
      by q w false same e = filled.each q w e

-- look-ups after the write
pub after-put : (old after : NameMap Waiting) (chan : Name) (w : Waiting) → after ≡ map.insert old chan w → (q : Name) → map.get after q ≡ cond (same_name q chan) (Some w) (map.get old q)
after-put old after chan w is q = ap (λ m. map.get m q) is ∙ get-put old chan w q

-- who waits afterwards, if there is someone
abbrev pub left : Waiting → Option Waiting
left w = cond (is_bare w) None (Some w)

pub after-settle : (old after : NameMap Waiting) (chan : Name) (w : Waiting) → after ≡ cond (is_bare w) (map.remove old chan) (map.insert old chan w)
    → (q : Name) → map.get after q ≡ cond (same_name q chan) (left w) (map.get old q)
after-settle old after chan w is q = ap (λ m. map.get m q) is ∙ by (is_bare w)
  where
    by : (t : Bool) → map.get (cond t (map.remove old chan) (map.insert old chan w)) q ≡ cond (same_name q chan) (cond t None (Some w)) (map.get old q)
    by true = get-cut old chan q
    by false = get-put old chan w q

none-is : (xs : List Name) → is_none xs ≡ true → xs ≡ []
none-is [] h = refl
none-is (x ∷ xs) h = absurd cc

both : (s t : Bool) → (s && t) ≡ true → (s ≡ true) × (t ≡ true)
both true true h = (refl, refl)
both true false h = absurd cc
both false t h = absurd cc

pub left-inputs : (w : Waiting) → inputs_in (left w) ≡ w.inputs
left-inputs w = by (is_bare w) refl
  where
    by : (t : Bool) → is_bare w ≡ t → inputs_in (cond t None (Some w)) ≡ w.inputs
    by true h = sym (none-is w.inputs (both (is_none w.inputs) (is_none w.outputs) h).0)
    by false h = refl

pub left-outputs : (w : Waiting) → outputs_in (left w) ≡ w.outputs
left-outputs w = by (is_bare w) refl
  where
    by : (t : Bool) → is_bare w ≡ t → outputs_in (cond t None (Some w)) ≡ w.outputs
    by true h = sym (none-is w.outputs (both (is_none w.inputs) (is_none w.outputs) h).1)
    by false h = refl

pub left-filled : (w v : Waiting) → left w ≡ Some v → (v ≡ w) × (is_bare w ≡ false)
left-filled w v h = by (is_bare w) refl h
  where
    by : (t : Bool) → is_bare w ≡ t → cond t None (Some w) ≡ Some v → (v ≡ w) × (is_bare w ≡ false)
    by true b h = absurd (let x = h in cc)
    by false b h = (let x = h in cc, b)

some-more : (xs : List Name) (m : Name) → is_none (xs ++ m ∷ []) ≡ false
some-more [] m = refl
some-more (x ∷ xs) m = refl

and_false : (t : Bool) → (t && false) ≡ false
and_false true = refl
and_false false = refl

pub more-outputs : (w : Waiting) (xs : List Name) (m : Name) → w.outputs ≡ xs ++ m ∷ [] → is_bare w ≡ false
more-outputs w xs m h = ap (λ ys. is_none w.inputs && is_none ys) h ∙ ap (λ t. is_none w.inputs && t) (some-more xs m) ∙ and_false (is_none w.inputs)

pub more-inputs : (w : Waiting) (xs : List Name) (m : Name) → w.inputs ≡ xs ++ m ∷ [] → is_bare w ≡ false
more-inputs w xs m h = ap (λ ys. is_none ys && is_none w.outputs) h ∙ ap (λ t. t && is_none w.outputs) (some-more xs m)

-- ---- rooms that grow

module _ (old new : NameMap Waiting) (grown : AreGrown old new) where
  -- what stands there stood there, with no more room
  pub record Grew (q : Name) (w : Waiting) : Type 0 where
    pub before : Waiting
    pub stood : map.get old q ≡ Some before
    pub grew : IsGrown before w

-- ---- a mark that comes

module _ (old after : NameMap Waiting) (f s g t : Option Name) (chan : Name) (v w : Waiting) (is : after ≡ map.insert old chan w) where
  pub entered-rooms : HasRooms old f s → 1 ≤ free f + free s → IsOpened (map.get old chan) v → v.room ≤ w.room + 1 → OwesMore g t f s chan → HasRooms after g t
  entered-rooms rooms h opened room owe =
      rooms-set old after chan (Some w) (after-put old after chan w is) f s g t rooms (λ q. let e = owe.owes q in omega (arith, e))
      (λ u e. subst (λ (x : Waiting). 2 ≤ x.room + (owes g chan + owes t chan)) (sym (done e)) here)
    where
      more : owes g chan + owes t chan ≡ owes f chan + owes s chan + 1
      more = owe.owes chan ∙ ap (λ u. owes f chan + owes s chan + cond u 1 0) (same_name-itself chan)

      here : 2 ≤ w.room + (owes g chan + owes t chan)
      here = let r = opened-room old f s chan v rooms h opened in omega (arith, r, room, more)

  pub entered-filled : AreFilled old → is_bare w ≡ false → AreFilled after
  entered-filled filled full = filled-set old after chan (Some w) (after-put old after chan w is) filled (λ u e. subst (λ x. is_bare x ≡ false) (sym (done e)) full)

-- ---- a mark that goes

module _ (old after : NameMap Waiting) (f s : Option Name) (chan : Name) (v w : Waiting) (stood : Some v ≡ map.get old chan)
    (is : after ≡ cond (is_bare w) (map.remove old chan) (map.insert old chan w)) where
  pub left-rooms : HasRooms old f s → v.room ≤ w.room → HasRooms after f s
  left-rooms rooms room =
      rooms-set old after chan (left w) (after-settle old after chan w is) f s f s rooms (λ q. omega arith)
      (λ u e. subst (λ (x : Waiting). 2 ≤ x.room + (owes f chan + owes s chan)) (sym (left-filled w u e).0) (let r = rooms.each chan v (sym stood) in omega (arith, r, room)))

  pub left-all : AreFilled old → AreFilled after
  left-all filled =
      filled-set old after chan (left w) (after-settle old after chan w is) filled
      (λ u e. subst (λ x. is_bare x ≡ false) (sym (left-filled w u e).0) (left-filled w u e).1)

-- no one waited there
pub after-none : (old after : NameMap Waiting) (chan : Name) → None ≡ map.get old chan → after ≡ old → (q : Name) → map.get after q ≡ cond (same_name q chan) None (map.get old q)
after-none old after chan none is q = ap (λ m. map.get m q) is ∙ by (same_name q chan) refl
  where
    by : (t : Bool) → same_name q chan ≡ t → map.get old q ≡ cond t None (map.get old q)
    by true same = ap (map.get old) (same_name-is q chan same) ∙ sym none
    by false same = refl

-- ---- a channel whose lane is changed in place

-- what is left of a channel from which a mark goes, if someone waits there
abbrev pub Goes : (Waiting → Waiting → Type 0) → NameMap Waiting → Name → NameMap Waiting → Type 0
Goes Loses old chan new = MatchOption (map.get old chan) (new ≡ old) (HasLeft Loses old chan new)

-- no one is left in the lane that stands for a channel
pub bare-here : (old : NameMap Waiting) (chan : Name) (w : Waiting) → is_bare w ≡ true → (v : Waiting) → map.get (map.insert old chan w) chan ≡ Some v → is_bare v ≡ true
bare-here old chan w bare v e = subst (λ x. is_bare x ≡ true) (done (sym e ∙ put_here old chan w)) bare

pub goes-bare : (Loses : Waiting → Waiting → Type 0) (old new : NameMap Waiting) (chan : Name) (v w : Waiting) → Some v ≡ map.get old chan → Loses v w → is_bare w ≡ true
    → new ≡ map.remove (map.insert old chan w) chan → Goes Loses old chan new
goes-bare Loses old new chan v w stood loses bare is = subst (λ o. MatchOption o (new ≡ old) (HasLeft Loses old chan new)) stood (record {
  after = w;
  loses = loses;
  items = is ∙ cut-put old chan w ∙ subst (λ t. map.remove old chan ≡ cond t (map.remove old chan) (map.insert old chan w)) (sym bare) refl;
})

module _ (Loses : Waiting → Waiting → Type 0) (room : (v w : Waiting) → Loses v w → v.room ≤ w.room) (old new : NameMap Waiting) (chan : Name) where
  pub gone-rooms : (f s : Option Name) → Goes Loses old chan new → HasRooms old f s → HasRooms new f s
  gone-rooms f s goes rooms = by (map.get old chan) refl goes
    where
      by : (o : Option Waiting) → map.get old chan ≡ o → MatchOption o (new ≡ old) (HasLeft Loses old chan new) → HasRooms new f s
      by None is same = subst (λ m. HasRooms m f s) (sym same) rooms
      by (Some v) is left = left-rooms old new f s chan v left.after (sym is) left.items rooms (room v left.after left.loses)

  pub gone-filled : (f s : Option Name) → Goes Loses old chan new → AreFilled old → AreFilled new
  gone-filled f s goes filled = by (map.get old chan) refl goes
    where
      by : (o : Option Waiting) → map.get old chan ≡ o → MatchOption o (new ≡ old) (HasLeft Loses old chan new) → AreFilled new
      by None is same = subst AreFilled (sym same) filled
      by (Some v) is left = left-all old new f s chan v left.after (sym is) left.items filled

module _ (old new : NameMap Waiting) (chan mark : Name) where
  pub gone-output : Goes (LosesOutput mark) old chan new → SetsLine old new (wait.Gives chan) (without (in_line old (wait.Gives chan)) mark)
  gone-output goes = by (map.get old chan) refl goes
    where
      by : (o : Option Waiting) → map.get old chan ≡ o → MatchOption o (new ≡ old) (HasLeft (LosesOutput mark) old chan new)
          → SetsLine old new (wait.Gives chan) (without (in_line old (wait.Gives chan)) mark)
      by None is same = gives-set old new chan None (after-none old new chan (sym is) same) _ (ap (λ o. without (outputs_in o) mark) (sym is)) (ap inputs_in (sym is))
      by (Some v) is l =
          gives-set old new chan (left l.after) (after-settle old new chan l.after l.items) _
          (left-outputs l.after ∙ l.loses.outputs ∙ ap (λ o. without (outputs_in o) mark) (sym is)) (left-inputs l.after ∙ l.loses.inputs ∙ ap inputs_in (sym is))

  pub gone-input : Goes (LosesInput mark) old chan new → SetsLine old new (wait.Takes chan) (without (in_line old (wait.Takes chan)) mark)
  gone-input goes = by (map.get old chan) refl goes
    where
      by : (o : Option Waiting) → map.get old chan ≡ o → MatchOption o (new ≡ old) (HasLeft (LosesInput mark) old chan new)
          → SetsLine old new (wait.Takes chan) (without (in_line old (wait.Takes chan)) mark)
      by None is same = takes-set old new chan None (after-none old new chan (sym is) same) _ (ap (λ o. without (inputs_in o) mark) (sym is)) (ap outputs_in (sym is))
      by (Some v) is l =
          takes-set old new chan (left l.after) (after-settle old new chan l.after l.items) _
          (left-inputs l.after ∙ l.loses.inputs ∙ ap (λ o. without (inputs_in o) mark) (sym is)) (left-outputs l.after ∙ l.loses.outputs ∙ ap outputs_in (sym is))

-- ---- what is paid

both-itself : (o : Option Waiting) → BothGrown o o
both-itself None = tt
both-itself (Some v) = record { inputs = refl; outputs = refl; room = omega arith }

pub grown-put : (old after : NameMap Waiting) (chan : Name) (v w : Waiting) → Some v ≡ map.get old chan → after ≡ map.insert old chan w → IsGrown v w → AreGrown old after
grown-put old after chan v w stood is grew = record { each = λ q. subst (BothGrown (map.get old q)) (sym (after-put old after chan w is q)) (by q (same_name q chan) refl) }
  where
    by : (q : Name) (t : Bool) → same_name q chan ≡ t → BothGrown (map.get old q) (cond t (Some w) (map.get old q))
    by q true same = subst (λ o. BothGrown o (Some w)) (stood ∙ ap (map.get old) (sym (same_name-is q chan same))) grew
    by q false same = both-itself (map.get old q)

pub paid-put : (old after : NameMap Waiting) (owed : Option Name) (chan : Name) (w : Waiting) → after ≡ map.insert old chan w → owed ≡ Some chan → 2 ≤ w.room → IsPaid after owed
paid-put old after owed chan w is owes_it room = record {
  each = λ q u h e.
      let here : q ≡ chan = done (sym owes_it ∙ h) in
      let there : Some w ≡ Some u =
      sym (after-put old after chan w is chan ∙ ap (λ t. cond t (Some w) (map.get old chan)) (same_name-itself chan)) ∙ ap (map.get after) (sym here) ∙ e in
      subst (λ (x : Waiting). 2 ≤ x.room) (sym (done there)) room;
}

pub ok-to : {A E P Q : Type 0} (r : Result A E) → (P → Q) → OnOk r P → OnOk r Q
ok-to (Ok a) f p = f p
ok-to (Err e) f p = tt

-- no one waits on any channel
pub no-rooms : (lanes : NameMap Waiting) (f s : Option Name) → lanes ≡ map.empty → HasRooms lanes f s
no-rooms lanes f s is = record { each = λ q w e. absurd (let x = sym (ap (λ m. map.get m q) is ∙ get-none q) ∙ e in cc) }

pub no-filled : (lanes : NameMap Waiting) → lanes ≡ map.empty → AreFilled lanes
no-filled lanes is = record { each = λ q w e. absurd (let x = sym (ap (λ m. map.get m q) is ∙ get-none q) ∙ e in cc) }
