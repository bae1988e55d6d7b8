-- A process that the grammar gives is canonical, and so are the names of sites.
use Rattle.std.proofs.Common.{◌≡◌, ℕ, suc, List, [], ◌∷◌, ◌++◌, refl, ap}
use Rattle.np_syntax.specs.declared.types.Ty.{Ty}
use Rattle.np_lex.specs.declared.token.Key.TheVariants as key
use Rattle.np_lex.specs.declared.token.Sign.TheVariants as sign
use Rattle.np_lex.specs.declared.token.Token.{Token}
use Rattle.np_lex.specs.declared.token.What.TheVariants as what
use Rattle.np_lex.specs.Tokens.{IsLegal, AllLegal, sign_at, word_at, name_at}
use Rattle.np_tree.specs.declared.tree.Ident.{Ident}
use Rattle.np_tree.specs.declared.tree.RawExpr.{RawExpr}
use Rattle.np_tree.specs.declared.tree.RawPat.{RawPat}
use Rattle.np_tree.specs.declared.tree.RawProc.{RawProc}
use Rattle.np_tree.specs.declared.tree.RawProcForm as form
use Rattle.np_tree.specs.Grammar as g
use Rattle.np_tree.specs.Grammar.{ident, process, IsProc, AreMany, AreSites}
use Rattle.np_show.proofs.Canon.{legal_front, legal_back, IsCanonChan, canon_chan, IsCanonPat, canon_pat, IsCanon, canon_atom, canon_expr}

pub data IsCanonProc (limit : ℕ) : ℕ → RawProc → Type 0 where
  stop : {d at : ℕ} → IsCanonProc limit (suc d) (process at form.Stop)
  par : {d at : ℕ} {x y : RawProc} → IsCanonProc limit d x → IsCanonProc limit d y → IsCanonProc limit (suc d) (process at (form.Par x y))
  channel : {d at i : ℕ} {c : List ℕ} {t : Ty} {x : RawProc} → IsLegal (what.Ident c) → IsCanonChan limit t → IsCanonProc limit d x
      → IsCanonProc limit (suc d) (process at (form.New (ident i c) t x))
  output : {d at i : ℕ} {c : List ℕ} {x : RawExpr} → IsLegal (what.Ident c) → IsCanon 0 limit x → IsCanonProc limit (suc d) (process at (form.Out (ident i c) x))
  input : {d at i : ℕ} {c : List ℕ} {p : RawPat} {x : RawProc} → IsLegal (what.Ident c) → IsCanonPat limit p → IsCanonProc limit d x
      → IsCanonProc limit (suc d) (process at (form.Inp (ident i c) p x))
  replicated : {d at i : ℕ} {c : List ℕ} {p : RawPat} {x : RawProc} → IsLegal (what.Ident c) → IsCanonPat limit p → IsCanonProc limit d x
      → IsCanonProc limit (suc d) (process at (form.Rep (ident i c) p x))
  agent : {d at i : ℕ} {c : List ℕ} {x y : RawProc} → IsLegal (what.Ident c) → IsCanonProc limit d x → IsCanonProc limit d y
      → IsCanonProc limit (suc d) (process at (form.Agent (ident i c) x y))
  migrate : {d at : ℕ} {x : RawExpr} {y : RawProc} → IsCanon 0 limit x → IsCanonProc limit d y → IsCanonProc limit (suc d) (process at (form.Migrate x y))
  iflocal : {d at i : ℕ} {c : List ℕ} {x z : RawExpr} {p q : RawProc} → IsCanon 3 limit x → IsLegal (what.Ident c) → IsCanon 0 limit z → IsCanonProc limit d p → IsCanonProc limit d q
      → IsCanonProc limit (suc d) (process at (form.IfLocal x (ident i c) z p q))
  send : {d at i : ℕ} {c : List ℕ} {x y z : RawExpr} → IsCanon 3 limit x → IsCanon 3 limit y → IsLegal (what.Ident c) → IsCanon 0 limit z
      → IsCanonProc limit (suc d) (process at (form.Send x y (ident i c) z))
  post : {d at i : ℕ} {c : List ℕ} {x z : RawExpr} → IsCanon 3 limit x → IsLegal (what.Ident c) → IsCanon 0 limit z → IsCanonProc limit (suc d) (process at (form.Post x (ident i c) z))
  test : {d at : ℕ} {x : RawExpr} {p q : RawProc} → IsCanon 0 limit x → IsCanonProc limit d p → IsCanonProc limit d q → IsCanonProc limit (suc d) (process at (form.If x p q))
  bind : {d at : ℕ} {p : RawPat} {x : RawExpr} {y : RawProc} → IsCanonPat limit p → IsCanon 0 limit x → IsCanonProc limit d y → IsCanonProc limit (suc d) (process at (form.Let p x y))
  print : {d at : ℕ} {x : RawExpr} → IsCanon 0 limit x → IsCanonProc limit (suc d) (process at (form.Print x))

mutual
  pub canon_proc : {m d : ℕ} {ts : List Token} {x : RawProc} → IsProc m d ts x → AllLegal ts → IsCanonProc m d x
  canon_proc g.stop h = stop
  canon_proc (g.bracket {ts = ts} a b x) h = canon_many x (legal_front ts _ h.1)
  canon_proc (g.channel {ts = ts} {us = us} a b t x) h =
      channel h.1.0 (canon_chan t) (canon_proc x (legal_back ts (word_at a b key.In ∷ us) h.1.1.1).1)
  canon_proc (g.output x) h = output h.0 (canon_expr x h.1.1)
  canon_proc (g.input {ts = ts} {us = us} a b p x) h =
      input h.0 (canon_pat p (legal_front ts _ h.1.1)) (canon_proc x (legal_back ts (sign_at a b sign.Arrow ∷ us) h.1.1).1)
  canon_proc (g.replicated {ts = ts} {us = us} a b p x) h =
      replicated h.1.0 (canon_pat p (legal_front ts _ h.1.1.1)) (canon_proc x (legal_back ts (sign_at a b sign.Arrow ∷ us) h.1.1.1).1)
  canon_proc (g.agent {ts = ts} {us = us} a b x y) h =
      agent h.1.0 (canon_proc x (legal_front ts _ h.1.1.1)) (canon_proc y (legal_back ts (word_at a b key.In ∷ us) h.1.1.1).1)
  canon_proc (g.migrate {ts = ts} {us = us} a b x y) h =
      migrate (canon_expr x (legal_front ts _ h.1.1)) (canon_proc y (legal_back ts (sign_at a b sign.Arrow ∷ us) h.1.1).1)
  canon_proc (g.iflocal {text = text} {ts = ts} {us = us} {vs = vs} {ws = ws} a b i j e f m n k l x z p q) h =
      let last = vs ++ word_at k l key.Else ∷ ws in
      let behind = legal_back ts (sign_at a b sign.Greater ∷ name_at i j text ∷ sign_at e f sign.Bang ∷ (us ++ word_at m n key.Then ∷ last)) h.1.1 in
      let branches = (legal_back us (word_at m n key.Then ∷ last) behind.1.1.1).1 in
      iflocal (canon_atom x (legal_front ts _ h.1.1)) behind.1.0 (canon_expr z (legal_front us _ behind.1.1.1)) (canon_proc p (legal_front vs _ branches))
      (canon_proc q (legal_back vs (word_at k l key.Else ∷ ws) branches).1)
  canon_proc (g.post {text = text} {ts = ts} {us = us} a b m n i j e f k l x z) h =
      let behind = legal_back ts (sign_at a b sign.At ∷ sign_at m n sign.Query ∷ sign_at i j sign.Greater ∷ name_at e f text ∷ sign_at k l sign.Bang ∷ us) h.1 in
      post (canon_atom x (legal_front ts _ h.1)) behind.1.1.1.0 (canon_expr z behind.1.1.1.1.1)
  canon_proc (g.send {text = text} {ts = ts} {us = us} {vs = vs} a b i j e f k l x y z) h =
      let last = sign_at i j sign.Greater ∷ name_at e f text ∷ sign_at k l sign.Bang ∷ vs in
      let behind = (legal_back ts (sign_at a b sign.At ∷ (us ++ last)) h.1).1 in
      let names = legal_back us last behind in
      send (canon_atom x (legal_front ts _ h.1)) (canon_atom y (legal_front us _ behind)) names.1.0 (canon_expr z names.1.1.1)
  canon_proc (g.test {ts = ts} {us = us} {vs = vs} a b i j x p q) h =
      let behind = (legal_back ts (word_at a b key.Then ∷ (us ++ word_at i j key.Else ∷ vs)) h.1).1 in
      test (canon_expr x (legal_front ts _ h.1)) (canon_proc p (legal_front us _ behind)) (canon_proc q (legal_back us (word_at i j key.Else ∷ vs) behind).1)
  canon_proc (g.bind {ts = ts} {us = us} {vs = vs} a b i j p x y) h =
      let behind = (legal_back ts (sign_at a b sign.Equals ∷ (us ++ word_at i j key.In ∷ vs)) h.1).1 in
      bind (canon_pat p (legal_front ts _ h.1)) (canon_expr x (legal_front us _ behind)) (canon_proc y (legal_back us (word_at i j key.In ∷ vs) behind).1)
  canon_proc (g.print x) h = print (canon_expr x h.1)

  canon_many : {m at d : ℕ} {ts : List Token} {x : RawProc} → AreMany m at d ts x → AllLegal ts → IsCanonProc m d x
  canon_many (g.two {ts = ts} {us = us} a b x y) h = par (canon_proc x (legal_front ts _ h)) (canon_proc y (legal_back ts (sign_at a b sign.Bar ∷ us) h).1)
  canon_many (g.more {ts = ts} {us = us} a b x y) h = par (canon_many x (legal_front ts _ h)) (canon_proc y (legal_back ts (sign_at a b sign.Bar ∷ us) h).1)

-- ---- the names of sites

abbrev pub AllNames : List Ident → Type 0
AllNames [] = Unit {0}
AllNames (name ∷ names) = IsLegal (what.Ident name.text) × AllNames names

-- one name at least
pub record CanonSites (names : List Ident) : Type 0 where
  pub first : Ident
  pub others : List Ident
  pub is : names ≡ first ∷ others
  pub legal : IsLegal (what.Ident first.text)
  pub all : AllNames others

snoc_name : (names : List Ident) (name : Ident) → AllNames names → IsLegal (what.Ident name.text) → AllNames (names ++ name ∷ [])
snoc_name [] name all h = (h, tt)
snoc_name (n ∷ names) name all h = (all.0, snoc_name names name all.1 h)

pub canon_sites : {ts : List Token} {names : List Ident} → AreSites ts names → AllLegal ts → CanonSites names
canon_sites (g.one {at = at} {text = text}) h = record { first = ident at text; others = []; is = refl; legal = h.0; all = tt }
canon_sites (g.more {ts = ts} at end text s) h =
    let c = canon_sites s (legal_front ts _ h) in
    let last = legal_back ts (name_at at end text ∷ []) h in
    record {
      first = c.first;
      others = c.others ++ ident at text ∷ [];
      is = ap (λ l. l ++ ident at text ∷ []) c.is;
      legal = c.legal;
      all = snoc_name c.others (ident at text) c.all last.0;
    }
