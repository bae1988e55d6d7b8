-- The same for processes and programs: a reader looks at no token past the first that it leaves.
use Rattle.std.proofs.Common.{◌≡◌, ℕ, zero, suc, List, [], ◌∷◌, refl, ap}
use Rattle.std.specs.Prelude.{ℤ, pos, nat_le, if◌then◌else◌}
use Rattle.np_lex.specs.declared.token.Key.TheVariants as key
use Rattle.np_lex.specs.declared.token.Sign.TheVariants as sign
use Rattle.np_lex.specs.declared.token.Token.{Token}
use Rattle.np_lex.specs.declared.token.What.{What}
use Rattle.np_lex.specs.declared.token.What.TheVariants as what
use Rattle.np_lex.specs.Tokens.{token}
use Rattle.np_tree.specs.declared.tree.Ident.{Ident}
use Rattle.np_tree.specs.declared.tree.RawExpr.{RawExpr}
use Rattle.np_parse.specs.declared.head.Single.{Single}
use Rattle.np_parse.specs.declared.head.Double.{Double}
use Rattle.np_parse.specs.declared.head.DoubleForm.{DoubleForm}
use Rattle.np_parse.specs.declared.head.DoubleForm.TheVariants as double_
use Rattle.np_parse.specs.Input.{Parser, ◌>>=◌, pure, peek, take, name, refuse_deep, expect_sign, expect_end}
use Rattle.np_parse.specs.Read.Heads.{ReadProc, whole, stop_by, print, output, message, post, send, directed_by, directed, new_head, input_head, replicated_head, migrate_head, let_head}
use Rattle.np_parse.specs.Read.Heads.{between, agent_head, iflocal_head, if_head}
use Rattle.np_parse.specs.Read.Processes.{single, double, use_by, on_channel, both, more_by, more, bracket, proc_by, proc_in, proc}
use Rattle.np_parse.specs.Read.Programs.{sites, program_head, program}
use Rattle.np_parse.specs.Read.Expressions.{expr}
use Rattle.np_parse.proofs.Locals.{Local, Again, left_of, local_then, local_peek, local_take, local_pure, local_refuse, local_deep, local_if}
use Rattle.np_parse.proofs.Locals.{local_sign, local_word, local_name, local_end, local_chan, local_pat, local_level}
use Rattle.np_parse.proofs.FormSteps.{Kind, held, reader, Steps, run}
use Rattle.np_parse.proofs.HeadSteps.{print_steps, output_steps, address_steps, post_steps, send_steps, new_steps, input_steps, replicated_steps, migrate_steps, let_steps, agent_steps, iflocal_steps, if_steps, site_steps, main_steps}

-- ---- steps

local_message : (m : ℕ) → Local (message m)
unfolding message
local_message m = local_then name _ local_name (λ x. local_then (expect_sign sign.Bang) _ (local_sign _) (λ _. local_then (expr m) _ (local_level m).exprs (λ y. local_pure _)))

local_reader : (m : ℕ) (k : Kind) → Local (reader m k)
local_reader m (Kind.sign s) = local_sign s
local_reader m (Kind.word k) = local_word k
local_reader m Kind.name = local_name
local_reader m Kind.chan = local_chan m
local_reader m Kind.pat = local_pat m
local_reader m Kind.expr = (local_level m).exprs
local_reader m Kind.atom = (local_level m).atoms
local_reader m Kind.message = local_message m

local_run : {A B : Type 0} (m : ℕ) (s : Steps A) (next : A → Parser B) → ((x : A) → Local (next x)) → Local (run m s next)
local_run m (Steps.done x) next l = l x
local_run m (Steps.step k f) next l = local_then (reader m k) (λ o. run m (f (held k o)) next) (local_reader m k) (λ o. local_run m (f (held k o)) next l)

-- a form from its first token on, without processes, and what stands before them
local_whole : {A B : Type 0} (m : ℕ) (s : ℕ → Steps A) (next : ℕ → A → Parser B) → ((at : ℕ) (x : A) → Local (next at x)) → Local (take >>= (λ at. run m (s at) (next at)))
local_whole m s next l = local_then take (λ at. run m (s at) (next at)) local_take (λ at. local_run m (s at) (next at) (l at))

local_head : {A : Type 0} (m b : ℕ) (s : ℕ → Steps A) → Local (if nat_le b 0 then refuse_deep else (take >>= (λ at. run m (s at) (λ x. pure x))))
local_head m b s = local_if (nat_le b 0) refuse_deep (take >>= (λ at. run m (s at) (λ x. pure x))) local_deep (local_whole m s (λ at x. pure x) (λ at x. local_pure x))

local_print : (m : ℕ) → Local (print m)
unfolding print
local_print m = local_whole m (λ at. print_steps) (λ at. whole at) (λ at x. local_pure _)

local_output : (m : ℕ) (channel : Ident) → Local (output m channel)
unfolding output
local_output m channel = local_whole m (λ at. output_steps channel) (λ at. whole channel.at) (λ at x. local_pure _)

local_directed : (m : ℕ) → Local (directed m)
unfolding directed post send
local_directed m = local_whole m (λ at. address_steps) (λ at agent. peek >>= directed_by m at agent) (λ at agent. local_then peek (directed_by m at agent) local_peek (go at agent))
  where
    go : (at : ℕ) (agent : RawExpr) (w : What) → Local (directed_by m at agent w)
    go at agent (what.Sign sign.Query) = local_whole m (λ _. post_steps agent) (λ _. whole at) (λ _ x. local_pure _)
    go at agent _ = local_run m (send_steps agent) (whole at) (λ x. local_pure _)

-- ---- processes

local_between : (f : DoubleForm) → Local (between f)
local_between (double_.Agent x) = local_word _
local_between (double_.IfLocal x channel z) = local_word _
local_between (double_.If x) = local_word _

local_stop : (n : ℤ) → Local (stop_by n)
local_stop (pos zero) = local_then take _ local_take (λ at. local_pure _)
local_stop (pos (suc n)) = local_refuse
local_stop _ = local_refuse

module _ (m b : ℕ) (inner : Parser ReadProc) (l : Local inner) where
  local_single : (p : Parser Single) → Local p → Local (p >>= single inner)
  unfolding single
  local_single p k = local_then p (single inner) k (λ h. local_then inner _ l (λ x. local_pure _))

  local_double : (p : Parser Double) → Local p → Local (p >>= double inner)
  unfolding double
  local_double p k = local_then p (double inner) k (λ h. local_then inner _ l (λ x. local_then (between h.form) _ (local_between h.form) (λ _. local_then inner _ l (λ y. local_pure _))))

  local_on_channel : Local (on_channel inner m b)
  unfolding on_channel input_head
  local_on_channel = local_then name (λ channel. peek >>= use_by inner m b channel) local_name (λ channel. local_then peek (use_by inner m b channel) local_peek (go channel))
    where
      go : (channel : Ident) (w : What) → Local (use_by inner m b channel w)
      go channel (what.Sign sign.Bang) = local_output m channel
      go channel (what.Sign sign.Query) = local_single (input_head m b channel) (local_head m b (λ at. input_steps channel))
      go channel _ = local_refuse

  local_more : (levels at turns : ℕ) (left : ReadProc) → Local (more inner levels at turns left)
  unfolding more
  local_more levels at zero left = local_deep
  local_more levels at (suc turns) left = local_then peek (more_by (more inner levels at turns) inner levels at left) local_peek (go (local_more levels at turns))
    where
      go : ((left : ReadProc) → Local (more inner levels at turns left)) → (w : What) → Local (more_by (more inner levels at turns) inner levels at left w)
      go again (what.Sign sign.Bar) = local_if _ _ _ local_deep (local_then take _ local_take (λ _. local_then inner _ l (λ right. again (both at left right))))
      go again (what.Sign sign.RoundClose) = local_then take _ local_take (λ _. local_pure left)
      go again _ = local_refuse

  local_bracket : Local (bracket inner b)
  unfolding bracket
  local_bracket = local_if _ _ _ local_deep
      (local_then take _ local_take (λ at. local_then inner _ l (λ first. local_then (expect_sign sign.Bar) _ (local_sign _) (λ _. local_then inner _ l
      (λ second. local_more (suc b) at (suc b) (both at first second))))))

  local_proc_by : (w : What) → Local (proc_by m inner b w)
  unfolding new_head replicated_head migrate_head let_head agent_head iflocal_head if_head
  local_proc_by (what.Number n) = local_stop n
  local_proc_by (what.Ident text) = local_on_channel
  local_proc_by (what.Word key.New) = local_single (new_head m b) (local_head m b new_steps)
  local_proc_by (what.Word key.AgentWord) = local_double (agent_head b) (local_head m b agent_steps)
  local_proc_by (what.Word key.Migrate) = local_single (migrate_head m b) (local_head m b migrate_steps)
  local_proc_by (what.Word key.IfLocal) = local_double (iflocal_head m b) (local_head m b iflocal_steps)
  local_proc_by (what.Word key.If) = local_double (if_head m b) (local_head m b if_steps)
  local_proc_by (what.Word key.Let) = local_single (let_head m b) (local_head m b let_steps)
  local_proc_by (what.Word key.Print) = local_print m
  local_proc_by (what.Sign sign.RoundOpen) = local_bracket
  local_proc_by (what.Sign sign.Star) = local_single (replicated_head m b) (local_head m b replicated_steps)
  local_proc_by (what.Sign sign.Less) = local_directed m
  local_proc_by _ = local_refuse

local_proc : (m b : ℕ) → Local (proc m b)
unfolding proc proc_in
local_proc m zero = local_deep
local_proc m (suc b) = local_then peek (proc_by m (proc m b) b) local_peek (local_proc_by m b (proc m b) (local_proc m b))

-- ---- programs

local_sites_at : (ts : List Token) (found : List Ident) (t : Token) (r : List Token) → left_of (sites found ts) ≡ t ∷ r → Again (sites found) ts t r
unfolding sites
local_sites_at [] found t r h = cc
local_sites_at (u ∷ ts) found t r h = go (λ more. local_sites_at ts more t r) u.at u.end u.what h
  where
    go : ((found : List Ident) → left_of (sites found ts) ≡ t ∷ r → Again (sites found) ts t r) → (at end : ℕ) (w : What) → left_of (sites found (token at end w ∷ ts)) ≡ t ∷ r
        → Again (sites found) (token at end w ∷ ts) t r
    go again at end (what.Ident text) k =
        let a = again _ k in
        record { part = token at end (what.Ident text) ∷ a.part; is = ap (λ l. token at end (what.Ident text) ∷ l) a.is; same = a.same }
    go again at end (what.Sign sign.Semi) k = record { part = token at end (what.Sign sign.Semi) ∷ []; is = ap (λ l. token at end (what.Sign sign.Semi) ∷ l) k; same = λ more. refl }
    go again at end other k = record { part = []; is = k; same = λ more. let e : token at end other ≡ t = cc in rw (← e) }

local_sites : (found : List Ident) → Local (sites found)
local_sites found = record { again = λ ts t r h. local_sites_at ts found t r h }

local_program_head : Local program_head
unfolding program_head
local_program_head = local_run 0 site_steps (λ first. sites (first ∷ []) >>= (λ found. run 0 (main_steps found) (λ x. pure x)))
    (λ first. local_then (sites (first ∷ [])) _ (local_sites (first ∷ [])) (λ found. local_run 0 (main_steps found) (λ x. pure x) (λ x. local_pure x)))

pub local_program : (b : ℕ) → Local (program b)
unfolding program
local_program b = local_then program_head _ local_program_head (λ head. local_then (proc b b) _ (local_proc b b) (λ x. local_then expect_end _ local_end (λ _. local_pure _)))
