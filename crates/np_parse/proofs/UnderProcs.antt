-- The same for processes and programs: with more levels a reader does the same, but where it would have gone too deep.
use Rattle.std.proofs.Common.{ℕ, zero, suc, ◌≤◌, arith}
use Rattle.std.specs.Prelude.{nat_le, if◌then◌else◌}
use Rattle.std.proofs.lemmas.Bool.Decides.{nat_tests}
use Rattle.np_lex.specs.declared.token.Key.TheVariants as key
use Rattle.np_lex.specs.declared.token.Sign.TheVariants as sign
use Rattle.np_lex.specs.declared.token.What.{What}
use Rattle.np_lex.specs.declared.token.What.TheVariants as what
use Rattle.np_tree.specs.declared.tree.Ident.{Ident}
use Rattle.np_tree.specs.declared.tree.RawExpr.{RawExpr}
use Rattle.np_parse.specs.declared.head.Single.{Single}
use Rattle.np_parse.specs.declared.head.Double.{Double}
use Rattle.np_parse.specs.Input.{Parser, ◌>>=◌, pure, peek, take, name, refuse_deep, expect_sign}
use Rattle.np_parse.specs.Read.Heads.{ReadProc, whole, print, output, message, post, send, directed_by, directed, new_head, input_head, replicated_head, migrate_head, let_head}
use Rattle.np_parse.specs.Read.Heads.{between, agent_head, iflocal_head, if_head}
use Rattle.np_parse.specs.Read.Processes.{single, double, use_by, on_channel, both, more_by, more, bracket, proc_by, proc_in, proc}
use Rattle.np_parse.specs.Read.Programs.{program_head, program}
use Rattle.np_parse.specs.Read.Expressions.{expr}
use Rattle.np_parse.proofs.Unders.{Under, under_refl, under_then, under_behind, under_deep, under_test, under_chan, under_pat, under_level}
use Rattle.np_parse.proofs.FormSteps.{Kind, held, reader, Steps, run}
use Rattle.np_parse.proofs.HeadSteps.{print_steps, output_steps, address_steps, post_steps, send_steps, new_steps, input_steps, replicated_steps, migrate_steps, let_steps, agent_steps, iflocal_steps, if_steps}

module _ (m n : ℕ) (k : m ≤ n) where
  -- ---- steps

  under_message : Under (message m) (message n)
  unfolding message
  under_message = under_behind name _ _ (λ x. under_behind (expect_sign sign.Bang) _ _ (λ _. under_then (expr m) (expr n) _ _ (under_level m n k).exprs (λ y. under_refl _)))

  under_reader : (j : Kind) → Under (reader m j) (reader n j)
  under_reader (Kind.sign s) = under_refl _
  under_reader (Kind.word w) = under_refl _
  under_reader Kind.name = under_refl _
  under_reader Kind.chan = under_chan m n k
  under_reader Kind.pat = under_pat m n k
  under_reader Kind.expr = (under_level m n k).exprs
  under_reader Kind.atom = (under_level m n k).atoms
  under_reader Kind.message = under_message

  under_run : {A B : Type 0} (s : Steps A) (f g : A → Parser B) → ((x : A) → Under (f x) (g x)) → Under (run m s f) (run n s g)
  under_run (Steps.done x) f g u = u x
  under_run (Steps.step j h) f g u = under_then (reader m j) (reader n j) (λ o. run m (h (held j o)) f) (λ o. run n (h (held j o)) g) (under_reader j) (λ o. under_run (h (held j o)) f g u)

  under_whole : {A B : Type 0} (s : ℕ → Steps A) (f g : ℕ → A → Parser B) → ((at : ℕ) (x : A) → Under (f at x) (g at x)) → Under (take >>= (λ at. run m (s at) (f at))) (take >>= (λ at. run n (s at) (g at)))
  under_whole s f g u = under_behind take (λ at. run m (s at) (f at)) (λ at. run n (s at) (g at)) (λ at. under_run (s at) (f at) (g at) (u at))

  under_head : {A : Type 0} (a b : ℕ) → a ≤ b → (s : ℕ → Steps A)
      → Under (if nat_le a 0 then refuse_deep else (take >>= (λ at. run m (s at) (λ x. pure x)))) (if nat_le b 0 then refuse_deep else (take >>= (λ at. run n (s at) (λ x. pure x))))
  under_head a b h s = under_test (nat_le a 0) (nat_le b 0) (take >>= (λ at. run m (s at) (λ x. pure x))) (take >>= (λ at. run n (s at) (λ x. pure x))) (λ e. grind (arith, nat_tests))
      (under_whole s (λ at x. pure x) (λ at x. pure x) (λ at x. under_refl _))

  under_print : Under (print m) (print n)
  unfolding print
  under_print = under_whole (λ at. print_steps) (λ at. whole at) (λ at. whole at) (λ at x. under_refl _)

  under_output : (channel : Ident) → Under (output m channel) (output n channel)
  unfolding output
  under_output channel = under_whole (λ at. output_steps channel) (λ at. whole channel.at) (λ at. whole channel.at) (λ at x. under_refl _)

  under_directed : Under (directed m) (directed n)
  unfolding directed post send
  under_directed = under_whole (λ at. address_steps) (λ at agent. peek >>= directed_by m at agent) (λ at agent. peek >>= directed_by n at agent)
      (λ at agent. under_behind peek (directed_by m at agent) (directed_by n at agent) (go at agent))
    where
      go : (at : ℕ) (agent : RawExpr) (w : What) → Under (directed_by m at agent w) (directed_by n at agent w)
      go at agent (what.Sign sign.Query) = under_whole (λ _. post_steps agent) (λ _. whole at) (λ _. whole at) (λ _ x. under_refl _)
      go at agent _ = under_run (send_steps agent) (whole at) (whole at) (λ x. under_refl _)

  -- ---- processes

  module _ (p q : Parser ReadProc) (u : Under p q) (a b : ℕ) (h : a ≤ b) where
    under_single : (f g : Parser Single) → Under f g → Under (f >>= single p) (g >>= single q)
    unfolding single
    under_single f g v = under_then f g (single p) (single q) v (λ x. under_then p q _ _ u (λ y. under_refl _))

    under_double : (f g : Parser Double) → Under f g → Under (f >>= double p) (g >>= double q)
    unfolding double
    under_double f g v = under_then f g (double p) (double q) v (λ x. under_then p q _ _ u (λ y. under_behind (between x.form) _ _ (λ _. under_then p q _ _ u (λ z. under_refl _))))

    under_on_channel : Under (on_channel p m a) (on_channel q n b)
    unfolding on_channel input_head
    under_on_channel = under_behind name (λ channel. peek >>= use_by p m a channel) (λ channel. peek >>= use_by q n b channel)
        (λ channel. under_behind peek (use_by p m a channel) (use_by q n b channel) (go channel))
      where
        go : (channel : Ident) (w : What) → Under (use_by p m a channel w) (use_by q n b channel w)
        go channel (what.Sign sign.Bang) = under_output channel
        go channel (what.Sign sign.Query) = under_single (input_head m a channel) (input_head n b channel) (under_head a b h (λ at. input_steps channel))
        go channel _ = under_refl _

    under_more : (c d : ℕ) → c ≤ d → (i j at : ℕ) → i ≤ j → (left : ReadProc) → Under (more p c at i left) (more q d at j left)
    unfolding more
    under_more c d l zero j at o left = under_deep _
    under_more c d l (suc i) zero at o left = absurd (omega arith)
    under_more c d l (suc i) (suc j) at o left = under_behind peek (more_by (more p c at i) p c at left) (more_by (more q d at j) q d at left) (go (under_more c d l i j at (omega arith)))
      where
        go : ((left : ReadProc) → Under (more p c at i left) (more q d at j left)) → (w : What) → Under (more_by (more p c at i) p c at left w) (more_by (more q d at j) q d at left w)
        go again (what.Sign sign.Bar) = under_test (nat_le c left.1) (nat_le d left.1) _ _ (λ e. grind (arith, nat_tests)) (under_behind take _ _ (λ _. under_then p q _ _ u (λ right. again (both at left right))))
        go again _ = under_refl _

    under_bracket : Under (bracket p a) (bracket q b)
    unfolding bracket
    under_bracket = under_test (nat_le a 0) (nat_le b 0) _ _ (λ e. grind (arith, nat_tests))
        (under_behind take _ _ (λ at. under_then p q _ _ u (λ first. under_behind (expect_sign sign.Bar) _ _ (λ _. under_then p q _ _ u
        (λ second. under_more (suc a) (suc b) (omega arith) (suc a) (suc b) at (omega arith) (both at first second))))))

    under_proc_by : (w : What) → Under (proc_by m p a w) (proc_by n q b w)
    unfolding new_head replicated_head migrate_head let_head agent_head iflocal_head if_head
    under_proc_by (what.Ident text) = under_on_channel
    under_proc_by (what.Word key.New) = under_single (new_head m a) (new_head n b) (under_head a b h new_steps)
    under_proc_by (what.Word key.AgentWord) = under_double (agent_head a) (agent_head b) (under_head a b h agent_steps)
    under_proc_by (what.Word key.Migrate) = under_single (migrate_head m a) (migrate_head n b) (under_head a b h migrate_steps)
    under_proc_by (what.Word key.IfLocal) = under_double (iflocal_head m a) (iflocal_head n b) (under_head a b h iflocal_steps)
    under_proc_by (what.Word key.If) = under_double (if_head m a) (if_head n b) (under_head a b h if_steps)
    under_proc_by (what.Word key.Let) = under_single (let_head m a) (let_head n b) (under_head a b h let_steps)
    under_proc_by (what.Word key.Print) = under_print
    under_proc_by (what.Sign sign.RoundOpen) = under_bracket
    under_proc_by (what.Sign sign.Star) = under_single (replicated_head m a) (replicated_head n b) (under_head a b h replicated_steps)
    under_proc_by (what.Sign sign.Less) = under_directed
    under_proc_by _ = under_refl _

under_proc : (m n : ℕ) → m ≤ n → (a b : ℕ) → a ≤ b → Under (proc m a) (proc n b)
unfolding proc proc_in
under_proc m n k zero b h = under_deep _
under_proc m n k (suc a) zero h = absurd (omega arith)
under_proc m n k (suc a) (suc b) h = under_behind peek (proc_by m (proc m a) a) (proc_by n (proc n b) b) (under_proc_by m n k (proc m a) (proc n b) (under_proc m n k a b (omega arith)) a b (omega arith))

pub under_program : (a b : ℕ) → a ≤ b → Under (program a) (program b)
unfolding program
under_program a b h = under_behind program_head _ _ (λ head. under_then (proc a a) (proc b b) _ _ (under_proc a b h a b h) (λ x. under_refl _))
