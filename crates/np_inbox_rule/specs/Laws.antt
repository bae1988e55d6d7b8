-- What the laws of an inbox say: each step keeps the rule.
use Rattle.std.specs.Prelude.{◌≡◌, ℕ, ◌+◌, ◌<◌, [], ◌∷◌, length}
use Rattle.crossbeam_queue.specs.Fifo.{Pushes, Pops, Forks, Merges, Learns}
use Rattle.site_links.specs.declared.places.TheConstants.{PLACES}
use Rattle.np_inbox_rule.specs.declared.views.View.{View}
use Rattle.np_inbox_rule.specs.declared.views.View.TheVariants.{Spent}
use Rattle.np_inbox_rule.specs.Rule.{Holds}
use Rattle.np_inbox_rule.specs.Steps.{first_view, IsOwner, IsSender, sent_in, last_in, put, HasSpace, IsFreed, one_site, one_made}
use Rattle.np_inbox_rule.specs.Steps.{new_sender, note_sent, note_got, join_sent, join_got, Taken, IsTold}

module _ {I : Type 0} (sender : I → ℕ) where
  abbrev pub RuleBegins : Type 0
  RuleBegins = Holds sender [] (first_view ∷ [])

  -- a sender that knows of a free place may push an item of its own
  abbrev pub PutKeeps : Type 0
  PutKeeps = (n pass sites number : ℕ) (v : View I) (x : I) → IsSender sites number v → sender x ≡ number
      → length (sent_in v) < length (last_in v) + PLACES
      → Pushes (Holds sender) n pass v x (λ w. w ≡ put v x)

  abbrev pub PutLearns : Type 0
  PutLearns = (pass : ℕ) (v : View I) → Learns (Holds sender) pass v (HasSpace v)

  abbrev pub TakeKeeps : Type 0
  TakeKeeps = (pass sites made : ℕ) (v : View I) → IsOwner sites made v → Pops (Holds sender) pass v (Taken sender v)

  abbrev pub TakeLearns : Type 0
  TakeLearns = (pass sites made : ℕ) (v : View I) → IsOwner sites made v → Learns (Holds sender) pass v (IsTold sender v)

  abbrev pub LookLearns : Type 0
  LookLearns = (pass : ℕ) (v : View I) → Learns (Holds sender) pass v (IsFreed v)

  -- sites are counted before senders are made
  abbrev pub SiteForks : Type 0
  SiteForks = (pass sites : ℕ) (v : View I) → IsOwner sites 0 v → Forks (Holds sender) pass v (one_site v) Spent

  abbrev pub SenderForks : Type 0
  SenderForks = (pass sites made : ℕ) (v : View I) → IsOwner sites made v → made < sites
      → Forks (Holds sender) pass v (one_made v) (new_sender v)

  abbrev pub SentForks : Type 0
  SentForks = (pass : ℕ) (v : View I) → Forks (Holds sender) pass v v (note_sent v)

  abbrev pub GotForks : Type 0
  GotForks = (pass : ℕ) (v : View I) → Forks (Holds sender) pass v v (note_got v)

  abbrev pub SentMerges : Type 0
  SentMerges = (pass other : ℕ) (v note : View I) → Merges (Holds sender) pass v other note (join_sent v note) Spent

  abbrev pub GotMerges : Type 0
  GotMerges = (pass other : ℕ) (v note : View I) → Merges (Holds sender) pass v other note (join_got sender v note) Spent
