-- How some events are lifted.
use Rattle.std.proofs.Common.{◌≡◌, ℕ, Option, None, Some, List, [], ◌∷◌, refl, ap, ◌∙◌}
use Rattle.std.specs.FinSet as set
use Rattle.np_syntax.specs.declared.value.Name.{Name}
use Rattle.np_syntax.specs.declared.process.Role.{Role}
use Rattle.np_syntax.specs.declared.process.Role.TheVariants as role
use Rattle.np_syntax.specs.declared.event.Event.{Event}
use Rattle.np_syntax.specs.declared.event.Kind.{Kind}
use Rattle.np_syntax.specs.declared.event.Kind.TheVariants as kind
use Rattle.np_syntax.specs.declared.event.Made.{Made}
use Rattle.np_syntax.specs.declared.event.Made.TheVariants as made
use Rattle.np_tables.proofs.Tables.{born_here, born_insert, contains-none, get-none}
use Rattle.np_lift.specs.Posts.{prepended}
use Rattle.np_lift.specs.CachedLift.{Lifted, Standing, at_first, lift_cached, lift_from, lifted, standing_after, stands_for, with_mark, with_messenger}
use Rattle.np_lift.specs.CachedLaws.{nothing}
use Rattle.np_lift.proofs.Standings.{stands-as_before, stands-itself, stands-new}
use Rattle.np_lift.proofs.Table.{lifted-by-table}

-- the names that events of site 0 make
abbrev n : ℕ → Name
n k = record { site = 0; n = k }

-- an event at site 0, of node 7
abbrev event : Role → Kind → Name → Option Name → Made → Event
event r k actor other names = record { site = 0; kind = k; actor = actor; other = other; tag = record { node = 7; role = r }; made = names }

-- the atom 1 posts: it creates the messenger 2, whose atom is 3
abbrev creation : Event
creation = event role.Post kind.Agent (n 1) None (made.Two (n 2) (n 3))

abbrev post : Event
post = event role.Plain kind.Post (n 1) None made.Nothing

-- the messenger arrives. The tag of each arrival is that of no node
abbrev arrival : Name → Event
arrival agent = record { site = 1; kind = kind.Arrive; actor = agent; other = None; tag = record { node = 0; role = role.Plain }; made = made.Nothing }

-- it finds the agent, in which it makes the output 4
abbrev found : Event
found = event role.Infra kind.Local (n 3) None (made.One (n 4))

-- it does not find it, and sends the post to the daemon
abbrev passed : Event
passed = event role.Post kind.Send (n 3) None made.Nothing

-- an atom takes an output
abbrev taken : Name → Name → Event
taken actor output = event role.Plain kind.Comm actor (Some output) made.Nothing

-- it sets out
abbrev departure : Event
departure = event role.Infra kind.Depart (n 3) None made.Nothing

-- what stands for what when it has set out
abbrev meant : Standing
meant = with_messenger at_first (n 2) (n 3) (n 1)

meant-is : standing_after at_first (creation ∷ departure ∷ []) ≡ meant
meant-is = refl

-- ---- the post is made where the messenger is created, and the way of the messenger is not seen

one-post : lift_cached (creation ∷ departure ∷ arrival (n 2) ∷ []) ≡ post ∷ []
one-post = rw (get-none {X = Name} (n 1), born_here set.empty (n 2)) refl

arrival-dropped : lifted meant (arrival (n 2)) ≡ nothing meant
arrival-dropped = lifted-by-table.arrival meant (arrival (n 2)) refl (born_here set.empty (n 2))

atom-3 : stands_for meant (n 3) ≡ n 1
atom-3 = stands-new at_first (n 3) (n 1) ∙ stands-itself (n 1)

-- the arrivals of other agents are seen
other-arrival : lift_from meant (arrival (n 6) ∷ []) ≡ arrival (n 6) ∷ []
other-arrival = rw (born_insert set.empty (n 2) (n 6), contains-none (n 6)) (ap (λ q. arrival q ∷ []) (stands-as_before at_first (n 3) (n 1) (n 6) refl ∙ stands-itself (n 6)))

-- ---- the output that the messenger makes stands for the post

abbrev met : Standing
met = with_mark meant (n 4) (n 3)

found-is : lifted meant found ≡ record { event = None; standing = met }
found-is = refl

output-4 : stands_for met (n 4) ≡ n 1
output-4 = stands-new meant (n 4) (n 3) ∙ atom-3

itself-5 : stands_for met (n 5) ≡ n 5
itself-5 = stands-as_before meant (n 4) (n 3) (n 5) refl ∙ stands-as_before at_first (n 3) (n 1) (n 5) refl ∙ stands-itself (n 5)

met-and-taken : lift_from meant (found ∷ taken (n 5) (n 4) ∷ []) ≡ taken (n 5) (n 1) ∷ []
met-and-taken = ap (λ a. taken a (stands_for met (n 4)) ∷ []) itself-5 ∙ ap (λ o. taken (n 5) o ∷ []) output-4

-- the whole way
whole-way : lift_cached (creation ∷ departure ∷ arrival (n 2) ∷ found ∷ taken (n 5) (n 4) ∷ []) ≡ post ∷ taken (n 5) (n 1) ∷ []
whole-way =
    ap (λ a. event role.Plain kind.Post a None made.Nothing ∷ on_from (lifted meant (arrival (n 2)))) (stands-itself (n 1))
    ∙ ap (λ l. post ∷ on_from l) arrival-dropped ∙ ap (λ es. post ∷ es) met-and-taken
  where
    on_from : Lifted → List Event
    on_from l = prepended l.event (lift_from l.standing (found ∷ taken (n 5) (n 4) ∷ []))

-- its actor and its other may both stand for others
both-renamed : lift_from met (taken (n 3) (n 4) ∷ []) ≡ taken (n 1) (n 1) ∷ []
both-renamed =
    ap (λ a. taken a (stands_for met (n 4)) ∷ []) (stands-as_before meant (n 4) (n 3) (n 3) refl ∙ atom-3) ∙ ap (λ o. taken (n 1) o ∷ []) output-4

-- ---- where the messenger sends the letter on, that is a post of the same mark once more

sent-on : lift_from meant (passed ∷ []) ≡ post ∷ []
sent-on = ap (λ a. event role.Plain kind.Post a None made.Nothing ∷ []) atom-3
