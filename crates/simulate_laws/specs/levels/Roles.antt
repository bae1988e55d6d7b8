-- Which kinds of events there are of each role, in runs of a low program of a source (docs/TRANSLATION.md, "Translation and daemon").
use Rattle.std.specs.Prelude.{Bool, true, false, ◌||◌}
use Rattle.np_syntax.specs.declared.event.Kind.{Kind}
use Rattle.np_syntax.specs.declared.event.Kind.TheVariants as kind
use Rattle.np_syntax.specs.declared.process.Role.{Role}
use Rattle.np_syntax.specs.declared.process.Role.TheVariants as role
use Rattle.infrastructure_texts.specs.Infrastructures.{Infrastructure}

-- The infrastructure splits, makes locks, takes what is there, serves, sends, opens letters and looks up. A post is sent, and lands.
-- The source's own events are none that only the infrastructure has, and no Post: a post is sent.
abbrev pub occurs : Role → Kind → Bool
occurs role.Infra kind.Fork = true
occurs role.Infra kind.New = true
occurs role.Infra kind.Comm = true
occurs role.Infra kind.Rep = true
occurs role.Infra kind.Send = true
occurs role.Infra kind.Land = true
occurs role.Infra kind.Open = true
occurs role.Infra kind.Lookup = true
occurs role.Infra _ = false
occurs role.Post kind.Send = true
occurs role.Post kind.Land = true
occurs role.Post _ = false
occurs role.Plain kind.Open = false
occurs role.Plain kind.Lookup = false
occurs role.Plain kind.Post = false
occurs role.Plain _ = true

-- With caches messengers also leave and test for agents, what they have done ends, and a post may make one.
abbrev pub occurs_of_messengers : Role → Kind → Bool
occurs_of_messengers role.Infra kind.Stop = true
occurs_of_messengers role.Infra kind.Depart = true
occurs_of_messengers role.Infra kind.Local = true
occurs_of_messengers role.Post kind.Agent = true
occurs_of_messengers r k = false

abbrev pub may_occur : Infrastructure → Role → Kind → Bool
may_occur Infrastructure.central r k = occurs r k
may_occur Infrastructure.cached r k = occurs r k || occurs_of_messengers r k
