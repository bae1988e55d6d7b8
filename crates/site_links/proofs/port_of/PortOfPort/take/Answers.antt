use Rattle.std.proofs.Common.{◌<◌, ℕ, ◌∙◌, refl, subst}
use Rattle.site_links.proofs.Kept.{Keeps-trans}
use Rattle.site_links.proofs.Changed.{Keeps-same}
use Rattle.site_links.proofs.Looks.{looked_all, looked_twice, taken_after}
use Rattle.site_links.proofs.port_of.PortOfPort.take.Goals as goal

pub returns-in-Some-find : goal.returns-in-Some-find
returns-in-Some-find g c =
    let h = c.in-Some-find.ensures in
    let t = taken_after g.E.Ends c.take_at-in-Some-find.result (looked_twice g.E.Ends c.in_default.ensures h.1) (subst (λ (v : ℕ). c.in-Some-find.from < v) c.in_default.ensures.keeps.among_same h.0) h.2 c.take_at-in-Some-find.ensures in
    record { keeps = Keeps-trans (Keeps-same g.E.Ends c.args.self.now _ refl refl) t.0; putting = t.1; taken = t.2 }

pub returns-in-Some : goal.returns-in-Some
returns-in-Some g c =
    let h = c.in-Some.ensures in let t = taken_after g.E.Ends c.take_at.result h.1 h.0 h.2 c.take_at.ensures in
    record { keeps = Keeps-trans (Keeps-same g.E.Ends c.args.self.now _ refl refl) t.0; putting = t.1; taken = t.2 }

pub returns : goal.returns
returns g c =
    let all = looked_all g.E.Ends c.in_default.ensures c.in_default-find.ensures (c.len-count.ensures ∙ c.args.self.now.ends.ok.0) in
    record { keeps = Keeps-trans (Keeps-same g.E.Ends c.args.self.now _ refl refl) all.0; putting = all.1; taken = all.2 }
