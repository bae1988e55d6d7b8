use Rattle.std.proofs.Common.{◌≡◌, rules, sym, subst}
use Rattle.std.proofs.lemmas.Result.{IfOk-weaker}
use Rattle.text_writer.specs.Writes.{Writes}
use Rattle.text_writer.proofs.Writing.{finished}
use Rattle.np_show.specs.Shown.{shown}
use Rattle.np_show.specs.Again.{ReadsBack}
use Rattle.np_show.proofs.Law.{reads_back}
use Rattle.np_show.proofs.written.show.Goals as goal

pub returns-clause-law : goal.returns-clause-law
returns-clause-law c =
    let tree = c.args.tree.now in
    let written : Writes c.new-text.result c.put-5.new.self (shown tree) = search rules in
    let text = finished c.new-text.result c.put-5.new.self (shown tree) c.finish.result c.new-text.ensures written c.finish.ensures in
    IfOk-weaker c.finish.result (λ t. t ≡ shown tree) (λ t. ReadsBack t tree) (λ t e. subst (λ u. ReadsBack u tree) (sym e) (reads_back tree)) text
