use Rattle.std.proofs.Common.{◌≡◌, map, sym, refl, length, vec_len, arith}
use Rattle.np_example_files.specs.Examples.{said}
use Rattle.np_example_files.specs.Reading.{passes}
use Rattle.np_example_files.proofs.Endings.{last_seen, line_refused, line_said, none_before, title_read}
use Rattle.np_example_files.proofs.reader.read_line.Goals as goal

pub returns-in-Some-clause-made : goal.returns-in-Some-clause-made
returns-in-Some-clause-made g c =
    title_read c.args.number c.args.line.now c.in-Some.title.now c.args.examples.now.items c.push.new.self.items c.in_ok-new.field-0 c.in-Some.ensures c.in_ok-push.ensures.items c.in_ok-new.ensures

pub returns-then-is_silent-clause-made : goal.returns-then-is_silent-clause-made
returns-then-is_silent-clause-made g c = passes (map said c.args.examples.now.items) c.in_default.ensures (sym c.if-is_silent.ensures)

pub returns-in-Some-last_mut-clause-made : goal.returns-in-Some-last_mut-clause-made
returns-in-Some-last_mut-clause-made g c =
    line_said c.add_line.result c.args.number c.args.line.now c.args.examples.now.items (vec_len c.args.examples.now) c.in-Some-last_mut.example.now c.add_line.new.example
    (last_seen said c.args.examples.now.items (vec_len c.args.examples.now) c.in-Some-last_mut.example.now _ (omega arith) c.in-Some-last_mut.ensures.item.3.0 c.in-Some-last_mut.ensures.value)
    c.in_default.ensures (sym c.if-is_silent.ensures) c.add_line.ensures.made

pub returns-in-Some-last_mut-clause-refused : goal.returns-in-Some-last_mut-clause-refused
returns-in-Some-last_mut-clause-refused g c =
    let seen = last_seen said c.args.examples.now.items (vec_len c.args.examples.now)
    c.in-Some-last_mut.example.now c.in-Some-last_mut.example.now (omega arith) c.in-Some-last_mut.ensures.item.3.0 c.in-Some-last_mut.ensures.value in
    line_refused c.add_line.result c.args.number c.args.line.now (map said c.args.examples.now.items) seen.front (said c.in-Some-last_mut.example.now) seen.was
    c.in_default.ensures (sym c.if-is_silent.ensures) c.add_line.ensures.refused

pub returns-in-None-clause-refused : goal.returns-in-None-clause-refused
returns-in-None-clause-refused g c =
    let empty : length c.args.examples.now.items ≡ 0 = omega (arith, c.in-None.ensures.item.3) in
    (refl, none_before c.args.line.now c.args.examples.now.items empty c.in_default.ensures (sym c.if-is_silent.ensures))
