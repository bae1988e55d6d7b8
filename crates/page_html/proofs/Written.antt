-- Texts as they are written, piece by piece.
use Rattle.std.proofs.Common.{ℕ, List, ◌++◌}
use Rattle.text_writer.specs.declared.writer.TextWriter.{TextWriter}
use Rattle.text_writer.specs.Writes.{Writes}
use Rattle.text_writer.proofs.Writing.{then}

-- pieces one after the other
pub wrote_in_three : (o a b c : TextWriter) (x y z : List ℕ) → Writes o a x → Writes a b y → Writes b c z → Writes o c (x ++ y ++ z)
wrote_in_three o a b c x y z first second = then o b c (x ++ y) z (then o a b x y first second)

pub wrote_in_six : (o a b c d e f : TextWriter) (u v w x y z : List ℕ) → Writes o a u → Writes a b v → Writes b c w → Writes c d x → Writes d e y → Writes e f z
    → Writes o f (u ++ v ++ w ++ x ++ y ++ z)
wrote_in_six o a b c d e f u v w x y z first second third fourth fifth sixth =
    wrote_in_three o d e f (u ++ v ++ w ++ x) y z
    (then o c d (u ++ v ++ w) x (wrote_in_three o a b c u v w first second third) fourth)
    fifth sixth

-- a piece within an element, or more
pub wrote_one : (o a b c : TextWriter) (before x behind : List ℕ) → Writes o a before → Writes a b x → Writes b c behind → Writes o c (before ++ x ++ behind)
wrote_one = wrote_in_three

pub wrote_two : (o a b c d : TextWriter) (before x y behind : List ℕ) → Writes o a before → Writes a b x → Writes b c y → Writes c d behind
    → Writes o d (before ++ (x ++ y) ++ behind)
wrote_two o a b c d before x y behind first second third = wrote_one o a c d before (x ++ y) behind first (then a b c x y second third)

pub wrote_three : (o a b c d e : TextWriter) (before x y z behind : List ℕ) → Writes o a before → Writes a b x → Writes b c y → Writes c d z → Writes d e behind
    → Writes o e (before ++ (x ++ y ++ z) ++ behind)
wrote_three o a b c d e before x y z behind first second third fourth =
    wrote_one o a d e before (x ++ y ++ z) behind first (wrote_in_three a b c d x y z second third fourth)

pub wrote_five : (o a b c d e f g : TextWriter) (before v w x y z behind : List ℕ) → Writes o a before → Writes a b v → Writes b c w → Writes c d x → Writes d e y
    → Writes e f z → Writes f g behind → Writes o g (before ++ (v ++ w ++ x ++ y ++ z) ++ behind)
wrote_five o a b c d e f g before v w x y z behind first second third fourth fifth sixth =
    wrote_one o a f g before (v ++ w ++ x ++ y ++ z) behind first
    (wrote_in_three a d e f (v ++ w ++ x) y z (wrote_in_three a b c d v w x second third fourth) fifth sixth)
