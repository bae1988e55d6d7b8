-- What is written piece by piece, as one list of bytes behind another.
use Rattle.std.proofs.Common.{◌≡◌, ℕ, List, ◌++◌, append_assoc, subst, Result, OnOk}

-- what an Ok ensures, with what is written in another form
pub on_same : {A E : Type 0} (r : Result A E) (a : List ℕ) {b c : List ℕ} → b ≡ c → OnOk r (a ≡ b) → OnOk r (a ≡ c)
on_same r a e h = subst (λ b. OnOk r (a ≡ b)) e h

pub four : (o a b c d : List ℕ) → o ++ a ++ b ++ c ++ d ≡ o ++ (a ++ b ++ c ++ d)
four o a b c d = simp append_assoc

pub five : (o a b c d e : List ℕ) → o ++ a ++ b ++ c ++ d ++ e ≡ o ++ (a ++ b ++ c ++ d ++ e)
five o a b c d e = simp append_assoc

pub six : (o a b c d e f : List ℕ) → o ++ a ++ b ++ c ++ d ++ e ++ f ≡ o ++ (a ++ b ++ c ++ d ++ e ++ f)
six o a b c d e f = simp append_assoc

pub seven : (o a b c d e f g : List ℕ) → o ++ a ++ b ++ c ++ d ++ e ++ f ++ g ≡ o ++ (a ++ b ++ c ++ d ++ e ++ f ++ g)
seven o a b c d e f g = simp append_assoc

pub eight : (o a b c d e f g h : List ℕ) → o ++ a ++ b ++ c ++ d ++ e ++ f ++ g ++ h ≡ o ++ (a ++ b ++ c ++ d ++ e ++ f ++ g ++ h)
eight o a b c d e f g h = simp append_assoc

pub ten : (o a b c d e f g h i j : List ℕ) → o ++ a ++ b ++ c ++ d ++ e ++ f ++ g ++ h ++ i ++ j ≡ o ++ (a ++ b ++ c ++ d ++ e ++ f ++ g ++ h ++ i ++ j)
ten o a b c d e f g h i j = simp append_assoc
