-- What an answer can be where no call failed and memory was not wanting.
use Rattle.std.proofs.Common.{◌≡◌, ◌≢◌, ℕ, List, Option, Some, IfSome, inl, inr, subst}
use Rattle.np_io.specs.Causes.{Rose}
use Rattle.np_words.specs.Plans.{plan}
use Rattle.np_words.specs.declared.planning.Plan.{Plan}
use Rattle.np_verdict.specs.Lines.{status_of}
use Rattle.np_verdict.specs.declared.refusal.Refusal.{Refusal}
use Rattle.np_verdict.specs.declared.refusal.Refusal.TheVariants.{Usage, ReadFault}
use Rattle.np_modes.specs.Readings.{IsText}
use Rattle.np_modes.specs.Causes.{HasMade, RefusesPlan, Stands}
use Rattle.np_run.specs.Answers.{Call, HasCauses, IsRefused}
use Rattle.np_outcomes.specs.Laws.{IsTold}
use Rattle.np_answers.specs.declared.answer.Answer.{Answer}

-- ---- plans and texts

pub one : (a b : Plan) (o : Option Plan) → o ≡ Some a → o ≡ Some b → a ≡ b
one a b o e f = cc

-- words with a plan are not refused, and what stands is what is refused of the plan
pub refused_plan : (call : Call) (asked : Plan) (refusal : Refusal) → plan call.words ≡ Some asked → Stands call.words call.texts refusal → RefusesPlan call.texts asked refusal
refused_plan call asked refusal planned (Stands.words none) = cc
refused_plan call asked refusal planned (Stands.asked p is refused) =
    subst (λ (q : Plan). RefusesPlan call.texts q refusal) (one p asked (plan call.words) is planned) refused

-- what is said of a text that is told
pub told : (call : Call) (name bytes : List ℕ) (P : List ℕ → Type 0) → IsTold call name bytes → IfSome (call.texts.held name) P → P bytes
told call name bytes P t p = rw t.held at p

-- what was read is what is told
pub same_text : (call : Call) (name bytes read : List ℕ) (limit : ℕ) → IsTold call name bytes → IsText call.texts name limit read → read ≡ bytes
same_text call name bytes read limit t r = told call name bytes (λ b. read ≡ b) t r.whole

-- ---- outcomes

-- something was made, or a refusal was written
pub data Outcome (call : Call) (answer : Answer) : Type 0 where
  made : (text : List ℕ) → HasMade call.words call.texts answer.kept answer.high text → Outcome call answer
  refused : (refusal : Refusal) → answer.status ≡ status_of refusal → IsRefused call answer refusal → Outcome call answer

pub outcome : (call : Call) (answer : Answer) → HasCauses call answer → ¬ Rose call.err.before call.err.now → answer.status ≢ 6 → Outcome call answer
outcome call answer h err some = elim (h.status) [
  | inl e ↦ let d = h.done e in made d.text d.made
  | inr rest ↦ elim rest [
    | inl e ↦ let d = h.spent e in made d.text d.made
    | inr rest ↦ elim rest [
      | inl e ↦ refused Usage e (h.usage e)
      | inr rest ↦ elim rest [
        | inl e ↦ let s = h.source e in refused s.refusal s.status s.refused
        | inr rest ↦ elim rest [
          | inl e ↦ refused ReadFault e (h.read e)
          | inr rest ↦ elim rest [
            | inl e ↦ elim (h.write e) [ inl s ↦ made s.text s.made | inr s ↦ absurd (err s.rose) ]
            | inr rest ↦ elim rest [
              | inl e ↦ absurd (some e)
              | inr e ↦ let s = h.history e in refused s.refusal s.status s.refused
            ]
          ]
        ]
      ]
    ]
  ]
]
