-- The line of a past is the value that its Print said.
use Rattle.std.proofs.Common.{◌≡◌, ◌≢◌, ◌-◌, ◌<◌, ◌⊎◌, ℕ, inr, List, length, take, Some, Result, Ok, Err, IfOk, IfErr, sym, ap, ◌∙◌, arith}
use Rattle.std.specs.Prelude.{slice_get}
use Rattle.std.proofs.lemmas.Option.{slice_get_within}
use Rattle.np_syntax.specs.declared.event.Event.{Event}
use Rattle.np_syntax.specs.declared.memory.Memory.{Memory as Want}
use Rattle.np_syntax.specs.declared.program.LowProgram.{LowProgram}
use Rattle.np_syntax.specs.declared.value.Value.{Value}
use Rattle.np_calculus.specs.Starts.{start_low}
use Rattle.run_views.specs.Saying.{LowSaidByPrints, prints}
use Rattle.history_text.specs.declared.format.Format.{Format}
use Rattle.history_text.specs.Spelling.{history_text}
use Rattle.np_verdict.specs.Report.{past_text}
use Rattle.np_verdict.specs.declared.refusal.Refusal.{Refusal}
use Rattle.np_verdict.specs.declared.refusal.Refusal.TheVariants.{Memory}
use Rattle.np_histories.specs.Histories.{Stops}
use Rattle.np_histories.specs.Pasts.{IsLine, IsPastOfLine, LacksLine, PrintsLine, TellsPast}

-- a line that was printed is no further than there are Prints
pub prints_line : LowSaidByPrints → (low : LowProgram) (events : List Event) (line : ℕ) (item : ℕ × Value) → IsLine low events line item → PrintsLine low events line
prints_line law low events line item is =
    let p = is.printed in
    let count : length is.said ≡ prints events = sym (ap length p.is) ∙ (law low p.last events p.reaches).0 in
    let within : line - 1 < length is.said = slice_get_within is.said (line - 1) item is.its in
    let some = is.some in
    record { last = p.last; reaches = p.reaches; some = is.some; within = omega arith }

one : {X : Type 0} (x y : X) → Some x ≡ Some y → x ≡ y
one x y e = cc

pub tells_past : LowSaidByPrints → (format : Format) → (low : LowProgram) (events : List Event) (line : ℕ) (item : ℕ × Value) → IsLine low events line item → (led : List Event)
    → IsPastOfLine low events line led → (shown : List Event) → shown ≡ led → (r : Result (List ℕ) Want)
    → IfOk r (λ text. text ≡ past_text low.sites item (history_text format shown) (length shown)) → IfOk r (TellsPast format low events line)
tells_past law format low events line item its led is shown same (Ok text) report =
    let p = its.printed in
    let before : prints (take is.index events) ≡ line - 1 = (let b = is.print.before in omega (arith, b)) in
    let said : slice_get p.last.said (prints (take is.index events)) ≡ Some is.past.item = (law low p.last events p.reaches).1 is.index is.past.item is.past.says in
    let there : slice_get p.last.said (prints (take is.index events)) ≡ Some item = ap (slice_get p.last.said) before ∙ ap (λ said. slice_get said (line - 1)) p.is ∙ its.its in
    record { led = led; is = is; item = item; its = its; value = one is.past.item item (sym said ∙ there); report = report ∙ ap (λ es. past_text low.sites item (history_text format es) (length es)) same }
tells_past law format low events line item its led is shown same (Err e) report = tt

-- a refusal of the line alone
pub lacks_alone : (low : LowProgram) (events : List Event) (line : ℕ) (r : Result (List ℕ) Refusal) → IfErr r (λ refusal. refusal ≢ Memory → LacksLine low events line refusal)
    → IfErr r (λ refusal. refusal ≢ Memory → Stops (start_low low) events refusal ⊎ LacksLine low events line refusal)
lacks_alone low events line (Ok text) h = tt
lacks_alone low events line (Err e) h = λ some. inr (h some)
