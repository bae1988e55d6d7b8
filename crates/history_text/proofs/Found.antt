-- What the lines of a text say is what makes it a history, or refuses it.
use Rattle.std.proofs.Common.{◌≡◌, ℕ, suc, ◌+◌, ◌<◌, ◌^◌, List, [], ◌∷◌, ◌++◌, map, length, decimal, refl, sym, ap, subst, ◌∙◌, None, Some, Option}
use Rattle.std.proofs.Common.{Result, Ok, Err, arith, append_assoc, append-nil, length-append, add-zero, ◌⊎◌, inl, inr}
use Rattle.std.specs.Prelude.{IfOk, IfErr, Bool, true, false, cond, ◌==◌, ◌≢◌}
use Rattle.std.specs.List.{list_all, AllByRecursion}
use Rattle.std.proofs.Math.ListN.{length-map}
use Rattle.std.proofs.lemmas.Bool.Decides.{nat_tests}
use Rattle.std.proofs.lemmas.Slice.Eq.{bytes_eq-Decides}
use Rattle.std.proofs.lemmas.Fmt.{decimal_nonempty}
use Rattle.std.specs.Char.{is_ascii_digit}
use Rattle.np_syntax.proofs.Bools.{and-out, clash}
use Rattle.np_syntax.specs.declared.event.Event.{Event}
use Rattle.history_text.specs.declared.fail.HistFail.{HistFail}
use Rattle.history_text.specs.declared.fail.HistFail.TheVariants as fail
use Rattle.history_text.specs.declared.format.Format.{Format}
use Rattle.history_text.specs.Spelling.{event_line, first_line, end_line}
use Rattle.history_text.specs.Histories.{lines, Fits, IsSkipped, IsFaulty, Beginning, lines_of, lines_up_to, IsHistory, IsRefused, IsRefusal}
use Rattle.history_text.specs.Laws.{IsSomeHistory, IsSomewhereRefused, HasOneReading}
use Rattle.history_text.specs.Histories as h
use Rattle.history_text.specs.Reading.{is_end, event_of, format_of, after, event_then, events_from, format_then, history_from, Reads}
use Rattle.history_text.proofs.Numbers.{decimal_digits}
use Rattle.history_text.proofs.Parts.{event_again, event_takes, format_back, format_is, line_number}

-- ---- what a line is

end_is : (line : List ℕ) → is_end line ≡ true → line ≡ end_line
end_is line e = (bytes_eq-Decides line end_line).0 e

no_end_here : (digits rest : List ℕ) → 0 < length digits → list_all is_ascii_digit digits ≡ true → is_end (digits ++ rest) ≡ false
no_end_here [] rest some all = absurd (omega arith)
no_end_here (digit ∷ digits) rest some all =
    let first = (and-out (is_ascii_digit digit) (list_all is_ascii_digit digits) all).0 in
    let other : (digit == 101) ≡ false = grind (arith, nat_tests) in
    rw other refl

event_no_end : (format : Format) (e : Event) → Fits e → is_end (event_line format e) ≡ false
event_no_end format e fits =
    let small : e.site < 2 ^ 32 = fits.site in
    let begins = line_number format e in
    ap is_end begins.1 ∙ no_end_here (decimal e.site) begins.0 (decimal_nonempty e.site (omega arith)) (decimal_digits e.site small)

fault_no_end : (line : List ℕ) → line ≢ end_line → is_end line ≡ false
fault_no_end line other = go (is_end line) refl
  where
    go : (b : Bool) → is_end line ≡ b → is_end line ≡ false
    go true e = absurd (other (end_is line e))
    go false e = e

fault_no_event : (format : Format) (line : List ℕ) → ((e : Event) → Fits e → line ≢ event_line format e) → event_of format line ≡ None
fault_no_event format line other = go (event_of format line) refl
  where
    go : (o : Option Event) → event_of format line ≡ o → event_of format line ≡ None
    go None e = e
    go (Some x) e = let t = event_takes format line x e in absurd (other x t.1 t.0)

none_faulty : (format : Format) (line : List ℕ) → event_of format line ≡ None → is_end line ≡ false → IsFaulty format line
none_faulty format line none no_end = record {
  event = λ e fits same. never (ap (event_of format) same ∙ event_again format e fits);
  end = λ same. clash no_end (ap is_end same);
}
  where
    never : {x : Event} → event_of format line ≡ Some x → ⊥
    never some = cc

skipped_no_first : (line : List ℕ) → IsSkipped line → format_of line ≡ None
skipped_no_first line skips = go (format_of line) refl
  where
    go : (o : Option Format) → format_of line ≡ o → format_of line ≡ None
    go None e = e
    go (Some format) e = absurd (skips format (sym (format_is line format e)))

none_skipped : (line : List ℕ) → format_of line ≡ None → IsSkipped line
none_skipped line none format same = let some : format_of line ≡ Some format = ap format_of same ∙ format_back format in cc

-- ---- from the lines of events to what is read

after_none : (r : Result (List Event) ℕ) → after [] r ≡ r
after_none (Ok events) = refl
after_none (Err line) = refl

after_more : (front more : List Event) (r : Result (List Event) ℕ) → after front (after more r) ≡ after (front ++ more) r
after_more front more (Ok events) = ap Ok (sym (append_assoc front more events))
after_more front more (Err line) = refl

module _ (format : Format) where
  at_fault : (number : ℕ) (line : List ℕ) (behind : List (List ℕ)) → IsFaulty format line → events_from format number (line ∷ behind) ≡ Err (number + 1)
  at_fault number line behind f = rw (fault_no_end line f.end, fault_no_event format line f.event) refl

  -- the later lines are read behind the events' lines
  past : (number : ℕ) (events : List Event) (later : List (List ℕ)) → AllByRecursion Fits events
      → events_from format number (map (event_line format) events ++ later) ≡ after events (events_from format (number + length events) later)
  past number [] later fits = sym (after_none (events_from format number later)) ∙ ap (λ n. after [] (events_from format n later)) (sym (add-zero number))
  past number (e ∷ events) later fits =
      let counts : number + 1 + length events ≡ number + suc (length events) = omega arith in
      rw (event_no_end format e fits.0, event_again format e fits.0)
      (ap (after (e ∷ [])) (past (number + 1) events later fits.1) ∙ after_more (e ∷ []) events (events_from format (number + 1 + length events) later)
      ∙ ap (λ n. after (e ∷ events) (events_from format n later)) counts)

-- the later lines are read behind those that are skipped
skip : (number : ℕ) (skipped later : List (List ℕ)) → AllByRecursion IsSkipped skipped
    → history_from number (skipped ++ later) ≡ history_from (number + length skipped) later
skip number [] later skips = ap (λ n. history_from n later) (sym (add-zero number))
skip number (line ∷ skipped) later skips =
    let counts : number + 1 + length skipped ≡ number + suc (length skipped) = omega arith in
    rw (skipped_no_first line skips.0) (skip (number + 1) skipped later skips.1 ∙ ap (λ n. history_from n later) counts)

begin : (number : ℕ) (format : Format) (later : List (List ℕ)) → history_from number (first_line format ∷ later) ≡ events_from format (number + 1) later
begin number format later = ap (λ o. format_then o (history_from (number + 1) later) (λ f. events_from f (number + 1) later)) (format_back format)

up_to_length : (skipped : List (List ℕ)) (format : Format) (events : List Event)
    → length (lines_up_to skipped format events) ≡ length skipped + 1 + length events
up_to_length skipped format events = omega (arith, length-append skipped (first_line format ∷ map (event_line format) events), length-map events (event_line format))

up_to : (skipped : List (List ℕ)) (format : Format) (events : List Event) (later : List (List ℕ)) → AllByRecursion IsSkipped skipped
    → AllByRecursion Fits events
    → history_from 0 (lines_up_to skipped format events ++ later) ≡ after events (events_from format (length skipped + 1 + length events) later)
up_to skipped format events later skips fits =
    let counts : 0 + length skipped ≡ length skipped = omega arith in
    ap (history_from 0) (append_assoc skipped (first_line format ∷ map (event_line format) events) later)
    ∙ skip 0 skipped (first_line format ∷ (map (event_line format) events ++ later)) skips
    ∙ ap (λ n. history_from n (first_line format ∷ (map (event_line format) events ++ later))) counts
    ∙ begin (length skipped) format (map (event_line format) events ++ later)
    ∙ past format (length skipped + 1) events later fits

pub history_reads : {text : List ℕ} {format : Format} {events : List Event} → IsHistory text format events → history_from 0 (lines text) ≡ Ok events
history_reads {format = format} {events = events} found =
    ap (history_from 0) found.is ∙ up_to found.skipped format events (end_line ∷ found.behind) found.skips found.fits ∙ ap Ok (append-nil events)

pub refused_reads : {text : List ℕ} {number : ℕ} → IsRefused text number → history_from 0 (lines text) ≡ Err number
refused_reads {text = text} (h.no_first skips) =
    let counts : 0 + length (lines text) + 1 ≡ length (lines text) + 1 = omega arith in
    ap (history_from 0) (sym (append-nil (lines text))) ∙ skip 0 (lines text) [] skips ∙ ap Err counts
refused_reads {text = text} (h.no_end b is) =
    let counts : length b.skipped + 1 + length b.events + 1 ≡ length (lines text) + 1 = omega (arith, ap length is, up_to_length b.skipped b.format b.events) in
    ap (history_from 0) (is ∙ sym (append-nil (lines_of b))) ∙ up_to b.skipped b.format b.events [] b.skips b.fits ∙ ap Err counts
refused_reads {text = text} (h.faulty b line behind is fault) =
    let counts : length b.skipped + 1 + length b.events + 1 ≡ length (lines_of b) + 1 = omega (arith, up_to_length b.skipped b.format b.events) in
    ap (history_from 0) is ∙ up_to b.skipped b.format b.events (line ∷ behind) b.skips b.fits
    ∙ ap (after b.events) (at_fault b.format (length b.skipped + 1 + length b.events) line behind fault) ∙ ap Err counts

-- ---- from what is read to the lines

-- the lines are those of these events and the last
record Ended (format : Format) (ls : List (List ℕ)) (events : List Event) : Type 0 where
  behind : List (List ℕ)
  is : ls ≡ map (event_line format) events ++ end_line ∷ behind
  fits : AllByRecursion Fits events

record Fault (format : Format) (ls : List (List ℕ)) (events : List Event) : Type 0 where
  line : List ℕ
  behind : List (List ℕ)
  is : ls ≡ map (event_line format) events ++ line ∷ behind
  faulty : IsFaulty format line

-- the lines are those of these events, and then none or a faulty one
record Stopped (format : Format) (number : ℕ) (ls : List (List ℕ)) (line : ℕ) : Type 0 where
  events : List Event
  fits : AllByRecursion Fits events
  counts : line ≡ number + length events + 1
  stops : (ls ≡ map (event_line format) events) ⊎ Fault format ls events

abbrev EventsSay : Format → ℕ → List (List ℕ) → Result (List Event) ℕ → Type 0
EventsSay format number ls (Ok events) = Ended format ls events
EventsSay format number ls (Err line) = Stopped format number ls line

module _ (format : Format) where
  one_more : (e : Event) (line : List ℕ) (ls : List (List ℕ)) (events : List Event) → line ≡ event_line format e
      → (ls ≡ map (event_line format) events) ⊎ Fault format ls events
      → (line ∷ ls ≡ map (event_line format) (e ∷ events)) ⊎ Fault format (line ∷ ls) (e ∷ events)
  one_more e line ls events same (inl is) = inl (rw (same, is) refl)
  one_more e line ls events same (inr fault) = inr (record { line = fault.line; behind = fault.behind; is = rw same (ap (λ l. event_line format e ∷ l) fault.is); faulty = fault.faulty })

  events_say : (number : ℕ) (ls : List (List ℕ)) → EventsSay format number ls (events_from format number ls)
  events_say number [] = record { events = []; fits = tt; counts = ap (λ n. n + 1) (sym (add-zero number)); stops = inl refl }
  events_say number (line ∷ ls) = go (is_end line) refl (event_of format line) refl (events_from format (number + 1) ls) (events_say (number + 1) ls)
    where
      go : (b : Bool) → is_end line ≡ b → (o : Option Event) → event_of format line ≡ o → (r : Result (List Event) ℕ) → EventsSay format (number + 1) ls r
          → EventsSay format number (line ∷ ls) (cond b (Ok []) (event_then o number r))
      go true e o s r says = record { behind = ls; is = ap (λ l. l ∷ ls) (end_is line e); fits = tt }
      go false e None s r says =
          record { events = []; fits = tt; counts = ap (λ n. n + 1) (sym (add-zero number)); stops = inr (record { line = line; behind = ls; is = refl; faulty = none_faulty format line s e }) }
      go false e (Some x) s (Ok events) says =
          let taken = event_takes format line x s in
          record { behind = says.behind; is = rw taken.0 (ap (λ l. event_line format x ∷ l) says.is); fits = (taken.1, says.fits) }
      go false e (Some x) s (Err n) says =
          let taken = event_takes format line x s in
          record { events = x ∷ says.events; fits = (taken.1, says.fits); counts = omega (arith, says.counts); stops = one_more x line ls says.events taken.0 says.stops }

-- lines that are skipped, and the first line of a history
record Behind (ls : List (List ℕ)) (skipped : List (List ℕ)) (format : Format) (rest : List (List ℕ)) : Type 0 where
  is : ls ≡ skipped ++ first_line format ∷ rest
  skips : AllByRecursion IsSkipped skipped

record Read (ls : List (List ℕ)) (events : List Event) : Type 0 where
  skipped : List (List ℕ)
  format : Format
  rest : List (List ℕ)
  begins : Behind ls skipped format rest
  ended : Ended format rest events

record Refused (number : ℕ) (ls : List (List ℕ)) (line : ℕ) : Type 0 where
  skipped : List (List ℕ)
  format : Format
  rest : List (List ℕ)
  begins : Behind ls skipped format rest
  stopped : Stopped format (number + length skipped + 1) rest line

record NoFirst (number : ℕ) (ls : List (List ℕ)) (line : ℕ) : Type 0 where
  skips : AllByRecursion IsSkipped ls
  counts : line ≡ number + length ls + 1

abbrev HistorySays : ℕ → List (List ℕ) → Result (List Event) ℕ → Type 0
HistorySays number ls (Ok events) = Read ls events
HistorySays number ls (Err line) = NoFirst number ls line ⊎ Refused number ls line

history_says : (number : ℕ) (ls : List (List ℕ)) → HistorySays number ls (history_from number ls)
history_says number [] = inl (record { skips = tt; counts = ap (λ n. n + 1) (sym (add-zero number)) })
history_says number (line ∷ ls) = go (format_of line) refl (history_from (number + 1) ls) (history_says (number + 1) ls)
  where
    found : (format : Format) → format_of line ≡ Some format → (r : Result (List Event) ℕ) → EventsSay format (number + 1) ls r
        → HistorySays number (line ∷ ls) r
    found format s (Ok events) says = record { skipped = []; format = format; rest = ls; begins = record { is = ap (λ l. l ∷ ls) (sym (format_is line format s)); skips = tt }; ended = says }
    found format s (Err n) says = inr (record {
      skipped = [];
      format = format;
      rest = ls;
      begins = record { is = ap (λ l. l ∷ ls) (sym (format_is line format s)); skips = tt };
      stopped = record { events = says.events; fits = says.fits; counts = omega (arith, says.counts); stops = says.stops };
    })

    skipped : format_of line ≡ None → (r : Result (List Event) ℕ) → HistorySays (number + 1) ls r → HistorySays number (line ∷ ls) r
    skipped s (Ok events) says = record {
      skipped = line ∷ says.skipped;
      format = says.format;
      rest = says.rest;
      begins = record { is = ap (λ l. line ∷ l) says.begins.is; skips = (none_skipped line s, says.begins.skips) };
      ended = says.ended;
    }
    skipped s (Err n) (inl says) = inl (record { skips = (none_skipped line s, says.skips); counts = omega (arith, says.counts) })
    skipped s (Err n) (inr says) = inr (record {
      skipped = line ∷ says.skipped;
      format = says.format;
      rest = says.rest;
      begins = record { is = ap (λ l. line ∷ l) says.begins.is; skips = (none_skipped line s, says.begins.skips) };
      stopped = record { events = says.stopped.events; fits = says.stopped.fits; counts = omega (arith, says.stopped.counts); stops = says.stopped.stops };
    })

    go : (o : Option Format) → format_of line ≡ o → (r : Result (List Event) ℕ) → HistorySays (number + 1) ls r
        → HistorySays number (line ∷ ls) (format_then o r (λ format. events_from format (number + 1) ls))
    go None s r says = skipped s r says
    go (Some format) s r says = found format s (events_from format (number + 1) ls) (events_say format (number + 1) ls)

-- ---- the text is a history, or refused

pub reads_history : (text : List ℕ) (events : List Event) → history_from 0 (lines text) ≡ Ok events → (format : Format) × IsHistory text format events
reads_history text events e =
    let says : Read (lines text) events = subst (HistorySays 0 (lines text)) e (history_says 0 (lines text)) in (
      says.format,
      record {
        skipped = says.skipped;
        behind = says.ended.behind;
        is = says.begins.is ∙ ap (λ l. says.skipped ++ first_line says.format ∷ l) says.ended.is
            ∙ sym (append_assoc says.skipped (first_line says.format ∷ map (event_line says.format) events) (end_line ∷ says.ended.behind));
        skips = says.begins.skips;
        fits = says.ended.fits;
      },
    )

-- the beginning of a text that stops
beginning : {ls : List (List ℕ)} {line : ℕ} → Refused 0 ls line → Beginning
beginning r = record { skipped = r.skipped; format = r.format; events = r.stopped.events; skips = r.begins.skips; fits = r.stopped.fits }

module _ (text : List ℕ) (line : ℕ) (r : Refused 0 (lines text) line) where
  refused_without_end : r.rest ≡ map (event_line r.format) r.stopped.events → IsRefused text line
  unfolding beginning
  refused_without_end is =
      let all : lines text ≡ lines_of (beginning r) = r.begins.is ∙ ap (λ l. r.skipped ++ first_line r.format ∷ l) is in
      let same : length (lines text) + 1 ≡ line = omega (arith, ap length all, up_to_length r.skipped r.format r.stopped.events, r.stopped.counts) in
      subst (IsRefused text) same (h.no_end (beginning r) all)

  refused_at_fault : Fault r.format r.rest r.stopped.events → IsRefused text line
  unfolding beginning
  refused_at_fault fault =
      let all : lines text ≡ lines_of (beginning r) ++ fault.line ∷ fault.behind =
      r.begins.is ∙ ap (λ l. r.skipped ++ first_line r.format ∷ l) fault.is
      ∙ sym (append_assoc r.skipped (first_line r.format ∷ map (event_line r.format) r.stopped.events) (fault.line ∷ fault.behind)) in
      let same : length (lines_of (beginning r)) + 1 ≡ line = omega (arith, up_to_length r.skipped r.format r.stopped.events, r.stopped.counts) in
      subst (IsRefused text) same (h.faulty (beginning r) fault.line fault.behind all fault.faulty)

pub reads_refused : (text : List ℕ) (line : ℕ) → history_from 0 (lines text) ≡ Err line → IsRefused text line
reads_refused text line e = go (subst (HistorySays 0 (lines text)) e (history_says 0 (lines text)))
  where
    stops : (r : Refused 0 (lines text) line) → (r.rest ≡ map (event_line r.format) r.stopped.events) ⊎ Fault r.format r.rest r.stopped.events
        → IsRefused text line
    stops r (inl is) = refused_without_end text line r is
    stops r (inr fault) = refused_at_fault text line r fault

    go : NoFirst 0 (lines text) line ⊎ Refused 0 (lines text) line → IsRefused text line
    go (inl none) = let same : length (lines text) + 1 ≡ line = omega (arith, none.counts) in subst (IsRefused text) same (h.no_first none.skips)
    go (inr r) = stops r r.stopped.stops

pub not_both : {text : List ℕ} {format : Format} {events : List Event} {line : ℕ} → IsHistory text format events → IsRefused text line → ⊥
not_both found refused = never (history_reads found) (refused_reads refused)
  where
    never : {r : Result (List Event) ℕ} {events : List Event} {line : ℕ} → r ≡ Ok events → r ≡ Err line → ⊥
    never one other = cc

some_reading : (text : List ℕ) (r : Result (List Event) ℕ) → history_from 0 (lines text) ≡ r → IsSomeHistory text ⊎ IsSomewhereRefused text
some_reading text (Ok events) e = let found = reads_history text events e in inl (record { format = found.0; events = events; is = found.1 })
some_reading text (Err line) e = inr (record { line = line; is = reads_refused text line e })

pub one_reading : (text : List ℕ) → HasOneReading text
one_reading text = record {
  some = some_reading text (history_from 0 (lines text)) refl;
  events = λ one other. same_events (history_reads one.is) (history_reads other.is);
  line = λ one other. same_line (refused_reads one.is) (refused_reads other.is);
  apart = λ found refused. not_both found.is refused.is;
}
  where
    same_events : {r : Result (List Event) ℕ} {events others : List Event} → r ≡ Ok events → r ≡ Ok others → events ≡ others
    same_events one other = cc

    same_line : {r : Result (List Event) ℕ} {line other_line : ℕ} → r ≡ Err line → r ≡ Err other_line → line ≡ other_line
    same_line one other = cc

-- ---- what a reader answers

module _ (text : List ℕ) where
  pub read_found : (r : Result (List Event) HistFail) → Reads r (history_from 0 (lines text))
      → IfOk r (λ events. (format : Format) × IsHistory text format events)
  read_found (Ok events) e = reads_history text events e
  read_found (Err f) e = tt

  pub read_only : (r : Result (List Event) HistFail) → Reads r (history_from 0 (lines text))
      → IfOk r (λ events. (format : Format) (others : List Event) → IsHistory text format others → others ≡ events)
  read_only (Ok events) e = λ format others found. (let same : Ok others ≡ history_from 0 (lines text) = sym (history_reads found) in cc)
  read_only (Err f) e = tt

  pub read_refused : (r : Result (List Event) HistFail) → Reads r (history_from 0 (lines text)) → IfErr r (λ f. IsRefusal text f)
  read_refused (Ok events) e = tt
  read_refused (Err fail.Memory) e = tt
  read_refused (Err (fail.HistSyntax line)) e = reads_refused text line e

  pub read_none : (r : Result (List Event) HistFail) → Reads r (history_from 0 (lines text))
      → IfErr r (λ f. f ≢ fail.Memory → (format : Format) (events : List Event) → IsHistory text format events → ⊥)
  read_none (Ok events) e = tt
  read_none (Err fail.Memory) e = λ other. absurd (other refl)
  read_none (Err (fail.HistSyntax line)) e = λ other format events found. not_both found (reads_refused text line e)
