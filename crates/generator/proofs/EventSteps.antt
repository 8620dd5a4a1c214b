-- An event of the generator starts a run, and its call is made where its user's cell is free.
use Rattle.std.proofs.Common.{◌≡◌, ℕ, suc, ◌+◌, ◌*◌, ◌/◌, ◌%◌, ◌^◌, ◌==◌, ◌<◌, ◌≤◌, true, false, cond, ◌&&◌, ◌||◌, nat_lt, List, [], ◌∷◌, ◌++◌, codes, find, length, length-append, Some, None, refl, sym, ap, subst, ◌∙◌, arith}
use Rattle.std.specs.Prelude.{decimal}
use Rattle.std.specs.List.{AllByRecursion}
use Rattle.std.specs.Option.{option_map}
use Rattle.std.specs.Str.Parse.{digits_value}
use Rattle.std.proofs.lemmas.Fmt.{decimal_is_IsNumeral, length-decimal-le}
use Rattle.intake.specs.Events.{event_text}
use Rattle.json_text.specs.Text.{escaped, escaped_byte, hex_digit}
use Rattle.kinds.specs.Seen.{find_seen, has_id, is_remembered}
use Rattle.kinds.specs.declared.event.Event.{Event}
use Rattle.kinds.specs.declared.seen.SeenEntry.{SeenEntry}
use Rattle.lists.proofs.Elements.{all-weaker}
use Rattle.lists.proofs.Texts.{bytes_same}
use Rattle.run_model.specs.Events.{event_with, follow}
use Rattle.run_model.specs.Machine.{act}
use Rattle.run_model.specs.Making.{make_run, queue_new, run_with, step_target, text_or_none}
use Rattle.run_model.specs.Requests.{Answering, accept, answer_event, on_events, repeats}
use Rattle.run_model.specs.State.{State, Run, text_of}
use Rattle.generator.specs.Inputs.{event, event_input}
use Rattle.generator.proofs.Standing.{IsId, IsRun, Stands, entry, plain, received, stands-event, stands-queued, with_new}

-- ## No event is repeated

same-decimal : (a b : ℕ) → a < 2 ^ 64 → b < 2 ^ 64 → decimal a ≡ decimal b → a ≡ b
same-decimal a b h k e =
    sym (decimal_is_IsNumeral a h).1 ∙ ap (digits_value 10) e ∙ (decimal_is_IsNumeral b k).1

same-behind : (v w : List ℕ) → codes "g" ++ v ≡ codes "g" ++ w → v ≡ w
same-behind v w e = cc

other-id : (e : ℕ) (i : SeenEntry) → e < 100000 → IsId e i → has_id (codes "g" ++ decimal (suc e)) i ≡ false
other-id e i few h =
    (elim (has_id (codes "g" ++ decimal (suc e)) i) as (λ b. has_id (codes "g" ++ decimal (suc e)) i ≡ b
    → b ≡ false) [
      | true ↦ λ same.
          let ids : codes "g" ++ decimal (suc e) ≡ codes "g" ++ decimal h.0 =
          bytes_same (codes "g" ++ decimal (suc e)) i.id same ∙ h.2 in
          let numbers : suc e ≡ h.0 =
          same-decimal (suc e) h.0 (omega arith) (let low = h.1 in omega (arith, low))
          (same-behind (decimal (suc e)) (decimal h.0) ids) in
          let low : h.0 ≤ e = h.1 in absurd (omega (arith, numbers, low))
      | false ↦ λ other. refl
    ]) refl

none-seen : (id : List ℕ) (moment : ℕ) (seen : List SeenEntry) → AllByRecursion (λ i. has_id id i ≡ false) seen
    → find_seen id moment seen ≡ None
none-seen id moment seen h = ap (option_map (λ (i : SeenEntry). i.number)) (none seen h)
  where
    none : (seen : List SeenEntry) → AllByRecursion (λ i. has_id id i ≡ false) seen
        → find (λ i. has_id id i && is_remembered moment i) seen ≡ None
    none [] h = refl
    none (i ∷ is) h = rw h.0 (none is h.1)

-- ## Its text is short

byte-short : (b : ℕ) → length (escaped_byte b) ≤ 6
byte-short b =
    let pair : List ℕ = 0x5c ∷ b ∷ [] in
    let control : List ℕ = 0x5c ∷ 0x75 ∷ 0x30 ∷ 0x30 ∷ hex_digit (b / 16) ∷ hex_digit (b % 16) ∷ [] in
    elim ((b == 0x22) || (b == 0x5c))
    as (λ t. length (cond t pair (cond (nat_lt b 0x20) control (b ∷ []))) ≤ 6) [
      | true ↦ omega arith
      | false ↦ elim (nat_lt b 0x20) as (λ t. length (cond t control (b ∷ [])) ≤ 6)
          [ true ↦ omega arith | false ↦ omega arith ]
    ]

escaped-short : (w : List ℕ) → length (escaped w) ≤ 6 * length w
escaped-short [] = omega arith
escaped-short (b ∷ bs) =
    let more = escaped-short bs in
    let here = byte-short b in
    let both = length-append (escaped_byte b) (escaped bs) in
    omega (arith, more, here, both)

text-short : (number moment user i : ℕ) → moment ≤ 1000000 → user < 10 → i ≤ 100000
    → length (event_text number moment (event user i)) ≤ 200
unfolding event_text
text-short number moment user i h k l =
    let u = length-decimal-le 1 user (omega arith) (omega arith) (omega arith) in
    let d = length-decimal-le 6 i (omega arith) (omega arith) (omega arith) in
    let m = length-decimal-le 7 moment (omega arith) (omega arith) (omega arith) in
    let q = escaped-short (decimal i) in
    simp length-append (omega (arith, u, d, m, q))

id-short : (i : ℕ) → i ≤ 100000 → length (codes "g" ++ decimal i) ≤ 16
id-short i h =
    let d = length-decimal-le 6 i (omega arith) (omega arith) (omega arith) in omega (arith, d)

-- ## What it does

-- its run
abbrev run_for : Event → List ℕ → State → Run
run_for event id s =
    run_with entry (event.number ∷ []) (text_or_none (text_of event.number (received event id s))) None
    (received event id s)

own-run : (number : ℕ) (text : List ℕ) (s : State) → IsRun (run_with entry (number ∷ []) text None s)
own-run number text s = record {
  parent = refl;
  start = refl;
  planned = refl;
  pending = refl;
  results = omega arith;
  cells = (omega arith, tt);
}

abbrev id_of : ℕ → List ℕ
id_of i = codes "g" ++ decimal i

-- the state with its run, and an item for it
abbrev with_run : Event → List ℕ → State → State
with_run event id s = queue_new (run_for event id s) step_target (with_new (run_for event id s) (received event id s))

accepted-plain : (user i : ℕ) (s : State)
    → accept (event_with (event user i) (plain s)) (Some (id_of i)) (plain s)
    ≡ with_run (event_with (event user i) (plain s)) (id_of i) (plain s)
unfolding follow make_run
accepted-plain user i s = refl

accepted : (user i : ℕ) (s : State) → s ≡ plain s
    → accept (event_with (event user i) s) (Some (id_of i)) s ≡ with_run (event_with (event user i) s) (id_of i) s
accepted user i s same =
    subst (λ z. accept (event_with (event user i) z) (Some (id_of i)) z
    ≡ with_run (event_with (event user i) z) (id_of i) z) (sym same) (accepted-plain user i s)

answered : (user i : ℕ) (s : State) → repeats (event user i) s ≡ None
    → (act (event_input user i) s).state ≡ accept (event_with (event user i) s) (Some (id_of i)) s
unfolding act on_events
answered user i s none =
    let all : Answering = record { state = s; numbers = [] } in
    ap (λ o. (answer_event (event user i) o all).state) none

pub event-acts : (n e r c user : ℕ) (s : State) → e < 100000 → user < 10 → Stands n e r c None s
    → Stands n (suc e) r (c + 2) None (act (event_input user (suc e)) s).state
event-acts n e r c user s few known h =
    let ev : Event = event_with (event user (suc e)) s in
    let id : List ℕ = id_of (suc e) in
    let x : Run = run_for ev id s in
    let own : IsRun x = own-run ev.number (text_or_none (text_of ev.number (received ev id s))) (received ev id s) in
    let none =
    none-seen id s.moment s.seen
    (all-weaker (IsId e) (λ i. has_id id i ≡ false) s.seen (λ i k. other-id e i few k) h.ids) in
    subst (λ z. Stands n (suc e) r (c + 2) None z)
    (sym (answered user (suc e) s none ∙ accepted user (suc e) s h.constant))
    (stands-queued n (suc e) r (c + 2) x (with_new x (received ev id s)) own
    (stands-event n e r c ev id x s refl
    (text-short (s.events + 1) s.moment user (suc e) h.dated known (omega arith)) refl
    (id-short (suc e) (omega arith)) refl own refl h))
