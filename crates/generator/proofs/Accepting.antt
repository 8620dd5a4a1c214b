-- The generator's inputs are accepted: the counts are far from their ends, and little is kept.
use Rattle.std.proofs.Common.{◌≡◌, ℕ, ◌+◌, ◌*◌, ◌<◌, ◌≤◌, Bool, true, false, cond, nat_le, nat_lt, List, [], ◌∷◌, filter, length, max, Some, None, refl, ap, ◌∙◌, arith}
use Rattle.std.proofs.lemmas.Bool.Decides.{nat_tests}
use Rattle.std.specs.List.{AllByRecursion}
use Rattle.kinds.specs.Seen.{weight_of}
use Rattle.kinds.specs.declared.event.EventIn.{EventIn}
use Rattle.kinds.specs.declared.input.Input.TheVariants.{Events}
use Rattle.kinds.specs.declared.refusal.Refusal.TheVariants.{NumbersSpent, KeptFull, RunsFull}
use Rattle.kinds.specs.declared.seen.SeenEntry.{SeenEntry}
use Rattle.run_model.specs.Machine.{Accepts, refusal_by_kind, refusal_of_call, spent}
use Rattle.run_model.specs.State.{State, Run, Issue, EventText, bytes_of_results, bytes_of_texts, greatest, is_used, kept, live, open_issue}
use Rattle.generator.specs.Inputs.{reply_input}
use Rattle.generator.proofs.ReplySteps.{first-found}
use Rattle.generator.proofs.Standing.{IsRun, Stands, credit, plain, seen_size, text_size}
use Rattle.generator.proofs.Sums.{sum-left, sum_of}

-- ## Counts

-- after so many events and replies
pub record AreFew (n e r : ℕ) : Type 0 where
  pub inputs : n ≤ 300001
  pub events : e ≤ 100000
  pub replies : r ≤ 200000

least-of : (a b c d e f most : ℕ) → a ≤ most → b ≤ most → c ≤ most → d ≤ most → e ≤ most → f ≤ most
    → max (max (max a b) (max c d)) (max e f) ≤ most
least-of a b c d e f most h1 h2 h3 h4 h5 h6 = omega arith

few-greatest : (n e r c : ℕ) (s : State) → AreFew n e r → Stands n e r c None s → greatest s ≤ 2000000
few-greatest n e r c s few h =
    let versions : s.versions ≡ 1 = ap (λ (z : State). z.versions) h.constant in
    let room = h.room in
    let entries = h.entries in
    least-of s.inputs s.events s.runs s.calls s.entries s.versions 2000000
    (omega (arith, h.inputs, few.inputs)) (omega (arith, h.events, few.events))
    (omega (arith, h.runs, few.events)) (omega (arith, room, few.events, few.replies))
    (omega (arith, room, entries, few.events, few.replies)) (omega (arith, versions))

not-spent : (g : ℕ) → g ≤ 2000000 → nat_le spent g ≡ false
not-spent g h = grind (arith, nat_tests)

-- ## A reply

pub accepts-reply : (n e r c at k : ℕ) (b : Bool) (o : Issue) (is : List Issue) (s : State) → AreFew n e r
    → s.issues ≡ o ∷ is → Stands n e r c None s → Accepts s (reply_input at o.call b k)
accepts-reply n e r c at k b o is s few first h =
    ap (λ t. cond t (Some (NumbersSpent (greatest s))) (refusal_of_call o.call (open_issue o.call s)))
    (not-spent (greatest s) (few-greatest n e r c s few h))
    ∙ ap (refusal_of_call o.call) (first-found o is s first)

-- ## An event

texts-sum : (es : List EventText) → bytes_of_texts es ≡ sum_of text_size es
texts-sum [] = refl
texts-sum (e ∷ es) = ap (λ m. length e.text + m) (texts-sum es)

seen-sum : (es : List SeenEntry) → weight_of es ≡ sum_of seen_size es
seen-sum [] = refl
seen-sum (e ∷ es) = ap (λ m. length e.id + 64 + m) (seen-sum es)

credit-some : (x : Run) → 1 ≤ credit x
credit-some x =
    elim (nat_lt 0 (length x.steps.recorded)) as (λ b. 1 ≤ cond b 1 2) [ true ↦ omega arith | false ↦ omega arith ]

results-few : (rs : List Run) → AllByRecursion IsRun rs → bytes_of_results rs ≤ 100 * sum_of credit rs
results-few [] h = omega arith
results-few (x ∷ xs) h =
    let more = results-few xs h.1 in
    let some = credit-some x in
    let own = h.0.results in omega (arith, more, some, own)

pub live-few : (rs : List Run) → length rs ≤ sum_of credit rs
live-few [] = omega arith
live-few (x ∷ xs) = let more = live-few xs in let some = credit-some x in omega (arith, more, some)

kept-few : (n e r c : ℕ) (s : State) → e ≤ 100000 → c ≤ 200000 → Stands n e r c None s → kept s ≤ 100000000
kept-few n e r c s few few_left h =
    let used = texts-sum (filter (is_used s) s.texts) in
    let fewer = sum-left text_size (is_used s) s.texts in
    let seen = seen-sum s.seen in
    let results = results-few s.live h.each_run in
    let texts = h.texts in
    let ids = h.seen in
    let credits = h.credits in omega (arith, used, fewer, seen, results, texts, ids, credits)

low : (limit m most : ℕ) → m ≤ most → most < limit → nat_le limit m ≡ false
low limit m most h k = grind (arith, nat_tests, h, k)

accepts-plain : (at : ℕ) (events : List EventIn) (s : State) → greatest s ≤ 2000000 → kept s ≤ 100000000
    → live s ≤ 200000 → s ≡ plain s → Accepts s (Events at events)
accepts-plain at events s g k l same =
    let limits = ap (λ (z : State). z.limits) same in
    ap (λ t. cond t (Some (NumbersSpent (greatest s))) (refusal_by_kind s (Events at events)))
    (not-spent (greatest s) g)
    ∙ ap (λ (t : Bool). cond t (Some (KeptFull (kept s)))
    (cond (nat_le s.limits.live (live s)) (Some (RunsFull (live s))) None))
    (ap (λ z. nat_le z (kept s)) (ap (λ (z : State). z.limits.kept) same)
    ∙ low 1073741824 (kept s) 100000000 k (omega arith))
    ∙ ap (λ (t : Bool). cond t (Some (RunsFull (live s))) None)
    (ap (λ z. nat_le z (live s)) (ap (λ (z : State). z.limits.live) same)
    ∙ low 1000000 (live s) 200000 l (omega arith))

pub accepts-event : (n e r c at : ℕ) (events : List EventIn) (s : State) → AreFew n e r → c ≤ 200000
    → Stands n e r c None s → Accepts s (Events at events)
accepts-event n e r c at events s few few_left h =
    let alive = live-few s.live in
    let credits = h.credits in
    accepts-plain at events s (few-greatest n e r c s few h) (kept-few n e r c s few.events few_left h)
    (omega (arith, alive, credits, few_left)) h.constant
