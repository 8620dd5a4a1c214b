-- What is matched with one fresh event, read once, is what that event of the state meets, and no bucket hides it.
use Rattle.std.proofs.Common.{◌≡◌, ℕ, Bool, true, false, ◌&&◌, not, List, [], map, Option, Some, None, IfSome, bytes_eq, is_some, option_map, refl, ap, ◌∙◌}
use Rattle.std.proofs.lemmas.List.Elements.{filter_agree}
use Rattle.event_keys.proofs.MatchLemmas.{none_hides}
use Rattle.event_keys.specs.Buckets.{bucket_of}
use Rattle.event_keys.specs.Matching.{Texts, true_after, truth_by, truth_with, values_with}
use Rattle.event_texts.specs.Texts.{text_at, text_in, text_or_none}
use Rattle.kinds.specs.Stores.{AreBucketsRight, Condition, cancelled, is_hidden, is_in_bucket, is_met, is_true_of, rule_condition, rule_run, wait_condition, wait_number, woken}
use Rattle.kinds.specs.declared.event.Event.{Event}
use Rattle.kinds.specs.declared.store.Bucket.{Bucket}
use Rattle.kinds.specs.declared.store.Rule.{Rule}
use Rattle.kinds.specs.declared.store.Wait.{Wait}
use Rattle.lists.proofs.Elements.{all-weaker}
use Rattle.lists.specs.Entries.{in_order}
use Rattle.run_model.proofs.Members.{all-map}
use Rattle.run_model.specs.Events.{wait_of}
use Rattle.run_model.specs.Expressions.{truth_in}
use Rattle.run_model.specs.Fit.{IsBucketOf, IsFit, IsRuleFit, IsWaitFit}
use Rattle.run_model.specs.State.{State, EventText, text_of}
use Rattle.machine.specs.Words.{event_at}

-- the texts as they are looked up
abbrev pub texts_by : List EventText → Texts
texts_by texts = λ number. text_in (text_at number texts)

-- an event without its text
abbrev pub head : ℕ → List ℕ → Event
head number name = record { number = number; name = name; text = [] }

-- ## What is met

found-text : (o : Option EventText) → text_in o ≡ option_map (λ (e : EventText). e.text) o
found-text None = refl
found-text (Some e) = refl

same-truth : (number : ℕ) (name : List ℕ) (s : State) (first : ℕ) (c : Option (List ℕ))
    → is_true_of (truth_with (texts_by s.texts) (text_or_none (text_of number s))) first (head number name) c
    ≡ is_true_of (truth_in s) first (event_at number name s) c
unfolding truth_with truth_in truth_by
same-truth number name s first None = refl
same-truth number name s first (Some expr) =
    ap (λ o. true_after expr o (text_or_none (text_of number s))) (found-text (text_of first s))

same-met : (number : ℕ) (name : List ℕ) (s : State) (c : Condition)
    → is_met (truth_with (texts_by s.texts) (text_or_none (text_of number s))) (head number name) c
    ≡ is_met (truth_in s) (event_at number name s) c
same-met number name s c =
    ap (λ b. bytes_eq c.name name && b) (same-truth number name s c.first c.cond)

same-woken : (number : ℕ) (name : List ℕ) (s : State) (ws : List Wait)
    → woken (truth_with (texts_by s.texts) (text_or_none (text_of number s))) (head number name) ws
    ≡ woken (truth_in s) (event_at number name s) ws
same-woken number name s ws =
    ap (map wait_number)
    (filter_agree
    (λ w. is_met (truth_with (texts_by s.texts) (text_or_none (text_of number s))) (head number name)
    (wait_condition w))
    (λ w. is_met (truth_in s) (event_at number name s) (wait_condition w))
    (λ w. same-met number name s (wait_condition w)) ws)

same-cancelled : (number : ℕ) (name : List ℕ) (s : State) (rs : List Rule)
    → cancelled (truth_with (texts_by s.texts) (text_or_none (text_of number s))) (head number name) rs
    ≡ cancelled (truth_in s) (event_at number name s) rs
same-cancelled number name s rs =
    ap (λ ms. in_order (map rule_run ms))
    (filter_agree
    (λ r. is_met (truth_with (texts_by s.texts) (text_or_none (text_of number s))) (head number name)
    (rule_condition r))
    (λ r. is_met (truth_in s) (event_at number name s) (rule_condition r))
    (λ r. same-met number name s (rule_condition r)) rs)

pub woken-by : (number : ℕ) (name fresh : List ℕ) (event : Event) (s : State) (ws : List Wait)
    → event ≡ head number name → fresh ≡ text_or_none (text_of number s)
    → woken (truth_with (texts_by s.texts) fresh) event ws ≡ woken (truth_in s) (event_at number name s) ws
woken-by number name fresh event s ws a b =
    ap (λ e. woken (truth_with (texts_by s.texts) fresh) e ws) a
    ∙ ap (λ text. woken (truth_with (texts_by s.texts) text) (head number name) ws) b
    ∙ same-woken number name s ws

pub cancelled-by : (number : ℕ) (name fresh : List ℕ) (event : Event) (s : State) (rs : List Rule)
    → event ≡ head number name → fresh ≡ text_or_none (text_of number s)
    → cancelled (truth_with (texts_by s.texts) fresh) event rs ≡ cancelled (truth_in s) (event_at number name s) rs
cancelled-by number name fresh event s rs a b =
    ap (λ e. cancelled (truth_with (texts_by s.texts) fresh) e rs) a
    ∙ ap (λ text. cancelled (truth_with (texts_by s.texts) text) (head number name) rs) b
    ∙ same-cancelled number name s rs

-- ## Buckets

-- of a first event whose text isn't there no condition is true
unmet : (named met inside : Bool) → met ≡ false → ((named && met) && true && inside) ≡ false
unmet true met inside e = ap (λ b. (b && true) && inside) e
unmet false met inside e = refl

no-text : (texts : Texts) (fresh : List ℕ) (event : Event) (named : Bool) (n : ℕ) (c : Option (List ℕ))
    (bucket : Option Bucket) → texts n ≡ None
    → ((named && is_true_of (truth_with texts fresh) n event c) && is_some c
    && not (is_in_bucket (values_with fresh) event bucket)) ≡ false
unfolding truth_with
no-text texts fresh event true n None bucket e = refl
no-text texts fresh event false n None bucket e = refl
no-text texts fresh event named n (Some expr) bucket e =
    unmet named (true_after expr (texts n) fresh) (not (is_in_bucket (values_with fresh) event bucket))
    (ap (λ o. true_after expr o fresh) e)

shown-by : (texts : List EventText) (fresh : List ℕ) (event : Event) (c : Condition) (found : Option EventText)
    → text_at c.first texts ≡ found → IfSome found (λ (e : EventText). c.bucket ≡ bucket_of c.cond e.text)
    → is_hidden (truth_with (texts_by texts) fresh) (values_with fresh) event c ≡ false
shown-by texts fresh event c None e h =
    no-text (texts_by texts) fresh event (bytes_eq c.name event.name) c.first c.cond c.bucket (ap text_in e)
shown-by texts fresh event c (Some t) e h =
    none_hides (texts_by texts) fresh t.text event c (ap text_in e) h

shown : (texts : List EventText) (fresh : List ℕ) (event : Event) (c : Condition)
    → IsBucketOf texts c.first c.cond c.bucket
    → is_hidden (truth_with (texts_by texts) fresh) (values_with fresh) event c ≡ false
shown texts fresh event c h = shown-by texts fresh event c (text_at c.first texts) refl h

pub waits-right : (fresh : List ℕ) (event : Event) (s : State) → IsFit s
    → AreBucketsRight wait_condition (truth_with (texts_by s.texts) fresh) (values_with fresh) event
    (map wait_of s.waits)
waits-right fresh event s h =
    all-map (λ w. is_hidden (truth_with (texts_by s.texts) fresh) (values_with fresh) event (wait_condition w) ≡ false)
    wait_of s.waits
    (all-weaker (IsWaitFit s.events s.entries s.texts)
    (λ w. is_hidden (truth_with (texts_by s.texts) fresh) (values_with fresh) event (wait_condition (wait_of w))
    ≡ false) s.waits
    (λ w k. shown s.texts fresh event (wait_condition (wait_of w)) k.bucket) h.conditions_fit.each_wait)

pub rules-right : (fresh : List ℕ) (event : Event) (s : State) → IsFit s
    → AreBucketsRight rule_condition (truth_with (texts_by s.texts) fresh) (values_with fresh) event s.rules
rules-right fresh event s h =
    all-weaker (IsRuleFit s.events s.entries s.texts)
    (λ r. is_hidden (truth_with (texts_by s.texts) fresh) (values_with fresh) event (rule_condition r) ≡ false) s.rules
    (λ r k. shown s.texts fresh event (rule_condition r) k.bucket) h.conditions_fit.each_rule
