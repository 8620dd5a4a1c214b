-- One fresh event: what is matched with it is what it meets, and no bucket of a condition hides that.
use Rattle.std.proofs.Common.{◌≡◌, ℕ, Bool, true, false, List, [], ◌∷◌, map, filter, Option, Some, None, refl, sym, ap, ◌∙◌}
use Rattle.std.specs.Prelude.{◌&&◌, not, cond}
use Rattle.std.specs.Option.{is_some}
use Rattle.lists.proofs.Texts.{bytes_self}
use Rattle.lists.specs.Entries.{in_order}
use Rattle.kinds.specs.Stores.{Condition, cancelled, is_hidden, is_in_bucket, is_met, is_true_of, is_value, rule_condition, rule_run, wait_condition, wait_number, woken}
use Rattle.kinds.specs.declared.event.Event.{Event}
use Rattle.kinds.specs.declared.store.Bucket.{Bucket}
use Rattle.kinds.specs.declared.store.Rule.{Rule}
use Rattle.kinds.specs.declared.store.Wait.{Wait}
use Rattle.std.specs.Str.{bytes_eq}
use Rattle.event_keys.specs.Buckets.{bucket_of}
use Rattle.event_keys.specs.Expressions.{holds_over_both}
use Rattle.event_keys.specs.Matching.{Texts, true_after, truth_by, truth_with, values_with}
use Rattle.event_keys.proofs.BucketLaw.{has_value}

-- ---- tests that agree

same_filter : {X : Type 0} (f g : X → Bool) → ((x : X) → f x ≡ g x) → (xs : List X) → filter f xs ≡ filter g xs
same_filter f g e [] = refl
same_filter f g e (x ∷ xs) =
    ap (λ b. cond b (x ∷ filter f xs) (filter f xs)) (e x)
    ∙ ap (λ ys. cond (g x) (x ∷ ys) ys) (same_filter f g e xs)

same_truth : (texts : Texts) (event : Event) (first : ℕ) (c : Option (List ℕ))
    → is_true_of (truth_with texts event.text) first event c ≡ is_true_of (truth_by texts) first event c
unfolding truth_with truth_by
same_truth texts event first None = refl
same_truth texts event first (Some expr) = refl

same_met : (texts : Texts) (event : Event) (c : Condition)
    → is_met (truth_with texts event.text) event c ≡ is_met (truth_by texts) event c
same_met texts event c = ap (λ b. bytes_eq c.name event.name && b) (same_truth texts event c.first c.cond)

pub waits_matched : (texts : Texts) (event : Event) (ws : List Wait)
    → woken (truth_with texts event.text) event ws ≡ woken (truth_by texts) event ws
waits_matched texts event ws =
    ap (map wait_number)
    (same_filter (λ w. is_met (truth_with texts event.text) event (wait_condition w))
    (λ w. is_met (truth_by texts) event (wait_condition w)) (λ w. same_met texts event (wait_condition w)) ws)

pub rules_matched : (texts : Texts) (event : Event) (rs : List Rule)
    → cancelled (truth_with texts event.text) event rs ≡ cancelled (truth_by texts) event rs
rules_matched texts event rs =
    ap (λ xs. in_order (map rule_run xs))
    (same_filter (λ r. is_met (truth_with texts event.text) event (rule_condition r))
    (λ r. is_met (truth_by texts) event (rule_condition r)) (λ r. same_met texts event (rule_condition r)) rs)

-- ---- no bucket hides

in_own : (fresh expr first : List ℕ) (event : Event) (bucket : Option Bucket) → bucket ≡ bucket_of (Some expr) first
    → holds_over_both expr first fresh ≡ true → is_in_bucket (values_with fresh) event bucket ≡ true
unfolding values_with
in_own fresh expr first event None e h = refl
in_own fresh expr first event (Some b) e h =
    ap (is_value b.value) (has_value expr first fresh b (sym e) h) ∙ bytes_self b.value

-- a condition of that name, true or not, and in its bucket or not
shown : (named met inside : Bool) → (met ≡ true → inside ≡ true) → ((named && met) && true && not inside) ≡ false
shown false met inside h = refl
shown true false inside h = refl
shown true true inside h = ap not (h refl)

by_cond : (texts : Texts) (fresh first : List ℕ) (event : Event) (n : ℕ) (named : Bool) (c : Option (List ℕ))
    (bucket : Option Bucket) → texts n ≡ Some first → bucket ≡ bucket_of c first
    → ((named && is_true_of (truth_with texts fresh) n event c) && is_some c
    && not (is_in_bucket (values_with fresh) event bucket)) ≡ false
unfolding truth_with
by_cond texts fresh first event n false None bucket t e = refl
by_cond texts fresh first event n true None bucket t e = refl
by_cond texts fresh first event n named (Some expr) bucket t e =
    let inside = is_in_bucket (values_with fresh) event bucket in
    shown named (true_after expr (texts n) fresh) inside
    (λ h. in_own fresh expr first event bucket e (ap (λ o. true_after expr o fresh) (sym t) ∙ h))

pub none_hides : (texts : Texts) (fresh first : List ℕ) (event : Event) (c : Condition) → texts c.first ≡ Some first
    → c.bucket ≡ bucket_of c.cond first → is_hidden (truth_with texts fresh) (values_with fresh) event c ≡ false
none_hides texts fresh first event c t e =
    by_cond texts fresh first event c.first (bytes_eq c.name event.name) c.cond c.bucket t e
