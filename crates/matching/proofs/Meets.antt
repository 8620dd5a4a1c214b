-- Looking near is enough: what an event meets, and what is evaluated for it.
use Rattle.std.proofs.Common.{◌≡◌, ℕ, Bool, true, false, not, ◌&&◌, List, [], ◌∷◌, cond, filter, map, length, find, Option, Some, None, Result, Ok, Err, refl, ap, ◌∙◌, subst, arith}
use Rattle.std.specs.Option.{is_some, option_and, option_map}
use Rattle.std.specs.Result.{IfOk}
use Rattle.std.specs.Str.{bytes_eq}
use Rattle.std.specs.List.{list_any, AllByRecursion}
use Rattle.std.specs.List.Sorted.{IsStrictlySortedBy}
use Rattle.std.specs.Ordering.{nat_cmp}
use Rattle.std.proofs.lemmas.Option.{same_Some}
use Rattle.lists.specs.Entries.{has, AreApart, IsInOrder}
use Rattle.kinds.specs.declared.event.Event.{Event}
use Rattle.kinds.specs.declared.store.Bucket.{Bucket}
use Rattle.kinds.specs.Stores.{Condition, Truth, Values, is_met, is_true_of, is_asked, is_hidden, is_value, is_in_bucket, AreBucketsRight}
use Rattle.ordered.specs.Indexes.{IsListed}
use Rattle.matching.specs.declared.place.Field.{Field}
use Rattle.matching.specs.Places.{place_of, place_cmp, value_in, value_for, is_near, is_wanted, has_number}
use Rattle.matching.specs.Met.{passes, met_numbers, asked_count, meets_at, asks_at, asks}
use Rattle.matching.proofs.Fields.{place_total, place_same}
use Rattle.matching.proofs.Picked.{picks, placed}

pub if_ok : {A E : Type 0} (r : Result A E) (P Q : A → Type 0) → ((a : A) → P a → Q a) → IfOk r P → IfOk r Q
if_ok (Ok a) P Q f h = f a h
if_ok (Err e) P Q f h = h

not_not : (b : Bool) → b ≡ not (not b)
not_not true = refl
not_not false = refl

module _ (values : Values) (event : Event) where
  -- the bucket of a condition, as its place shows it
  in_place : (e : Option (List ℕ)) (bucket : Option Bucket)
      → is_value (value_in (option_and e bucket)) (value_for values event (option_map (λ (b : Bucket). b.path) (option_and e bucket))) ≡ not (is_some e && not (is_in_bucket values event bucket))
  in_place None bucket = refl
  in_place (Some e) None = refl
  in_place (Some e) (Some b) = not_not (is_value b.value (values event b.path))

  met_by : (n t h p : Bool) → p ≡ not h → ((n && t) && h) ≡ false → ((n && t) && (n && p)) ≡ (n && t)
  met_by true true true p e k = cc
  met_by true true false p e k = e
  met_by true false h p e k = refl
  met_by false t h p e k = refl

  met_near : (truth : Truth) (c : Condition) → is_hidden truth values event c ≡ false → (is_met truth event c && is_near values event (place_of c)) ≡ is_met truth event c
  met_near truth c h = met_by (bytes_eq c.name event.name) (is_true_of truth c.first event c.cond) (is_some c.cond && not (is_in_bucket values event c.bucket)) _ (in_place c.cond c.bucket) (assoc (is_met truth event c) (is_some c.cond) (not (is_in_bucket values event c.bucket)) h)
    where
      assoc : (a b d : Bool) → (a && b && d) ≡ false → (a && (b && d)) ≡ false
      assoc true true d h = h
      assoc true false d h = refl
      assoc false b d h = refl

  asked_by : (n s i p : Bool) → p ≡ not (s && not i) → ((n && s) && (n && p)) ≡ (n && s && i)
  asked_by true true true p e = e
  asked_by true true false p e = e
  asked_by true false i p e = refl
  asked_by false s i p e = refl

  asked_near : (c : Condition) → (asks event c && is_near values event (place_of c)) ≡ is_asked values event c
  asked_near c = asked_by (bytes_eq c.name event.name) (is_some c.cond) (is_in_bucket values event c.bucket) _ (in_place c.cond c.bucket)

module _ {X : Type 0} (condition : X → Condition) (rank number : X → ℕ) (truth : Truth) (values : Values) (event : Event) where
  its : (P : X → Type 0) (t : X → Bool) (es : List X) (e : X) → AllByRecursion P es → find t es ≡ Some e → P e
  its P t [] e a h = cc
  its P t (x ∷ es) e a h = by_test (t x) h (its P t es e a.1)
    where
      by_test : (b : Bool) → cond b (Some x) (find t es) ≡ Some e → (find t es ≡ Some e → P e) → P e
      by_test true h more = subst P (same_Some x e h) a.0
      by_test false h more = more h

  both_pass : (p q r : X → Bool) (o : Option X) → ((e : X) → o ≡ Some e → (p e && q e) ≡ r e) → (passes p o && passes q o) ≡ passes r o
  both_pass p q r None h = refl
  both_pass p q r (Some e) h = h e refl

  module _ (es : List X) (keys : List ((Field × List ℕ) × ℕ)) (near : List ℕ) (order : (e : X) → rank e ≡ 0) (ordered : IsInOrder rank number es) (apart : AreApart number es)
      (listed : IsListed place_cmp (λ e. place_of (condition e)) number es keys) (sorted : IsStrictlySortedBy nat_cmp near) (found : (n : ℕ) → has_number near n ≡ list_any (is_wanted values event n) keys) where
    near_at : (n : ℕ) → has_number near n ≡ passes (λ e. is_near values event (place_of (condition e))) (find (has number n) es)
    near_at n = found n ∙ placed place_total place_same (λ e. place_of (condition e)) number (is_near values event) n es keys listed

    pub meets_near : AreBucketsRight condition truth values event es → filter (meets_at condition number truth event es) near ≡ met_numbers condition number truth event es
    meets_near right = picks rank number (λ e. is_met truth event (condition e)) (meets_at condition number truth event es) near es order ordered apart sorted
        (λ n. ap (λ b. meets_at condition number truth event es n && b) (near_at n)
        ∙ both_pass _ _ (λ e. is_met truth event (condition e)) (find (has number n) es) (λ e f. met_near values event truth (condition e) (its (λ x. is_hidden truth values event (condition x) ≡ false) (has number n) es e right f)))

    same_length : (f : X → ℕ) (xs : List X) → length (map f xs) ≡ length xs
    same_length f [] = refl
    same_length f (x ∷ xs) = let more = same_length f xs in omega (arith, more)

    pub asks_near : length (filter (asks_at condition number event es) near) ≡ asked_count condition values event es
    asks_near =
        ap length (picks rank number (λ e. is_asked values event (condition e)) (asks_at condition number event es) near es order ordered apart sorted
        (λ n. ap (λ b. asks_at condition number event es n && b) (near_at n)
        ∙ both_pass _ _ (λ e. is_asked values event (condition e)) (find (has number n) es) (λ e f. asked_near values event (condition e))))
        ∙ same_length number (filter (λ e. is_asked values event (condition e)) es)
