-- What an offer leaves, case by case.
use Rattle.std.proofs.Common.{◌≡◌, ℕ, Bool, true, false, cond, not, List, Some, None, Option, refl, sym, ap, ◌∙◌, subst}
use Rattle.std.specs.List.{find, filter}
use Rattle.std.specs.Option.{option_map}
use Rattle.std.proofs.lemmas.Bool.{cond-true, cond-false}
use Rattle.lists.proofs.Keyed.{filter_none}
use Rattle.ordered.proofs.Apart.{found}
use Rattle.kinds.specs.Windows.{number_of, version_of, value_of, kind_of, place_of, has_number, is_of, others, insert_window, opened, joined, after_event, is_full, standing, has_room}
use Rattle.kinds.specs.declared.window.Window.{Window}
use Rattle.kinds.specs.declared.window.Window.TheVariants as window
use Rattle.kinds.specs.declared.window.WindowRule.{WindowRule}
use Rattle.kinds.specs.declared.window.WindowRule.TheVariants as rule
use Rattle.debounce_batch.specs.Held.{key_of}
use Rattle.debounce_batch.proofs.Open.{key_tells}

-- only a batch is full
pub full_opened : (r : WindowRule) (version : ℕ) (value : List ℕ) (event t number : ℕ) → is_full r (opened r version value event t number) ≡ true → kind_of (opened r version value event t number) ≡ 1
full_opened (rule.Debounce d) version value event t number h = cc
full_opened (rule.Batch b) version value event t number h = refl

pub full_joined : (r : WindowRule) (event t : ℕ) (w : Window) → has_room r (Some w) ≡ true → is_full r (joined r event t w) ≡ true → kind_of (joined r event t w) ≡ 1
full_joined (rule.Debounce d) event t w p h = cc
full_joined (rule.Batch b) event t (window.Debounce number version value last first due) p h = cc
full_joined (rule.Batch b) event t (window.Batch number version value events due) p h = refl

key_opened : (r : WindowRule) (version : ℕ) (value : List ℕ) (event t number : ℕ) → key_of (opened r version value event t number) ≡ (version, value)
key_opened (rule.Debounce d) version value event t number = refl
key_opened (rule.Batch b) version value event t number = refl

pub number_opened : (r : WindowRule) (version : ℕ) (value : List ℕ) (event t number : ℕ) → number_of (opened r version value event t number) ≡ number
number_opened (rule.Debounce d) version value event t number = refl
number_opened (rule.Batch b) version value event t number = refl

key_joined : (r : WindowRule) (event t : ℕ) (w : Window) → key_of (joined r event t w) ≡ key_of w
key_joined (rule.Debounce d) event t (window.Debounce number version value last first due) = refl
key_joined (rule.Debounce d) event t (window.Batch number version value events due) = refl
key_joined (rule.Batch b) event t (window.Debounce number version value last first due) = refl
key_joined (rule.Batch b) event t (window.Batch number version value events due) = refl

place_joined : (r : WindowRule) (event t : ℕ) (w : Window) → place_of (joined r event t w) ≡ place_of w
place_joined (rule.Debounce d) event t (window.Debounce number version value last first due) = refl
place_joined (rule.Debounce d) event t (window.Batch number version value events due) = refl
place_joined (rule.Batch b) event t (window.Debounce number version value last first due) = refl
place_joined (rule.Batch b) event t (window.Batch number version value events due) = refl

module _ (r : WindowRule) (version : ℕ) (value : List ℕ) (event t number : ℕ) (ws : List Window) where
  abbrev after : Option Window → Window
  after o = after_event r version value event t number o

  -- nothing else is open under the key of a window that is opened
  others_opened : find (is_of version value) ws ≡ None → others (version_of (opened r version value event t number)) (value_of (opened r version value event t number)) ws ≡ ws
  others_opened none = ap (λ k. others k.0 k.1 ws) (key_opened r version value event t number) ∙ filter_none (is_of version value) ws none

  pub alone_opened : find (is_of version value) ws ≡ None → find (is_of (version_of (opened r version value event t number)) (value_of (opened r version value event t number))) ws ≡ None
  alone_opened none = ap (λ k. find (is_of k.0 k.1) ws) (key_opened r version value event t number) ∙ none

  pub opened_full : find (is_of version value) ws ≡ None → is_full r (opened r version value event t number) ≡ true → ws ≡ standing r (after (find (is_of version value) ws)) ws
  opened_full none f = sym (ap (λ o. standing r (after o) ws) none ∙ cond-true _ _ _ f ∙ others_opened none)

  pub opened_open : find (is_of version value) ws ≡ None → is_full r (opened r version value event t number) ≡ false → insert_window (opened r version value event t number) ws ≡ standing r (after (find (is_of version value) ws)) ws
  opened_open none f = sym (ap (λ o. standing r (after o) ws) none ∙ cond-false _ _ _ f ∙ ap (insert_window (opened r version value event t number)) (others_opened none))

  module _ (v : Window) (its : find (is_of version value) ws ≡ Some v) where
    key_found : key_of (joined r event t v) ≡ (version, value)
    key_found = key_joined r event t v ∙ sym (key_tells.same (version, value) (key_of v) (found (is_of version value) ws v its))

    pub joined_full : is_full r (joined r event t v) ≡ true → others version value ws ≡ standing r (after (find (is_of version value) ws)) ws
    joined_full f = sym (ap (λ o. standing r (after o) ws) its ∙ cond-true _ _ _ f ∙ ap (λ k. others k.0 k.1 ws) key_found)

    pub joined_place : option_map place_of (find (is_of (version_of (joined r event t v)) (value_of (joined r event t v))) ws) ≡ Some (place_of (joined r event t v))
    joined_place = ap (λ k. option_map place_of (find (is_of k.0 k.1) ws)) key_found ∙ ap (option_map place_of) its ∙ ap Some (sym (place_joined r event t v))
