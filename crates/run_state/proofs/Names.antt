-- The steps of a run after a name was recorded, planned or made pending.
use Rattle.std.proofs.Common.{◌≡◌, ◌<◌, ◌≤◌, ◌+◌, ℕ, suc, Bool, true, false, cond, List, [], ◌∷◌, ◌++◌, Some, None, Option, refl, sym, ap, subst, ◌∙◌, arith, length, ◌||◌, is_some}
use Rattle.std.specs.List.{find, list_any, slice_get}
use Rattle.std.specs.Map.{lookup}
use Rattle.std.specs.Option.{option_map}
use Rattle.std.specs.BTreeMap.{is_at}
use Rattle.std.specs.Cmp.Lexicographic.{slice_cmp}
use Rattle.std.specs.Ordering.{nat_cmp}
use Rattle.std.specs.Str.{bytes_eq}
use Rattle.std.proofs.lemmas.Map.Text.{is_eq-slice_cmp}
use Rattle.lists.proofs.Keyed.{cond_none}
use Rattle.lists.proofs.Texts.{bytes_self, bytes_same, bytes_flip}
use Rattle.kinds.specs.RunSteps.{RunSteps, has_name, is_recorded, is_planned, is_pending, is_known, names, most_names, record_step, with_room, known, adds}
use Rattle.kinds.specs.declared.store.Pending.{Pending}
use Rattle.kinds.specs.declared.store.StepEntry.{StepEntry}
use Rattle.run_state.specs.Named.{place_of, AreApart, AreOnce, IsNamed}
use Rattle.run_state.specs.Noted.{Grow}
use Rattle.std.proofs.lemmas.Bool.{cond-true}
use Rattle.std.proofs.lemmas.Bool.Decides.{nat_tests}

-- ---- names

abbrev at_name : List ℕ → List ℕ → Bool
at_name name q = is_at (slice_cmp nat_cmp name) q

pub at_itself : (name : List ℕ) → at_name name name ≡ true
at_itself name = is_eq-slice_cmp name name ∙ bytes_self name

-- what holds of a name, and of each other name, holds of every name
pub by_name : (P : List ℕ → Type 0) (name q : List ℕ) → P name → (at_name name q ≡ false → P q) → P q
by_name P name q here other = by_test (at_name name q) refl
  where
    by_test : (b : Bool) → at_name name q ≡ b → P q
    by_test true e = let same : name ≡ q = bytes_same name q (sym (is_eq-slice_cmp name q) ∙ e) in subst P same here
    by_test false e = other e

other_entry : (name q : List ℕ) → at_name name q ≡ false → bytes_eq q name ≡ false
other_entry name q e = bytes_flip q name ∙ sym (is_eq-slice_cmp name q) ∙ e

-- ---- recorded steps

pub place_found : (name : List ℕ) (es : List StepEntry) → is_some (place_of name es) ≡ is_some (find (has_name name) es)
place_found name [] = refl
place_found name (e ∷ es) = by_test (has_name name e) (place_found name es)
  where
    some : (o : Option ℕ) → is_some (option_map (λ place. suc place) o) ≡ is_some o
    some None = refl
    some (Some n) = refl

    by_test : (b : Bool) → is_some (place_of name es) ≡ is_some (find (has_name name) es)
        → is_some (cond b (Some 0) (option_map (λ place. suc place) (place_of name es))) ≡ is_some (cond b (Some e) (find (has_name name) es))
    by_test true more = refl
    by_test false more = some (place_of name es) ∙ more

-- a place has the entry of its name
pub placed_entry : (name : List ℕ) (es : List StepEntry) (place : ℕ) → Some place ≡ place_of name es → slice_get es place ≡ find (has_name name) es
placed_entry name [] place h = cc
placed_entry name (e ∷ es) place h = by_test (has_name name e) h (λ n p. placed_entry name es n p)
  where
    some_same : (a b : ℕ) → Some a ≡ Some b → a ≡ b
    some_same a b h = cc

    behind : (o : Option ℕ) → o ≡ place_of name es → Some place ≡ option_map (λ n. suc n) o → ((n : ℕ) → Some n ≡ place_of name es → slice_get es n ≡ find (has_name name) es) → slice_get (e ∷ es) place ≡ find (has_name name) es
    behind None p h more = cc
    behind (Some n) p h more = ap (slice_get (e ∷ es)) (some_same place (suc n) h) ∙ more n p

    by_test : (b : Bool) → Some place ≡ cond b (Some 0) (option_map (λ n. suc n) (place_of name es)) → ((n : ℕ) → Some n ≡ place_of name es → slice_get es n ≡ find (has_name name) es) → slice_get (e ∷ es) place ≡ cond b (Some e) (find (has_name name) es)
    by_test true h more = ap (slice_get (e ∷ es)) (some_same place 0 h)
    by_test false h more = behind (place_of name es) refl h more

pub unrecorded : (name : List ℕ) (es : List StepEntry) → is_some (find (has_name name) es) ≡ false → find (has_name name) es ≡ None
unrecorded name es f = none (find (has_name name) es) f
  where
    none : (o : Option StepEntry) → is_some o ≡ false → o ≡ None
    none None f = refl
    none (Some e) f = cc

-- a name without a place has no entry
pub unplaced : (name : List ℕ) (es : List StepEntry) → None ≡ place_of name es → find (has_name name) es ≡ None
unplaced name es h = unrecorded name es (sym (place_found name es) ∙ sym (ap is_some h))

-- an entry of another name changes nothing for a name
pub place_behind : (q : List ℕ) (x : StepEntry) (es : List StepEntry) → has_name q x ≡ false → place_of q (es ++ x ∷ []) ≡ place_of q es
place_behind q x [] f = rw f refl
place_behind q x (e ∷ es) f = ap (λ o. cond (has_name q e) (Some 0) (option_map (λ n. suc n) o)) (place_behind q x es f)

pub found_behind : (q : List ℕ) (x : StepEntry) (es : List StepEntry) → has_name q x ≡ false → find (has_name q) (es ++ x ∷ []) ≡ find (has_name q) es
found_behind q x [] f = rw f refl
found_behind q x (e ∷ es) f = ap (cond (has_name q e) (Some e)) (found_behind q x es f)

-- a new name stands last
pub place_last : (name : List ℕ) (x : StepEntry) (es : List StepEntry) → has_name name x ≡ true → is_some (find (has_name name) es) ≡ false → place_of name (es ++ x ∷ []) ≡ Some (length es)
place_last name x [] t none = rw t refl
place_last name x (e ∷ es) t none = by_test (has_name name e) none (place_last name x es t)
  where
    by_test : (b : Bool) → is_some (cond b (Some e) (find (has_name name) es)) ≡ false → (is_some (find (has_name name) es) ≡ false → place_of name (es ++ x ∷ []) ≡ Some (length es))
        → cond b (Some 0) (option_map (λ n. suc n) (place_of name (es ++ x ∷ []))) ≡ Some (suc (length es))
    by_test true none more = cc
    by_test false none more = ap (option_map (λ n. suc n)) (more none)

-- a name that isn't recorded may stand last
once_last : (x : StepEntry) (es : List StepEntry) → AreOnce es → find (has_name x.hash) es ≡ None → AreOnce (es ++ x ∷ [])
once_last x [] a none = (refl, tt)
once_last x (e ∷ es) a none =
    let parts = cond_none (has_name x.hash e) e (find (has_name x.hash) es) none in
    (found_behind e.hash x es (bytes_flip e.hash x.hash ∙ parts.0) ∙ a.0, once_last x es a.1 parts.1)

-- what is found is found among more
found_before : (q r : List ℕ) (es rest : List StepEntry) → option_map (λ (e : StepEntry). e.result) (find (has_name q) es) ≡ Some r → option_map (λ (e : StepEntry). e.result) (find (has_name q) (es ++ rest)) ≡ Some r
found_before q r [] rest h = cc
found_before q r (e ∷ es) rest h = by_test (has_name q e) h (found_before q r es rest)
  where
    by_test : (b : Bool) → option_map (λ (e : StepEntry). e.result) (cond b (Some e) (find (has_name q) es)) ≡ Some r
        → (option_map (λ (e : StepEntry). e.result) (find (has_name q) es) ≡ Some r → option_map (λ (e : StepEntry). e.result) (find (has_name q) (es ++ rest)) ≡ Some r)
        → option_map (λ (e : StepEntry). e.result) (cond b (Some e) (find (has_name q) (es ++ rest))) ≡ Some r
    by_test true h more = h
    by_test false h more = more h

pub grown : (name text : List ℕ) (s next : RunSteps) → next ≡ record_step name text s → Grow s next
grown name text s next h = subst (Grow s) (sym h) (record {
  more = ((record { hash = name; result = text }) ∷ [], refl);
  stay = λ q r f. found_before q r s.recorded _ f;
})

-- ---- a name that is new, where there is room

pub noted_new : (name : List ℕ) (s next : RunSteps) → is_known name s ≡ false → names s < most_names → cond (is_known name s) known (with_room next s) ≡ adds next
noted_new name s next f l = rw f (grind (arith, nat_tests))

pub one_more : (b : Bool) (few many : ℕ) → many ≡ few + cond b 1 0 → many ≤ few + 1
one_more true few many h = omega (arith, h)
one_more false few many h = omega (arith, h)

pub one_more_new : (b : Bool) (few many : ℕ) → many ≡ few + cond b 0 1 → many ≤ few + 1
one_more_new true few many h = omega (arith, h)
one_more_new false few many h = omega (arith, h)

-- ---- a state each

-- what a set or a map says of the name that was written
abbrev pub Flags : {X : Type 0} → List ℕ → X → (List ℕ → X) → (List ℕ → X) → Type 0
Flags name x old new = (q : List ℕ) → new q ≡ cond (at_name name q) x (old q)

not_both : (b : Bool) → b ≡ true → b ≡ false → ⊥
not_both true t f = cc
not_both false t f = cc

unknown : (r p q : Bool) → (r || p || q) ≡ false → (r ≡ false) × (p ≡ false) × (q ≡ false)
unknown false false false h = (refl, refl, refl)
unknown true p q h = cc
unknown false true q h = cc
unknown false false true h = cc

module _ (es : List StepEntry) (ps : List (List ℕ)) (ws : List (List ℕ × Pending)) where
  abbrev here : RunSteps
  here = record { recorded = es; planned = ps; pending = ws }

  pub apart_planned : (name : List ℕ) (more : List (List ℕ)) → AreApart here → is_known name here ≡ false → names (record { recorded = es; planned = more; pending = ws }) ≤ most_names
      → Flags name true (λ q. list_any (is_at (slice_cmp nat_cmp q)) ps) (λ q. list_any (is_at (slice_cmp nat_cmp q)) more) → AreApart (record { recorded = es; planned = more; pending = ws })
  apart_planned name more a f few u =
      let none = unknown (is_recorded name here) (is_planned name here) (is_pending name here) f in record {
        recorded = a.recorded;
        planned = λ q. by_name (λ r. list_any (is_at (slice_cmp nat_cmp r)) more ≡ true → is_recorded r here ≡ false) name q (λ h. none.0) (λ g h. a.planned q (sym (u q ∙ rw g refl) ∙ h));
        pending = a.pending;
        waiting = λ q. by_name (λ r. is_pending r here ≡ true → list_any (is_at (slice_cmp nat_cmp r)) more ≡ false) name q (λ h. absurd (not_both _ h none.2)) (λ g h. u q ∙ rw g (a.waiting q h));
        few = few;
      }

  pub apart_pending : (name : List ℕ) (kind : Pending) (more : List (List ℕ × Pending)) → AreApart here → is_known name here ≡ false → names (record { recorded = es; planned = ps; pending = more }) ≤ most_names
      → Flags name (Some kind) (λ q. lookup (is_at (slice_cmp nat_cmp q)) ws) (λ q. lookup (is_at (slice_cmp nat_cmp q)) more) → AreApart (record { recorded = es; planned = ps; pending = more })
  apart_pending name kind more a f few u =
      let none = unknown (is_recorded name here) (is_planned name here) (is_pending name here) f in record {
        recorded = a.recorded;
        planned = a.planned;
        pending = λ q. by_name (λ r. is_some (lookup (is_at (slice_cmp nat_cmp r)) more) ≡ true → is_recorded r here ≡ false) name q (λ h. none.0) (λ g h. a.pending q (sym (ap is_some (u q ∙ rw g refl)) ∙ h));
        waiting = λ q. by_name (λ r. is_some (lookup (is_at (slice_cmp nat_cmp r)) more) ≡ true → is_planned r here ≡ false) name q (λ h. none.1) (λ g h. a.waiting q (sym (ap is_some (u q ∙ rw g refl)) ∙ h));
        few = few;
      }

  -- a name that is recorded is neither planned nor pending from then on, and stands last
  pub named_recorded : (x : StepEntry) (plans : List (List ℕ)) (waits : List (List ℕ × Pending)) (places after : List (List ℕ × ℕ)) → IsNamed here places → is_recorded x.hash here ≡ false
      → names (record { recorded = es ++ x ∷ []; planned = plans; pending = waits }) ≤ most_names
      → Flags x.hash (Some (length es)) (λ q. lookup (is_at (slice_cmp nat_cmp q)) places) (λ q. lookup (is_at (slice_cmp nat_cmp q)) after)
      → Flags x.hash false (λ q. list_any (is_at (slice_cmp nat_cmp q)) ps) (λ q. list_any (is_at (slice_cmp nat_cmp q)) plans)
      → Flags x.hash None (λ q. lookup (is_at (slice_cmp nat_cmp q)) ws) (λ q. lookup (is_at (slice_cmp nat_cmp q)) waits)
      → IsNamed (record { recorded = es ++ x ∷ []; planned = plans; pending = waits }) after
  named_recorded x plans waits places after n free few u v w = record {
    apart = record {
      recorded = once_last x es n.apart.recorded (unrecorded x.hash es free);
      planned = λ q. by_name (λ r. list_any (is_at (slice_cmp nat_cmp r)) plans ≡ true → is_some (find (has_name r) (es ++ x ∷ [])) ≡ false) x.hash q
          (λ h. absurd (not_both _ h (v x.hash ∙ cond-true _ _ _ (at_itself x.hash))))
          (λ g h. ap is_some (found_behind q x es (other_entry x.hash q g)) ∙ n.apart.planned q (sym (v q ∙ rw g refl) ∙ h));
      pending = λ q. by_name (λ r. is_some (lookup (is_at (slice_cmp nat_cmp r)) waits) ≡ true → is_some (find (has_name r) (es ++ x ∷ [])) ≡ false) x.hash q
          (λ h. absurd (not_both _ h (ap is_some (w x.hash ∙ cond-true _ _ _ (at_itself x.hash)))))
          (λ g h. ap is_some (found_behind q x es (other_entry x.hash q g)) ∙ n.apart.pending q (sym (ap is_some (w q ∙ rw g refl)) ∙ h));
      waiting = λ q. by_name (λ r. is_some (lookup (is_at (slice_cmp nat_cmp r)) waits) ≡ true → list_any (is_at (slice_cmp nat_cmp r)) plans ≡ false) x.hash q
          (λ h. v x.hash ∙ cond-true _ _ _ (at_itself x.hash))
          (λ g h. v q ∙ rw g (n.apart.waiting q (sym (ap is_some (w q ∙ rw g refl)) ∙ h)));
      few = few;
    };
    placed = λ q. by_name (λ r. lookup (is_at (slice_cmp nat_cmp r)) after ≡ place_of r (es ++ x ∷ [])) x.hash q
        (u x.hash ∙ rw (at_itself x.hash) (sym (place_last x.hash x es (bytes_self x.hash) free)))
        (λ g. u q ∙ rw g (n.placed q ∙ sym (place_behind q x es (other_entry x.hash q g))));
  }

-- a place that came and went
pub places_undone : (name : List ℕ) (place : ℕ) (places more back : List (List ℕ × ℕ)) (es : List StepEntry) → place_of name es ≡ None
    → ((q : List ℕ) → lookup (is_at (slice_cmp nat_cmp q)) places ≡ place_of q es)
    → Flags name (Some place) (λ q. lookup (is_at (slice_cmp nat_cmp q)) places) (λ q. lookup (is_at (slice_cmp nat_cmp q)) more)
    → Flags name None (λ q. lookup (is_at (slice_cmp nat_cmp q)) more) (λ q. lookup (is_at (slice_cmp nat_cmp q)) back)
    → (q : List ℕ) → lookup (is_at (slice_cmp nat_cmp q)) back ≡ place_of q es
places_undone name place places more back es none placed u v q =
    by_name (λ r. lookup (is_at (slice_cmp nat_cmp r)) back ≡ place_of r es) name q
    (v name ∙ rw (at_itself name) (sym none))
    (λ g. v q ∙ rw g (u q ∙ rw g (placed q)))

pub free_place : (name : List ℕ) (es : List StepEntry) → is_some (find (has_name name) es) ≡ false → place_of name es ≡ None
free_place name es f = none (place_of name es) (place_found name es ∙ f)
  where
    none : (o : Option ℕ) → is_some o ≡ false → o ≡ None
    none None f = refl
    none (Some e) f = cc

-- a name more among the recorded, where it had a place or there was room
pub room_after : (p w l : Bool) (a b b2 d d2 all : ℕ) → (p || w || l) ≡ true → (l ≡ true → a + b + d < 1000) → a + b + d ≤ 1000 → b2 + cond p 1 0 ≡ b → d2 + cond w 1 0 ≡ d → all ≡ a + 1 → all + b2 + d2 ≤ 1000
room_after true true l a b b2 d d2 all t r f p w e = omega (arith, f, p, w, e)
room_after true false l a b b2 d d2 all t r f p w e = omega (arith, f, p, w, e)
room_after false true l a b b2 d d2 all t r f p w e = omega (arith, f, p, w, e)
room_after false false true a b b2 d d2 all t r f p w e = let few = r refl in omega (arith, few, p, w, e)
room_after false false false a b b2 d d2 all t r f p w e = cc
