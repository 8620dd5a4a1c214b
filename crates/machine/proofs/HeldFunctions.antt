-- The parts after a registration.
use Rattle.std.proofs.Common.{◌≡◌, ◌≤◌, ℕ, ◌⊎◌, inl, inr, ◌+◌, true, false, not, List, [], ◌∷◌, ◌++◌, length, map, filter, refl, sym, ap, ◌∙◌, subst}
use Rattle.std.specs.List.{AllByRecursion}
use Rattle.kinds.specs.declared.function.App.{App}
use Rattle.functions.specs.Functions.{new_in, registered, stays, version_of}
use Rattle.functions.specs.declared.entry.FunctionEntry.{FunctionEntry}
use Rattle.run_model.specs.Fit.{AreInRange}
use Rattle.run_model.specs.Laws.{IsIn}
use Rattle.run_model.specs.Machine.{insert_all, with_functions}
use Rattle.run_model.proofs.FitFunctions.{fit-registered, in-inserted_all}
use Rattle.run_model.proofs.Members.{all-in, in-all, in-filter}
use Rattle.machine.specs.Held.{AreVersionsRight, Becomes, IsHeld, is_version_in_use}
use Rattle.machine.specs.Numbers.{AreJoined, has_number}
use Rattle.machine.specs.Versions.{Versions}
use Rattle.machine.specs.View.{state_of}
use Rattle.machine.specs.declared.counts.Counts.{Counts}
use Rattle.machine.specs.declared.loose.Loose.{Loose}
use Rattle.machine.specs.declared.parts.Parts.{Parts}
use Rattle.machine.proofs.HeldEvents.{untouched}

-- versions so far are at most their count
pub versions-given : (m : Parts) → IsHeld m
    → AllByRecursion (λ (f : FunctionEntry). f.version ≤ m.counts.versions) (m.versions.current ++ m.versions.retired)
versions-given m h =
    all-in (λ (f : FunctionEntry). f.version ≤ m.counts.versions) (m.versions.current ++ m.versions.retired)
    (λ f there. (h.fit.functions_fit.each f there).version)

in-map : (f : FunctionEntry) (fs : List FunctionEntry) → IsIn f fs → IsIn f.version (map version_of fs)
in-map f [] there = absurd there
in-map f (e ∷ es) (inl same) = inl (ap (λ (x : FunctionEntry). x.version) same)
in-map f (e ∷ es) (inr there) = inr (in-map f es there)

module _ (m : Parts) (app : App) (touched : List ℕ)
    (joined : AreJoined (map version_of m.versions.current) m.loose.versions touched) (h : IsHeld m) where
  abbrev gone : List FunctionEntry
  gone = filter (λ f. not (stays app f)) m.versions.current

  abbrev IsRight : FunctionEntry → Type 0
  IsRight f = has_number touched f.version ≡ false
      → is_version_in_use m.runs.live m.runs.closing m.windows f.version ≡ true

  right-after : (f : FunctionEntry) → IsIn f gone ⊎ IsIn f m.versions.retired → IsRight f
  right-after f (inl went) = λ left.
      let there : IsIn f m.versions.current = in-filter (λ f. not (stays app f)) f m.versions.current went in
      let clash : true ≡ false =
      sym (in-all (λ n. has_number touched n ≡ true) f.version (map version_of m.versions.current)
      (in-map f m.versions.current there) joined.there) ∙ left in
      absurd (cc)
  right-after f (inr before) = λ left.
      in-all (λ (f : FunctionEntry). has_number m.loose.versions f.version ≡ false
      → is_version_in_use m.runs.live m.runs.closing m.windows f.version ≡ true) f m.versions.retired before
      h.versions.each (untouched m.loose.versions touched f.version joined.kept left)

  versions-right : AreVersionsRight m.runs.live m.runs.closing m.windows (insert_all gone m.versions.retired) touched
  versions-right = record {
    each = all-in IsRight (insert_all gone m.versions.retired)
        (λ f there. right-after f (in-inserted_all f gone m.versions.retired there));
  }

  abbrev counted : Counts
  counted = record m.counts { versions = m.counts.versions + length (new_in app m.versions.current) }

  abbrev noted : Loose
  noted = record m.loose { versions = touched }

  pub held-register : (counts : Counts) (loose : Loose) (versions : Versions) → counts ≡ counted → loose ≡ noted
      → versions.current ≡ registered app m.counts.versions m.versions.current
      → versions.retired ≡ insert_all gone m.versions.retired → AreInRange app
      → Becomes (with_functions app (state_of m)) m
      (record m { counts = counts; loose = loose; versions = versions })
  held-register counts loose versions count left current retired ranges =
      let s = with_functions app (state_of m) in
      subst (λ (c : Counts). Becomes s m (record m { counts = c; loose = loose; versions = versions })) (sym count)
      (subst (λ (l : Loose). Becomes s m (record m { counts = counted; loose = l; versions = versions })) (sym left)
      (subst (λ (fs : List FunctionEntry). Becomes s m
      (record m {
        counts = counted;
        loose = noted;
        versions = record { current = fs; retired = versions.retired };
      })) (sym current)
      (subst (λ (fs : List FunctionEntry). Becomes s m
      (record m {
        counts = counted;
        loose = noted;
        versions = record { current = registered app m.counts.versions m.versions.current; retired = fs };
      })) (sym retired)
      (record {
        state = refl;
        held = record {
          fit = fit-registered app (state_of m) ranges h.fit;
          wants = h.wants;
          events = h.events;
          versions = versions-right;
          ends = h.ends;
          clock = h.clock;
        };
        clock = refl;
      }))))
