-- How claims on what a rig tells are joined: two steps to one, and what holds of each moment.
use Rattle.std.proofs.Common.{◌∙◌, List, [], ◌∷◌, ◌++◌, append_assoc, ap, sym}
use Rattle.std.specs.List.{AllByRecursion}
use Rattle.rig.specs.Told.{Moment, History, moments_of, IsStep, GoesOn, StillTells, Since, Then}

-- one step and then another
pub then : {R : Type 0} {tells : R → History → Type 0} {a b c : R} {first second : History → History → Type 0} → GoesOn tells a b first → GoesOn tells b c second → GoesOn tells a c (Then tells b first second)
then f s = record {
  each = λ history at_a told at_c.
      let middle = s.back told at_c in
      let went = f.each history at_a middle.0 middle.1 in
      let later = s.each went.0 went.1 told at_c in
      (later.0, later.1, record { middle = went.0; told = went.1; went = went.2; goes = later.2 });
  back = λ told at_c. let middle = s.back told at_c in f.back middle.0 middle.1;
}

-- a step, said otherwise
pub into : {R : Type 0} {tells : R → History → Type 0} {a b : R} {step said : History → History → Type 0} → ((old new : History) → step old new → said old new) → GoesOn tells a b step → GoesOn tells a b said
into h g = record {
  each = λ history at_a told at_b. let later = g.each history at_a told at_b in (later.0, later.1, h history later.0 later.2);
  back = g.back;
}

-- the same, where what is told at both ends helps
pub into_told : {R : Type 0} {tells : R → History → Type 0} {a b : R} {step said : History → History → Type 0} → ((old new : History) → tells a old → tells b new → step old new → said old new) → GoesOn tells a b step → GoesOn tells a b said
into_told h g = record {
  each = λ history at_a told at_b. let later = g.each history at_a told at_b in (later.0, later.1, h history later.0 at_a later.1 later.2);
  back = g.back;
}

-- telling goes on over two calls
pub still_then : {R : Type 0} (tells : R → History → Type 0) (a b c : R) → StillTells tells a b → StillTells tells b c → StillTells tells a c
still_then tells a b c f s history at_a = let middle = f history at_a in s middle.0 middle.1

-- one step was made, after which P holds
pub since_step : {P : Moment → Type 0} {change : Moment → Moment → Type 0} {old new : History} → IsStep change old new → P new.now → Since P old new
since_step {P = P} {old = old} {new = new} step here = record {
  added = new.now ∷ [];
  goes_on = ap (λ (ms : List Moment). new.now ∷ ms) step.past;
  each = (here, tt);
}

all_both : (P : Moment → Type 0) (xs ys : List Moment) → AllByRecursion P xs → AllByRecursion P ys → AllByRecursion P (xs ++ ys)
all_both P [] ys p q = q
all_both P (x ∷ xs) ys p q = (p.0, all_both P xs ys p.1 q)

pub since_since : {P : Moment → Type 0} {a b c : History} → Since P a b → Since P b c → Since P a c
since_since {P = P} {a = a} f s = record {
  added = s.added ++ f.added;
  goes_on = s.goes_on ∙ (ap (λ (ms : List Moment). s.added ++ ms) f.goes_on ∙ sym (append_assoc s.added f.added (moments_of a)));
  each = all_both P s.added f.added s.each f.each;
}
