-- What is parked can't be open: how each call of a caller keeps it.
use Rattle.std.proofs.Common.{◌≡◌, ℕ, ◌≤◌, ◌<◌, nat_le, nat_lt, Bool, true, false, cond, not, ◌&&◌, ◌||◌, List, [], ◌∷◌, Some, None, Option, refl, sym, ap, ◌∙◌, arith, subst, length}
use Rattle.std.specs.List.{list_any, AllByRecursion, filter}
use Rattle.std.proofs.lemmas.Bool.Decides.{nat_tests}
use Rattle.lists.proofs.Elements.{all-weaker}
use Rattle.kinds.specs.Cells.{is_cell, is_full, has_cell, counts_in, open_in, has_issue, without_issue, insert_issue, is_allowed, may_start}
use Rattle.kinds.specs.declared.cell.Cell.{Cell}
use Rattle.kinds.specs.declared.cell.CellLimit.{CellLimit}
use Rattle.kinds.specs.declared.cell.IssueEntry.{IssueEntry}
use Rattle.kinds.specs.declared.cell.StartEntry.{StartEntry}
use Rattle.kinds.specs.declared.store.Item.{Item}
use Rattle.ready_queue.specs.Held.{Group}
use Rattle.ready_queue.specs.Parking.{Parking, at_cell, at_moment, IsFullFor, IsHeldTill, IsShut, ParksFewer, AreLookedAt, AreToCome}
use Rattle.ready_queue.proofs.ParkLemmas.{cells_tied}

-- nothing is parked
pub shut_empty : (items : List Item) (issues : List IssueEntry) (starts : List StartEntry) (t : ℕ) → IsShut (record { items = items; full = []; later = [] }) issues starts t
shut_empty items issues starts t = record { full = λ c gs e. cc; later = λ m gs e. cc; coming = λ m gs e. cc }

-- groups are looked at again
pub shut_fewer : (old new : Parking) (issues : List IssueEntry) (starts : List StartEntry) (t : ℕ) → IsShut old issues starts t → ParksFewer old new → IsShut new issues starts t
shut_fewer old new issues starts t s f = record {
  full = λ c gs e. s.full c gs (f.full c gs e);
  later = λ m gs e. s.later m gs (f.later m gs e);
  coming = λ m gs e. s.coming m gs (f.later m gs e);
}

-- a moment came
pub shut_passed : (old new : Parking) (issues : List IssueEntry) (starts : List StartEntry) (t u : ℕ) → IsShut old issues starts t → ParksFewer old new → AreToCome u new → IsShut new issues starts u
shut_passed old new issues starts t u s f come = record {
  full = λ c gs e. s.full c gs (f.full c gs e);
  later = λ m gs e. s.later m gs (f.later m gs e);
  coming = come;
}

full_kept : (c : Cell) (old new : List IssueEntry) → open_in c old ≤ open_in c new → (k : Group) → IsFullFor old c k → IsFullFor new c k
full_kept c old new more k h = over k.0 h
  where
    up : (l a b : ℕ) → a ≤ b → nat_le l a ≡ true → nat_le l b ≡ true
    up l a b h e = grind (arith, nat_tests)

    one : (l : CellLimit) (b : Bool) → is_cell c l.cell ≡ b → (b && is_full old l) ≡ true → (b && is_full new l) ≡ true
    one l false e h = h
    one l true e h = up l.limit (open_in l.cell old) (open_in l.cell new) (subst (λ x. open_in x old ≤ open_in x new) (cells_tied c l.cell e) more) h

    or_cases : (a b x y : Bool) → (a ≡ true → x ≡ true) → (b ≡ true → y ≡ true) → (a || b) ≡ true → (x || y) ≡ true
    or_cases true b x y f g h = ap (λ z. z || y) (f refl)
    or_cases false b true y f g h = refl
    or_cases false b false y f g h = g h

    over : (ls : List CellLimit) → list_any (λ (l : CellLimit). is_cell c l.cell && is_full old l) ls ≡ true → list_any (λ (l : CellLimit). is_cell c l.cell && is_full new l) ls ≡ true
    over [] h = h
    over (l ∷ ls) h =
        or_cases (is_cell c l.cell && is_full old l) (list_any (λ (l : CellLimit). is_cell c l.cell && is_full old l) ls) (is_cell c l.cell && is_full new l) (list_any (λ (l : CellLimit). is_cell c l.cell && is_full new l) ls)
        (one l (is_cell c l.cell) refl) (over ls) h

-- issues came
pub shut_grown : (q : Parking) (old new : List IssueEntry) (starts : List StartEntry) (t : ℕ) → IsShut q old starts t → ((c : Cell) → open_in c old ≤ open_in c new) → IsShut q new starts t
shut_grown q old new starts t s more = record {
  full = λ c gs e. all-weaker (IsFullFor old c) (IsFullFor new c) gs (full_kept c old new (more c)) (s.full c gs e);
  later = s.later;
  coming = s.coming;
}

-- issues went, and the groups at their cells are looked at again
pub shut_left : (was now : Parking) (cells : List CellLimit) (old new : List IssueEntry) (starts : List StartEntry) (t : ℕ) → IsShut was old starts t → ParksFewer was now → AreLookedAt cells now
    → ((c : Cell) → has_cell c cells ≡ false → open_in c old ≤ open_in c new) → IsShut now new starts t
shut_left was now cells old new starts t s f looked same = record {
  full = λ c gs e. all-weaker (IsFullFor old c) (IsFullFor new c) gs (full_kept c old new (same c (not_named c gs e (has_cell c cells) refl))) (s.full c gs (f.full c gs e));
  later = λ m gs e. s.later m gs (f.later m gs e);
  coming = λ m gs e. s.coming m gs (f.later m gs e);
}
  where
    not_named : (c : Cell) (gs : List Group) → at_cell c now.full ≡ Some gs → (b : Bool) → has_cell c cells ≡ b → has_cell c cells ≡ false
    not_named c gs e true h = absurd (let no : None ≡ Some gs = sym (looked c h) ∙ e in cc)
    not_named c gs e false h = h

-- runs started
pub shut_started : (q : Parking) (issues : List IssueEntry) (old new : List StartEntry) (t : ℕ) → IsShut q issues old t → ((c : Cell) (u : ℕ) → is_allowed c u old ≡ false → is_allowed c u new ≡ false) → IsShut q issues new t
shut_started q issues old new t s less = record {
  full = s.full;
  later = λ m gs e. all-weaker (IsHeldTill old m) (IsHeldTill new m) gs (λ k h u before. still k.1 u (h u before)) (s.later m gs e);
  coming = s.coming;
}
  where
    still : (o : Option Cell) (u : ℕ) → may_start o u old ≡ false → may_start o u new ≡ false
    still None u h = h
    still (Some c) u h = less c u h

-- ---- the counts of issues

filter_grows : (p : IssueEntry → Bool) (e : IssueEntry) (issues : List IssueEntry) → length (filter p issues) ≤ length (filter p (insert_issue e issues))
filter_grows p e [] = omega arith
filter_grows p e (x ∷ xs) = by_order (nat_lt e.issue x.issue) (filter_grows p e xs)
  where
    one_more : (b : Bool) (ys : List IssueEntry) → length ys ≤ length (cond b (e ∷ ys) ys)
    one_more true ys = omega arith
    one_more false ys = omega arith

    both_more : (b : Bool) (ys zs : List IssueEntry) → length ys ≤ length zs → length (cond b (x ∷ ys) ys) ≤ length (cond b (x ∷ zs) zs)
    both_more true ys zs h = omega (arith, h)
    both_more false ys zs h = h

    by_order : (a : Bool) → length (filter p xs) ≤ length (filter p (insert_issue e xs)) → length (filter p (x ∷ xs)) ≤ length (filter p (cond a (e ∷ x ∷ xs) (x ∷ insert_issue e xs)))
    by_order true h = one_more (p e) (filter p (x ∷ xs))
    by_order false h = both_more (p x) (filter p xs) (filter p (insert_issue e xs)) h

-- an issue came: no cell has fewer
pub open_grows : (c : Cell) (e : IssueEntry) (issues : List IssueEntry) → open_in c issues ≤ open_in c (insert_issue e issues)
open_grows c e issues = filter_grows (counts_in c) e issues

filter_left : (p : IssueEntry → Bool) (n : ℕ) (issues : List IssueEntry) → AllByRecursion (λ e. has_issue n e ≡ true → p e ≡ false) issues → length (filter p issues) ≤ length (filter p (without_issue n issues))
filter_left p n [] all = omega arith
filter_left p n (x ∷ xs) all = by_issue (has_issue n x) refl (filter_left p n xs all.1)
  where
    both_more : (b : Bool) (ys zs : List IssueEntry) → length ys ≤ length zs → length (cond b (x ∷ ys) ys) ≤ length (cond b (x ∷ zs) zs)
    both_more true ys zs h = omega (arith, h)
    both_more false ys zs h = h

    none_more : (b : Bool) (ys : List IssueEntry) (m : ℕ) → b ≡ false → length ys ≤ m → length (cond b (x ∷ ys) ys) ≤ m
    none_more true ys m e h = cc
    none_more false ys m e h = h

    by_issue : (a : Bool) → has_issue n x ≡ a → length (filter p xs) ≤ length (filter p (without_issue n xs)) → length (filter p (x ∷ xs)) ≤ length (filter p (cond (not a) (x ∷ without_issue n xs) (without_issue n xs)))
    by_issue true e h = none_more (p x) (filter p xs) (length (filter p (without_issue n xs))) (all.0 e) h
    by_issue false e h = both_more (p x) (filter p xs) (filter p (without_issue n xs)) h

-- an issue went that had these cells: no other cell has fewer
pub open_left : (c : Cell) (n : ℕ) (cells : List CellLimit) (issues : List IssueEntry) → AllByRecursion (λ (e : IssueEntry). has_issue n e ≡ true → e.cells ≡ cells) issues → has_cell c cells ≡ false → open_in c issues ≤ open_in c (without_issue n issues)
open_left c n cells issues all none =
    filter_left (counts_in c) n issues (all-weaker (λ (e : IssueEntry). has_issue n e ≡ true → e.cells ≡ cells) (λ (e : IssueEntry). has_issue n e ≡ true → counts_in c e ≡ false) issues (λ e f h. ap (has_cell c) (f h) ∙ none) all)
