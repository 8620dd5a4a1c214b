-- Before the next moment no item may be issued that may not be now.
use Rattle.std.proofs.Common.{◌≡◌, ℕ, ◌+◌, ◌-◌, ◌<◌, nat_lt, nat_le, Bool, true, false, cond, ◌&&◌, List, [], ◌∷◌, find, Option, Some, None, IfSome, option_map, refl, arith}
use Rattle.std.specs.Ordering.{is_gt}
use Rattle.kinds.specs.Cells.{are_free, greatest_in, has_start, is_allowed, later_starts, release_moment, slack}
use Rattle.kinds.specs.Queue.{admits, is_admissible, item_cmp, least, lesser, moment_of, next_item, number_of, release_of, sooner}
use Rattle.kinds.specs.declared.cell.Cell.{Cell}
use Rattle.kinds.specs.declared.cell.CellLimit.{CellLimit}
use Rattle.kinds.specs.declared.cell.IssueEntry.{IssueEntry}
use Rattle.kinds.specs.declared.cell.StartEntry.{StartEntry}
use Rattle.kinds.specs.declared.store.Item.{Item}

-- ## The sooner of two moments

abbrev pub IsBefore : ℕ → Option ℕ → Type 0
IsBefore t next = IfSome next (λ n. t < n)

pub before-left : (t : ℕ) (a b : Option ℕ) → IsBefore t (sooner a b) → IsBefore t a
before-left t None b h = tt
before-left t (Some a) None h = h
before-left t (Some a) (Some b) h = omega (arith, h)

pub before-right : (t : ℕ) (a b : Option ℕ) → IsBefore t (sooner a b) → IsBefore t b
before-right t None b h = h
before-right t (Some a) None h = tt
before-right t (Some a) (Some b) h = omega (arith, h)

-- ## Throttles

later-found : (p : StartEntry → Bool) (t : ℕ) (es : List StartEntry) → t < greatest_in (find p es)
    → greatest_in (find p (later_starts t es)) ≡ greatest_in (find p es)
later-found p t [] h = refl
later-found p t (e ∷ es) h = by_tests (p e) (nat_lt t e.greatest) refl refl h (later-found p t es)
  where
    by_tests : (b d : Bool) → p e ≡ b → nat_lt t e.greatest ≡ d → t < greatest_in (cond b (Some e) (find p es))
        → (t < greatest_in (find p es) → greatest_in (find p (later_starts t es)) ≡ greatest_in (find p es))
        → greatest_in (find p (cond d (e ∷ later_starts t es) (later_starts t es)))
        ≡ greatest_in (cond b (Some e) (find p es))
    by_tests true true same later h more = rw same refl
    by_tests true false same later h more = absurd (grind (arith, later, h))
    by_tests false true same later h more = rw same (more h)
    by_tests false false same later h more = more h

under : (g r t : ℕ) → t < g - r → t < g
under g r t h = omega (arith, h)

over : (g r t : ℕ) → t < g - r → nat_le g (t + r) ≡ false
over g r t h = let more : t + r < g = omega (arith, h) in grind (arith, more)

not-allowed : (c : Cell) (t : ℕ) (starts : List StartEntry) → t < release_moment c starts
    → is_allowed c t (later_starts t starts) ≡ false
not-allowed c t starts h =
    let g = greatest_in (find (has_start c) starts) in
    let same = later-found (has_start c) t starts (under g (slack c) t h) in
    rw same (over g (slack c) t h)

-- ## An item

still-shut : (cells : List CellLimit) (start : Option Cell) (issues : List IssueEntry) (starts : List StartEntry)
    (before t : ℕ) → admits issues starts before cells start ≡ false
    → IsBefore t (release_of issues starts cells start)
    → admits issues (later_starts t starts) t cells start ≡ false
still-shut cells None issues starts before t shut h = shut
still-shut cells (Some c) issues starts before t shut h = by_test (are_free cells issues) h
  where
    by_test : (b : Bool) → IsBefore t (cond b (Some (release_moment c starts)) None)
        → (b && is_allowed c t (later_starts t starts)) ≡ false
    by_test true h = not-allowed c t starts h
    by_test false h = refl

and-no : (a b : Bool) → b ≡ false → (a && b) ≡ false
and-no true b h = h
and-no false b h = refl

and-second : (a b : Bool) → a ≡ true → (a && b) ≡ false → b ≡ false
and-second true b e h = h
and-second false b e h = absurd (cc)

still-waits : (issues : List IssueEntry) (starts : List StartEntry) (before t : ℕ) (i : Item)
    → is_admissible (admits issues starts before) before i ≡ false
    → IsBefore t (moment_of issues starts before i)
    → is_admissible (admits issues (later_starts t starts) t) t i ≡ false
still-waits issues starts before t i shut h = by_test (nat_lt before i.due) refl h
  where
    by_test : (b : Bool) → nat_lt before i.due ≡ b
        → IsBefore t (cond b (Some i.due) (release_of issues starts i.cells i.start))
        → is_admissible (admits issues (later_starts t starts) t) t i ≡ false
    by_test true e h = let late : nat_le i.due t ≡ false = grind (arith, h) in rw late refl
    by_test false e h =
        let due : nat_le i.due before ≡ true = grind (arith, e) in
        and-no (nat_le i.due t) (admits issues (later_starts t starts) t i.cells i.start)
        (still-shut i.cells i.start issues starts before t
        (and-second (nat_le i.due before) (admits issues starts before i.cells i.start) due shut) h)

-- ## The queue

some-lesser : (i : Item) (found : Option Item) → option_map number_of (lesser i found) ≡ None → ⊥
some-lesser i None h = cc
some-lesser i (Some j) h = by_test (is_gt (item_cmp i j)) h
  where
    by_test : (b : Bool) → option_map number_of (cond b (Some j) (Some i)) ≡ None → ⊥
    by_test true h = cc
    by_test false h = cc

none-first : (b : Bool) (i : Item) (found : Option Item)
    → option_map number_of (cond b (lesser i found) found) ≡ None → b ≡ false
none-first true i found h = absurd (some-lesser i found h)
none-first false i found h = refl

none-behind : (b : Bool) (i : Item) (found : Option Item)
    → option_map number_of (cond b (lesser i found) found) ≡ None → option_map number_of found ≡ None
none-behind true i found h = absurd (some-lesser i found h)
none-behind false i found h = h

pub still-none : (issues : List IssueEntry) (starts : List StartEntry) (before t : ℕ) (items : List Item)
    → option_map number_of (least (is_admissible (admits issues starts before) before) items) ≡ None
    → IsBefore t (next_item issues starts before items)
    → option_map number_of (least (is_admissible (admits issues (later_starts t starts) t) t) items) ≡ None
unfolding least next_item
still-none issues starts before t [] shut h = refl
still-none issues starts before t (i ∷ items) shut h =
    let passes = is_admissible (admits issues starts before) before in
    let moment = moment_of issues starts before i in
    let next = next_item issues starts before items in
    let waits = still-waits issues starts before t i (none-first (passes i) i (least passes items) shut)
    (before-left t moment next h) in
    rw waits (still-none issues starts before t items (none-behind (passes i) i (least passes items) shut)
    (before-right t moment next h))
