-- Where the walk stops, no expression goes on: each state before that can be completed.
use Rattle.std.proofs.Common.{◌≡◌, ℕ, suc, zero, ◌+◌, ◌≤◌, ◌<◌, Bool, true, false, cond, nat_le, codes, map, length, List, [], ◌∷◌, ◌++◌, refl, sym, ◌∙◌, ap, subst, append_assoc, append-nil, arith, Option, Some, None, Result, Ok, Err, ◌⊎◌, inl, inr}
use Rattle.std.specs.Prelude.{⊤}
use Rattle.std.proofs.lemmas.List.{map-append}
use Rattle.expr.specs.Tokens.{Token, word, quoted, round_open, round_close, square_close, dot, colon, unclosed, Placed, token_of, placed_tokens, tokens_of}
use Rattle.expr.specs.Tree.{Tree, null, boolean, number, text, source, group, list, member, index, has, call, method, signed, binary, choice, Trees, none, more}
use Rattle.expr.specs.Reading.{atom_of, rank_of, Frame, left, prefix, test, either, round, square, place, asked, argument, behind, Held, held, State, want, enter, have, behind_dot, reduce, opens, Step, goes, refused, too_deep, over, is_asked, close_round_in, close_square_in, other_branch_in, step_enter, step_dot, step, run, only, end_in, finish, deepest, read_tokens}
use Rattle.cel_parse.specs.declared.fault.ParseFault.{ParseFault}
use Rattle.cel_parse.specs.declared.fault.ParseFault.TheVariants.{Syntax, TooDeep}
use Rattle.cel_parse.specs.Faults.{walk, walk_on, walk_end, refused_place, unclosed_or}
use Rattle.cel_parse.specs.Grammar.{IsTree}
use Rattle.cel_parse.specs.Places.{Begins, BeginsWithin}
use Rattle.cel_parse.proofs.Limits.{step-up, step-refused, step-deep, run-refused, run-deep, run-append, run-up, finish-up}
use Rattle.cel_parse.proofs.Plain.{all-plain}
use Rattle.cel_parse.proofs.Sound.{Stands, Good, Enters, Keeps, run-keeps, free-cond, is_plain, AllPlain, read-is-spelled}
use Rattle.cel_parse.proofs.Whole.{free, over-goes, rank-below, spelled-is-read}

-- ---- nothing stands between `has (` and its argument

abbrev Clear : List Frame → Type 0
Clear [] = ⊤
Clear (left o a ∷ fs) = (is_asked fs ≡ false) × Clear fs
Clear (prefix s ∷ fs) = (is_asked fs ≡ false) × Clear fs
Clear (test c ∷ fs) = (is_asked fs ≡ false) × Clear fs
Clear (either c a ∷ fs) = (is_asked fs ≡ false) × Clear fs
Clear (round ∷ fs) = Clear fs
Clear (square ts ∷ fs) = Clear fs
Clear (place a ∷ fs) = Clear fs
Clear (asked ∷ fs) = Clear fs
Clear (argument f ∷ fs) = Clear fs
Clear (behind m a ∷ fs) = Clear fs

stands-clear : (most : ℕ) (fs : List Frame) → Stands most fs → Clear fs
stands-clear most [] s = tt
stands-clear most (left o a ∷ fs) s = let low : rank_of o ≤ 5 = rank-below o in (free fs (rank_of o) s.2 (omega (arith, low)), stands-clear most fs s.3)
stands-clear most (prefix x ∷ fs) s = (free fs 6 s.2 (omega arith), stands-clear most fs s.1)
stands-clear most (test c ∷ fs) s = (free fs 0 s.2 (omega arith), stands-clear most fs s.1)
stands-clear most (either c a ∷ fs) s = (free fs 0 s.2 (omega arith), stands-clear most fs s.1)
stands-clear most (round ∷ fs) s = stands-clear most fs s.1
stands-clear most (square ts ∷ fs) s = stands-clear most fs s.1
stands-clear most (place a ∷ fs) s = stands-clear most fs s.1
stands-clear most (asked ∷ fs) s = stands-clear most fs s.1
stands-clear most (argument f ∷ fs) s = stands-clear most fs s.1
stands-clear most (behind m a ∷ fs) s = stands-clear most fs s.1

clear-reduced : (fs : List Frame) (t : Tree) → Clear fs → is_asked fs ≡ false → is_asked (reduce 0 fs t).frames ≡ false
clear-reduced [] t s k = refl
clear-reduced (left o a ∷ fs) t s k = free-cond (nat_le 0 (rank_of o)) _ _ (clear-reduced fs (binary o a t) s.1 s.0) refl
clear-reduced (prefix x ∷ fs) t s k = clear-reduced fs (signed x t) s.1 s.0
clear-reduced (either c a ∷ fs) t s k = clear-reduced fs (choice c a t) s.1 s.0
clear-reduced (test c ∷ fs) t s k = refl
clear-reduced (round ∷ fs) t s k = refl
clear-reduced (square ts ∷ fs) t s k = refl
clear-reduced (place a ∷ fs) t s k = refl
clear-reduced (asked ∷ fs) t s k = absurd (cc)
clear-reduced (argument x ∷ fs) t s k = refl
clear-reduced (behind x a ∷ fs) t s k = refl

bool_cases : (b : Bool) → (b ≡ true) ⊎ (b ≡ false)
bool_cases true = inl refl
bool_cases false = inr refl

-- what is reduced to the argument of `has` is in it
asked-on-top : (hs : List Frame) (u : Tree) (gs : List Frame) (t : Tree) → is_asked hs ≡ true → reduce 0 hs u ≡ held (asked ∷ gs) t → held hs u ≡ held (asked ∷ gs) t
asked-on-top (asked ∷ fs) u gs t k e = e
asked-on-top [] u gs t k e = absurd (cc)
asked-on-top (left o a ∷ fs) u gs t k e = absurd (cc)
asked-on-top (prefix s ∷ fs) u gs t k e = absurd (cc)
asked-on-top (test c ∷ fs) u gs t k e = absurd (cc)
asked-on-top (either c a ∷ fs) u gs t k e = absurd (cc)
asked-on-top (round ∷ fs) u gs t k e = absurd (cc)
asked-on-top (square ts ∷ fs) u gs t k e = absurd (cc)
asked-on-top (place a ∷ fs) u gs t k e = absurd (cc)
asked-on-top (argument f ∷ fs) u gs t k e = absurd (cc)
asked-on-top (behind m a ∷ fs) u gs t k e = absurd (cc)

in-asked : (h : Held) (gs : List Frame) (t : Tree) → Clear h.frames → reduce 0 h.frames h.tree ≡ held (asked ∷ gs) t → h ≡ held (asked ∷ gs) t
in-asked h gs t s e = elim (bool_cases (is_asked h.frames)) [
  | inl is ↦ asked-on-top h.frames h.tree gs t is e
  | inr isn't ↦ absurd (let no : true ≡ false = sym (ap (λ (k : Held). is_asked k.frames) e) ∙ clear-reduced h.frames h.tree s isn't in cc)
]

-- ---- what completes each state

abbrev closers : List Frame → List Token
closers [] = []
closers (left o a ∷ fs) = closers fs
closers (prefix s ∷ fs) = closers fs
closers (either c a ∷ fs) = closers fs
closers (test c ∷ fs) = colon ∷ quoted [] ∷ closers fs
closers (round ∷ fs) = round_close ∷ closers fs
closers (square ts ∷ fs) = square_close ∷ closers fs
closers (place a ∷ fs) = square_close ∷ closers fs
closers (asked ∷ fs) = dot ∷ word [] ∷ round_close ∷ closers fs
closers (argument f ∷ fs) = round_close ∷ closers fs
closers (behind m a ∷ fs) = round_close ∷ closers fs

abbrev Closes : ℕ → Held → List Token → Type 0
Closes most h w = (v : Tree) × (finish (run most (goes (have h)) w) ≡ Some v)

closed : (most : ℕ) (fs : List Frame) (t : Tree) (h : Held) → Clear fs → Clear h.frames → reduce 0 h.frames h.tree ≡ reduce 0 fs t → Closes most h (closers fs)
closed most [] t h s k e = (t, ap only e)
closed most (left o a ∷ fs) t h s k e = closed most fs (binary o a t) h s.1 k (e ∙ (let z : nat_le 0 (rank_of o) ≡ true = grind arith in rw z refl))
closed most (prefix x ∷ fs) t h s k e = closed most fs (signed x t) h s.1 k e
closed most (either c a ∷ fs) t h s k e = closed most fs (choice c a t) h s.1 k e
closed most (test c ∷ fs) t h s k e = let x = closed most fs (choice c t (text [])) (held (either c t ∷ fs) (text [])) s.1 s refl in
    (x.0, ap (λ (g : Held). finish (run most (other_branch_in g) (quoted [] ∷ closers fs))) e ∙ x.1)
closed most (round ∷ fs) t h s k e = let x = closed most fs (group t) (held fs (group t)) s s refl in (x.0, ap (λ (g : Held). finish (run most (close_round_in g) (closers fs))) e ∙ x.1)
closed most (square ts ∷ fs) t h s k e = let x = closed most fs (list (more ts t)) (held fs (list (more ts t))) s s refl in (x.0, ap (λ (g : Held). finish (run most (close_square_in g) (closers fs))) e ∙ x.1)
closed most (place a ∷ fs) t h s k e = let x = closed most fs (index a t) (held fs (index a t)) s s refl in (x.0, ap (λ (g : Held). finish (run most (close_square_in g) (closers fs))) e ∙ x.1)
closed most (asked ∷ fs) t h s k e = let x = closed most fs (has t []) (held fs (has t [])) s s refl in
    (x.0, ap (λ (g : Held). finish (run most (goes (have g)) (dot ∷ word [] ∷ round_close ∷ closers fs))) (in-asked h fs t k e) ∙ x.1)
closed most (argument f ∷ fs) t h s k e = let x = closed most fs (call f t) (held fs (call f t)) s s refl in (x.0, ap (λ (g : Held). finish (run most (close_round_in g) (closers fs))) e ∙ x.1)
closed most (behind m a ∷ fs) t h s k e = let x = closed most fs (method m a t) (held fs (method m a t)) s s refl in (x.0, ap (λ (g : Held). finish (run most (close_round_in g) (closers fs))) e ∙ x.1)

abbrev completion : State → List Token
completion (want fs) = quoted [] ∷ closers fs
completion (enter fs f) = round_open ∷ quoted [] ∷ closers (f ∷ fs)
completion (have h) = closers h.frames
completion (behind_dot h) = word [] ∷ closers h.frames

-- what a completion opens
abbrev room : State → ℕ
room (enter fs f) = opens fs + 1
room _ = 0

abbrev Completed : ℕ → State → Type 0
Completed most s = (v : Tree) × (finish (run most (goes s) (completion s)) ≡ Some v)

completed-enter : (most : ℕ) (fs : List Frame) (f : Frame) → opens fs < most → Clear (f ∷ fs) → Completed most (enter fs f)
completed-enter most fs f l s = let x = closed most (f ∷ fs) (text []) (held (f ∷ fs) (text [])) s s refl in
    (x.0, ap (λ (o : Step). finish (run most o (quoted [] ∷ closers (f ∷ fs)))) (over-goes most f fs l) ∙ x.1)

enters-clear : (most : ℕ) (fs : List Frame) (f : Frame) → Enters most fs f → Clear (f ∷ fs)
enters-clear most fs asked s = stands-clear most fs s
enters-clear most fs (argument f) s = stands-clear most fs s
enters-clear most fs _ s = absurd s

completed : (most big : ℕ) (s : State) → Good most s → room s ≤ big → Completed big s
completed most big (want fs) g l = let s = stands-clear most fs g in closed big fs (text []) (held fs (text [])) s s refl
completed most big (enter fs f) g l = completed-enter big fs f (omega (arith, l)) (enters-clear most fs f g)
completed most big (have h) g l = let s = stands-clear most h.frames g.0 in closed big h.frames h.tree h s s refl
completed most big (behind_dot h) g l = let s = stands-clear most h.frames g.0 in closed big h.frames (member h.tree []) (held h.frames (member h.tree [])) s s refl

-- ---- plain tokens

pub plain-append : (v w : List Token) → AllPlain v → AllPlain w → AllPlain (v ++ w)
plain-append [] w a b = b
plain-append (x ∷ xs) w a b = (a.0, plain-append xs w a.1 b)

pub plain-front : (v w : List Token) → AllPlain (v ++ w) → AllPlain v
plain-front [] w a = tt
plain-front (x ∷ xs) w a = (a.0, plain-front xs w a.1)

closers-plain : (fs : List Frame) → AllPlain (closers fs)
closers-plain [] = tt
closers-plain (left o a ∷ fs) = closers-plain fs
closers-plain (prefix s ∷ fs) = closers-plain fs
closers-plain (either c a ∷ fs) = closers-plain fs
closers-plain (test c ∷ fs) = (refl, (refl, closers-plain fs))
closers-plain (round ∷ fs) = (refl, closers-plain fs)
closers-plain (square ts ∷ fs) = (refl, closers-plain fs)
closers-plain (place a ∷ fs) = (refl, closers-plain fs)
closers-plain (asked ∷ fs) = (refl, (refl, (refl, closers-plain fs)))
closers-plain (argument f ∷ fs) = (refl, closers-plain fs)
closers-plain (behind m a ∷ fs) = (refl, closers-plain fs)

completion-plain : (s : State) → AllPlain (completion s)
completion-plain (want fs) = (refl, closers-plain fs)
completion-plain (enter fs f) = (refl, (refl, closers-plain (f ∷ fs)))
completion-plain (have h) = closers-plain h.frames
completion-plain (behind_dot h) = (refl, closers-plain h.frames)

-- ---- what is taken begins an expression, and what is refused begins none

good-at : (most : ℕ) (u : List Token) (s : State) → AllPlain u → run most (goes (want [])) u ≡ goes s → Good most s
good-at most u s y e = let k : Keeps most u (goes s) = subst (λ (o : Step). Keeps most u o) e (run-keeps most u (goes (want [])) [] y (tt, refl)) in k.0

alive-in : (most big : ℕ) (u : List Token) (s : State) → most ≤ big → room s ≤ big → AllPlain u → run most (goes (want [])) u ≡ goes s → BeginsWithin big u
unfolding read_tokens
alive-in most big u s l k y e = let x = completed most big s (good-at most u s y e) k in
    let r : run big (goes (want [])) (u ++ completion s) ≡ run big (goes s) (completion s) = run-append big u (completion s) (goes (want [])) ∙ ap (λ (o : Step). run big o (completion s)) (run-up u (want []) most big s l e) in
    (completion s, x.0, read-is-spelled big (u ++ completion s) x.0 (plain-append u (completion s) y (completion-plain s)) (ap finish r ∙ x.1))

pub alive : (most : ℕ) (u : List Token) (s : State) → AllPlain u → run most (goes (want [])) u ≡ goes s → Begins u
alive most u s y e = let b = alive-in most (most + room s) u s (omega arith) (omega arith) y e in record { most = most + room s; rest = b.0; tree = b.1; is_tree = b.2 }

bracket-enters : (fs : List Frame) (f : Frame) (x : Token) → step_enter deepest fs f x ≡ too_deep → x ≡ round_open
bracket-enters fs f round_open e = refl
bracket-enters fs f _ e = absurd (cc)

-- before a token that is too deep an expression goes on within the limit, but behind the name of a function
pub alive-within : (u : List Token) (x : Token) (s : State) → AllPlain u → run deepest (goes (want [])) u ≡ goes s → step deepest s x ≡ too_deep → BeginsWithin deepest u ⊎ (x ≡ round_open)
alive-within u x (want fs) y e r = inl (alive-in deepest deepest u (want fs) (omega arith) (omega arith) y e)
alive-within u x (enter fs f) y e r = inr (bracket-enters fs f x r)
alive-within u x (have h) y e r = inl (alive-in deepest deepest u (have h) (omega arith) (omega arith) y e)
alive-within u x (behind_dot h) y e r = inl (alive-in deepest deepest u (behind_dot h) (omega arith) (omega arith) y e)

refused-some : (t : Tree) → finish refused ≡ Some t → ⊥
refused-some t e = cc

deep-some : (t : Tree) → finish too_deep ≡ Some t → ⊥
deep-some t e = cc

pub dead : (u : List Token) → ((m : ℕ) → deepest ≤ m → run m (goes (want [])) u ≡ refused) → Begins u → ⊥
unfolding read_tokens
dead u h b = let big = b.most + deepest in let up = finish-up b.most big (u ++ b.rest) (want []) b.tree (omega arith) (spelled-is-read b.most (u ++ b.rest) b.tree b.is_tree) in
    refused-some b.tree (sym (ap finish (run-append big u b.rest (goes (want [])) ∙ ap (λ (o : Step). run big o b.rest) (h big (omega arith)) ∙ run-refused big b.rest)) ∙ up)

pub one-more : (m : ℕ) (u : List Token) (x : Token) (s : State) → run m (goes (want [])) u ≡ goes s → run m (goes (want [])) (u ++ x ∷ []) ≡ step m s x
one-more m u x s e = run-append m u (x ∷ []) (goes (want [])) ∙ ap (λ (o : Step). run m o (x ∷ [])) e

-- a token that is refused is refused at each higher bound
pub dead-at : (u : List Token) (x : Token) (s : State) → run deepest (goes (want [])) u ≡ goes s → step deepest s x ≡ refused → Begins (u ++ x ∷ []) → ⊥
dead-at u x s e r = dead (u ++ x ∷ []) (λ m l. one-more m u x s (run-up u (want []) deepest m s l e) ∙ step-refused deepest m s x r)

pub deeper : (u : List Token) (x : Token) (s : State) → AllPlain (u ++ x ∷ []) → run deepest (goes (want [])) u ≡ goes s → step deepest s x ≡ too_deep → Begins (u ++ x ∷ [])
deeper u x s y e r = let d = step-deep deepest s x r in let big = deepest + d.0 in
    alive big (u ++ x ∷ []) d.1 y (one-more big u x s (run-up u (want []) deepest big s (omega arith) e) ∙ step-up d.0 big s x d.1 (omega arith) d.2)

pub none-within : (u : List Token) (x : Token) (s : State) → run deepest (goes (want [])) u ≡ goes s → step deepest s x ≡ too_deep → BeginsWithin deepest (u ++ x ∷ []) → ⊥
unfolding read_tokens
none-within u x s e r b = deep-some b.1 (sym (ap finish (run-append deepest (u ++ x ∷ []) b.0 (goes (want [])) ∙ ap (λ (o : Step). run deepest o b.0) (one-more deepest u x s e ∙ r) ∙ run-deep deepest b.0)) ∙ spelled-is-read deepest ((u ++ x ∷ []) ++ b.0) b.1 b.2)

none-some : (o : Option Tree) (t : Tree) → o ≡ None → o ≡ Some t → ⊥
none-some o t e k = let no : None ≡ Some t = sym e ∙ k in cc

pub none-whole : (u : List Token) (s : State) → run deepest (goes (want [])) u ≡ goes s → end_in s ≡ None → (most : ℕ) (t : Tree) → IsTree most u t → ⊥
unfolding read_tokens
none-whole u s e n most t i = let big = most + deepest in none-some (end_in s) t n
    (sym (ap finish (run-up u (want []) deepest big s (omega arith) e)) ∙ finish-up most big u (want []) t (omega arith) (spelled-is-read most u t i))
