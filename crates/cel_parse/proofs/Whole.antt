-- What is spelled is read: each tree's spelling leads to the frames and the tree that amount to it.
use Rattle.std.proofs.Common.{◌≡◌, ℕ, suc, zero, ◌+◌, ◌≤◌, ◌<◌, Bool, true, false, cond, nat_le, codes, List, [], ◌∷◌, ◌++◌, refl, sym, ◌∙◌, ap, subst, append_assoc, append-nil, arith, Option, Some, None}
use Rattle.std.specs.Prelude.{⊤}
use Rattle.expr.specs.declared.term.Source.{Source}
use Rattle.expr.specs.declared.term.Source.TheVariants.{Event, Async}
use Rattle.expr.specs.declared.term.Sign.{Sign}
use Rattle.expr.specs.declared.term.Sign.TheVariants as sign
use Rattle.expr.specs.declared.term.Operator.{Operator}
use Rattle.expr.specs.declared.term.Operator.TheVariants as op
use Rattle.expr.specs.declared.term.Function.{Function}
use Rattle.expr.specs.declared.term.Function.TheVariants as function
use Rattle.expr.specs.declared.term.Method.{Method}
use Rattle.expr.specs.declared.term.Method.TheVariants as m
use Rattle.expr.specs.Tokens.{Token, word, quoted, operator, exclaim, round_open, round_close, square_open, square_close, dot, comma, question, colon, tokens_of}
use Rattle.expr.specs.Tokens as token
use Rattle.expr.specs.Tree.{Tree, null, boolean, number, text, source, group, list, member, index, has, call, method, signed, binary, choice, Trees, none, more}
use Rattle.expr.specs.Reading.{atom_of, callee_of, method_of, is_in, rank_of, Frame, left, prefix, test, either, round, square, place, asked, argument, behind, Held, held, State, want, enter, have, behind_dot, reduce, opens, Step, goes, refused, too_deep, over, is_asked, unless_asked, close_round_in, close_square_in, next_item_in, other_branch_in, operand_left, tested, operate, begin_method, method_or_none, step_have, step, run, only, finish, read_tokens}
use Rattle.cel_parse.specs.Grammar.{source_name, function_name, method_name, sign_token, operator_token, spell, spell_all, rank, Fits, FitAll, Lies, LieAll, IsTree}

-- a tree of this rank may stand where the top frame stops
abbrev pub Room : List Frame → ℕ → Type 0
Room (left o a ∷ fs) r = rank_of o < r
Room (prefix s ∷ fs) r = 6 ≤ r
Room (asked ∷ fs) r = 7 ≤ r
Room [] r = ⊤
Room (test c ∷ fs) r = ⊤
Room (either c a ∷ fs) r = ⊤
Room (round ∷ fs) r = ⊤
Room (square ts ∷ fs) r = ⊤
Room (place a ∷ fs) r = ⊤
Room (argument f ∷ fs) r = ⊤
Room (behind m a ∷ fs) r = ⊤

pub rank-below : (o : Operator) → rank_of o ≤ 5
rank-below op.Or = omega arith
rank-below op.And = omega arith
rank-below op.Less = omega arith
rank-below op.LessOrEqual = omega arith
rank-below op.Greater = omega arith
rank-below op.GreaterOrEqual = omega arith
rank-below op.Equal = omega arith
rank-below op.NotEqual = omega arith
rank-below op.In = omega arith
rank-below op.Plus = omega arith
rank-below op.Minus = omega arith
rank-below op.Times = omega arith
rank-below op.Divide = omega arith
rank-below op.Remainder = omega arith

pub rank-above : (o : Operator) → 1 ≤ rank_of o
rank-above op.Or = omega arith
rank-above op.And = omega arith
rank-above op.Less = omega arith
rank-above op.LessOrEqual = omega arith
rank-above op.Greater = omega arith
rank-above op.GreaterOrEqual = omega arith
rank-above op.Equal = omega arith
rank-above op.NotEqual = omega arith
rank-above op.In = omega arith
rank-above op.Plus = omega arith
rank-above op.Minus = omega arith
rank-above op.Times = omega arith
rank-above op.Divide = omega arith
rank-above op.Remainder = omega arith

pub room-up : (fs : List Frame) (r s : ℕ) → Room fs r → r ≤ s → Room fs s
room-up (left o a ∷ fs) r s h k = omega (arith, h, k)
room-up (prefix x ∷ fs) r s h k = omega (arith, h, k)
room-up (asked ∷ fs) r s h k = omega (arith, h, k)
room-up [] r s h k = tt
room-up (test c ∷ fs) r s h k = tt
room-up (either c a ∷ fs) r s h k = tt
room-up (round ∷ fs) r s h k = tt
room-up (square ts ∷ fs) r s h k = tt
room-up (place a ∷ fs) r s h k = tt
room-up (argument f ∷ fs) r s h k = tt
room-up (behind m a ∷ fs) r s h k = tt

pub le-true : (a b : ℕ) → a ≤ b → nat_le a b ≡ true
le-true a b h = grind (arith, h)

pub lt-false : (a b : ℕ) → b < a → nat_le a b ≡ false
lt-false a b h = grind (arith, h)

-- nothing is put together above the room
pub rests : (fs : List Frame) (r : ℕ) (t : Tree) → Room fs r → 1 ≤ r → (r ≡ 6 → ⊥) → reduce r fs t ≡ held fs t
rests [] r t h l k = refl
rests (left o a ∷ fs) r t h l k = rw (lt-false r (rank_of o) h) refl
rests (prefix s ∷ fs) r t h l k = let e : nat_le r 6 ≡ false = grind (arith, h, k) in rw e refl
rests (either c a ∷ fs) r t h l k = let e : nat_le r 0 ≡ false = grind (arith, l) in rw e refl
rests (test c ∷ fs) r t h l k = refl
rests (round ∷ fs) r t h l k = refl
rests (square ts ∷ fs) r t h l k = refl
rests (place a ∷ fs) r t h l k = refl
rests (asked ∷ fs) r t h l k = refl
rests (argument f ∷ fs) r t h l k = refl
rests (behind m a ∷ fs) r t h l k = refl

pub room-op : (fs : List Frame) (o : Operator) (t : Tree) → Room fs (rank_of o) → reduce (rank_of o) fs t ≡ held fs t
room-op fs o t h = rests fs (rank_of o) t h (rank-above o) (λ e. let k : rank_of o ≤ 5 = rank-below o in absurd (omega (arith, e, k)))

pub rests-seven : (fs : List Frame) (t : Tree) → reduce 7 fs t ≡ held fs t
rests-seven [] t = refl
rests-seven (left o a ∷ fs) t = rw (lt-false 7 (rank_of o) (let k : rank_of o ≤ 5 = rank-below o in omega (arith, k))) refl
rests-seven (prefix s ∷ fs) t = refl
rests-seven (test c ∷ fs) t = refl
rests-seven (either c a ∷ fs) t = refl
rests-seven (round ∷ fs) t = refl
rests-seven (square ts ∷ fs) t = refl
rests-seven (place a ∷ fs) t = refl
rests-seven (asked ∷ fs) t = refl
rests-seven (argument f ∷ fs) t = refl
rests-seven (behind m a ∷ fs) t = refl

-- ---- the argument of `has` is met by no operator

pub free : (fs : List Frame) (r : ℕ) → Room fs r → r ≤ 6 → is_asked fs ≡ false
free [] r h k = refl
free (left o a ∷ fs) r h k = refl
free (prefix s ∷ fs) r h k = refl
free (asked ∷ fs) r h k = absurd (omega (arith, h, k))
free (test c ∷ fs) r h k = refl
free (either c a ∷ fs) r h k = refl
free (round ∷ fs) r h k = refl
free (square ts ∷ fs) r h k = refl
free (place a ∷ fs) r h k = refl
free (argument f ∷ fs) r h k = refl
free (behind m a ∷ fs) r h k = refl

-- what stays asked was asked
pub stays-free : (hs : List Frame) (r : ℕ) (t : Tree) (k : Held) → reduce r hs t ≡ k → is_asked k.frames ≡ false → is_asked hs ≡ false
stays-free (asked ∷ gs) r t k e f = ap (λ (h : Held). is_asked h.frames) e ∙ f
stays-free [] r t k e f = refl
stays-free (left o a ∷ fs) r t k e f = refl
stays-free (prefix s ∷ fs) r t k e f = refl
stays-free (test c ∷ fs) r t k e f = refl
stays-free (either c a ∷ fs) r t k e f = refl
stays-free (round ∷ fs) r t k e f = refl
stays-free (square ts ∷ fs) r t k e f = refl
stays-free (place a ∷ fs) r t k e f = refl
stays-free (argument f ∷ fs) r t k e x = refl
stays-free (behind m a ∷ fs) r t k e f = refl

pub let-through : (fs : List Frame) (o : Step) → is_asked fs ≡ false → unless_asked fs o ≡ o
let-through fs o e = rw e refl

operates : (o : Operator) (hs fs : List Frame) (t a : Tree) → reduce (rank_of o) hs t ≡ held fs a → is_asked fs ≡ false → operate o (held hs t) ≡ goes (want (left o a ∷ fs))
operates o hs fs t a e f = let-through hs _ (stays-free hs (rank_of o) t (held fs a) e f) ∙ ap (operand_left o) e

step-operator : (most : ℕ) (o : Operator) (h : Held) → step_have most h (operator_token o) ≡ operate o h
unfolding is_in
step-operator most op.Or h = refl
step-operator most op.And h = refl
step-operator most op.Less h = refl
step-operator most op.LessOrEqual h = refl
step-operator most op.Greater h = refl
step-operator most op.GreaterOrEqual h = refl
step-operator most op.Equal h = refl
step-operator most op.NotEqual h = refl
step-operator most op.In h = refl
step-operator most op.Plus h = refl
step-operator most op.Minus h = refl
step-operator most op.Times h = refl
step-operator most op.Divide h = refl
step-operator most op.Remainder h = refl

-- ---- behind these tokens the reader holds what amounts to the tree in these frames

pub record Leads (most : ℕ) (fs : List Frame) (t : Tree) (w : List Token) : Type 0 where
  pub now : Held
  pub runs : (rest : List Token) → run most (goes (want fs)) (w ++ rest) ≡ run most (goes (have now)) rest
  pub amounts : (r : ℕ) → r ≤ rank t → reduce r now.frames now.tree ≡ reduce r fs t

pub over-goes : (most : ℕ) (f : Frame) (fs : List Frame) → opens fs < most → over most f fs ≡ goes (want (f ∷ fs))
over-goes most f fs h = let e : nat_le (opens fs + 1) most ≡ true = grind (arith, h) in ap (λ (b : Bool). cond b (goes (want (f ∷ fs))) too_deep) e

on : (most : ℕ) (w : List Token) (s t : Step) → s ≡ t → run most s w ≡ run most t w
on most w s t e = ap (λ (x : Step). run most x w) e

leads-binary : (most : ℕ) (o : Operator) (a b : Tree) (fs : List Frame) (v w : List Token) → Room fs (rank_of o) → rank_of o ≤ rank a
    → Leads most fs a v → Leads most (left o a ∷ fs) b w → rank_of o < rank b → Leads most fs (binary o a b) (v ++ operator_token o ∷ w)
leads-binary most o a b fs v w room l x y k = let low : rank_of o ≤ 5 = rank-below o in record {
  now = y.now;
  runs = λ rest. rw (append_assoc v (operator_token o ∷ w) rest) (x.runs (operator_token o ∷ (w ++ rest)) ∙ on most (w ++ rest) _ _ (step-operator most o x.now ∙ operates o x.now.frames fs x.now.tree a (x.amounts (rank_of o) l ∙ room-op fs o a room) (free fs (rank_of o) room (omega (arith, low)))) ∙ y.runs rest);
  amounts = λ r h. (y.amounts r (omega (arith, h, k))) ∙ (rw (le-true r (rank_of o) h) refl);
}

sign-step : (most : ℕ) (s : Sign) (fs : List Frame) → opens fs < most → is_asked fs ≡ false → step most (want fs) (sign_token s) ≡ goes (want (prefix s ∷ fs))
sign-step most sign.Not fs below f = let-through fs _ f ∙ over-goes most (prefix sign.Not) fs below
sign-step most sign.Minus fs below f = let-through fs _ f ∙ over-goes most (prefix sign.Minus) fs below

leads-signed : (most : ℕ) (s : Sign) (a : Tree) (fs : List Frame) (w : List Token) → opens fs < most → Room fs 6 → 6 ≤ rank a → Leads most (prefix s ∷ fs) a w → Leads most fs (signed s a) (sign_token s ∷ w)
leads-signed most s a fs w below room l x = record {
  now = x.now;
  runs = λ rest. on most (w ++ rest) _ _ (sign-step most s fs below (free fs 6 room (omega arith))) ∙ x.runs rest;
  amounts = λ r h. (x.amounts r (omega (arith, h, l))) ∙ (rw (le-true r 6 h) refl);
}

leads-choice : (most : ℕ) (c a b : Tree) (fs : List Frame) (u v w : List Token) → opens fs < most → Room fs 0 → 1 ≤ rank c
    → Leads most fs c u → Leads most (test c ∷ fs) a v → Leads most (either c a ∷ fs) b w → Leads most fs (choice c a b) (u ++ question ∷ (v ++ colon ∷ w))
leads-choice most c a b fs u v w below room l x y z = record {
  now = z.now;
  runs = λ rest. rw (append_assoc u (question ∷ (v ++ colon ∷ w)) rest, append_assoc v (colon ∷ w) rest) (x.runs (question ∷ (v ++ colon ∷ (w ++ rest)))
      ∙ on most (v ++ colon ∷ (w ++ rest)) _ _ (asks ∙ over-goes most (test c) fs below)
      ∙ y.runs (colon ∷ (w ++ rest)) ∙ on most (w ++ rest) _ _ (ap other_branch_in (y.amounts 0 (omega arith))) ∙ z.runs rest);
  amounts = λ r h. let low : r ≤ 0 = h in z.amounts r (omega (arith, low)) ∙ (rw (le-true r 0 h) refl);
}
  where
    whole : reduce 1 x.now.frames x.now.tree ≡ held fs c
    whole = x.amounts 1 l ∙ rests fs 1 c (room-up fs 0 1 room (omega arith)) (omega arith) (λ e. absurd (omega (arith, e)))

    asks : unless_asked x.now.frames (tested most (reduce 1 x.now.frames x.now.tree)) ≡ over most (test c) fs
    asks = let-through x.now.frames _ (stays-free x.now.frames 1 x.now.tree (held fs c) whole (free fs 0 room (omega arith))) ∙ ap (tested most) whole

same-held : (most : ℕ) (a : Tree) (fs : List Frame) (w : List Token) → 7 ≤ rank a → (x : Leads most fs a w) → x.now ≡ held fs a
same-held most a fs w l x = sym (rests-seven x.now.frames x.now.tree) ∙ x.amounts 7 l ∙ rests-seven fs a

leads-member : (most : ℕ) (a : Tree) (n : List ℕ) (fs : List Frame) (w : List Token) → 7 ≤ rank a → Leads most fs a w → Leads most fs (member a n) (w ++ dot ∷ word n ∷ [])
leads-member most a n fs w l x = let same = same-held most a fs w l x in record {
  now = held fs (member a n);
  runs = λ rest. rw (append_assoc w (dot ∷ word n ∷ []) rest, x.runs (dot ∷ word n ∷ rest), same) refl;
  amounts = λ r h. refl;
}

leads-index : (most : ℕ) (a b : Tree) (fs : List Frame) (v w : List Token) → opens fs < most → 7 ≤ rank a → Leads most fs a v → Leads most (place a ∷ fs) b w
    → Leads most fs (index a b) (v ++ square_open ∷ (w ++ square_close ∷ []))
leads-index most a b fs v w below l x y = record {
  now = held fs (index a b);
  runs = λ rest. rw (append_assoc v (square_open ∷ (w ++ square_close ∷ [])) rest, append_assoc w (square_close ∷ []) rest) (x.runs (square_open ∷ (w ++ square_close ∷ rest))
      ∙ on most (w ++ square_close ∷ rest) _ _ (ap (λ (h : Held). over most (place h.tree) h.frames) (same-held most a fs v l x) ∙ over-goes most (place a) fs below)
      ∙ y.runs (square_close ∷ rest) ∙ on most rest _ _ (ap close_square_in (y.amounts 0 (omega arith))));
  amounts = λ r h. refl;
}

leads-group : (most : ℕ) (a : Tree) (fs : List Frame) (w : List Token) → opens fs < most → Leads most (round ∷ fs) a w → Leads most fs (group a) (round_open ∷ w ++ round_close ∷ [])
leads-group most a fs w below x = record {
  now = held fs (group a);
  runs = λ rest. rw (append_assoc w (round_close ∷ []) rest) (on most (w ++ round_close ∷ rest) _ _ (over-goes most round fs below) ∙ x.runs (round_close ∷ rest)
      ∙ on most rest _ _ (ap close_round_in (x.amounts 0 (omega arith))));
  amounts = λ r h. refl;
}

step-has : (most : ℕ) (fs : List Frame) → step most (want fs) (word (codes "has")) ≡ goes (enter fs asked)
unfolding atom_of callee_of
step-has most fs = refl

step-function : (most : ℕ) (f : Function) (fs : List Frame) → step most (want fs) (word (function_name f)) ≡ goes (enter fs (argument f))
unfolding atom_of callee_of
step-function most function.Size fs = refl
step-function most function.String fs = refl

begins-method : (most : ℕ) (m : Method) (a : Tree) (fs : List Frame) → begin_method most fs (member a (method_name m)) ≡ over most (behind m a) fs
unfolding method_of
begins-method most m.StartsWith a fs = refl
begins-method most m.EndsWith a fs = refl
begins-method most m.Contains a fs = refl

leads-has : (most : ℕ) (a : Tree) (n : List ℕ) (fs : List Frame) (w : List Token) → opens fs < most → 7 ≤ rank a → Leads most (asked ∷ fs) a w
    → Leads most fs (has a n) (word (codes "has") ∷ round_open ∷ (w ++ dot ∷ word n ∷ round_close ∷ []))
leads-has most a n fs w below l x = record {
  now = held fs (has a n);
  runs = λ rest. on most (round_open ∷ ((w ++ dot ∷ word n ∷ round_close ∷ []) ++ rest)) _ _ (step-has most fs) ∙ rw (append_assoc w (dot ∷ word n ∷ round_close ∷ []) rest)
      (on most (w ++ dot ∷ word n ∷ round_close ∷ rest) _ _ (over-goes most asked fs below) ∙ x.runs (dot ∷ word n ∷ round_close ∷ rest)
      ∙ ap (λ (h : Held). run most (goes (have h)) (dot ∷ word n ∷ round_close ∷ rest)) (same-held most a (asked ∷ fs) w l x));
  amounts = λ r h. refl;
}

leads-call : (most : ℕ) (f : Function) (a : Tree) (fs : List Frame) (w : List Token) → opens fs < most → Leads most (argument f ∷ fs) a w
    → Leads most fs (call f a) (word (function_name f) ∷ round_open ∷ (w ++ round_close ∷ []))
leads-call most f a fs w below x = record {
  now = held fs (call f a);
  runs = λ rest. on most (round_open ∷ ((w ++ round_close ∷ []) ++ rest)) _ _ (step-function most f fs) ∙ rw (append_assoc w (round_close ∷ []) rest)
      (on most (w ++ round_close ∷ rest) _ _ (over-goes most (argument f) fs below) ∙ x.runs (round_close ∷ rest) ∙ on most rest _ _ (ap close_round_in (x.amounts 0 (omega arith))));
  amounts = λ r h. refl;
}

leads-method : (most : ℕ) (m : Method) (a b : Tree) (fs : List Frame) (v w : List Token) → opens fs < most → 7 ≤ rank a → Leads most fs a v → Leads most (behind m a ∷ fs) b w
    → Leads most fs (method m a b) (v ++ dot ∷ word (method_name m) ∷ round_open ∷ (w ++ round_close ∷ []))
leads-method most m a b fs v w below l x y = record {
  now = held fs (method m a b);
  runs = λ rest. rw (append_assoc v (dot ∷ word (method_name m) ∷ round_open ∷ (w ++ round_close ∷ [])) rest, append_assoc w (round_close ∷ []) rest)
      (x.runs (dot ∷ word (method_name m) ∷ round_open ∷ (w ++ round_close ∷ rest))
      ∙ ap (λ (h : Held). run most (goes (have h)) (dot ∷ word (method_name m) ∷ round_open ∷ (w ++ round_close ∷ rest))) (same-held most a fs v l x)
      ∙ on most (w ++ round_close ∷ rest) _ _ (begins-method most m a fs ∙ over-goes most (behind m a) fs below)
      ∙ y.runs (round_close ∷ rest) ∙ on most rest _ _ (ap close_round_in (y.amounts 0 (omega arith))));
  amounts = λ r h. refl;
}

-- ---- lists

pub record LeadsMore (most : ℕ) (fs : List Frame) (ts : Trees) (t : Tree) (w : List Token) : Type 0 where
  pub now : Held
  pub runs : (rest : List Token) → run most (goes (want (square none ∷ fs))) (w ++ rest) ≡ run most (goes (have now)) rest
  pub amounts : reduce 0 now.frames now.tree ≡ held (square ts ∷ fs) t

abbrev pub LeadsAll : ℕ → List Frame → Trees → List Token → Type 0
LeadsAll most fs none w = w ≡ []
LeadsAll most fs (more ts t) w = LeadsMore most fs ts t w

leads-first : (most : ℕ) (t : Tree) (fs : List Frame) (w : List Token) → Leads most (square none ∷ fs) t w → LeadsMore most fs none t w
leads-first most t fs w x = record { now = x.now; runs = x.runs; amounts = x.amounts 0 (omega arith) }

leads-more : (most : ℕ) (ts : Trees) (s t : Tree) (fs : List Frame) (v w : List Token) → LeadsMore most fs ts s v → Leads most (square (more ts s) ∷ fs) t w
    → LeadsMore most fs (more ts s) t (v ++ (comma ∷ w))
leads-more most ts s t fs v w x y = record {
  now = y.now;
  runs = λ rest. rw (append_assoc v (comma ∷ w) rest) (x.runs (comma ∷ (w ++ rest)) ∙ on most (w ++ rest) _ _ (ap next_item_in x.amounts) ∙ y.runs rest);
  amounts = y.amounts 0 (omega arith);
}

leads-list : (most : ℕ) (ts : Trees) (fs : List Frame) (w : List Token) → opens fs < most → LeadsAll most fs ts w → Leads most fs (list ts) (square_open ∷ w ++ square_close ∷ [])
leads-list most none fs w below x = record {
  now = held fs (list none);
  runs = λ rest. rw x (on most (square_close ∷ rest) _ _ (over-goes most (square none) fs below));
  amounts = λ r h. refl;
}
leads-list most (more ts t) fs w below x = record {
  now = held fs (list (more ts t));
  runs = λ rest. rw (append_assoc w (square_close ∷ []) rest) (on most (w ++ square_close ∷ rest) _ _ (over-goes most (square none) fs below) ∙ x.runs (square_close ∷ rest)
      ∙ on most rest _ _ (ap close_square_in x.amounts));
  amounts = λ r h. refl;
}

-- ---- all trees

abbrev plain : (most : ℕ) (fs : List Frame) (t : Tree) (w : List Token) → ((rest : List Token) → run most (goes (want fs)) (w ++ rest) ≡ run most (goes (have (held fs t))) rest) → Leads most fs t w
plain most fs t w h = record { now = held fs t; runs = h; amounts = λ r k. refl }

leads-null : (most : ℕ) (fs : List Frame) → Leads most fs null (spell null)
unfolding atom_of
leads-null most fs = plain most fs null (spell null) (λ rest. refl)

leads-boolean : (most : ℕ) (b : Bool) (fs : List Frame) → Leads most fs (boolean b) (spell (boolean b))
unfolding atom_of
leads-boolean most true fs = plain most fs (boolean true) (spell (boolean true)) (λ rest. refl)
leads-boolean most false fs = plain most fs (boolean false) (spell (boolean false)) (λ rest. refl)

leads-source : (most : ℕ) (s : Source) (fs : List Frame) → Leads most fs (source s) (spell (source s))
unfolding atom_of
leads-source most Event fs = plain most fs (source Event) (spell (source Event)) (λ rest. refl)
leads-source most Async fs = plain most fs (source Async) (spell (source Async)) (λ rest. refl)

mutual
  pub leads : (most : ℕ) (t : Tree) (fs : List Frame) → Fits t → Lies most (opens fs) t → Room fs (rank t) → Leads most fs t (spell t)
  leads most null fs f d room = leads-null most fs
  leads most (boolean b) fs f d room = leads-boolean most b fs
  leads most (number z) fs f d room = plain most fs (number z) (token.number z ∷ []) (λ rest. refl)
  leads most (text s) fs f d room = plain most fs (text s) (quoted s ∷ []) (λ rest. refl)
  leads most (source s) fs f d room = leads-source most s fs
  leads most (group t) fs f d room = leads-group most t fs (spell t) d.0 (leads most t (round ∷ fs) f d.1 tt)
  leads most (list ts) fs f d room = leads-list most ts fs (spell_all ts) d.0 (leads-all most ts fs f d.1)
  leads most (member a n) fs f d room = leads-member most a n fs (spell a) f.1 (leads most a fs f.0 d (room-up fs 7 (rank a) room f.1))
  leads most (index a b) fs f d room = leads-index most a b fs (spell a) (spell b) d.1 f.1 (leads most a fs f.0 d.0 (room-up fs 7 (rank a) room f.1)) (leads most b (place a ∷ fs) f.2 d.2 tt)
  leads most (has a n) fs f d room = leads-has most a n fs (spell a) d.0 f.1 (leads most a (asked ∷ fs) f.0 d.1 f.1)
  leads most (call x a) fs f d room = leads-call most x a fs (spell a) d.0 (leads most a (argument x ∷ fs) f d.1 tt)
  leads most (method m a b) fs f d room = leads-method most m a b fs (spell a) (spell b) d.1 f.1 (leads most a fs f.0 d.0 (room-up fs 7 (rank a) room f.1)) (leads most b (behind m a ∷ fs) f.2 d.2 tt)
  leads most (signed s a) fs f d room = leads-signed most s a fs (spell a) d.0 room f.1 (leads most a (prefix s ∷ fs) f.0 d.1 f.1)
  leads most (binary o a b) fs f d room = leads-binary most o a b fs (spell a) (spell b) room f.2 (leads most a fs f.0 d.0 (room-up fs (rank_of o) (rank a) room f.2)) (leads most b (left o a ∷ fs) f.1 d.1 f.3) f.3
  leads most (choice c a b) fs f d room = leads-choice most c a b fs (spell c) (spell a) (spell b) d.1 room f.3 (leads most c fs f.0 d.0 (room-up fs 0 (rank c) room (omega arith))) (leads most a (test c ∷ fs) f.1 d.2 tt) (leads most b (either c a ∷ fs) f.2 d.3 tt)

  pub leads-all : (most : ℕ) (ts : Trees) (fs : List Frame) → FitAll ts → LieAll most (suc (opens fs)) ts → LeadsAll most fs ts (spell_all ts)
  leads-all most none fs f d = refl
  leads-all most (more none t) fs f d = leads-first most t fs (spell t) (leads most t (square none ∷ fs) f.1 d.1 tt)
  leads-all most (more (more ts s) t) fs f d = leads-more most ts s t fs (spell_all (more ts s)) (spell t) (leads-all most (more ts s) fs f.0 d.0) (leads most t (square (more ts s) ∷ fs) f.1 d.1 tt)

pub spelled-is-read : (most : ℕ) (w : List Token) (t : Tree) → IsTree most w t → read_tokens most w ≡ Some t
unfolding read_tokens
spelled-is-read most w t e = let x = leads most t [] e.fits e.lies tt in
    subst (λ (v : List Token). finish (run most (goes (want [])) v) ≡ Some t) (append-nil (spell t) ∙ e.spelled) (ap finish (x.runs []) ∙ ap only (x.amounts 0 (omega arith)))
