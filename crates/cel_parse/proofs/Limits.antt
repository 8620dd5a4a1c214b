-- A higher bound takes no less, refuses the same, and lets through what was too deep.
use Rattle.std.proofs.Common.{◌≡◌, ℕ, suc, zero, ◌+◌, ◌≤◌, ◌<◌, Bool, true, false, cond, nat_le, List, [], ◌∷◌, ◌++◌, refl, sym, ◌∙◌, ap, arith, Option, Some, None, ◌⊎◌, inl, inr}
use Rattle.std.specs.Prelude.{⊤}
use Rattle.expr.specs.declared.term.Operator.{Operator}
use Rattle.expr.specs.declared.term.Operator.TheVariants as op
use Rattle.expr.specs.declared.term.Sign.TheVariants as sign
use Rattle.expr.specs.declared.term.Method.{Method}
use Rattle.expr.specs.Tokens.{Token, word, operator, exclaim, round_open, round_close, square_open, square_close, comma, question, colon, dot}
use Rattle.expr.specs.Tokens as token
use Rattle.expr.specs.Tree.{Tree, member, Trees, none}
use Rattle.expr.specs.Reading.{atom_of, callee_of, method_of, is_in, Frame, left, prefix, test, either, round, square, place, asked, argument, behind, Held, held, State, want, enter, have, behind_dot, reduce, opens, Step, goes, refused, too_deep, over, is_asked, unless_asked, atom_or_callee, close_empty, minus_sign, step_want, step_enter, asked_of, close_round, close_square, next_item, other_branch, operand_left, tested, operate, begin_method, method_or_none, step_have, step_dot, step, run, end_in, finish}

-- a step opens a frame, or the bound plays no part and nothing is too deep
abbrev Opens : (ℕ → Step) → Type 0
Opens o = (f : Frame) × (fs : List Frame) × ((m : ℕ) → o m ≡ over m f fs)

abbrev Sure : Step → Type 0
Sure too_deep = ⊥
Sure _ = ⊤

abbrev Fixed : (ℕ → Step) → Type 0
Fixed o = (s : Step) × Sure s × ((m : ℕ) → o m ≡ s)

abbrev Way : (ℕ → Step) → Type 0
Way o = Opens o ⊎ Fixed o

sure-atom : (fs : List Frame) (t : Option Tree) (f : Option Frame) → Sure (atom_or_callee fs t f)
sure-atom fs (Some t) f = tt
sure-atom fs None (Some f) = tt
sure-atom fs None None = tt

sure-empty : (fs : List Frame) → Sure (close_empty fs)
sure-empty (square none ∷ fs) = tt
sure-empty _ = tt

sure-asked : (fs : List Frame) (t : Tree) → Sure (asked_of fs t)
sure-asked fs (member a f) = tt
sure-asked fs _ = tt

sure-round : (fs : List Frame) (t : Tree) → Sure (close_round fs t)
sure-round (asked ∷ fs) t = sure-asked fs t
sure-round _ t = tt

sure-square : (fs : List Frame) (t : Tree) → Sure (close_square fs t)
sure-square (square ts ∷ fs) t = tt
sure-square (place a ∷ fs) t = tt
sure-square _ t = tt

sure-item : (fs : List Frame) (t : Tree) → Sure (next_item fs t)
sure-item (square ts ∷ fs) t = tt
sure-item _ t = tt

sure-branch : (fs : List Frame) (t : Tree) → Sure (other_branch fs t)
sure-branch (test c ∷ fs) t = tt
sure-branch _ t = tt

sure-operate : (b : Bool) (s : State) → Sure (cond b refused (goes s))
sure-operate true s = tt
sure-operate false s = tt

sure-in : (a b : Bool) (s : State) → Sure (cond a (cond b refused (goes s)) refused)
sure-in true b s = sure-operate b s
sure-in false b s = tt

unless-way : (b : Bool) (f : Frame) (fs : List Frame) → Way (λ m. cond b refused (over m f fs))
unless-way true f fs = inr (refused, tt, λ m. refl)
unless-way false f fs = inl (f, fs, λ m. refl)

fixed : (s : Step) → Sure s → Way (λ m. s)
fixed s h = inr (s, h, λ m. refl)

minus-way : (fs : List Frame) (o : Operator) → Way (λ m. minus_sign m fs o)
minus-way fs op.Minus = unless-way (is_asked fs) (prefix sign.Minus) fs
minus-way fs _ = fixed refused tt

method-way : (fs : List Frame) (a : Tree) (o : Option Method) → Way (λ m. method_or_none m fs a o)
method-way fs a (Some k) = inl (behind k a, fs, λ m. refl)
method-way fs a None = fixed refused tt

begin-way : (fs : List Frame) (t : Tree) → Way (λ m. begin_method m fs t)
begin-way fs (member a n) = method-way fs a (method_of n)
begin-way fs _ = fixed refused tt

want-way : (fs : List Frame) (x : Token) → Way (λ m. step_want m fs x)
want-way fs (word w) = fixed (atom_or_callee fs (atom_of w) (callee_of w)) (sure-atom fs (atom_of w) (callee_of w))
want-way fs (operator o) = minus-way fs o
want-way fs exclaim = unless-way (is_asked fs) (prefix sign.Not) fs
want-way fs round_open = inl (round, fs, λ m. refl)
want-way fs square_open = inl (square none, fs, λ m. refl)
want-way fs square_close = fixed (close_empty fs) (sure-empty fs)
want-way fs (token.number z) = fixed _ tt
want-way fs (token.quoted s) = fixed _ tt
want-way fs _ = fixed refused tt

enter-way : (fs : List Frame) (f : Frame) (x : Token) → Way (λ m. step_enter m fs f x)
enter-way fs f round_open = inl (f, fs, λ m. refl)
enter-way fs f _ = fixed refused tt

have-way : (h : Held) (x : Token) → Way (λ m. step_have m h x)
have-way h (operator o) = fixed (operate o h) (sure-operate (is_asked h.frames) _)
have-way h (word w) = fixed (step_have 0 h (word w)) (sure-in (is_in w) (is_asked h.frames) _)
have-way h round_open = begin-way h.frames h.tree
have-way h round_close = fixed (step_have 0 h round_close) (sure-round (reduce 0 h.frames h.tree).frames (reduce 0 h.frames h.tree).tree)
have-way h square_open = inl (place h.tree, h.frames, λ m. refl)
have-way h square_close = fixed (step_have 0 h square_close) (sure-square (reduce 0 h.frames h.tree).frames (reduce 0 h.frames h.tree).tree)
have-way h dot = fixed _ tt
have-way h comma = fixed (step_have 0 h comma) (sure-item (reduce 0 h.frames h.tree).frames (reduce 0 h.frames h.tree).tree)
have-way h question = unless-way (is_asked h.frames) (test (reduce 1 h.frames h.tree).tree) (reduce 1 h.frames h.tree).frames
have-way h colon = fixed (step_have 0 h colon) (sure-branch (reduce 0 h.frames h.tree).frames (reduce 0 h.frames h.tree).tree)
have-way h _ = fixed refused tt

sure-dot : (h : Held) (x : Token) → Sure (step_dot h x)
sure-dot h (word w) = tt
sure-dot h _ = tt

way : (s : State) (x : Token) → Way (λ m. step m s x)
way (want fs) x = want-way fs x
way (enter fs f) x = enter-way fs f x
way (have h) x = have-way h x
way (behind_dot h) x = fixed (step_dot h x) (sure-dot h x)

-- ---- one step under two bounds

over-cond : (a b : Bool) (t s : State) → (a ≡ true → b ≡ true) → cond a (goes t) too_deep ≡ goes s → cond b (goes t) too_deep ≡ goes s
over-cond true b t s h e = ap (λ (c : Bool). cond c (goes t) too_deep) (h refl) ∙ e
over-cond false b t s h e = absurd (cc)

over-up : (m n : ℕ) (f : Frame) (fs : List Frame) (s : State) → m ≤ n → over m f fs ≡ goes s → over n f fs ≡ goes s
over-up m n f fs s l e = over-cond (nat_le (opens fs + 1) m) (nat_le (opens fs + 1) n) (want (f ∷ fs)) s (λ a. grind (arith, a, l)) e

way-up : (o : ℕ → Step) → Way o → (m n : ℕ) (s : State) → m ≤ n → o m ≡ goes s → o n ≡ goes s
way-up o (inl w) m n s l e = w.2 n ∙ over-up m n w.0 w.1 s l (sym (w.2 m) ∙ e)
way-up o (inr w) m n s l e = w.2 n ∙ sym (w.2 m) ∙ e

pub step-up : (m n : ℕ) (q : State) (x : Token) (s : State) → m ≤ n → step m q x ≡ goes s → step n q x ≡ goes s
step-up m n q x s l e = way-up (λ i. step i q x) (way q x) m n s l e

over-not : (b : Bool) (t : State) → cond b (goes t) too_deep ≡ refused → ⊥
over-not true t e = cc
over-not false t e = cc

way-refused : (o : ℕ → Step) → Way o → (m n : ℕ) → o m ≡ refused → o n ≡ refused
way-refused o (inl w) m n e = absurd (over-not (nat_le (opens w.1 + 1) m) (want (w.0 ∷ w.1)) (sym (w.2 m) ∙ e))
way-refused o (inr w) m n e = w.2 n ∙ sym (w.2 m) ∙ e

pub step-refused : (m n : ℕ) (q : State) (x : Token) → step m q x ≡ refused → step n q x ≡ refused
step-refused m n q x e = way-refused (λ i. step i q x) (way q x) m n e

over-opens : (f : Frame) (fs : List Frame) → over (opens fs + 1) f fs ≡ goes (want (f ∷ fs))
over-opens f fs = let e : nat_le (opens fs + 1) (opens fs + 1) ≡ true = grind arith in ap (λ (b : Bool). cond b (goes (want (f ∷ fs))) too_deep) e

not-deep : (s : Step) → Sure s → s ≡ too_deep → ⊥
not-deep too_deep h e = h
not-deep (goes s) h e = cc
not-deep refused h e = cc

way-deep : (o : ℕ → Step) → Way o → (m : ℕ) → o m ≡ too_deep → (n : ℕ) × (s : State) × (o n ≡ goes s)
way-deep o (inl w) m e = (opens w.1 + 1, want (w.0 ∷ w.1), w.2 (opens w.1 + 1) ∙ over-opens w.0 w.1)
way-deep o (inr w) m e = absurd (not-deep w.0 w.1 (sym (w.2 m) ∙ e))

-- some bound lets through what is too deep for this one
pub step-deep : (m : ℕ) (q : State) (x : Token) → step m q x ≡ too_deep → (n : ℕ) × (s : State) × (step n q x ≡ goes s)
step-deep m q x e = way-deep (λ i. step i q x) (way q x) m e

-- ---- all tokens

pub run-refused : (most : ℕ) (w : List Token) → run most refused w ≡ refused
run-refused most [] = refl
run-refused most (x ∷ xs) = refl

pub run-deep : (most : ℕ) (w : List Token) → run most too_deep w ≡ too_deep
run-deep most [] = refl
run-deep most (x ∷ xs) = refl

pub run-append : (most : ℕ) (v w : List Token) (o : Step) → run most o (v ++ w) ≡ run most (run most o v) w
run-append most [] w o = refl
run-append most (x ∷ xs) w refused = sym (run-refused most w)
run-append most (x ∷ xs) w too_deep = sym (run-deep most w)
run-append most (x ∷ xs) w (goes s) = run-append most xs w (step most s x)

up-step : (m n : ℕ) (xs : List Token) (o p : Step) (s : State) → ((q : State) → o ≡ goes q → p ≡ goes q) → ((q : State) → run m (goes q) xs ≡ goes s → run n (goes q) xs ≡ goes s) → run m o xs ≡ goes s → run n p xs ≡ goes s
up-step m n xs refused p s h u e = let no : refused ≡ goes s = sym (run-refused m xs) ∙ e in absurd (cc)
up-step m n xs too_deep p s h u e = let no : too_deep ≡ goes s = sym (run-deep m xs) ∙ e in absurd (cc)
up-step m n xs (goes q) p s h u e = ap (λ (r : Step). run n r xs) (h q refl) ∙ u q e

pub run-up : (xs : List Token) (q : State) (m n : ℕ) (s : State) → m ≤ n → run m (goes q) xs ≡ goes s → run n (goes q) xs ≡ goes s
run-up [] q m n s l e = e
run-up (x ∷ xs) q m n s l e = up-step m n xs (step m q x) (step n q x) s (λ t k. step-up m n q x t l k) (λ r k. run-up xs r m n s l k) e

pub finish-goes : (o : Step) (t : Tree) → finish o ≡ Some t → (s : State) × (o ≡ goes s) × (end_in s ≡ Some t)
finish-goes (goes s) t e = (s, refl, e)
finish-goes refused t e = absurd (cc)
finish-goes too_deep t e = absurd (cc)

pub finish-up : (m n : ℕ) (xs : List Token) (q : State) (t : Tree) → m ≤ n → finish (run m (goes q) xs) ≡ Some t → finish (run n (goes q) xs) ≡ Some t
finish-up m n xs q t l e = let x = finish-goes (run m (goes q) xs) t e in ap finish (run-up xs q m n x.0 l x.1) ∙ x.2
