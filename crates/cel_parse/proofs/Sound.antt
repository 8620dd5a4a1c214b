-- What is read is spelled: the frames and the tree show the tokens so far.
use Rattle.std.proofs.Common.{◌≡◌, ℕ, suc, zero, ◌+◌, ◌≤◌, ◌<◌, Bool, true, false, cond, nat_le, codes, bytes_eq, List, [], ◌∷◌, ◌++◌, refl, sym, ◌∙◌, ap, subst, append_assoc, append-nil, arith, Option, Some, None}
use Rattle.std.specs.Prelude.{⊤}
use Rattle.lists.proofs.Texts.{bytes_same}
use Rattle.expr.specs.declared.term.Source.TheVariants.{Event, Async}
use Rattle.expr.specs.declared.term.Sign.{Sign}
use Rattle.expr.specs.declared.term.Sign.TheVariants as sign
use Rattle.expr.specs.declared.term.Operator.{Operator}
use Rattle.expr.specs.declared.term.Operator.TheVariants as op
use Rattle.expr.specs.declared.term.Function.{Function}
use Rattle.expr.specs.declared.term.Function.TheVariants as function
use Rattle.expr.specs.declared.term.Method.{Method}
use Rattle.expr.specs.declared.term.Method.TheVariants as m
use Rattle.expr.specs.Tokens.{Token, word, quoted, operator, exclaim, round_open, round_close, square_open, square_close, dot, comma, question, colon, tokens_of}
use Rattle.expr.specs.Tokens as token
use Rattle.expr.specs.Tree.{Tree, null, boolean, number, text, source, group, list, member, index, has, call, method, signed, binary, choice, Trees, none, more}
use Rattle.expr.specs.Reading.{atom_of, callee_of, method_of, is_in, rank_of, Frame, left, prefix, test, either, round, square, place, asked, argument, behind, Held, held, State, want, enter, have, behind_dot, reduce, opens, Step, goes, refused, too_deep, over, is_asked, unless_asked, atom_or_callee, close_empty, minus_sign, step_want, step_enter, asked_of, close_round, close_square, next_item, other_branch, operand_left, tested, operate, begin_method, method_or_none, step_have, step_dot, step, run, only_in, only, end_in, finish, read_tokens}
use Rattle.cel_parse.specs.Grammar.{source_name, function_name, method_name, sign_token, operator_token, comma_behind, spell, spell_all, rank, Fits, FitAll, Lies, LieAll, IsTree}
use Rattle.cel_parse.proofs.Whole.{Room, room-up, rank-below, rank-above, free}

abbrev pub before : Frame → List Token
before (left o a) = spell a ++ operator_token o ∷ []
before (prefix s) = sign_token s ∷ []
before (test c) = spell c ++ question ∷ []
before (either c a) = spell c ++ question ∷ (spell a ++ colon ∷ [])
before round = round_open ∷ []
before (square ts) = square_open ∷ (spell_all ts ++ comma_behind ts)
before (place a) = spell a ++ square_open ∷ []
before asked = word (codes "has") ∷ round_open ∷ []
before (argument f) = word (function_name f) ∷ round_open ∷ []
before (behind m a) = spell a ++ dot ∷ word (method_name m) ∷ round_open ∷ []

abbrev pub below : List Frame → List Token
below [] = []
below (f ∷ fs) = below fs ++ before f

-- the name of a function, whose bracket is to come
abbrev pub entered : Frame → List Token
entered asked = word (codes "has") ∷ []
entered (argument f) = word (function_name f) ∷ []
entered _ = []

abbrev pub shown : State → List Token
shown (want fs) = below fs
shown (enter fs f) = below fs ++ entered f
shown (have h) = below h.frames ++ spell h.tree
shown (behind_dot h) = below h.frames ++ (spell h.tree ++ dot ∷ [])

abbrev pub Stands : ℕ → List Frame → Type 0
Stands most [] = ⊤
Stands most (left o a ∷ fs) = Fits a × (rank_of o ≤ rank a) × Room fs (rank_of o) × Stands most fs × Lies most (opens fs) a
Stands most (prefix s ∷ fs) = (opens fs < most) × Stands most fs × Room fs 6
Stands most (test c ∷ fs) = (opens fs < most) × Stands most fs × Room fs 0 × Fits c × (1 ≤ rank c) × Lies most (opens fs) c
Stands most (either c a ∷ fs) = (opens fs < most) × Stands most fs × Room fs 0 × Fits c × (1 ≤ rank c) × Lies most (opens fs) c × Fits a × Lies most (suc (opens fs)) a
Stands most (round ∷ fs) = (opens fs < most) × Stands most fs
Stands most (square ts ∷ fs) = (opens fs < most) × Stands most fs × FitAll ts × LieAll most (suc (opens fs)) ts
Stands most (place a ∷ fs) = (opens fs < most) × Stands most fs × Fits a × (7 ≤ rank a) × Lies most (opens fs) a
Stands most (asked ∷ fs) = (opens fs < most) × Stands most fs
Stands most (argument f ∷ fs) = (opens fs < most) × Stands most fs
Stands most (behind m a ∷ fs) = (opens fs < most) × Stands most fs × Fits a × (7 ≤ rank a) × Lies most (opens fs) a

room-seven : (fs : List Frame) → Room fs 7
room-seven [] = tt
room-seven (left o a ∷ fs) = let k : rank_of o ≤ 5 = rank-below o in omega (arith, k)
room-seven (prefix s ∷ fs) = omega arith
room-seven (asked ∷ fs) = omega arith
room-seven (test c ∷ fs) = tt
room-seven (either c a ∷ fs) = tt
room-seven (round ∷ fs) = tt
room-seven (square ts ∷ fs) = tt
room-seven (place a ∷ fs) = tt
room-seven (argument f ∷ fs) = tt
room-seven (behind m a ∷ fs) = tt

room-six : (fs : List Frame) → is_asked fs ≡ false → Room fs 6
room-six [] k = tt
room-six (left o a ∷ fs) k = let l : rank_of o ≤ 5 = rank-below o in omega (arith, l)
room-six (prefix s ∷ fs) k = omega arith
room-six (asked ∷ fs) k = absurd (cc)
room-six (test c ∷ fs) k = tt
room-six (either c a ∷ fs) k = tt
room-six (round ∷ fs) k = tt
room-six (square ts ∷ fs) k = tt
room-six (place a ∷ fs) k = tt
room-six (argument f ∷ fs) k = tt
room-six (behind m a ∷ fs) k = tt

room-zero : (fs : List Frame) → Room fs 1 → Room fs 0
room-zero [] k = tt
room-zero (left o a ∷ fs) k = let l : 1 ≤ rank_of o = rank-above o in absurd (omega (arith, l, k))
room-zero (prefix s ∷ fs) k = absurd (omega (arith, k))
room-zero (asked ∷ fs) k = absurd (omega (arith, k))
room-zero (test c ∷ fs) k = tt
room-zero (either c a ∷ fs) k = tt
room-zero (round ∷ fs) k = tt
room-zero (square ts ∷ fs) k = tt
room-zero (place a ∷ fs) k = tt
room-zero (argument f ∷ fs) k = tt
room-zero (behind m a ∷ fs) k = tt

-- a tree of a rank of at least `r` in its frames, which spell these tokens
pub record Put (most r : ℕ) (w : List Token) (h : Held) : Type 0 where
  pub spelled : below h.frames ++ spell h.tree ≡ w
  pub fits : Fits h.tree
  pub stands : Stands most h.frames
  pub lies : Lies most (opens h.frames) h.tree
  pub room : is_asked h.frames ≡ false → Room h.frames r
  pub high : r ≤ rank h.tree

put-cond : (most r : ℕ) (w : List Token) (b : Bool) (h k : Held) → (b ≡ true → Put most r w h) → (b ≡ false → Put most r w k) → Put most r w (cond b h k)
put-cond most r w true h k x y = x refl
put-cond most r w false h k x y = y refl

two-parts : (x a b t : List Token) (c : Token) → (x ++ (a ++ c ∷ b)) ++ t ≡ x ++ (a ++ c ∷ (b ++ t))
two-parts x a b t c = append_assoc x (a ++ c ∷ b) t ∙ ap (λ (v : List Token). x ++ v) (append_assoc a (c ∷ b) t)

three-parts : (x a b t : List Token) (c d : Token) → (x ++ (a ++ c ∷ (b ++ d ∷ []))) ++ t ≡ x ++ (a ++ c ∷ (b ++ d ∷ t))
three-parts x a b t c d = two-parts x a (b ++ d ∷ []) t c ∙ ap (λ (v : List Token). x ++ (a ++ c ∷ v)) (append_assoc b (d ∷ []) t)

reduce-puts : (most r : ℕ) (fs : List Frame) (t : Tree) (w : List Token) → below fs ++ spell t ≡ w → Fits t → Stands most fs → Lies most (opens fs) t → Room fs (rank t) → r ≤ rank t → Put most r w (reduce r fs t)
reduce-puts most r [] t w e f s d m l = record { spelled = e; fits = f; stands = s; lies = d; room = λ k. tt; high = l }
reduce-puts most r (left o a ∷ fs) t w e f s d m l = put-cond most r w (nat_le r (rank_of o)) _ _
    (λ y. reduce-puts most r fs (binary o a t) w (sym (two-parts (below fs) (spell a) [] (spell t) (operator_token o)) ∙ e) (s.0, f, s.1, m) s.3 (s.4, d) s.2 (grind (arith, y)))
    (λ y. record { spelled = e; fits = f; stands = s; lies = d; room = λ k. grind (arith, y); high = l })
reduce-puts most r (prefix x ∷ fs) t w e f s d m l = put-cond most r w (nat_le r 6) _ _
    (λ y. reduce-puts most r fs (signed x t) w (sym (append_assoc (below fs) (sign_token x ∷ []) (spell t)) ∙ e) (f, m) s.1 (s.0, d) s.2 (grind (arith, y)))
    (λ y. record { spelled = e; fits = f; stands = s; lies = d; room = λ k. grind (arith, y); high = l })
reduce-puts most r (either c a ∷ fs) t w e f s d m l = put-cond most r w (nat_le r 0) _ _
    (λ y. reduce-puts most r fs (choice c a t) w (sym (three-parts (below fs) (spell c) (spell a) (spell t) question colon) ∙ e) (s.3, s.6, f, s.4) s.1 (s.5, s.0, s.7, d) s.2 (grind (arith, y)))
    (λ y. record { spelled = e; fits = f; stands = s; lies = d; room = λ k. tt; high = l })
reduce-puts most r (test c ∷ fs) t w e f s d m l = record { spelled = e; fits = f; stands = s; lies = d; room = λ k. tt; high = l }
reduce-puts most r (round ∷ fs) t w e f s d m l = record { spelled = e; fits = f; stands = s; lies = d; room = λ k. tt; high = l }
reduce-puts most r (square ts ∷ fs) t w e f s d m l = record { spelled = e; fits = f; stands = s; lies = d; room = λ k. tt; high = l }
reduce-puts most r (place a ∷ fs) t w e f s d m l = record { spelled = e; fits = f; stands = s; lies = d; room = λ k. tt; high = l }
reduce-puts most r (asked ∷ fs) t w e f s d m l = record { spelled = e; fits = f; stands = s; lies = d; room = λ k. absurd (cc); high = l }
reduce-puts most r (argument x ∷ fs) t w e f s d m l = record { spelled = e; fits = f; stands = s; lies = d; room = λ k. tt; high = l }
reduce-puts most r (behind x a ∷ fs) t w e f s d m l = record { spelled = e; fits = f; stands = s; lies = d; room = λ k. tt; high = l }

pub free-cond : (b : Bool) (h k : Held) → is_asked h.frames ≡ false → is_asked k.frames ≡ false → is_asked (cond b h k).frames ≡ false
free-cond true h k x y = x
free-cond false h k x y = y

-- no operator stands in the argument of `has`, so none is met below one
reduced-free : (most r : ℕ) (fs : List Frame) (t : Tree) → Stands most fs → is_asked fs ≡ false → is_asked (reduce r fs t).frames ≡ false
reduced-free most r [] t s k = refl
reduced-free most r (left o a ∷ fs) t s k = let low : rank_of o ≤ 5 = rank-below o in free-cond (nat_le r (rank_of o)) _ _ (reduced-free most r fs (binary o a t) s.3 (free fs (rank_of o) s.2 (omega (arith, low)))) refl
reduced-free most r (prefix x ∷ fs) t s k = free-cond (nat_le r 6) _ _ (reduced-free most r fs (signed x t) s.1 (free fs 6 s.2 (omega arith))) refl
reduced-free most r (either c a ∷ fs) t s k = free-cond (nat_le r 0) _ _ (reduced-free most r fs (choice c a t) s.1 (free fs 0 s.2 (omega arith))) refl
reduced-free most r (test c ∷ fs) t s k = refl
reduced-free most r (round ∷ fs) t s k = refl
reduced-free most r (square ts ∷ fs) t s k = refl
reduced-free most r (place a ∷ fs) t s k = refl
reduced-free most r (asked ∷ fs) t s k = absurd (cc)
reduced-free most r (argument x ∷ fs) t s k = refl
reduced-free most r (behind x a ∷ fs) t s k = refl

abbrev pub GoodHeld : ℕ → Held → Type 0
GoodHeld most h = Stands most h.frames × Fits h.tree × (7 ≤ rank h.tree) × Lies most (opens h.frames) h.tree

abbrev pub Enters : ℕ → List Frame → Frame → Type 0
Enters most fs asked = Stands most fs
Enters most fs (argument f) = Stands most fs
Enters most fs _ = ⊥

abbrev pub Good : ℕ → State → Type 0
Good most (want fs) = Stands most fs
Good most (enter fs f) = Enters most fs f
Good most (have h) = GoodHeld most h
Good most (behind_dot h) = GoodHeld most h

good-put : (most r : ℕ) (h : Held) → r ≤ 7 → GoodHeld most h → Put most r (shown (have h)) (reduce r h.frames h.tree)
good-put most r h l g = reduce-puts most r h.frames h.tree (shown (have h)) refl g.1 g.0 g.3 (room-up h.frames 7 (rank h.tree) (room-seven h.frames) g.2) (let k = g.2 in omega (arith, l, k))

abbrev pub Keeps : ℕ → List Token → Step → Type 0
Keeps most w (goes s) = Good most s × (shown s ≡ w)
Keeps most w refused = ⊤
Keeps most w too_deep = ⊤

keeps-cond : (most : ℕ) (w : List Token) (b : Bool) (s : State) → (b ≡ true → Keeps most w (goes s)) → Keeps most w (cond b (goes s) too_deep)
keeps-cond most w true s h = h refl
keeps-cond most w false s h = tt

over-keeps : (most : ℕ) (f : Frame) (fs : List Frame) (w : List Token) → (opens fs < most → Stands most (f ∷ fs)) → below (f ∷ fs) ≡ w → Keeps most w (over most f fs)
over-keeps most f fs w h e = keeps-cond most w (nat_le (opens fs + 1) most) (want (f ∷ fs)) (λ y. (h (grind (arith, y)), e))

unless-keeps : (most : ℕ) (w : List Token) (b : Bool) (o : Step) → (b ≡ false → Keeps most w o) → Keeps most w (cond b refused o)
unless-keeps most w true o h = tt
unless-keeps most w false o h = h refl

-- the tokens with one more
onward : (x b t w : List Token) (c : Token) → (x ++ b) ++ t ≡ w → x ++ (b ++ (t ++ c ∷ [])) ≡ w ++ c ∷ []
onward x b t w c e = ap (λ (v : List Token). x ++ v) (sym (append_assoc b t (c ∷ []))) ∙ sym (append_assoc x (b ++ t) (c ∷ [])) ∙ ap (λ (v : List Token). v ++ c ∷ []) (sym (append_assoc x b t) ∙ e)

-- ---- words

record IsAtom (w : List ℕ) (t : Tree) : Type 0 where
  fits : Fits t
  high : 7 ≤ rank t
  lies : (most n : ℕ) → Lies most n t
  spelled : spell t ≡ word w ∷ []

atom-or : (w c : List ℕ) (b : Bool) (x t : Tree) (rest : Option Tree) → (b ≡ true → w ≡ c) → IsAtom c x → (rest ≡ Some t → IsAtom w t) → cond b (Some x) rest ≡ Some t → IsAtom w t
atom-or w c true x t rest same i h e = let is : x ≡ t = cc in subst (λ (v : List ℕ). IsAtom v t) (sym (same refl)) (subst (λ (u : Tree). IsAtom c u) is i)
atom-or w c false x t rest same i h e = h e

no-atom : (w : List ℕ) (t : Tree) → None ≡ Some t → IsAtom w t
no-atom w t e = absurd (cc)

atom-is : (w : List ℕ) (t : Tree) → atom_of w ≡ Some t → IsAtom w t
unfolding atom_of
atom-is w t e = atom-or w (codes "true") _ _ t _ (bytes_same w (codes "true")) (record { fits = tt; high = omega arith; lies = λ most n. tt; spelled = refl })
    (atom-or w (codes "false") _ _ t _ (bytes_same w (codes "false")) (record { fits = tt; high = omega arith; lies = λ most n. tt; spelled = refl })
    (atom-or w (codes "null") _ _ t _ (bytes_same w (codes "null")) (record { fits = tt; high = omega arith; lies = λ most n. tt; spelled = refl })
    (atom-or w (codes "event") _ _ t _ (bytes_same w (codes "event")) (record { fits = tt; high = omega arith; lies = λ most n. tt; spelled = refl })
    (atom-or w (codes "async") _ _ t _ (bytes_same w (codes "async")) (record { fits = tt; high = omega arith; lies = λ most n. tt; spelled = refl }) (no-atom w t))))) e

record IsCallee (w : List ℕ) (f : Frame) : Type 0 where
  enters : (most : ℕ) (fs : List Frame) → Stands most fs → Enters most fs f
  spelled : entered f ≡ word w ∷ []

callee-or : (w c : List ℕ) (b : Bool) (x f : Frame) (rest : Option Frame) → (b ≡ true → w ≡ c) → IsCallee c x → (rest ≡ Some f → IsCallee w f) → cond b (Some x) rest ≡ Some f → IsCallee w f
callee-or w c true x f rest same i h e = let is : x ≡ f = cc in subst (λ (v : List ℕ). IsCallee v f) (sym (same refl)) (subst (λ (u : Frame). IsCallee c u) is i)
callee-or w c false x f rest same i h e = h e

no-callee : (w : List ℕ) (f : Frame) → None ≡ Some f → IsCallee w f
no-callee w f e = absurd (cc)

callee-is : (w : List ℕ) (f : Frame) → callee_of w ≡ Some f → IsCallee w f
unfolding callee_of
callee-is w f e = callee-or w (codes "has") _ _ f _ (bytes_same w (codes "has")) (record { enters = λ most fs s. s; spelled = refl })
    (callee-or w (codes "size") _ _ f _ (bytes_same w (codes "size")) (record { enters = λ most fs s. s; spelled = refl })
    (callee-or w (codes "string") _ _ f _ (bytes_same w (codes "string")) (record { enters = λ most fs s. s; spelled = refl }) (no-callee w f))) e

method-or : (w c : List ℕ) (b : Bool) (x k : Method) (rest : Option Method) → (b ≡ true → w ≡ c) → method_name x ≡ c → (rest ≡ Some k → method_name k ≡ w) → cond b (Some x) rest ≡ Some k → method_name k ≡ w
method-or w c true x k rest same i h e = let is : x ≡ k = cc in ap method_name (sym is) ∙ i ∙ sym (same refl)
method-or w c false x k rest same i h e = h e

no-method : (w : List ℕ) (k : Method) → None ≡ Some k → method_name k ≡ w
no-method w k e = absurd (cc)

method-is : (w : List ℕ) (k : Method) → method_of w ≡ Some k → method_name k ≡ w
unfolding method_of
method-is w k e = method-or w (codes "startsWith") _ _ k _ (bytes_same w (codes "startsWith")) refl (method-or w (codes "endsWith") _ _ k _ (bytes_same w (codes "endsWith")) refl (method-or w (codes "contains") _ _ k _ (bytes_same w (codes "contains")) refl (no-method w k))) e

in-is : (w : List ℕ) → is_in w ≡ true → codes "in" ≡ w
unfolding is_in
in-is w e = sym (bytes_same w (codes "in") e)

-- ---- one token; `in` is a word, and no operator's own token

abbrev pub is_plain : Token → Bool
is_plain (operator op.In) = false
is_plain _ = true

token-same : (o : Operator) → is_plain (operator o) ≡ true → operator_token o ≡ operator o
token-same op.In e = absurd (cc)
token-same op.Or e = refl
token-same op.And e = refl
token-same op.Less e = refl
token-same op.LessOrEqual e = refl
token-same op.Greater e = refl
token-same op.GreaterOrEqual e = refl
token-same op.Equal e = refl
token-same op.NotEqual e = refl
token-same op.Plus e = refl
token-same op.Minus e = refl
token-same op.Times e = refl
token-same op.Divide e = refl
token-same op.Remainder e = refl

word-keeps : (most : ℕ) (fs : List Frame) (w : List ℕ) (o : Option Tree) (p : Option Frame) → ((t : Tree) → o ≡ Some t → IsAtom w t) → ((f : Frame) → p ≡ Some f → IsCallee w f) → Stands most fs → Keeps most (below fs ++ word w ∷ []) (atom_or_callee fs o p)
word-keeps most fs w (Some t) p h k s = let a = h t refl in ((s, a.fits, a.high, a.lies most (opens fs)), ap (λ (v : List Token). below fs ++ v) a.spelled)
word-keeps most fs w None (Some f) h k s = let c = k f refl in (c.enters most fs s, ap (λ (v : List Token). below fs ++ v) c.spelled)
word-keeps most fs w None None h k s = tt

minus-keeps : (most : ℕ) (fs : List Frame) (o : Operator) → Stands most fs → Keeps most (below fs ++ operator o ∷ []) (minus_sign most fs o)
minus-keeps most fs op.Minus s = unless-keeps most _ (is_asked fs) _ (λ k. over-keeps most (prefix sign.Minus) fs _ (λ d. (d, s, room-six fs k)) refl)
minus-keeps most fs op.Or s = tt
minus-keeps most fs op.And s = tt
minus-keeps most fs op.Less s = tt
minus-keeps most fs op.LessOrEqual s = tt
minus-keeps most fs op.Greater s = tt
minus-keeps most fs op.GreaterOrEqual s = tt
minus-keeps most fs op.Equal s = tt
minus-keeps most fs op.NotEqual s = tt
minus-keeps most fs op.In s = tt
minus-keeps most fs op.Plus s = tt
minus-keeps most fs op.Times s = tt
minus-keeps most fs op.Divide s = tt
minus-keeps most fs op.Remainder s = tt

empty-keeps : (most : ℕ) (fs : List Frame) → Stands most fs → Keeps most (below fs ++ square_close ∷ []) (close_empty fs)
empty-keeps most (square none ∷ fs) s = ((s.1, tt, omega arith, (s.0, tt)), sym (append_assoc (below fs) (square_open ∷ []) (square_close ∷ [])))
empty-keeps most (square (more ts t) ∷ fs) s = tt
empty-keeps most [] s = tt
empty-keeps most (left o a ∷ fs) s = tt
empty-keeps most (prefix x ∷ fs) s = tt
empty-keeps most (test c ∷ fs) s = tt
empty-keeps most (either c a ∷ fs) s = tt
empty-keeps most (round ∷ fs) s = tt
empty-keeps most (place a ∷ fs) s = tt
empty-keeps most (asked ∷ fs) s = tt
empty-keeps most (argument f ∷ fs) s = tt
empty-keeps most (behind k a ∷ fs) s = tt

want-keeps : (most : ℕ) (fs : List Frame) (x : Token) → Stands most fs → Keeps most (below fs ++ x ∷ []) (step_want most fs x)
want-keeps most fs (token.number z) s = ((s, tt, omega arith, tt), refl)
want-keeps most fs (quoted q) s = ((s, tt, omega arith, tt), refl)
want-keeps most fs (word w) s = word-keeps most fs w (atom_of w) (callee_of w) (atom-is w) (callee-is w) s
want-keeps most fs (operator o) s = minus-keeps most fs o s
want-keeps most fs exclaim s = unless-keeps most _ (is_asked fs) _ (λ k. over-keeps most (prefix sign.Not) fs _ (λ d. (d, s, room-six fs k)) refl)
want-keeps most fs round_open s = over-keeps most round fs _ (λ d. (d, s)) refl
want-keeps most fs square_open s = over-keeps most (square none) fs _ (λ d. (d, s, tt, tt)) refl
want-keeps most fs square_close s = empty-keeps most fs s
want-keeps most fs round_close s = tt
want-keeps most fs dot s = tt
want-keeps most fs comma s = tt
want-keeps most fs question s = tt
want-keeps most fs colon s = tt
want-keeps most fs token.wrong s = tt
want-keeps most fs token.unclosed s = tt

enter-open : (most : ℕ) (fs : List Frame) (f : Frame) → Enters most fs f → Keeps most ((below fs ++ entered f) ++ round_open ∷ []) (over most f fs)
enter-open most fs asked s = over-keeps most asked fs _ (λ d. (d, s)) (sym (append_assoc (below fs) (word (codes "has") ∷ []) (round_open ∷ [])))
enter-open most fs (argument f) s = over-keeps most (argument f) fs _ (λ d. (d, s)) (sym (append_assoc (below fs) (word (function_name f) ∷ []) (round_open ∷ [])))
enter-open most fs (left o a) s = absurd s
enter-open most fs (prefix x) s = absurd s
enter-open most fs (test c) s = absurd s
enter-open most fs (either c a) s = absurd s
enter-open most fs round s = absurd s
enter-open most fs (square ts) s = absurd s
enter-open most fs (place a) s = absurd s
enter-open most fs (behind k a) s = absurd s

enter-keeps : (most : ℕ) (fs : List Frame) (f : Frame) (x : Token) → Enters most fs f → Keeps most ((below fs ++ entered f) ++ x ∷ []) (step_enter most fs f x)
enter-keeps most fs f round_open s = enter-open most fs f s
enter-keeps most fs f _ s = tt

left-keeps : (most : ℕ) (o : Operator) (h : Held) (w : List Token) → is_asked h.frames ≡ false → Put most (rank_of o) w h → Keeps most (w ++ operator_token o ∷ []) (operand_left o h)
left-keeps most o h w k p = ((p.fits, p.high, p.room k, p.stands, p.lies), sym (append_assoc (below h.frames) (spell h.tree) (operator_token o ∷ [])) ∙ ap (λ (v : List Token). v ++ operator_token o ∷ []) p.spelled)

operate-keeps : (most : ℕ) (o : Operator) (h : Held) → GoodHeld most h → Keeps most (shown (have h) ++ operator_token o ∷ []) (operate o h)
operate-keeps most o h g = let low : rank_of o ≤ 5 = rank-below o in unless-keeps most _ (is_asked h.frames) _ (λ k. left-keeps most o (reduce (rank_of o) h.frames h.tree) (shown (have h)) (reduced-free most (rank_of o) h.frames h.tree g.0 k) (good-put most (rank_of o) h (omega (arith, low)) g))

in-keeps : (most : ℕ) (w : List ℕ) (h : Held) (b : Bool) → (b ≡ true → codes "in" ≡ w) → GoodHeld most h → Keeps most (shown (have h) ++ word w ∷ []) (cond b (operate op.In h) refused)
in-keeps most w h true same g = subst (λ (v : List ℕ). Keeps most (shown (have h) ++ word v ∷ []) (operate op.In h)) (same refl) (operate-keeps most op.In h g)
in-keeps most w h false same g = tt

method-keeps : (most : ℕ) (fs : List Frame) (a : Tree) (n : List ℕ) (o : Option Method) → ((k : Method) → o ≡ Some k → method_name k ≡ n) → Stands most fs → Fits a → 7 ≤ rank a → Lies most (opens fs) a
    → Keeps most ((below fs ++ (spell a ++ dot ∷ word n ∷ [])) ++ round_open ∷ []) (method_or_none most fs a o)
method-keeps most fs a n None h s f r d = tt
method-keeps most fs a n (Some k) h s f r d = over-keeps most (behind k a) fs _ (λ x. (x, s, f, r, d))
    (ap (λ (v : List ℕ). below fs ++ (spell a ++ dot ∷ word v ∷ round_open ∷ [])) (h k refl) ∙ sym (two-parts (below fs) (spell a) (word n ∷ []) (round_open ∷ []) dot))

begin-keeps : (most : ℕ) (fs : List Frame) (t : Tree) → GoodHeld most (held fs t) → Keeps most ((below fs ++ spell t) ++ round_open ∷ []) (begin_method most fs t)
begin-keeps most fs (member a n) g = let f = g.1 in method-keeps most fs a n (method_of n) (method-is n) g.0 f.0 f.1 g.3
begin-keeps most fs null g = tt
begin-keeps most fs (boolean b) g = tt
begin-keeps most fs (number z) g = tt
begin-keeps most fs (text s) g = tt
begin-keeps most fs (source s) g = tt
begin-keeps most fs (group t) g = tt
begin-keeps most fs (list ts) g = tt
begin-keeps most fs (index a b) g = tt
begin-keeps most fs (has a n) g = tt
begin-keeps most fs (call x a) g = tt
begin-keeps most fs (method k a b) g = tt
begin-keeps most fs (signed s a) g = tt
begin-keeps most fs (binary o a b) g = tt
begin-keeps most fs (choice c a b) g = tt

asked-keeps : (most : ℕ) (fs : List Frame) (t : Tree) (w : List Token) → Put most 0 w (held (asked ∷ fs) t) → Keeps most (w ++ round_close ∷ []) (asked_of fs t)
asked-keeps most fs (member a n) w p = ((p.stands.1, p.fits, omega arith, (p.stands.0, p.lies)), ap (λ (v : List Token). below fs ++ (word (codes "has") ∷ round_open ∷ v)) (sym (append_assoc (spell a) (dot ∷ word n ∷ []) (round_close ∷ []))) ∙ onward (below fs) (before asked) (spell (member a n)) w round_close p.spelled)
asked-keeps most fs null w p = tt
asked-keeps most fs (boolean b) w p = tt
asked-keeps most fs (number z) w p = tt
asked-keeps most fs (text s) w p = tt
asked-keeps most fs (source s) w p = tt
asked-keeps most fs (group t) w p = tt
asked-keeps most fs (list ts) w p = tt
asked-keeps most fs (index a b) w p = tt
asked-keeps most fs (has a n) w p = tt
asked-keeps most fs (call x a) w p = tt
asked-keeps most fs (method k a b) w p = tt
asked-keeps most fs (signed s a) w p = tt
asked-keeps most fs (binary o a b) w p = tt
asked-keeps most fs (choice c a b) w p = tt

behind-part : (x a b t w : List Token) (c : Token) → (x ++ (a ++ b)) ++ t ≡ w → x ++ (a ++ (b ++ (t ++ c ∷ []))) ≡ w ++ c ∷ []
behind-part x a b t w c e = ap (λ (v : List Token). x ++ v) (sym (append_assoc a b (t ++ c ∷ []))) ∙ onward x (a ++ b) t w c e

round-keeps : (most : ℕ) (fs : List Frame) (t : Tree) (w : List Token) → Put most 0 w (held fs t) → Keeps most (w ++ round_close ∷ []) (close_round fs t)
round-keeps most (round ∷ fs) t w p = ((p.stands.1, p.fits, omega arith, (p.stands.0, p.lies)), onward (below fs) (round_open ∷ []) (spell t) w round_close p.spelled)
round-keeps most (asked ∷ fs) t w p = asked-keeps most fs t w p
round-keeps most (argument f ∷ fs) t w p = ((p.stands.1, p.fits, omega arith, (p.stands.0, p.lies)), onward (below fs) (before (argument f)) (spell t) w round_close p.spelled)
round-keeps most (behind k a ∷ fs) t w p = ((p.stands.1, (p.stands.2, p.stands.3, p.fits), omega arith, (p.stands.4, p.stands.0, p.lies)), behind-part (below fs) (spell a) (dot ∷ word (method_name k) ∷ round_open ∷ []) (spell t) w round_close p.spelled)
round-keeps most [] t w p = tt
round-keeps most (left o a ∷ fs) t w p = tt
round-keeps most (prefix x ∷ fs) t w p = tt
round-keeps most (test c ∷ fs) t w p = tt
round-keeps most (either c a ∷ fs) t w p = tt
round-keeps most (square ts ∷ fs) t w p = tt
round-keeps most (place a ∷ fs) t w p = tt

item-part : (x a b t w : List Token) (o c : Token) → (x ++ (o ∷ (a ++ b))) ++ t ≡ w → x ++ (o ∷ ((a ++ (b ++ t)) ++ c ∷ [])) ≡ w ++ c ∷ []
item-part x a b t w o c e = ap (λ (v : List Token). x ++ (o ∷ v)) (append_assoc a (b ++ t) (c ∷ []) ∙ ap (λ (v : List Token). a ++ v) (append_assoc b t (c ∷ [])) ∙ sym (append_assoc a b (t ++ c ∷ []))) ∙ onward x (o ∷ (a ++ b)) t w c e

square-keeps : (most : ℕ) (fs : List Frame) (t : Tree) (w : List Token) → Put most 0 w (held fs t) → Keeps most (w ++ square_close ∷ []) (close_square fs t)
square-keeps most (square ts ∷ fs) t w p = ((p.stands.1, (p.stands.2, p.fits), omega arith, (p.stands.0, (p.stands.3, p.lies))), item-part (below fs) (spell_all ts) (comma_behind ts) (spell t) w square_open square_close p.spelled)
square-keeps most (place a ∷ fs) t w p = ((p.stands.1, (p.stands.2, p.stands.3, p.fits), omega arith, (p.stands.4, p.stands.0, p.lies)), behind-part (below fs) (spell a) (square_open ∷ []) (spell t) w square_close p.spelled)
square-keeps most [] t w p = tt
square-keeps most (left o a ∷ fs) t w p = tt
square-keeps most (prefix x ∷ fs) t w p = tt
square-keeps most (test c ∷ fs) t w p = tt
square-keeps most (either c a ∷ fs) t w p = tt
square-keeps most (round ∷ fs) t w p = tt
square-keeps most (asked ∷ fs) t w p = tt
square-keeps most (argument f ∷ fs) t w p = tt
square-keeps most (behind k a ∷ fs) t w p = tt

item-keeps : (most : ℕ) (fs : List Frame) (t : Tree) (w : List Token) → Put most 0 w (held fs t) → Keeps most (w ++ comma ∷ []) (next_item fs t)
item-keeps most (square ts ∷ fs) t w p = ((p.stands.0, p.stands.1, (p.stands.2, p.fits), (p.stands.3, p.lies)), item-part (below fs) (spell_all ts) (comma_behind ts) (spell t) w square_open comma p.spelled)
item-keeps most [] t w p = tt
item-keeps most (left o a ∷ fs) t w p = tt
item-keeps most (prefix x ∷ fs) t w p = tt
item-keeps most (test c ∷ fs) t w p = tt
item-keeps most (either c a ∷ fs) t w p = tt
item-keeps most (round ∷ fs) t w p = tt
item-keeps most (place a ∷ fs) t w p = tt
item-keeps most (asked ∷ fs) t w p = tt
item-keeps most (argument f ∷ fs) t w p = tt
item-keeps most (behind k a ∷ fs) t w p = tt

branch-keeps : (most : ℕ) (fs : List Frame) (t : Tree) (w : List Token) → Put most 0 w (held fs t) → Keeps most (w ++ colon ∷ []) (other_branch fs t)
branch-keeps most (test c ∷ fs) t w p = ((p.stands.0, p.stands.1, p.stands.2, p.stands.3, p.stands.4, p.stands.5, p.fits, p.lies), behind-part (below fs) (spell c) (question ∷ []) (spell t) w colon p.spelled)
branch-keeps most [] t w p = tt
branch-keeps most (left o a ∷ fs) t w p = tt
branch-keeps most (prefix x ∷ fs) t w p = tt
branch-keeps most (either c a ∷ fs) t w p = tt
branch-keeps most (round ∷ fs) t w p = tt
branch-keeps most (square ts ∷ fs) t w p = tt
branch-keeps most (place a ∷ fs) t w p = tt
branch-keeps most (asked ∷ fs) t w p = tt
branch-keeps most (argument f ∷ fs) t w p = tt
branch-keeps most (behind k a ∷ fs) t w p = tt

test-keeps : (most : ℕ) (h : Held) (w : List Token) → is_asked h.frames ≡ false → Put most 1 w h → Keeps most (w ++ question ∷ []) (tested most h)
test-keeps most h w k p = over-keeps most (test h.tree) h.frames _ (λ d. (d, p.stands, room-zero h.frames (p.room k), p.fits, p.high, p.lies)) (sym (append_assoc (below h.frames) (spell h.tree) (question ∷ [])) ∙ ap (λ (v : List Token). v ++ question ∷ []) p.spelled)

have-keeps : (most : ℕ) (h : Held) (x : Token) → is_plain x ≡ true → GoodHeld most h → Keeps most (shown (have h) ++ x ∷ []) (step_have most h x)
have-keeps most h (operator o) y g = subst (λ (v : Token). Keeps most (shown (have h) ++ v ∷ []) (operate o h)) (token-same o y) (operate-keeps most o h g)
have-keeps most h (word w) y g = in-keeps most w h (is_in w) (in-is w) g
have-keeps most h round_open y g = begin-keeps most h.frames h.tree g
have-keeps most h round_close y g = round-keeps most (reduce 0 h.frames h.tree).frames (reduce 0 h.frames h.tree).tree (shown (have h)) (good-put most 0 h (omega arith) g)
have-keeps most h square_open y g = over-keeps most (place h.tree) h.frames _ (λ d. (d, g.0, g.1, g.2, g.3)) (sym (append_assoc (below h.frames) (spell h.tree) (square_open ∷ [])))
have-keeps most h square_close y g = square-keeps most (reduce 0 h.frames h.tree).frames (reduce 0 h.frames h.tree).tree (shown (have h)) (good-put most 0 h (omega arith) g)
have-keeps most h dot y g = (g, sym (append_assoc (below h.frames) (spell h.tree) (dot ∷ [])))
have-keeps most h comma y g = item-keeps most (reduce 0 h.frames h.tree).frames (reduce 0 h.frames h.tree).tree (shown (have h)) (good-put most 0 h (omega arith) g)
have-keeps most h question y g = unless-keeps most _ (is_asked h.frames) _ (λ k. test-keeps most (reduce 1 h.frames h.tree) (shown (have h)) (reduced-free most 1 h.frames h.tree g.0 k) (good-put most 1 h (omega arith) g))
have-keeps most h colon y g = branch-keeps most (reduce 0 h.frames h.tree).frames (reduce 0 h.frames h.tree).tree (shown (have h)) (good-put most 0 h (omega arith) g)
have-keeps most h (token.number z) y g = tt
have-keeps most h (quoted q) y g = tt
have-keeps most h exclaim y g = tt
have-keeps most h token.wrong y g = tt
have-keeps most h token.unclosed y g = tt

dot-keeps : (most : ℕ) (h : Held) (x : Token) → GoodHeld most h → Keeps most (shown (behind_dot h) ++ x ∷ []) (step_dot h x)
dot-keeps most h (word n) g = ((g.0, (g.1, g.2), omega arith, g.3), ap (λ (v : List Token). below h.frames ++ v) (sym (append_assoc (spell h.tree) (dot ∷ []) (word n ∷ []))) ∙ sym (append_assoc (below h.frames) (spell h.tree ++ dot ∷ []) (word n ∷ [])))
dot-keeps most h _ g = tt

step-keeps : (most : ℕ) (s : State) (x : Token) → is_plain x ≡ true → Good most s → Keeps most (shown s ++ x ∷ []) (step most s x)
step-keeps most (want fs) x y g = want-keeps most fs x g
step-keeps most (enter fs f) x y g = enter-keeps most fs f x g
step-keeps most (have h) x y g = have-keeps most h x y g
step-keeps most (behind_dot h) x y g = dot-keeps most h x g

-- ---- all tokens

abbrev pub AllPlain : List Token → Type 0
AllPlain [] = ⊤
AllPlain (x ∷ xs) = (is_plain x ≡ true) × AllPlain xs

pub run-keeps : (most : ℕ) (ws : List Token) (o : Step) (w : List Token) → AllPlain ws → Keeps most w o → Keeps most (w ++ ws) (run most o ws)
run-keeps most [] o w y k = subst (λ (v : List Token). Keeps most v o) (sym (append-nil w)) k
run-keeps most (x ∷ xs) refused w y k = tt
run-keeps most (x ∷ xs) too_deep w y k = tt
run-keeps most (x ∷ xs) (goes s) w y k = subst (λ (v : List Token). Keeps most v (run most (step most s x) xs)) (append_assoc w (x ∷ []) xs)
    (run-keeps most xs (step most s x) (w ++ x ∷ []) y.1 (subst (λ (v : List Token). Keeps most (v ++ x ∷ []) (step most s x)) k.1 (step-keeps most s x y.0 k.0)))

only-spelled : (most : ℕ) (fs : List Frame) (t u : Tree) (w : List Token) → Put most 0 w (held fs t) → only_in fs t ≡ Some u → IsTree most w u
only-spelled most [] t u w p e = let same : t ≡ u = cc in subst (λ (v : Tree). IsTree most w v) same (record { spelled = p.spelled; fits = p.fits; lies = p.lies })
only-spelled most (f ∷ fs) t u w p e = absurd (cc)

end-spelled : (most : ℕ) (s : State) (u : Tree) (w : List Token) → Keeps most w (goes s) → end_in s ≡ Some u → IsTree most w u
end-spelled most (want fs) u w k e = absurd (cc)
end-spelled most (enter fs f) u w k e = absurd (cc)
end-spelled most (have h) u w k e = subst (λ (v : List Token). IsTree most v u) k.1 (only-spelled most (reduce 0 h.frames h.tree).frames (reduce 0 h.frames h.tree).tree u (shown (have h)) (good-put most 0 h (omega arith) k.0) e)
end-spelled most (behind_dot h) u w k e = absurd (cc)

finish-spelled : (most : ℕ) (o : Step) (u : Tree) (w : List Token) → Keeps most w o → finish o ≡ Some u → IsTree most w u
finish-spelled most refused u w k e = absurd (cc)
finish-spelled most too_deep u w k e = absurd (cc)
finish-spelled most (goes s) u w k e = end-spelled most s u w k e

pub read-is-spelled : (most : ℕ) (w : List Token) (t : Tree) → AllPlain w → read_tokens most w ≡ Some t → IsTree most w t
unfolding read_tokens
read-is-spelled most w t y e = finish-spelled most (run most (goes (want [])) w) t w (run-keeps most w (goes (want [])) [] y (tt, refl)) e
