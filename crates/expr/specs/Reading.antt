-- The tree that a text is read as: a reader of one token at a time, which keeps what is open as a stack of frames.
use Rattle.std.specs.Prelude.{ℕ, suc, ◌+◌, nat_le, Bool, true, false, cond, if◌then◌else◌, List, [], ◌∷◌, length, codes, bytes_eq, Option, Some, None}
use Rattle.expr.specs.declared.term.Source.TheVariants.{Event, Async}
use Rattle.expr.specs.declared.term.Sign.{Sign}
use Rattle.expr.specs.declared.term.Sign.TheVariants as sign
use Rattle.expr.specs.declared.term.Operator.{Operator}
use Rattle.expr.specs.declared.term.Operator.TheVariants as op
use Rattle.expr.specs.declared.term.Function.{Function}
use Rattle.expr.specs.declared.term.Function.TheVariants as function
use Rattle.expr.specs.declared.term.Method.{Method}
use Rattle.expr.specs.declared.term.Method.TheVariants as method_name
use Rattle.expr.specs.Tree.{Tree, null, boolean, number, text, source, group, list, member, index, has, call, method, signed, binary, choice, Trees, none, more}
use Rattle.expr.specs.Tokens as token
use Rattle.expr.specs.Tokens.{Token, tokens_of}

-- ---- words

-- the words that are expressions
unfoldable pub atom_of : List ℕ → Option Tree
atom_of w =
    if bytes_eq w (codes "true") then Some (boolean true)
    else if bytes_eq w (codes "false") then Some (boolean false)
    else if bytes_eq w (codes "null") then Some null
    else if bytes_eq w (codes "event") then Some (source Event)
    else if bytes_eq w (codes "async") then Some (source Async)
    else None

unfoldable pub is_in : List ℕ → Bool
is_in w = bytes_eq w (codes "in")

unfoldable pub method_of : List ℕ → Option Method
method_of w =
    if bytes_eq w (codes "startsWith") then Some method_name.StartsWith
    else if bytes_eq w (codes "endsWith") then Some method_name.EndsWith
    else if bytes_eq w (codes "contains") then Some method_name.Contains
    else None

-- ---- levels of the grammar, from `expr` (0) to `atom` (8)

abbrev pub rank_of : Operator → ℕ
rank_of op.Or = 1
rank_of op.And = 2
rank_of op.Less = 3
rank_of op.LessOrEqual = 3
rank_of op.Greater = 3
rank_of op.GreaterOrEqual = 3
rank_of op.Equal = 3
rank_of op.NotEqual = 3
rank_of op.In = 3
rank_of op.Plus = 4
rank_of op.Minus = 4
rank_of op.Times = 5
rank_of op.Divide = 5
rank_of op.Remainder = 5

-- ---- what is open

pub data Frame : Type 0 where
  -- `a +`, `!`, `c ?` and `c ? a :`
  left : Operator → Tree → Frame
  prefix : Sign → Frame
  test : Tree → Frame
  either : Tree → Tree → Frame
  -- `(`, `[ a ,`, `a [`
  round : Frame
  square : Trees → Frame
  place : Tree → Frame
  -- `has (`, `size (`, `a . startsWith (`
  asked : Frame
  argument : Function → Frame
  behind : Method → Tree → Frame

-- the words that stand before `(`
unfoldable pub callee_of : List ℕ → Option Frame
callee_of w =
    if bytes_eq w (codes "has") then Some asked
    else if bytes_eq w (codes "size") then Some (argument function.Size)
    else if bytes_eq w (codes "string") then Some (argument function.String)
    else None

pub record Held : Type 0 where
  pub frames : List Frame
  pub tree : Tree

abbrev pub held : List Frame → Tree → Held
held fs t = record { frames = fs; tree = t }

pub data State : Type 0 where
  -- an operand is to come
  want : List Frame → State
  -- `(` is to come, behind the name of a function
  enter : List Frame → Frame → State
  -- an operand is there
  have : Held → State
  -- a name is to come, behind `.`
  behind_dot : Held → State

-- puts together what binds at least as strong
abbrev pub reduce : ℕ → List Frame → Tree → Held
reduce r [] t = held [] t
reduce r (left o a ∷ fs) t =
    cond (nat_le r (rank_of o)) (reduce r fs (binary o a t)) (held (left o a ∷ fs) t)
reduce r (prefix s ∷ fs) t = cond (nat_le r 6) (reduce r fs (signed s t)) (held (prefix s ∷ fs) t)
reduce r (either c a ∷ fs) t = cond (nat_le r 0) (reduce r fs (choice c a t)) (held (either c a ∷ fs) t)
reduce r (test c ∷ fs) t = held (test c ∷ fs) t
reduce r (round ∷ fs) t = held (round ∷ fs) t
reduce r (square ts ∷ fs) t = held (square ts ∷ fs) t
reduce r (place a ∷ fs) t = held (place a ∷ fs) t
reduce r (asked ∷ fs) t = held (asked ∷ fs) t
reduce r (argument f ∷ fs) t = held (argument f ∷ fs) t
reduce r (behind m a ∷ fs) t = held (behind m a ∷ fs) t

-- depth: brackets, argument lists, signs and branches
abbrev pub opens : List Frame → ℕ
opens [] = 0
opens (left o a ∷ fs) = opens fs
opens (prefix s ∷ fs) = suc (opens fs)
opens (test c ∷ fs) = suc (opens fs)
opens (either c a ∷ fs) = suc (opens fs)
opens (round ∷ fs) = suc (opens fs)
opens (square ts ∷ fs) = suc (opens fs)
opens (place a ∷ fs) = suc (opens fs)
opens (asked ∷ fs) = suc (opens fs)
opens (argument f ∷ fs) = suc (opens fs)
opens (behind m a ∷ fs) = suc (opens fs)

-- ---- one token

-- the reader goes on, no expression goes on so, or this token opens one more than the bound
pub data Step : Type 0 where
  goes : State → Step
  refused : Step
  too_deep : Step

-- one more is open, if that isn't over the bound
abbrev pub over : ℕ → Frame → List Frame → Step
over most f fs = cond (nat_le (opens fs + 1) most) (goes (want (f ∷ fs))) too_deep

-- the argument of `has` is no sign's or operator's
abbrev pub is_asked : List Frame → Bool
is_asked (asked ∷ fs) = true
is_asked _ = false

abbrev pub unless_asked : List Frame → Step → Step
unless_asked fs o = cond (is_asked fs) refused o

abbrev pub atom_or_callee : List Frame → Option Tree → Option Frame → Step
atom_or_callee fs (Some t) f = goes (have (held fs t))
atom_or_callee fs None (Some f) = goes (enter fs f)
atom_or_callee fs None None = refused

abbrev pub close_empty : List Frame → Step
close_empty (square none ∷ fs) = goes (have (held fs (list none)))
close_empty _ = refused

abbrev pub minus_sign : ℕ → List Frame → Operator → Step
minus_sign most fs op.Minus = unless_asked fs (over most (prefix sign.Minus) fs)
minus_sign most fs _ = refused

abbrev pub step_want : ℕ → List Frame → Token → Step
step_want most fs (token.number z) = goes (have (held fs (number z)))
step_want most fs (token.quoted s) = goes (have (held fs (text s)))
step_want most fs (token.word w) = atom_or_callee fs (atom_of w) (callee_of w)
step_want most fs (token.operator o) = minus_sign most fs o
step_want most fs token.exclaim = unless_asked fs (over most (prefix sign.Not) fs)
step_want most fs token.round_open = over most round fs
step_want most fs token.square_open = over most (square none) fs
step_want most fs token.square_close = close_empty fs
step_want most fs _ = refused

abbrev pub step_enter : ℕ → List Frame → Frame → Token → Step
step_enter most fs f token.round_open = over most f fs
step_enter most fs f _ = refused

abbrev pub asked_of : List Frame → Tree → Step
asked_of fs (member a f) = goes (have (held fs (has a f)))
asked_of fs _ = refused

abbrev pub close_round : List Frame → Tree → Step
close_round (round ∷ fs) t = goes (have (held fs (group t)))
close_round (asked ∷ fs) t = asked_of fs t
close_round (argument f ∷ fs) t = goes (have (held fs (call f t)))
close_round (behind m a ∷ fs) t = goes (have (held fs (method m a t)))
close_round _ t = refused

abbrev pub close_square : List Frame → Tree → Step
close_square (square ts ∷ fs) t = goes (have (held fs (list (more ts t))))
close_square (place a ∷ fs) t = goes (have (held fs (index a t)))
close_square _ t = refused

abbrev pub next_item : List Frame → Tree → Step
next_item (square ts ∷ fs) t = goes (want (square (more ts t) ∷ fs))
next_item _ t = refused

abbrev pub other_branch : List Frame → Tree → Step
other_branch (test c ∷ fs) t = goes (want (either c t ∷ fs))
other_branch _ t = refused

abbrev pub close_round_in : Held → Step
close_round_in h = close_round h.frames h.tree

abbrev pub close_square_in : Held → Step
close_square_in h = close_square h.frames h.tree

abbrev pub next_item_in : Held → Step
next_item_in h = next_item h.frames h.tree

abbrev pub other_branch_in : Held → Step
other_branch_in h = other_branch h.frames h.tree

abbrev pub operand_left : Operator → Held → Step
operand_left o h = goes (want (left o h.tree ∷ h.frames))

abbrev pub tested : ℕ → Held → Step
tested most h = over most (test h.tree) h.frames

abbrev pub operate : Operator → Held → Step
operate o h = unless_asked h.frames (operand_left o (reduce (rank_of o) h.frames h.tree))

abbrev pub method_or_none : ℕ → List Frame → Tree → Option Method → Step
method_or_none most fs a (Some m) = over most (behind m a) fs
method_or_none most fs a None = refused

abbrev pub begin_method : ℕ → List Frame → Tree → Step
begin_method most fs (member a n) = method_or_none most fs a (method_of n)
begin_method most fs _ = refused

abbrev pub step_have : ℕ → Held → Token → Step
step_have most h (token.operator o) = operate o h
step_have most h (token.word w) = cond (is_in w) (operate op.In h) refused
step_have most h token.round_open = begin_method most h.frames h.tree
step_have most h token.round_close = close_round_in (reduce 0 h.frames h.tree)
step_have most h token.square_open = over most (place h.tree) h.frames
step_have most h token.square_close = close_square_in (reduce 0 h.frames h.tree)
step_have most h token.dot = goes (behind_dot h)
step_have most h token.comma = next_item_in (reduce 0 h.frames h.tree)
step_have most h token.question = unless_asked h.frames (tested most (reduce 1 h.frames h.tree))
step_have most h token.colon = other_branch_in (reduce 0 h.frames h.tree)
step_have most h _ = refused

abbrev pub step_dot : Held → Token → Step
step_dot h (token.word w) = goes (have (held h.frames (member h.tree w)))
step_dot h _ = refused

abbrev pub step : ℕ → State → Token → Step
step most (want fs) x = step_want most fs x
step most (enter fs f) x = step_enter most fs f x
step most (have h) x = step_have most h x
step most (behind_dot h) x = step_dot h x

-- ---- all tokens

abbrev pub run : ℕ → Step → List Token → Step
run most o [] = o
run most (goes s) (x ∷ xs) = run most (step most s x) xs
run most refused (x ∷ xs) = refused
run most too_deep (x ∷ xs) = too_deep

abbrev pub only_in : List Frame → Tree → Option Tree
only_in [] t = Some t
only_in (f ∷ fs) t = None

abbrev pub only : Held → Option Tree
only h = only_in h.frames h.tree

abbrev pub end_in : State → Option Tree
end_in (have h) = only (reduce 0 h.frames h.tree)
end_in _ = None

abbrev pub finish : Step → Option Tree
finish (goes s) = end_in s
finish refused = None
finish too_deep = None

-- the tree of tokens, where so many at most are open around each
unfoldable pub read_tokens : ℕ → List Token → Option Tree
read_tokens most ws = finish (run most (goes (want [])) ws)

-- the most that may be open around a token, and the longest text of an expression, in bytes
abbrev pub deepest : ℕ
deepest = 32

abbrev pub longest : ℕ
longest = 1024

-- the tree of a text, where it is an expression
unfoldable pub tree_of_text : List ℕ → Option Tree
tree_of_text w = if nat_le (length w) longest then read_tokens deepest (tokens_of w) else None
