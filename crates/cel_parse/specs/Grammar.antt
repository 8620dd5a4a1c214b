-- The grammar of expressions: how each tree is spelled, which trees may stand where, how deep a tree lies.
use Rattle.std.specs.Prelude.{ℕ, suc, ◌≤◌, ◌<◌, ◌≡◌, true, false, codes, List, [], ◌∷◌, ◌++◌, length, ⊤}
use Rattle.expr.specs.declared.term.Source.{Source}
use Rattle.expr.specs.declared.term.Source.TheVariants.{Event, Async}
use Rattle.expr.specs.declared.term.Sign.{Sign}
use Rattle.expr.specs.declared.term.Sign.TheVariants as sign
use Rattle.expr.specs.declared.term.Operator.{Operator}
use Rattle.expr.specs.declared.term.Operator.TheVariants as op
use Rattle.expr.specs.declared.term.Function.{Function}
use Rattle.expr.specs.declared.term.Function.TheVariants as function
use Rattle.expr.specs.declared.term.Method.{Method}
use Rattle.expr.specs.declared.term.Method.TheVariants as m
use Rattle.expr.specs.Tokens.{Token, word, quoted, operator, exclaim, round_open, round_close, square_open, square_close, dot, comma, question, colon, tokens_of}
use Rattle.expr.specs.Tokens as token
use Rattle.expr.specs.Tree.{Tree, null, boolean, number, text, source, group, list, member, index, has, call, method, signed, binary, choice, Trees, none, more}
use Rattle.expr.specs.Reading.{rank_of, deepest, longest}

-- ---- words and signs

abbrev pub source_name : Source → List ℕ
source_name Event = codes "event"
source_name Async = codes "async"

abbrev pub function_name : Function → List ℕ
function_name function.Size = codes "size"
function_name function.String = codes "string"

abbrev pub method_name : Method → List ℕ
method_name m.StartsWith = codes "startsWith"
method_name m.EndsWith = codes "endsWith"
method_name m.Contains = codes "contains"

abbrev pub sign_token : Sign → Token
sign_token sign.Not = exclaim
sign_token sign.Minus = operator op.Minus

abbrev pub operator_token : Operator → Token
operator_token op.In = word (codes "in")
operator_token o = operator o

-- ---- spelling, a line for each rule

abbrev pub comma_behind : Trees → List Token
comma_behind none = []
comma_behind (more ts t) = comma ∷ []

abbrev mutual
  pub spell : Tree → List Token
  spell null = word (codes "null") ∷ []
  spell (boolean true) = word (codes "true") ∷ []
  spell (boolean false) = word (codes "false") ∷ []
  spell (number z) = token.number z ∷ []
  spell (text s) = quoted s ∷ []
  spell (source s) = word (source_name s) ∷ []
  spell (group t) = round_open ∷ spell t ++ round_close ∷ []
  spell (list ts) = square_open ∷ spell_all ts ++ square_close ∷ []
  spell (member a f) = spell a ++ dot ∷ word f ∷ []
  spell (index a b) = spell a ++ square_open ∷ (spell b ++ square_close ∷ [])
  spell (has a f) = word (codes "has") ∷ round_open ∷ (spell a ++ dot ∷ word f ∷ round_close ∷ [])
  spell (call f a) = word (function_name f) ∷ round_open ∷ (spell a ++ round_close ∷ [])
  spell (method m a b) =
      spell a ++ dot ∷ word (method_name m) ∷ round_open ∷ (spell b ++ round_close ∷ [])
  spell (signed s a) = sign_token s ∷ spell a
  spell (binary o a b) = spell a ++ operator_token o ∷ spell b
  spell (choice c a b) = spell c ++ question ∷ (spell a ++ colon ∷ spell b)

  pub spell_all : Trees → List Token
  spell_all none = []
  spell_all (more ts t) = spell_all ts ++ (comma_behind ts ++ spell t)

-- the level of the grammar's rule that makes the tree: `expr` is 0, `or` 1, `and` 2, `rel` 3, `sum` 4, `prod` 5,
-- `unary` 6, `post` 7, `atom` 8
abbrev pub rank : Tree → ℕ
rank (choice c a b) = 0
rank (binary o a b) = rank_of o
rank (signed s a) = 6
rank (member a f) = 7
rank (index a b) = 7
rank (method m a b) = 7
rank _ = 8

-- each part is of the level that its rule asks for; chains of one level group to the left
abbrev mutual
  pub Fits : Tree → Type 0
  Fits (group t) = Fits t
  Fits (list ts) = FitAll ts
  Fits (member a f) = Fits a × (7 ≤ rank a)
  Fits (index a b) = Fits a × (7 ≤ rank a) × Fits b
  Fits (has a f) = Fits a × (7 ≤ rank a)
  Fits (call f a) = Fits a
  Fits (method m a b) = Fits a × (7 ≤ rank a) × Fits b
  Fits (signed s a) = Fits a × (6 ≤ rank a)
  Fits (binary o a b) = Fits a × Fits b × (rank_of o ≤ rank a) × (rank_of o < rank b)
  Fits (choice c a b) = Fits c × Fits a × Fits b × (1 ≤ rank c)
  Fits null = ⊤
  Fits (boolean b) = ⊤
  Fits (number z) = ⊤
  Fits (text s) = ⊤
  Fits (source s) = ⊤

  pub FitAll : Trees → Type 0
  FitAll none = ⊤
  FitAll (more ts t) = FitAll ts × Fits t

-- with `n` open around it, no token of the tree has more than `most`: brackets, arguments, signs and branches
-- count
abbrev mutual
  pub Lies : ℕ → ℕ → Tree → Type 0
  Lies most n (group t) = (n < most) × Lies most (suc n) t
  Lies most n (list ts) = (n < most) × LieAll most (suc n) ts
  Lies most n (member a f) = Lies most n a
  Lies most n (index a b) = Lies most n a × (n < most) × Lies most (suc n) b
  Lies most n (has a f) = (n < most) × Lies most (suc n) a
  Lies most n (call f a) = (n < most) × Lies most (suc n) a
  Lies most n (method m a b) = Lies most n a × (n < most) × Lies most (suc n) b
  Lies most n (signed s a) = (n < most) × Lies most (suc n) a
  Lies most n (binary o a b) = Lies most n a × Lies most n b
  Lies most n (choice c a b) = Lies most n c × (n < most) × Lies most (suc n) a × Lies most (suc n) b
  Lies most n null = ⊤
  Lies most n (boolean b) = ⊤
  Lies most n (number z) = ⊤
  Lies most n (text s) = ⊤
  Lies most n (source s) = ⊤

  pub LieAll : ℕ → ℕ → Trees → Type 0
  LieAll most n none = ⊤
  LieAll most n (more ts t) = LieAll most n ts × Lies most n t

-- the tokens are an expression of this tree
pub record IsTree (most : ℕ) (w : List Token) (t : Tree) : Type 0 where
  pub spelled : spell t ≡ w
  pub fits : Fits t
  pub lies : Lies most 0 t

-- the text is an expression of this tree, within the limits
pub record IsExpression (bytes : List ℕ) (t : Tree) : Type 0 where
  pub short : length bytes ≤ longest
  pub tree : IsTree deepest (tokens_of bytes) t
