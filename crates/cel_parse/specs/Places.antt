-- Where no expression goes on, said by the grammar alone.
use Rattle.std.specs.Prelude.{ℕ, ◌≡◌, ◌⊎◌, List, [], ◌∷◌, ◌++◌, map}
use Rattle.expr.specs.Tokens.{Token, quoted, round_open, unclosed, Placed, token_of}
use Rattle.expr.specs.Tree.{Tree}
use Rattle.expr.specs.Reading.{deepest}
use Rattle.cel_parse.specs.Grammar.{IsTree}

-- some expression, however deep, begins with these tokens
pub record Begins (w : List Token) : Type 0 where
  pub most : ℕ
  pub rest : List Token
  pub tree : Tree
  pub is_tree : IsTree most (w ++ rest) tree

-- some expression of this depth begins with these tokens
abbrev pub BeginsWithin : ℕ → List Token → Type 0
BeginsWithin most w = (rest : List Token) × (t : Tree) × IsTree most (w ++ rest) t

-- behind these tokens a string may stand
abbrev pub TakesString : List Placed → Type 0
TakesString front = Begins (map token_of front ++ quoted [] ∷ [])

-- where a token begins, but for a string that may stand there and isn't closed: that is a fault at the end of the text
abbrev pub IsPlace : ℕ → List Placed → Placed → ℕ → Type 0
IsPlace whole front p place =
    ((place ≡ p.start) × (p.token ≡ unclosed → TakesString front → ⊥))
    ⊎ ((place ≡ whole) × (p.token ≡ unclosed) × TakesString front)

-- the first token with which no expression goes on, however deep
pub record StopsAt (whole : ℕ) (ps : List Placed) (place : ℕ) : Type 0 where
  pub front : List Placed
  pub first : Placed
  pub behind : List Placed
  pub split : ps ≡ front ++ first ∷ behind
  pub begins : Begins (map token_of front)
  pub stops : Begins (map token_of front ++ first.token ∷ []) → ⊥
  pub is_place : IsPlace whole front first place

-- some expression begins so, and all of it is none, however deep
pub record EndsEarly (ps : List Placed) : Type 0 where
  pub begins : Begins (map token_of ps)
  pub none : (most : ℕ) (t : Tree) → IsTree most (map token_of ps) t → ⊥

-- an expression begins so with this token, but none within the limit; one within it begins with those before, but for the
-- name of a function, which is no fault before its bracket
pub record IsDeepAt (ps : List Placed) (place : ℕ) : Type 0 where
  pub front : List Placed
  pub first : Placed
  pub behind : List Placed
  pub split : ps ≡ front ++ first ∷ behind
  pub begins : Begins (map token_of front ++ first.token ∷ [])
  pub deep : BeginsWithin deepest (map token_of front ++ first.token ∷ []) → ⊥
  pub within : BeginsWithin deepest (map token_of front) ⊎ (first.token ≡ round_open)
  pub is_place : place ≡ first.start
