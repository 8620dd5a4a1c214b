-- Where an event must have a value for a condition to be true of it. Of the conjuncts of a condition,
-- from left to right, the first that compares a member of the fresh event with what the first event
-- alone tells gives the bucket.
use Rattle.std.specs.Prelude.{ℕ, Bool, true, false, ◌||◌, List, [], ◌∷◌, ◌++◌, Option, Some, None, Result, Ok, Err}
use Rattle.expr.specs.Tree as tree
use Rattle.expr.specs.Tree.{Tree, Trees}
use Rattle.expr.specs.Reading.{tree_of_text}
use Rattle.expr.specs.declared.term.Source.{Source}
use Rattle.expr.specs.declared.term.Source.TheVariants as source
use Rattle.expr.specs.declared.term.Operator.TheVariants as operator
use Rattle.cel_eval.specs.Cells.{value_text}
use Rattle.cel_eval.specs.Data.{over, of_json, seen_outcome}
use Rattle.cel_eval.specs.Table.{worth}
use Rattle.cel_eval.specs.declared.fault.EvalFault.{EvalFault}
use Rattle.cel_eval.specs.declared.fault.EvalFault.TheVariants as fault
use Rattle.cel_eval.specs.declared.value.Value.{Value}
use Rattle.cel_eval.specs.declared.value.Value.TheVariants as value
use Rattle.json_text.specs.Grammar.{Json}
use Rattle.json_text.specs.Text.{member_of}
use Rattle.kinds.specs.declared.store.Bucket.{Bucket}
use Rattle.event_keys.specs.Expressions.{json_of}

-- ## What a condition compares

-- the conjuncts of a chain of `&&`, from left to right
abbrev pub conjuncts : Tree → List Tree
conjuncts (tree.binary operator.And a b) = conjuncts a ++ b ∷ []
conjuncts t = t ∷ []

abbrev pub is_fresh : Source → Bool
is_fresh source.Event = false
is_fresh source.Async = true

abbrev mutual
  -- the fresh event is named
  pub names_fresh : Tree → Bool
  names_fresh tree.null = false
  names_fresh (tree.boolean b) = false
  names_fresh (tree.number n) = false
  names_fresh (tree.text t) = false
  names_fresh (tree.source s) = is_fresh s
  names_fresh (tree.group a) = names_fresh a
  names_fresh (tree.list items) = name_fresh items
  names_fresh (tree.member a name) = names_fresh a
  names_fresh (tree.index a b) = names_fresh a || names_fresh b
  names_fresh (tree.has a name) = names_fresh a
  names_fresh (tree.call f a) = names_fresh a
  names_fresh (tree.method m a b) = names_fresh a || names_fresh b
  names_fresh (tree.signed s a) = names_fresh a
  names_fresh (tree.binary o a b) = names_fresh a || names_fresh b
  names_fresh (tree.choice c a b) = names_fresh c || names_fresh a || names_fresh b

  pub name_fresh : Trees → Bool
  name_fresh tree.none = false
  name_fresh (tree.more items last) = name_fresh items || names_fresh last

abbrev pub longer : Option (List (List ℕ)) → List ℕ → Option (List (List ℕ))
longer None name = None
longer (Some path) name = Some (path ++ name ∷ [])

-- the names behind `async`, where the expression is nothing else
abbrev pub fresh_path : Tree → Option (List (List ℕ))
fresh_path (tree.source source.Async) = Some []
fresh_path (tree.member a name) = longer (fresh_path a) name
fresh_path t = None

-- a member of the fresh event, and what it is to be equal to
pub record Compared : Type 0 where
  pub path : List (List ℕ)
  pub to : Tree

abbrev pub against : Option (List (List ℕ)) → Tree → Option Compared
against None t = None
against (Some []) t = None
against (Some (name ∷ names)) t =
    elim (names_fresh t) [ true ↦ None | false ↦ Some (record { path = name ∷ names; to = t }) ]

abbrev pub or_else : Option Compared → Option Compared → Option Compared
or_else None other = other
or_else (Some c) other = Some c

-- `async.P == E` or `E == async.P`, where E doesn't name the fresh event
abbrev pub compared : Tree → Option Compared
compared (tree.binary operator.Equal a b) =
    or_else (against (fresh_path a) b) (against (fresh_path b) a)
compared t = None

abbrev pub first_compared : List Tree → Option Compared
first_compared [] = None
first_compared (t ∷ ts) = or_else (compared t) (first_compared ts)

-- ## Its value

-- a list, an object or a fault gives no bucket
abbrev pub key_text : Result Value EvalFault → Option (List ℕ)
key_text (Ok value.List) = None
key_text (Ok value.Object) = None
key_text (Ok v) = Some (value_text v)
key_text (Err e) = None

-- over the first event alone
abbrev pub worth_on : Tree → Option Json → Result Value EvalFault
worth_on t None = Err fault.NoField
worth_on t (Some j) = seen_outcome (worth t (over j None))

abbrev pub bucket_at : List (List ℕ) → Option (List ℕ) → Option Bucket
bucket_at path None = None
bucket_at path (Some value) = Some (record { path = path; value = value })

abbrev pub bucket_with : List ℕ → Option Compared → Option Bucket
bucket_with event None = None
bucket_with event (Some c) = bucket_at c.path (key_text (worth_on c.to (json_of event)))

abbrev pub bucket_in : List ℕ → Option Tree → Option Bucket
bucket_in event None = None
bucket_in event (Some t) = bucket_with event (first_compared (conjuncts t))

-- the bucket of a condition, where the first event has this text
abbrev pub bucket_of : Option (List ℕ) → List ℕ → Option Bucket
bucket_of None event = None
bucket_of (Some expr) event = bucket_in event (tree_of_text expr)

-- ## What an event has at a path

abbrev pub named : List ℕ → Option Json → Option Json
named name None = None
named name (Some j) = member_of j name

-- the member at a path from a value
abbrev pub member_at : Option Json → List (List ℕ) → Option Json
member_at found [] = found
member_at found (name ∷ names) = member_at (named name found) names

abbrev pub found_text : Option Json → Option (List ℕ)
found_text None = None
found_text (Some j) = key_text (seen_outcome (of_json j))

-- the text of the value there: none of a list, an object or a number out of range
abbrev pub value_in : List (List ℕ) → List ℕ → Option (List ℕ)
value_in path event = found_text (member_at (json_of event) path)
