-- What an expression is worth over an event and a fresh event: one value, or the first fault.
use Rattle.std.specs.Prelude.{ℕ, ℤ, Bool, true, false, List, [], ◌∷◌, Option, Some, None, Result, Ok, Err}
use Rattle.json_text.specs.Grammar.{Json}
use Rattle.json_text.specs.Nodes.{Document}
use Rattle.expr.specs.Tree as tree
use Rattle.expr.specs.Tree.{Tree, Trees}
use Rattle.expr.specs.Reading.{tree_of_text}
use Rattle.cel_eval.specs.declared.value.Value.{Value}
use Rattle.expr.specs.declared.term.Source.{Source}
use Rattle.expr.specs.declared.term.Source.TheVariants as source
use Rattle.expr.specs.declared.term.Operator.{Operator}
use Rattle.expr.specs.declared.term.Operator.TheVariants as operator
use Rattle.cel_eval.specs.Data.{Datum, null, boolean, number, text, list, object, written, Data, none, more, Outcome, seen_outcome, Events, over_documents, in_units, as_number, of_json, of_found}
use Rattle.cel_eval.specs.Operations.{member, index, has, signed, call, text_method, truth, join, operate}
use Rattle.cel_eval.specs.declared.fault.EvalFault.{EvalFault}
use Rattle.cel_eval.specs.declared.fault.EvalFault.TheVariants as fault

-- what is made of a value, where there is one
abbrev pub then : Outcome → (Datum → Outcome) → Outcome
then (Ok d) f = f d
then (Err e) f = Err e

-- what is made of two values; the left fault counts before the right
abbrev pub both : Outcome → Outcome → (Datum → Datum → Outcome) → Outcome
both (Ok d) (Ok e) f = f d e
both (Ok d) (Err e) f = Err e
both (Err e) right f = Err e

-- a fault beside `false && ..` or `true || ..` doesn't count
abbrev pub binary : Operator → Outcome → Outcome → Outcome
binary operator.Or left right = join true (truth left) (truth right)
binary operator.And left right = join false (truth left) (truth right)
binary o left right = both left right (operate o)

-- the chosen one alone
abbrev pub choose : Result Bool EvalFault → Outcome → Outcome → Outcome
choose (Ok true) chosen other = chosen
choose (Ok false) chosen other = other
choose (Err e) chosen other = Err e

-- ---- the forms of the grammar

abbrev pub of_fresh : Option Json → Outcome
of_fresh None = Err fault.NoField
of_fresh (Some j) = of_json j

abbrev pub of_source : Source → Events → Outcome
of_source source.Event events = of_json events.event
of_source source.Async events = of_fresh events.fresh

abbrev pub then_all : Result Data EvalFault → (Data → Outcome) → Outcome
then_all (Ok ds) f = f ds
then_all (Err e) f = Err e

-- one more item behind those before
abbrev pub behind : Data → Datum → Data
behind none d = more d none
behind (more e es) d = more e (behind es d)

abbrev pub append : Result Data EvalFault → Outcome → Result Data EvalFault
append (Ok ds) (Ok d) = Ok (behind ds d)
append (Ok ds) (Err e) = Err e
append (Err e) last = Err e

abbrev mutual
  pub worth : Tree → Events → Outcome
  worth tree.null events = Ok null
  worth (tree.boolean b) events = Ok (boolean b)
  worth (tree.number n) events = as_number (in_units n)
  worth (tree.text t) events = Ok (text t)
  worth (tree.source s) events = of_source s events
  worth (tree.group a) events = worth a events
  worth (tree.list items) events = then_all (all_worth items events) (λ ds. Ok (written ds))
  worth (tree.member a name) events = then (worth a events) (λ d. member d name)
  worth (tree.index a b) events = both (worth a events) (worth b events) index
  worth (tree.has a name) events = then (worth a events) (λ d. has d name)
  worth (tree.call f a) events = then (worth a events) (call f)
  worth (tree.method m a b) events = both (worth a events) (worth b events) (text_method m)
  worth (tree.signed s a) events = then (worth a events) (signed s)
  worth (tree.binary o a b) events = binary o (worth a events) (worth b events)
  worth (tree.choice c a b) events = choose (truth (worth c events)) (worth a events) (worth b events)

  -- of a list's items in order
  pub all_worth : Trees → Events → Result Data EvalFault
  all_worth tree.none events = Ok none
  all_worth (tree.more items last) events = append (all_worth items events) (worth last events)

-- those of a list's items behind others
abbrev pub all_more : Result Data EvalFault → List Tree → Events → Result Data EvalFault
all_more before [] events = before
all_more before (t ∷ ts) events = all_more (append before (worth t events)) ts events

-- ---- a text

abbrev pub worth_if : Option Tree → Events → Outcome
worth_if None events = Err fault.BadType
worth_if (Some t) events = worth t events

-- what the expression of a text is worth; each text of an expression has a tree
unfoldable pub worth_of : List ℕ → Events → Outcome
worth_of w events = worth_if (tree_of_text w) events

-- the same as the caller sees it
abbrev pub value_of : List ℕ → Events → Result Value EvalFault
value_of w events = seen_outcome (worth_of w events)

-- over the texts of two events
abbrev pub evaluated : List ℕ → Document → Option Document → Result Value EvalFault
evaluated w event fresh = value_of w (over_documents event fresh)
