-- What the code's reader answers.
use Rattle.std.specs.Prelude.{ℕ, ◌≡◌, ◌⊎◌, List, Result, Ok, Err}
use Rattle.cel_parse.specs.declared.fault.ParseFault.{ParseFault}
use Rattle.cel_parse.specs.declared.fault.ParseFault.TheVariants.{Memory}
use Rattle.expr.specs.declared.term.Term.{Term}
use Rattle.expr.specs.Tree.{Tree}
use Rattle.expr.specs.Trees.{tree_of}

-- the exact answer, unless memory ran out
abbrev pub Walked : Result Tree ParseFault → Result Term ParseFault → Type 0
Walked exact (Ok t) = exact ≡ Ok (tree_of t)
Walked exact (Err f) = (exact ≡ Err f) ⊎ (f ≡ Memory)

abbrev pub IsWhole : List ℕ → Result (List ℕ) ParseFault → Type 0
IsWhole text (Ok e) = e ≡ text
IsWhole text (Err f) = f ≡ Memory
