-- The tree that a term stands for.
use Rattle.std.specs.Prelude.{List, [], ◌∷◌, map}
use Rattle.expr.specs.Tree.{Tree, null, boolean, number, text, source, group, list, member, index, has, call, method, signed, binary, choice, Trees, none, more}
use Rattle.expr.specs.declared.term.Term.{Term, fold-Term}
use Rattle.expr.specs.declared.term.Term.TheOpen.{Term-F}

abbrev pub more_all : Trees → List Tree → Trees
more_all ts [] = ts
more_all ts (x ∷ xs) = more_all (more ts x) xs

-- one level, with each term inside already seen as its tree
abbrev pub tree_step : Term-F Tree → Tree
tree_step Term-F.Null = null
tree_step (Term-F.Bool b) = boolean b
tree_step (Term-F.Number z) = number z
tree_step (Term-F.Text s) = text s
tree_step (Term-F.Source s) = source s
tree_step (Term-F.Group a) = group a.value
tree_step (Term-F.List v) = list (more_all none v.items)
tree_step (Term-F.Member a f) = member a.value f
tree_step (Term-F.Index a b) = index a.value b.value
tree_step (Term-F.Has a f) = has a.value f
tree_step (Term-F.Call f a) = call f a.value
tree_step (Term-F.Method m a b) = method m a.value b.value
tree_step (Term-F.Unary s a) = signed s a.value
tree_step (Term-F.Binary o a b) = binary o a.value b.value
tree_step (Term-F.Choice c a b) = choice c.value a.value b.value

abbrev pub tree_of : Term → Tree
tree_of = fold-Term Tree tree_step

abbrev pub trees_of : List Term → Trees
trees_of ts = more_all none (map tree_of ts)
