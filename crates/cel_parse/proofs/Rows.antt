-- Examples: how texts are cut into tokens and read as trees.
use Rattle.std.proofs.Common.{◌≡◌, true, refl, List, [], ◌∷◌, ◌++◌, Option, Some, None, codes, ℕ}
use Rattle.std.specs.Prelude.{pos, replicate}
use Rattle.text_num.specs.Digits.{fraction_of}
use Rattle.text_num.specs.JsonNumber.{number_of, exponent_of}
use Rattle.text_num.specs.Units.{units_of, multiple_of}
use Rattle.expr.specs.declared.term.Source.TheVariants.{Event, Async}
use Rattle.expr.specs.declared.term.Sign.TheVariants as sign
use Rattle.expr.specs.declared.term.Operator.TheVariants as op
use Rattle.expr.specs.declared.term.Function.TheVariants as function
use Rattle.expr.specs.declared.term.Method.TheVariants as method_name
use Rattle.expr.specs.Tree.{Tree, null, boolean, number, text, source, group, list, member, index, has, call, method, signed, binary, choice, Trees, none, more}
use Rattle.expr.specs.Tokens.{placed_tokens, tokens_of}
use Rattle.expr.specs.Reading.{atom_of, callee_of, method_of, is_in, read_tokens, tree_of_text}

path : tree_of_text (codes "event.data.accountId") ≡ Some (member (member (source Event) (codes "data")) (codes "accountId"))
unfolding atom_of callee_of method_of is_in read_tokens tree_of_text tokens_of placed_tokens
path = refl

cond1 : tree_of_text (codes "async.data.k == event.data.u") ≡ Some (binary op.Equal (member (member (source Async) (codes "data")) (codes "k")) (member (member (source Event) (codes "data")) (codes "u")))
unfolding atom_of callee_of method_of is_in read_tokens tree_of_text tokens_of placed_tokens
cond1 = refl

many : tree_of_text (codes "[1, 002.5, 'a\\n\\u00e9'][0] in [null] ? !true && -1 <2 : size(event.x) - 1 - 2*3 || has(event.in.b)") ≡
    Some (choice (binary op.In (index (list (more (more (more none (number (pos 1000000000000000000))) (number (pos 2500000000000000000))) (text (97 ∷ 10 ∷ 195 ∷ 169 ∷ [])))) (number (pos 0))) (list (more none null)))
    (binary op.And (signed sign.Not (boolean true)) (binary op.Less (signed sign.Minus (number (pos 1000000000000000000))) (number (pos 2000000000000000000))))
    (binary op.Or (binary op.Minus (binary op.Minus (call function.Size (member (source Event) (codes "x"))) (number (pos 1000000000000000000))) (binary op.Times (number (pos 2000000000000000000)) (number (pos 3000000000000000000)))) (has (member (source Event) (codes "in")) (codes "b"))))
unfolding atom_of callee_of method_of is_in read_tokens tree_of_text tokens_of placed_tokens units_of multiple_of number_of fraction_of exponent_of lib.Utf8.encode
many = refl

ends : tree_of_text (codes "(event.a.startsWith(\"x\") )") ≡ Some (group (method method_name.StartsWith (member (source Event) (codes "a")) (text (codes "x"))))
unfolding atom_of callee_of method_of is_in read_tokens tree_of_text tokens_of placed_tokens
ends = refl

no1 : tree_of_text (codes "has((event.a))") ≡ None
unfolding atom_of callee_of method_of is_in read_tokens tree_of_text tokens_of placed_tokens
no1 = refl

no2 : tree_of_text (codes "1.") ≡ None
unfolding atom_of callee_of method_of is_in read_tokens tree_of_text tokens_of placed_tokens units_of multiple_of number_of fraction_of exponent_of lib.Utf8.encode
no2 = refl

deep32 : tree_of_text (replicate 32 33 ++ codes "true") ≡ tree_of_text (replicate 32 33 ++ codes " true")
unfolding atom_of callee_of method_of is_in read_tokens tree_of_text tokens_of placed_tokens
deep32 = refl

deep33 : tree_of_text (replicate 33 40 ++ codes "true" ++ replicate 33 41) ≡ None
unfolding atom_of callee_of method_of is_in read_tokens tree_of_text tokens_of placed_tokens
deep33 = refl
