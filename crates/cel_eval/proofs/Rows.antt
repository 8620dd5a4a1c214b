-- The definition on examples, from the text of an expression on.
use Rattle.std.proofs.Common.{◌≡◌, ◌*◌, ◌^◌, ℕ, true, false, List, [], ◌∷◌, ◌++◌, pos, neg_ℤ, map, None, Some, Ok, Err, codes, refl}
use Rattle.json_text.specs.Grammar as json
use Rattle.json_text.specs.Grammar.{Json}
use Rattle.json_text.specs.Text.{text_from}
use Rattle.text_num.specs.Digits.{fraction_of}
use Rattle.text_num.specs.JsonNumber.{exponent_of, number_of}
use Rattle.text_num.specs.Units.{multiple_of, units_of}
use Rattle.expr.specs.Reading.{atom_of, is_in, method_of, callee_of, read_tokens, tree_of_text}
use Rattle.expr.specs.Tokens.{placed_tokens, tokens_of}
use Rattle.cel_eval.specs.Data.{Outcome, null, boolean, number, text, over}
use Rattle.cel_eval.specs.Table.{worth_of}
use Rattle.cel_eval.specs.declared.fault.EvalFault.TheVariants as fault

abbrev word : List ℕ → Json
word s = json.text (0x22 ∷ s ++ 0x22 ∷ [])

-- `{"u":n}`
abbrev user : List ℕ → Json
user n = json.object [] (json.part (word (codes "u")) (json.part (json.number n) json.no_parts))

-- `{"name":"x","data":{"u":1}}`
abbrev event : Json
event = json.object [] (json.part (word (codes "name")) (json.part (word (codes "x")) (json.part (word (codes "data")) (json.part (user (codes "1")) json.no_parts))))

abbrev on : List ℕ → Outcome
on w = worth_of w (over event None)

-- with a fresh event beside it
abbrev beside : List ℕ → Outcome
beside w = worth_of w (over event (Some (json.object [] (json.part (word (codes "data")) (json.part (user (codes "1e0")) json.no_parts)))))

abbrev units : ℕ → Outcome
units n = Ok (number (pos (n * 10 ^ 18)))

abbrev yes : Outcome
yes = Ok (boolean true)

abbrev no : Outcome
no = Ok (boolean false)

row-sum : on (codes "0.1 + 0.2 == 0.3") ≡ yes
unfolding fraction_of exponent_of number_of multiple_of units_of atom_of is_in method_of callee_of read_tokens tree_of_text placed_tokens tokens_of worth_of
row-sum = refl

row-arithmetic : map on (codes "7 / 2" ∷ codes "1.5 * 2" ∷ codes "1 / 0" ∷ codes "1.5 / 0" ∷ codes "99999999999999999999 + 1" ∷ [])
    ≡ units 3 ∷ Err fault.BadType ∷ Err fault.ZeroDivisor ∷ Err fault.BadType ∷ Err fault.Range ∷ []
unfolding fraction_of exponent_of number_of multiple_of units_of atom_of is_in method_of callee_of read_tokens tree_of_text placed_tokens tokens_of worth_of
row-arithmetic = refl

row-remainder : on (codes "-7 % 2") ≡ Ok (number (neg_ℤ (pos (10 ^ 18))))
unfolding fraction_of exponent_of number_of multiple_of units_of atom_of is_in method_of callee_of read_tokens tree_of_text placed_tokens tokens_of worth_of
row-remainder = refl

row-members : map on (codes "event.data.z == 1 || true" ∷ codes "event.data.z" ∷ codes "has(event.data.z)" ∷ codes "event.data.u" ∷ codes "event['data']['u']" ∷ codes "event.name.u" ∷ codes "async.data" ∷ [])
    ≡ yes ∷ Err fault.NoField ∷ no ∷ units 1 ∷ units 1 ∷ Err fault.BadType ∷ Err fault.NoField ∷ []
unfolding text_from fraction_of exponent_of number_of multiple_of units_of atom_of is_in method_of callee_of read_tokens tree_of_text placed_tokens tokens_of worth_of
row-members = refl

row-texts : map on ((codes "size('" ++ 0xc3 ∷ 0xa9 ∷ [] ++ codes "')") ∷ codes "'1' == 1" ∷ codes "'abc'.contains('bc')" ∷ codes "'abc'.startsWith('bc')" ∷ codes "'a' < 'b'" ∷ codes "size(event)" ∷ [])
    ≡ units 1 ∷ no ∷ yes ∷ no ∷ yes ∷ units 2 ∷ []
unfolding text_from fraction_of exponent_of number_of multiple_of units_of atom_of is_in method_of callee_of read_tokens tree_of_text placed_tokens tokens_of worth_of
row-texts = refl

row-conditions : map on (codes "false && 1" ∷ codes "1 && false" ∷ codes "true && 1" ∷ codes "event.z && 1 / 0 == 1" ∷ codes "1 ? 2 : 3" ∷ codes "true ? 1 : event.z" ∷ codes "!1" ∷ [])
    ≡ no ∷ no ∷ Err fault.BadType ∷ Err fault.NoField ∷ Err fault.BadType ∷ units 1 ∷ Err fault.BadType ∷ []
unfolding text_from fraction_of exponent_of number_of multiple_of units_of atom_of is_in method_of callee_of read_tokens tree_of_text placed_tokens tokens_of worth_of
row-conditions = refl

row-lists : map on (codes "[1, 2][1]" ∷ codes "[1][1]" ∷ codes "[1][0.5]" ∷ codes "2 in [1, 2]" ∷ codes "'u' in event.data" ∷ codes "1 in event.data" ∷ codes "[1, 'a'] == [1, 'a']" ∷ codes "null == false" ∷ [])
    ≡ units 2 ∷ Err fault.NoField ∷ Err fault.BadType ∷ yes ∷ yes ∷ Err fault.BadType ∷ yes ∷ no ∷ []
unfolding text_from fraction_of exponent_of number_of multiple_of units_of atom_of is_in method_of callee_of read_tokens tree_of_text placed_tokens tokens_of worth_of
row-lists = refl

row-both : beside (codes "async.data.u == event.data.u") ≡ yes
unfolding text_from fraction_of exponent_of number_of multiple_of units_of atom_of is_in method_of callee_of read_tokens tree_of_text placed_tokens tokens_of worth_of
row-both = refl
