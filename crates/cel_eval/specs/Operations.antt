-- What each operation makes of the values of its parts.
use Rattle.std.specs.Prelude.{ℕ, zero, suc, ◌+◌, ◌-◌, ◌*◌, ◌/◌, ◌%◌, ◌^◌, ◌==◌, ◌&&◌, ◌||◌, not, nat_lt, nat_le, nat_eq, Bool, true, false, if◌then◌else◌, List, [], ◌∷◌, ◌++◌, length, filter, codes, ℤ, pos, ◌+ℤ◌, ◌-ℤ◌, ◌*ℤ◌, neg_ℤ, int_div, int_rem, int_lt, int_le, unsigned_abs, Option, Some, None, is_some, Result, Ok, Err, bytes_eq, slice_get}
use Rattle.std.specs.Cmp.Lexicographic.{slice_cmp}
use Rattle.std.specs.Ordering.{nat_cmp, is_lt, is_le}
use Rattle.std.specs.List.{starts_with, ends_with}
use Rattle.json_text.specs.Grammar.{Json}
use Rattle.json_text.specs.Nodes.{len_of, item_of, items_of}
use Rattle.json_text.specs.Text.{member_of}
use Rattle.text_num.specs.Units.{units_text}
use Rattle.expr.specs.declared.term.Operator.{Operator}
use Rattle.expr.specs.declared.term.Operator.TheVariants as operator
use Rattle.expr.specs.declared.term.Sign.{Sign}
use Rattle.expr.specs.declared.term.Sign.TheVariants as sign
use Rattle.expr.specs.declared.term.Function.{Function}
use Rattle.expr.specs.declared.term.Function.TheVariants as function
use Rattle.expr.specs.declared.term.Method.{Method}
use Rattle.expr.specs.declared.term.Method.TheVariants as method
use Rattle.cel_eval.specs.Data.{Datum, null, boolean, number, text, list, object, written, Data, none, more, Outcome, in_units, as_number, of_json, of_found}
use Rattle.cel_eval.specs.Equality.{fits, same_bool, equal, is_among, is_among_parts}
use Rattle.cel_eval.specs.declared.fault.EvalFault.{EvalFault}
use Rattle.cel_eval.specs.declared.fault.EvalFault.TheVariants as fault

-- ---- the value of each kind

abbrev pub number_in : Datum → Option ℤ
number_in (number n) = Some n
number_in _ = None

abbrev pub text_in : Datum → Option (List ℕ)
text_in (text t) = Some t
text_in _ = None

abbrev pub object_in : Datum → Option Json
object_in (object j) = Some j
object_in _ = None

-- what is made of two values of one kind, and else the other
abbrev pub of_two : {A : Type 0} → Option A → Option A → (A → A → Outcome) → Outcome → Outcome
of_two (Some a) (Some b) f other = f a b
of_two _ _ f other = other

-- ---- members and items

-- `a.f`: the last member of the name
abbrev pub member : Datum → List ℕ → Outcome
member (object j) name = of_found (member_of j name)
member _ name = Err fault.BadType

-- the units of one
abbrev pub one : ℕ
one = 10 ^ 18

abbrev pub is_whole : ℤ → Bool
is_whole n = unsigned_abs n % one == 0

-- one of the values that the expression writes out
abbrev pub written_item : Data → ℕ → Option Datum
written_item none k = None
written_item (more d ds) zero = Some d
written_item (more d ds) (suc k) = written_item ds k

abbrev pub found : Option Datum → Outcome
found None = Err fault.NoField
found (Some d) = Ok d

-- an item of a list, by a number that isn't negative
abbrev pub item : Datum → ℕ → Outcome
item (list j) k = of_found (slice_get (items_of j) k)
item (written ds) k = found (written_item ds k)
item _ k = Err fault.BadType

abbrev pub is_list : Datum → Bool
is_list (list j) = true
is_list (written ds) = true
is_list _ = false

-- a number in brackets behind a list counts its items from 0
abbrev pub item_at : Datum → ℤ → Outcome
item_at d n =
    if not (is_list d && is_whole n) then Err fault.BadType
    else if int_lt n (pos 0) then Err fault.NoField
    else item d (unsigned_abs n / one)

-- `a[b]`
abbrev pub index : Datum → Datum → Outcome
index d (number n) = item_at d n
index d (text name) = member d name
index d _ = Err fault.BadType

-- `has(a.f)`
abbrev pub has : Datum → List ℕ → Outcome
has (object j) name = Ok (boolean (is_some (member_of j name)))
has _ name = Err fault.BadType

-- ---- one value

abbrev pub signed : Sign → Datum → Outcome
signed sign.Not (boolean b) = Ok (boolean (not b))
signed sign.Minus (number n) = Ok (number (neg_ℤ n))
signed _ _ = Err fault.BadType

-- a byte of UTF-8 that begins a character
abbrev pub begins_character : ℕ → Bool
begins_character b = nat_lt b 0x80 || nat_le 0xc0 b

abbrev pub characters : List ℕ → ℕ
characters t = length (filter begins_character t)

abbrev pub count : Data → ℕ
count none = 0
count (more d ds) = 1 + count ds

abbrev pub whole : ℕ → Outcome
whole n = as_number (in_units (pos (n * one)))

-- characters, items or members as written
abbrev pub size : Datum → Outcome
size (text t) = whole (characters t)
size (list j) = whole (len_of j)
size (object j) = whole (len_of j)
size (written ds) = whole (count ds)
size _ = Err fault.BadType

abbrev pub bool_text : Bool → List ℕ
bool_text true = codes "true"
bool_text false = codes "false"

abbrev pub string : Datum → Outcome
string (text t) = Ok (text t)
string (number n) = Ok (text (units_text n))
string (boolean b) = Ok (text (bool_text b))
string _ = Err fault.BadType

abbrev pub call : Function → Datum → Outcome
call function.Size d = size d
call function.String d = string d

-- ---- two numbers

-- `*`, `/` and `%` take whole numbers
abbrev pub both_whole : ℤ → ℤ → Result ℤ EvalFault → Result ℤ EvalFault
both_whole m n units = if is_whole m && is_whole n then units else Err fault.BadType

abbrev pub unless_zero : ℤ → Result ℤ EvalFault → Result ℤ EvalFault
unless_zero n units = if unsigned_abs n == 0 then Err fault.ZeroDivisor else units

abbrev pub sum : ℤ → ℤ → Result ℤ EvalFault
sum m n = in_units (m +ℤ n)

abbrev pub difference : ℤ → ℤ → Result ℤ EvalFault
difference m n = in_units (m -ℤ n)

abbrev pub product : ℤ → ℤ → Result ℤ EvalFault
product m n = both_whole m n (in_units (int_div m (pos one) *ℤ n))

-- rounded to zero
abbrev pub quotient : ℤ → ℤ → Result ℤ EvalFault
quotient m n = both_whole m n (unless_zero n (in_units (int_div m n *ℤ pos one)))

-- with the sign of the first
abbrev pub remainder : ℤ → ℤ → Result ℤ EvalFault
remainder m n = both_whole m n (unless_zero n (in_units (int_rem m n)))

abbrev pub calculate : (ℤ → ℤ → Result ℤ EvalFault) → Datum → Datum → Outcome
calculate f d e = of_two (number_in d) (number_in e) (λ m n. as_number (f m n)) (Err fault.BadType)

-- ---- two texts

abbrev pub in_room : List ℕ → Outcome
in_room t = if nat_le (length t) 65536 then Ok (text t) else Err fault.Range

-- two numbers, or two texts
abbrev pub plus : Datum → Datum → Outcome
plus d e =
    of_two (number_in d) (number_in e) (λ m n. as_number (sum m n))
    (of_two (text_in d) (text_in e) (λ s t. in_room (s ++ t)) (Err fault.BadType))

-- whether the second stands somewhere in the first
abbrev pub stands_in : List ℕ → List ℕ → Bool
stands_in [] part = starts_with nat_eq [] part
stands_in (b ∷ bs) part = starts_with nat_eq (b ∷ bs) part || stands_in bs part

abbrev pub test_texts : Method → List ℕ → List ℕ → Bool
test_texts method.StartsWith s t = starts_with nat_eq s t
test_texts method.EndsWith s t = ends_with nat_eq s t
test_texts method.Contains s t = stands_in s t

abbrev pub text_method : Method → Datum → Datum → Outcome
text_method m d e =
    of_two (text_in d) (text_in e) (λ s t. Ok (boolean (test_texts m s t))) (Err fault.BadType)

-- ---- order and equality

abbrev pub text_lt : List ℕ → List ℕ → Bool
text_lt s t = is_lt (slice_cmp nat_cmp s t)

abbrev pub text_le : List ℕ → List ℕ → Bool
text_le s t = is_le (slice_cmp nat_cmp s t)

-- two numbers, or two texts by their bytes
abbrev pub ordered : (ℤ → ℤ → Bool) → (List ℕ → List ℕ → Bool) → Datum → Datum → Outcome
ordered f g d e =
    of_two (number_in d) (number_in e) (λ m n. Ok (boolean (f m n)))
    (of_two (text_in d) (text_in e) (λ s t. Ok (boolean (g s t))) (Err fault.BadType))

abbrev pub less : Datum → Datum → Outcome
less = ordered int_lt text_lt

abbrev pub less_or_equal : Datum → Datum → Outcome
less_or_equal = ordered int_le text_le

-- of two lists or two objects all numbers must be in range
abbrev pub if_fit : Datum → Datum → Bool → Outcome
if_fit d e result = if fits d && fits e then Ok (boolean result) else Err fault.Range

abbrev pub is_object : Datum → Bool
is_object (object j) = true
is_object _ = false

abbrev pub are_nested : Datum → Datum → Bool
are_nested d e = (is_list d && is_list e) || (is_object d && is_object e)

-- whether they are equal or not is as `wanted`
abbrev pub compare_equal : Bool → Datum → Datum → Outcome
compare_equal wanted d e =
    if are_nested d e then if_fit d e (same_bool wanted (equal d e))
    else Ok (boolean (same_bool wanted (equal d e)))

-- the name of a member
abbrev pub named : Option (List ℕ) → Json → Outcome
named None j = Err fault.BadType
named (Some name) j = Ok (boolean (is_some (member_of j name)))

-- an item of a list, or the name of a member
abbrev pub among : Datum → Datum → Outcome
among d (list j) = if_fit d (list j) (is_among_parts d (items_of j))
among d (written ds) = if_fit d (written ds) (is_among d ds)
among d (object j) = named (text_in d) j
among d _ = Err fault.BadType

-- ---- `&&` and `||`

abbrev pub truth_of : Datum → Result Bool EvalFault
truth_of (boolean b) = Ok b
truth_of _ = Err fault.BadType

abbrev pub truth : Outcome → Result Bool EvalFault
truth (Ok d) = truth_of d
truth (Err e) = Err e

-- One of the two decides, true for `||` and false for `&&`, whatever the other is. Else the left fault
-- counts, and then the right.
abbrev pub join : Bool → Result Bool EvalFault → Result Bool EvalFault → Outcome
join true (Ok true) right = Ok (boolean true)
join true left (Ok true) = Ok (boolean true)
join false (Ok false) right = Ok (boolean false)
join false left (Ok false) = Ok (boolean false)
join decides (Err e) right = Err e
join decides (Ok b) (Err e) = Err e
join decides (Ok b) (Ok c) = Ok (boolean (not decides))

-- ---- operators over two values

abbrev pub operate : Operator → Datum → Datum → Outcome
operate operator.Or d e = join true (truth_of d) (truth_of e)
operate operator.And d e = join false (truth_of d) (truth_of e)
operate operator.Less d e = less d e
operate operator.LessOrEqual d e = less_or_equal d e
operate operator.Greater d e = less e d
operate operator.GreaterOrEqual d e = less_or_equal e d
operate operator.Equal d e = compare_equal true d e
operate operator.NotEqual d e = compare_equal false d e
operate operator.In d e = among d e
operate operator.Plus d e = plus d e
operate operator.Minus d e = calculate difference d e
operate operator.Times d e = calculate product d e
operate operator.Divide d e = calculate quotient d e
operate operator.Remainder d e = calculate remainder d e
