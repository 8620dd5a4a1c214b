-- The code's frames as the reader's.
use Rattle.std.specs.Prelude.{ℕ, ◌≡◌, List, [], ◌∷◌, Option, Some, None, Result, Ok, Err, ⊤}
use Rattle.cel_parse.specs.declared.frame.Frame.{Frame}
use Rattle.cel_parse.specs.declared.frame.Frame.TheVariants as code
use Rattle.cel_parse.specs.declared.frame.Stack.{Stack}
use Rattle.cel_parse.specs.declared.frame.Joined.{Joined}
use Rattle.cel_parse.specs.declared.frame.Joined.TheVariants as j
use Rattle.cel_parse.specs.declared.step.Place.{Place}
use Rattle.cel_parse.specs.declared.step.Place.TheVariants as place
use Rattle.cel_parse.specs.declared.step.Refusal.{Refusal}
use Rattle.cel_parse.specs.declared.step.Refusal.TheVariants as refusal
use Rattle.expr.specs.declared.term.Term.{Term}
use Rattle.expr.specs.Tree.{Tree}
use Rattle.expr.specs.Trees.{tree_of, trees_of}
use Rattle.expr.specs.Reading as r
use Rattle.expr.specs.Reading.{Held, held, State, want, enter, have, behind_dot, Step, goes, refused, too_deep, reduce}

abbrev pub frame_of : Frame → r.Frame
frame_of (code.Left o a) = r.left o (tree_of a)
frame_of (code.Prefix s) = r.prefix s
frame_of (code.Test c) = r.test (tree_of c)
frame_of (code.Either c a) = r.either (tree_of c) (tree_of a)
frame_of code.Round = r.round
frame_of (code.Square v) = r.square (trees_of v.items)
frame_of (code.Place a) = r.place (tree_of a)
frame_of code.Asked = r.asked
frame_of (code.Argument f) = r.argument f
frame_of (code.Behind m a) = r.behind m (tree_of a)

abbrev pub frames_on : List r.Frame → List Frame → List r.Frame
frames_on fs [] = fs
frames_on fs (x ∷ xs) = frames_on (frame_of x ∷ fs) xs

abbrev pub frames_of : List Frame → List r.Frame
frames_of xs = frames_on [] xs

-- what is open, the innermost first
abbrev pub open_in : Stack → List r.Frame
open_in s = frames_of s.frames.items

abbrev pub weight_of : Frame → ℕ
weight_of (code.Left o a) = 0
weight_of _ = 1

abbrev pub state_of : List r.Frame → Place → State
state_of fs place.Want = want fs
state_of fs (place.Enter f) = enter fs (frame_of f)
state_of fs (place.Have t) = have (held fs (tree_of t))
state_of fs (place.BehindDot t) = behind_dot (held fs (tree_of t))

-- a frame and a tree were put together, or they stay apart
abbrev pub goes_on : ℕ → List r.Frame → Joined → Held
goes_on least fs (j.Whole t) = reduce least fs (tree_of t)
goes_on least fs (j.Apart x t) = held (frame_of x ∷ fs) (tree_of t)

-- over these frames the answer is that of the step
abbrev pub Answers : List r.Frame → Step → Result Place Refusal → Type 0
Answers fs o (Ok s) = o ≡ goes (state_of fs s)
Answers fs o (Err refusal.Syntax) = o ≡ refused
Answers fs o (Err refusal.TooDeep) = o ≡ too_deep
Answers fs o (Err refusal.Memory) = ⊤

-- the frame lies on the frames, and an operand is to come
abbrev pub Lays : List r.Frame → Step → Result Frame Refusal → Type 0
Lays fs o (Ok x) = o ≡ goes (want (frame_of x ∷ fs))
Lays fs o (Err refusal.Syntax) = o ≡ refused
Lays fs o (Err refusal.TooDeep) = o ≡ too_deep
Lays fs o (Err refusal.Memory) = ⊤

abbrev pub Ends : Option Tree → Result Term Refusal → Type 0
Ends o (Ok t) = o ≡ Some (tree_of t)
Ends o (Err refusal.Syntax) = o ≡ None
Ends o (Err refusal.TooDeep) = ⊥
Ends o (Err refusal.Memory) = ⊤
