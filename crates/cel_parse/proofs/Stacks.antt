-- A frame at the end is the one on top.
use Rattle.std.proofs.Common.{◌≡◌, ℕ, ◌+◌, ◌<◌, ◌≤◌, suc, zero, map, List, [], ◌∷◌, ◌++◌, refl, sym, ◌∙◌, ap, arith, length, Option, Some, None, MatchOption, option_to_list, take, get_or, slice_get, Bool, true, false, ◌-◌, ◌==◌}
use Rattle.std.proofs.lemmas.List.{take_more, map-append}
use Rattle.std.proofs.lemmas.Bool.Decides.{Decides-eqb}
use Rattle.std.proofs.lemmas.Option.{slice_get-get_or}
use Rattle.std.specs.Prelude.{Vec, vec_len, Err}
use Rattle.std.specs.Global.{Global}
use Rattle.expr.specs.declared.term.Term.{Term}
use Rattle.expr.specs.Tree.{Tree, list, Trees, none, more}
use Rattle.expr.specs.Trees.{more_all, tree_of, trees_of}
use Rattle.expr.specs.Reading.{Frame as Layer, square, opens, is_asked, Step, goes, refused, have, held, close_empty, next_item, other_branch}
use Rattle.cel_parse.specs.Frames.{frame_of, frames_on, frames_of, weight_of, Answers, Lays}
use Rattle.cel_parse.specs.declared.frame.Frame.{Frame}
use Rattle.cel_parse.specs.declared.frame.Frame.TheVariants as code
use Rattle.cel_parse.specs.declared.step.Refusal.{Refusal}
use Rattle.cel_parse.specs.declared.step.Refusal.TheVariants as refusal

frames-on-end : (fs : List Layer) (xs : List Frame) (x : Frame) → frames_on fs (xs ++ x ∷ []) ≡ frame_of x ∷ frames_on fs xs
frames-on-end fs [] x = refl
frames-on-end fs (y ∷ ys) x = frames-on-end (frame_of y ∷ fs) ys x

pub frames-end : (xs : List Frame) (x : Frame) → frames_of (xs ++ x ∷ []) ≡ frame_of x ∷ frames_of xs
frames-end xs x = frames-on-end [] xs x

nil : {X : Type 0} (xs : List X) → length xs ≡ 0 → xs ≡ []
nil [] h = refl
nil (x ∷ xs) h = absurd (omega (arith, h))

abbrev Popped : List Frame → List Frame → Option Frame → Type 0
Popped xs ys o = MatchOption o ((length xs ≡ 0) × (length ys ≡ 0)) (λ x. length ys + 1 ≡ length xs)

pub pop-top : (xs ys : List Frame) (o : Option Frame) → xs ≡ ys ++ option_to_list o → Popped xs ys o → MatchOption o ((frames_of xs ≡ []) × (frames_of ys ≡ [])) (λ x. frames_of xs ≡ frame_of x ∷ frames_of ys)
pop-top xs ys None e c = (ap frames_of (nil xs c.0), ap frames_of (nil ys c.1))
pop-top xs ys (Some x) e c = ap frames_of e ∙ frames-end ys x

pub pop-fewer : (xs ys : List Frame) (o : Option Frame) → xs ≡ ys ++ option_to_list o → Popped xs ys o → MatchOption o (length (frames_of ys) ≡ 0) (λ x. length (frames_of ys) < length (frames_of xs))
pop-fewer xs ys None e c = ap (λ (zs : List Frame). length (frames_of zs)) (nil ys c.1)
pop-fewer xs ys (Some x) e c = let same : length (frames_of xs) ≡ length (frames_of ys) + 1 = ap length (ap frames_of e ∙ frames-end ys x) ∙ (omega arith) in omega (arith, same)

pub popped : (s t : Vec Frame Global) (o : Option Frame) → MatchOption o ((vec_len s ≡ 0) × (vec_len t ≡ 0)) (λ _. vec_len t + 1 ≡ vec_len s) → Popped s.items t.items o
popped s t None c = (sym s.ok.0 ∙ c.0, sym t.ok.0 ∙ c.1)
popped s t (Some x) c = let a = s.ok.0 in let b = t.ok.0 in omega (arith, a, b, c)

-- a refusal of the frame is one of the step
pub lays-fault : (fs gs : List Layer) (o : Step) (f : Refusal) → Lays fs o (Err f) → Answers gs o (Err f)
lays-fault fs gs o refusal.Syntax h = h
lays-fault fs gs o refusal.TooDeep h = h
lays-fault fs gs o refusal.Memory h = tt

pub opens-on : (f : Frame) (fs : List Layer) → opens (frame_of f ∷ fs) ≡ opens fs + weight_of f
opens-on (code.Left o a) fs = omega arith
opens-on (code.Prefix s) fs = omega arith
opens-on (code.Test c) fs = omega arith
opens-on (code.Either c a) fs = omega arith
opens-on code.Round fs = omega arith
opens-on (code.Square v) fs = omega arith
opens-on (code.Place a) fs = omega arith
opens-on code.Asked fs = omega arith
opens-on (code.Argument f) fs = omega arith
opens-on (code.Behind m a) fs = omega arith

-- ---- how many are open, frame by frame

pub depth-step : (xs : List Frame) (i n w : ℕ) (d : Frame) → i < length xs → n ≡ opens (frames_of (take i xs)) → w ≡ weight_of (get_or xs i d) → n + w ≡ opens (frames_of (take (i + 1) xs))
depth-step xs i n w d l e k = let h : opens (frames_of (take (i + 1) xs)) ≡ opens (frames_of (take i xs)) + weight_of (get_or xs i d) = ap (λ (ys : List Frame). opens (frames_of ys)) (take_more xs i d l) ∙ ap opens (frames-end (take i xs) (get_or xs i d)) ∙ opens-on (get_or xs i d) (frames_of (take i xs)) in omega (arith, e, k, h)

pub weight-low : (f : Frame) → weight_of f ≤ 1
weight-low (code.Left o a) = omega arith
weight-low (code.Prefix s) = omega arith
weight-low (code.Test c) = omega arith
weight-low (code.Either c a) = omega arith
weight-low code.Round = omega arith
weight-low (code.Square v) = omega arith
weight-low (code.Place a) = omega arith
weight-low code.Asked = omega arith
weight-low (code.Argument f) = omega arith
weight-low (code.Behind m a) = omega arith

-- ---- whether `has (` is on top

asks-top : (f : Frame) (fs : List Layer) → is_asked (frame_of f ∷ fs) ≡ is_asked (frame_of f ∷ [])
asks-top (code.Left o a) fs = refl
asks-top (code.Prefix s) fs = refl
asks-top (code.Test c) fs = refl
asks-top (code.Either c a) fs = refl
asks-top code.Round fs = refl
asks-top (code.Square v) fs = refl
asks-top (code.Place a) fs = refl
asks-top code.Asked fs = refl
asks-top (code.Argument f) fs = refl
asks-top (code.Behind m a) fs = refl

last-asks : (fs : List Layer) (x : Frame) (xs : List Frame) (f : Frame) → slice_get (x ∷ xs) (length xs) ≡ Some f → is_asked (frames_on fs (x ∷ xs)) ≡ is_asked (frame_of f ∷ [])
last-asks fs x [] f e = let same : x ≡ f = cc in asks-top x fs ∙ ap (λ (y : Frame). is_asked (frame_of y ∷ [])) same
last-asks fs x (y ∷ ys) f e = last-asks (frame_of x ∷ fs) y ys f e

pub top-asks : (xs : List Frame) (f : Frame) → slice_get xs (length xs - 1) ≡ Some f → is_asked (frames_of xs) ≡ is_asked (frame_of f ∷ [])
top-asks [] f e = absurd (cc)
top-asks (x ∷ xs) f e = last-asks [] x xs f (let k : length (x ∷ xs) - 1 ≡ length xs = omega arith in sym (ap (slice_get (x ∷ xs)) k) ∙ e)

pub none-asks : (xs : List Frame) → slice_get xs (length xs - 1) ≡ None → is_asked (frames_of xs) ≡ false
none-asks [] e = refl
none-asks (x ∷ xs) e = let k : length (x ∷ xs) - 1 < length (x ∷ xs) = omega arith in let g : slice_get (x ∷ xs) (length (x ∷ xs) - 1) ≡ Some (get_or (x ∷ xs) (length (x ∷ xs) - 1) x) = slice_get-get_or (x ∷ xs) (length (x ∷ xs) - 1) x k in absurd (cc)

-- ---- frames that a token doesn't close

pub no-list : (f : Frame) (fs : List Layer) → ((v : Vec Term Global) → f ≡ code.Square v → ⊥) → close_empty (frame_of f ∷ fs) ≡ refused
no-list (code.Left o a) fs h = refl
no-list (code.Prefix s) fs h = refl
no-list (code.Test c) fs h = refl
no-list (code.Either c a) fs h = refl
no-list code.Round fs h = refl
no-list (code.Square v) fs h = absurd (h v refl)
no-list (code.Place a) fs h = refl
no-list code.Asked fs h = refl
no-list (code.Argument f) fs h = refl
no-list (code.Behind m a) fs h = refl

pub no-item : (f : Frame) (t : Tree) (fs : List Layer) → ((v : Vec Term Global) → f ≡ code.Square v → ⊥) → next_item (frame_of f ∷ fs) t ≡ refused
no-item (code.Left o a) t fs h = refl
no-item (code.Prefix s) t fs h = refl
no-item (code.Test c) t fs h = refl
no-item (code.Either c a) t fs h = refl
no-item code.Round t fs h = refl
no-item (code.Square v) t fs h = absurd (h v refl)
no-item (code.Place a) t fs h = refl
no-item code.Asked t fs h = refl
no-item (code.Argument f) t fs h = refl
no-item (code.Behind m a) t fs h = refl

pub no-test : (f : Frame) (t : Tree) (fs : List Layer) → ((c : Term) → f ≡ code.Test c → ⊥) → other_branch (frame_of f ∷ fs) t ≡ refused
no-test (code.Left o a) t fs h = refl
no-test (code.Prefix s) t fs h = refl
no-test (code.Test c) t fs h = absurd (h c refl)
no-test (code.Either c a) t fs h = refl
no-test code.Round t fs h = refl
no-test (code.Square v) t fs h = refl
no-test (code.Place a) t fs h = refl
no-test code.Asked t fs h = refl
no-test (code.Argument f) t fs h = refl
no-test (code.Behind m a) t fs h = refl

-- ---- lists of terms

more-one : (ts : Trees) (t : Tree) (xs : List Tree) (fs : List Layer) → close_empty (square (more_all (more ts t) xs) ∷ fs) ≡ refused
more-one ts t [] fs = refl
more-one ts t (x ∷ xs) fs = more-one (more ts t) x xs fs

pub full-refused : (xs : List Term) (fs : List Layer) → (length xs ≡ 0 → ⊥) → close_empty (square (trees_of xs) ∷ fs) ≡ refused
full-refused [] fs h = absurd (h refl)
full-refused (x ∷ xs) fs h = more-one none (tree_of x) (map tree_of xs) fs

pub empty-closes : (xs : List Term) (fs : List Layer) → length xs ≡ 0 → close_empty (square (trees_of xs) ∷ fs) ≡ goes (have (held fs (list (trees_of xs))))
empty-closes [] fs h = refl
empty-closes (x ∷ xs) fs h = absurd (omega (arith, h))

pub is-zero : (n : ℕ) (b : Bool) → b ≡ (n == 0) → b ≡ true → n ≡ 0
is-zero n b e h = (Decides-eqb n 0).0 (sym e ∙ h)

pub not-zero : (n : ℕ) (b : Bool) → b ≡ (n == 0) → b ≡ false → n ≡ 0 → ⊥
not-zero zero b e h k = let no : false ≡ true = sym h ∙ e in cc
not-zero (suc m) b e h k = omega (arith, k)

more-end : (ts : Trees) (xs : List Tree) (x : Tree) → more_all ts (xs ++ x ∷ []) ≡ more (more_all ts xs) x
more-end ts [] x = refl
more-end ts (y ∷ ys) x = more-end (more ts y) ys x

pub trees-end : (xs : List Term) (x : Term) → trees_of (xs ++ x ∷ []) ≡ more (trees_of xs) (tree_of x)
trees-end xs x = ap (more_all none) (map-append tree_of xs (x ∷ [])) ∙ more-end none (map tree_of xs) (tree_of x)
