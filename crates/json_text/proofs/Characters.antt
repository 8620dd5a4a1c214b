-- The patterns of a character, taken a byte at a time.
use Rattle.std.proofs.Common.{◌≡◌, ℕ, Bool, true, false, cond, ◌&&◌, ◌||◌, nat_le, List, [], ◌∷◌, ◌++◌, refl, sym, subst, append_assoc, append-nil, inl, inr, arith}
use Rattle.std.proofs.lemmas.Bool.Decides.{nat_tests}
use Rattle.json_text.proofs.Booleans.{both, and_left, and_right, either_of}
use Rattle.std.proofs.lemmas.Bool.{eqb-true}
use Rattle.std.specs.Prelude.{⊤, nat_lt, not, ◌==◌}
use Rattle.json_text.specs.Lexical.{Class, Pattern, in_class, matches, characters, Among, IsCharacter}
use Rattle.json_text.specs.Automaton.{left_after, has_ended}

-- ---- a pattern that some bytes have followed so far

pub record IsLeft (w : List ℕ) (p : Pattern) : Type 0 where
  pub done : Pattern
  pub known : Among characters (done ++ p)
  pub fits : matches done w ≡ true

abbrev pub AreLeft : List ℕ → List Pattern → Type 0
AreLeft w [] = ⊤
AreLeft w (p ∷ ps) = IsLeft w p × AreLeft w ps

matches-snoc : (p : Pattern) (w : List ℕ) (c : Class) (b : ℕ) → matches p w ≡ true → in_class c b ≡ true → matches (p ++ c ∷ []) (w ++ b ∷ []) ≡ true
matches-snoc [] [] c b h k = both k refl
matches-snoc [] (x ∷ xs) c b h k = cc
matches-snoc (d ∷ ds) [] c b h k = cc
matches-snoc (d ∷ ds) (x ∷ xs) c b h k =
    both (and_left (in_class d x) (matches ds xs) h) (matches-snoc ds xs c b (and_right (in_class d x) (matches ds xs) h) k)

left-on : (w : List ℕ) (c : Class) (cs : Pattern) (b : ℕ) → IsLeft w (c ∷ cs) → in_class c b ≡ true → IsLeft (w ++ b ∷ []) cs
left-on w c cs b h k = record {
  done = h.done ++ c ∷ [];
  known = subst (λ (p : Pattern). Among characters p) (sym (append_assoc h.done (c ∷ []) cs)) h.known;
  fits = matches-snoc h.done w c b h.fits k;
}

left-choice : (w : List ℕ) (c : Class) (cs : Pattern) (ps : List Pattern) (b : ℕ) → IsLeft w (c ∷ cs) → AreLeft (w ++ b ∷ []) (left_after b ps)
    → (v : Bool) → in_class c b ≡ v → AreLeft (w ++ b ∷ []) (cond v (cs ∷ left_after b ps) (left_after b ps))
left-choice w c cs ps b h rest true e = (left-on w c cs b h e, rest)
left-choice w c cs ps b h rest false e = rest

pub are-left-on : (w : List ℕ) (ps : List Pattern) (b : ℕ) → AreLeft w ps → AreLeft (w ++ b ∷ []) (left_after b ps)
are-left-on w [] b h = tt
are-left-on w ([] ∷ ps) b h = are-left-on w ps b h.1
are-left-on w ((c ∷ cs) ∷ ps) b h = left-choice w c cs ps b h.0 (are-left-on w ps b h.1) (in_class c b) refl

pub ended-is-character : (w : List ℕ) (ps : List Pattern) → AreLeft w ps → has_ended ps ≡ true → IsCharacter w
ended-is-character w [] h e = absurd (cc)
ended-is-character w ([] ∷ ps) h e = record { pattern = h.0.done; known = subst (λ (p : Pattern). Among characters p) (append-nil h.0.done) h.0.known; fits = h.0.fits }
ended-is-character w ((c ∷ cs) ∷ ps) h e = ended-is-character w ps h.1 e

all-left : (ps : List Pattern) → ((p : Pattern) → Among ps p → Among characters p) → AreLeft [] ps
all-left [] f = tt
all-left (p ∷ ps) f = (record { done = []; known = f p (inl refl); fits = refl }, all-left ps (λ q h. f q (inr h)))

pub start-left : AreLeft [] characters
start-left = all-left characters (λ p h. h)

-- ---- a pattern is followed to its end

abbrev disjoint_from : ℕ × ℕ → Class → Bool
disjoint_from r [] = true
disjoint_from r (s ∷ ss) = (nat_lt r.1 s.0 || nat_lt s.1 r.0) && disjoint_from r ss

abbrev disjoint : Class → Class → Bool
disjoint [] d = true
disjoint (r ∷ rs) d = disjoint_from r d && disjoint rs d

-- Bytes that begin both patterns end them together.
abbrev pub parted : Pattern → Pattern → Bool
parted [] [] = true
parted [] (d ∷ ds) = false
parted (c ∷ cs) [] = false
parted (c ∷ cs) (d ∷ ds) = disjoint c d || parted cs ds

abbrev pub parted_from : Pattern → List Pattern → Bool
parted_from p [] = true
parted_from p (q ∷ qs) = parted p q && parted_from p qs

abbrev all_parted : List Pattern → List Pattern → Bool
all_parted [] qs = true
all_parted (p ∷ ps) qs = parted_from p qs && all_parted ps qs

characters-parted : all_parted characters characters ≡ true
characters-parted = refl

each-parted : (ps qs : List Pattern) → all_parted ps qs ≡ true → (p : Pattern) → Among ps p → parted_from p qs ≡ true
each-parted [] qs e p h = absurd h
each-parted (q ∷ ps) qs e p (inl h) = subst (λ (x : Pattern). parted_from x qs ≡ true) (sym h) (and_left (parted_from q qs) (all_parted ps qs) e)
each-parted (q ∷ ps) qs e p (inr h) = each-parted ps qs (and_right (parted_from q qs) (all_parted ps qs) e) p h

pub is-parted : (p : Pattern) → Among characters p → parted_from p characters ≡ true
is-parted p h = each-parted characters characters characters-parted p h

apart : (r s : ℕ × ℕ) (b : ℕ) → (nat_lt r.1 s.0 || nat_lt s.1 r.0) ≡ true → (nat_le r.0 b && nat_le b r.1) ≡ true → (nat_le s.0 b && nat_le b s.1) ≡ true → ⊥
apart r s b e h k = grind (arith, nat_tests)

outside : (r : ℕ × ℕ) (d : Class) (b : ℕ) → disjoint_from r d ≡ true → (nat_le r.0 b && nat_le b r.1) ≡ true → in_class d b ≡ true → ⊥
outside r [] b e h k = cc
outside r (s ∷ ss) b e h k =
    elim (either_of (nat_le s.0 b && nat_le b s.1) (in_class ss b) k) [
      | inl m ↦ apart r s b (and_left (nat_lt r.1 s.0 || nat_lt s.1 r.0) (disjoint_from r ss) e) h m
      | inr m ↦ outside r ss b (and_right (nat_lt r.1 s.0 || nat_lt s.1 r.0) (disjoint_from r ss) e) h m
    ]

both-in : (c d : Class) (b : ℕ) → disjoint c d ≡ true → in_class c b ≡ true → in_class d b ≡ true → ⊥
both-in [] d b e h k = cc
both-in (r ∷ rs) d b e h k =
    elim (either_of (nat_le r.0 b && nat_le b r.1) (in_class rs b) h) [
      | inl m ↦ outside r d b (and_left (disjoint_from r d) (disjoint rs d) e) m k
      | inr m ↦ both-in rs d b (and_right (disjoint_from r d) (disjoint rs d) e) m k
    ]

parted-choice : (c : Class) (cs : Pattern) (d : Class) (ds : Pattern) (qs : List Pattern) (b : ℕ) → in_class c b ≡ true → (disjoint c d || parted cs ds) ≡ true → parted_from cs (left_after b qs) ≡ true
    → (v : Bool) → in_class d b ≡ v → parted_from cs (cond v (ds ∷ left_after b qs) (left_after b qs)) ≡ true
parted-choice c cs d ds qs b h e rest true k =
    elim (either_of (disjoint c d) (parted cs ds) e) [ inl m ↦ absurd (both-in c d b m h k) | inr m ↦ both m rest ]
parted-choice c cs d ds qs b h e rest false k = rest

pub parted-on : (c : Class) (cs : Pattern) (qs : List Pattern) (b : ℕ) → in_class c b ≡ true → parted_from (c ∷ cs) qs ≡ true → parted_from cs (left_after b qs) ≡ true
parted-on c cs [] b h e = refl
parted-on c cs ([] ∷ qs) b h e = absurd (cc)
parted-on c cs ((d ∷ ds) ∷ qs) b h e =
    parted-choice c cs d ds qs b h (and_left (disjoint c d || parted cs ds) (parted_from (c ∷ cs) qs) e)
    (parted-on c cs qs b h (and_right (disjoint c d || parted cs ds) (parted_from (c ∷ cs) qs) e)) (in_class d b) refl

among-choice : (p : Pattern) (ds : Pattern) (qs : List Pattern) (v : Bool) → Among qs p → Among (cond v (ds ∷ qs) qs) p
among-choice p ds qs true h = inr h
among-choice p ds qs false h = h

head-is : (c d : Class) (cs ds : Pattern) → c ∷ cs ≡ d ∷ ds → c ≡ d
head-is c d cs ds e = cc

tail-is : (c d : Class) (cs ds : Pattern) → c ∷ cs ≡ d ∷ ds → cs ≡ ds
tail-is c d cs ds e = cc

pub among-on : (c : Class) (cs : Pattern) (qs : List Pattern) (b : ℕ) → in_class c b ≡ true → Among qs (c ∷ cs) → Among (left_after b qs) cs
among-on c cs [] b h k = absurd k
among-on c cs ([] ∷ qs) b h (inl k) = absurd (cc)
among-on c cs ([] ∷ qs) b h (inr k) = among-on c cs qs b h k
among-on c cs ((d ∷ ds) ∷ qs) b h (inl k) = rw (subst (λ (x : Class). in_class x b ≡ true) (head-is c d cs ds k) h) (inl (tail-is c d cs ds k))
among-on c cs ((d ∷ ds) ∷ qs) b h (inr k) = among-choice cs ds (left_after b qs) (in_class d b) (among-on c cs qs b h k)

pub among-ended : (qs : List Pattern) → Among qs [] → has_ended qs ≡ true
among-ended [] k = absurd k
among-ended ([] ∷ qs) k = refl
among-ended ((d ∷ ds) ∷ qs) (inl k) = absurd (cc)
among-ended ((d ∷ ds) ∷ qs) (inr k) = among-ended qs k

pub not-ended : (c : Class) (cs : Pattern) (qs : List Pattern) → parted_from (c ∷ cs) qs ≡ true → has_ended qs ≡ false
not-ended c cs [] e = refl
not-ended c cs ([] ∷ qs) e = absurd (cc)
not-ended c cs ((d ∷ ds) ∷ qs) e = not-ended c cs qs (and_right (disjoint c d || parted cs ds) (parted_from (c ∷ cs) qs) e)

-- ---- what is left after some bytes

abbrev pub left_all : List ℕ → List Pattern → List Pattern
left_all [] ps = ps
left_all (b ∷ bs) ps = left_all bs (left_after b ps)

pub left-all-snoc : (w : List ℕ) (b : ℕ) (ps : List Pattern) → left_all (w ++ b ∷ []) ps ≡ left_after b (left_all w ps)
left-all-snoc [] b ps = refl
left-all-snoc (x ∷ xs) b ps = left-all-snoc xs b (left_after x ps)

pub parted-all : (done p : Pattern) (w : List ℕ) (qs : List Pattern) → parted_from (done ++ p) qs ≡ true → matches done w ≡ true → parted_from p (left_all w qs) ≡ true
parted-all [] p [] qs h k = h
parted-all [] p (x ∷ xs) qs h k = absurd (cc)
parted-all (c ∷ cs) p [] qs h k = absurd (cc)
parted-all (c ∷ cs) p (x ∷ xs) qs h k =
    parted-all cs p xs (left_after x qs) (parted-on c (cs ++ p) qs x (and_left (in_class c x) (matches cs xs) k) h) (and_right (in_class c x) (matches cs xs) k)

-- ---- some bytes that follow a pattern

abbrev least : Class → ℕ
least [] = 0
least (r ∷ rs) = r.0

abbrev pub least_bytes : Pattern → List ℕ
least_bytes [] = []
least_bytes (c ∷ cs) = least c ∷ least_bytes cs

abbrev all_inhabited : List Pattern → Bool
all_inhabited [] = true
all_inhabited (p ∷ ps) = matches p (least_bytes p) && all_inhabited ps

inhabited-among : (ps : List Pattern) (p : Pattern) → all_inhabited ps ≡ true → Among ps p → matches p (least_bytes p) ≡ true
inhabited-among [] p h k = absurd k
inhabited-among (q ∷ qs) p h (inl k) = subst (λ (x : Pattern). matches x (least_bytes x) ≡ true) (sym k) (and_left (matches q (least_bytes q)) (all_inhabited qs) h)
inhabited-among (q ∷ qs) p h (inr k) = inhabited-among qs p (and_right (matches q (least_bytes q)) (all_inhabited qs) h) k

inhabited-rest : (done p : Pattern) → matches (done ++ p) (least_bytes (done ++ p)) ≡ true → matches p (least_bytes p) ≡ true
inhabited-rest [] p h = h
inhabited-rest (c ∷ cs) p h = inhabited-rest cs p (and_right (in_class c (least c)) (matches (cs ++ p) (least_bytes (cs ++ p))) h)

pub left-inhabited : (w : List ℕ) (p : Pattern) → IsLeft w p → matches p (least_bytes p) ≡ true
left-inhabited w p h = inhabited-rest h.done p (inhabited-among characters (h.done ++ p) refl h.known)

pub left-parted : (w : List ℕ) (p : Pattern) → IsLeft w p → parted_from p (left_all w characters) ≡ true
left-parted w p h = parted-all h.done p w characters (is-parted (h.done ++ p) h.known) h.fits

-- ---- no character begins with a quotation mark

abbrev avoids : ℕ → List Pattern → Bool
avoids b [] = true
avoids b ([] ∷ ps) = false
avoids b ((c ∷ cs) ∷ ps) = not (in_class c b) && avoids b ps

not-true : (b : Bool) → not b ≡ true → b ≡ false
not-true true h = absurd (cc)
not-true false h = refl

avoids-among : (b : ℕ) (ps : List Pattern) (c : Class) (cs : Pattern) → avoids b ps ≡ true → Among ps (c ∷ cs) → in_class c b ≡ false
avoids-among b [] c cs h k = absurd k
avoids-among b ([] ∷ ps) c cs h k = absurd (cc)
avoids-among b ((d ∷ ds) ∷ ps) c cs h (inl k) = rw (head-is c d cs ds k) (not-true (in_class d b) (and_left (not (in_class d b)) (avoids b ps) h))
avoids-among b ((d ∷ ds) ∷ ps) c cs h (inr k) = avoids-among b ps c cs (and_right (not (in_class d b)) (avoids b ps) h) k

not-quote-at : (c : Class) (b : ℕ) (v : Bool) → (b == 0x22) ≡ v → in_class c b ≡ true → in_class c 0x22 ≡ false → v ≡ false
not-quote-at c b false e h k = refl
not-quote-at c b true e h k = let same : b ≡ 0x22 = eqb-true b 0x22 e in let m : in_class c 0x22 ≡ true = subst (λ (x : ℕ). in_class c x ≡ true) same h in absurd (cc)

pub not-quote : (c : Class) (cs : Pattern) (b : ℕ) → Among characters (c ∷ cs) → in_class c b ≡ true → (b == 0x22) ≡ false
not-quote c cs b k h = not-quote-at c b (b == 0x22) refl h (avoids-among 0x22 characters c cs refl k)

pub no-empty : Among characters [] → ⊥
no-empty k = let e : parted_from [] characters ≡ true = is-parted [] k in cc
