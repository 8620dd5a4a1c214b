-- The pieces of a query, one after the other.
use Rattle.std.proofs.Common.{◌≡◌, ℕ, ◌+◌, ◌<◌, ◌==◌, Bool, true, false, cond, List, [], ◌∷◌, ◌++◌, Some, None, Option, length, map, refl, ap, ◌∙◌, sym, append_assoc, arith, take, drop, get_or, suc, zero, codes}
use Rattle.std.specs.List.{join_with_byte, filter}
use Rattle.sdk_call.specs.Query.{until, in_front, cut_at, pieces, pieces_left, is_kept, ended, behind_first}

-- how far it is from a place on
pub until-on : (byte i : ℕ) (xs : List ℕ) (d : ℕ) → i < length xs → until byte (drop i xs) ≡ cond (get_or xs i d == byte) 0 (suc (until byte (drop (i + 1) xs)))
until-on byte i [] d h = grind arith
until-on byte zero (x ∷ xs) d h = refl
until-on byte (suc i) (x ∷ xs) d h = let e : suc i + 1 ≡ suc (i + 1) = omega arith in rw e (until-on byte i xs d (omega (arith, h)))

abbrev pub left_at : ℕ → Option (List ℕ) → List (List ℕ)
left_at byte None = []
left_at byte (Some rest) = cut_at byte rest

cut-here : (byte : ℕ) (text : List ℕ) → cut_at byte text ≡ take (until byte text) text ∷ left_at byte (behind_first (drop (until byte text) text))
cut-here byte [] = refl
cut-here byte (x ∷ xs) = by_test (x == byte) (cut-here byte xs)
  where
    by_test : (b : Bool) → cut_at byte xs ≡ take (until byte xs) xs ∷ left_at byte (behind_first (drop (until byte xs) xs))
        → cond b ([] ∷ cut_at byte xs) (in_front x (cut_at byte xs))
        ≡ take (cond b 0 (suc (until byte xs))) (x ∷ xs) ∷ left_at byte (behind_first (drop (cond b 0 (suc (until byte xs))) (x ∷ xs)))
    by_test true more = refl
    by_test false more = ap (in_front x) more

left-same : (o : Option (List ℕ)) → left_at 38 o ≡ pieces_left o
left-same None = refl
left-same (Some rest) = refl

-- one piece, and the rest
pub piece-on : (old new rest : List ℕ) → new ≡ cond (is_kept (take (until 38 rest) rest)) ((old ++ take (until 38 rest) rest) ++ 38 ∷ []) old
    → new ++ ended (filter is_kept (pieces_left (behind_first (drop (until 38 rest) rest)))) ≡ old ++ ended (filter is_kept (cut_at 38 rest))
piece-on old new rest h =
    ap (λ text. text ++ ended (filter is_kept (pieces_left (behind_first (drop (until 38 rest) rest))))) h
    ∙ by_test (is_kept (take (until 38 rest) rest)) (take (until 38 rest) rest) (filter is_kept (pieces_left (behind_first (drop (until 38 rest) rest))))
    ∙ ap (λ ps. old ++ ended (filter is_kept ps)) (sym (cut-here 38 rest ∙ ap (λ ps. take (until 38 rest) rest ∷ ps) (left-same (behind_first (drop (until 38 rest) rest)))))
  where
    by_test : (b : Bool) (piece : List ℕ) (more : List (List ℕ)) → cond b ((old ++ piece) ++ 38 ∷ []) old ++ ended more ≡ old ++ ended (cond b (piece ∷ more) more)
    by_test true piece more = simp append_assoc
    by_test false piece more = refl

pub pieces-first : (x : ℕ) (xs : List ℕ) → pieces (x ∷ xs) ≡ cut_at 38 (x ∷ xs)
pieces-first x xs = refl

pub two-more : (kept : List (List ℕ)) (a b : List ℕ) → join_with_byte 38 (kept ++ a ∷ b ∷ []) ≡ ended kept ++ a ++ 38 ∷ b
two-more [] a b = refl
two-more (k ∷ []) a b = simp append_assoc
two-more (k ∷ l ∷ kept) a b = ap (λ text. k ++ 38 ∷ text) (two-more (l ∷ kept) a b) ∙ simp append_assoc

pub query-joined : (kept : List (List ℕ)) (old id target new : List ℕ) → new ≡ ((((old ++ ended kept) ++ codes "fnId=") ++ id) ++ codes "&stepId=") ++ target
    → new ≡ old ++ join_with_byte 38 (kept ++ (codes "fnId=" ++ id) ∷ (codes "stepId=" ++ target) ∷ [])
query-joined kept old id target new h = h ∙ (simp append_assoc) ∙ ap (λ text. old ++ text) (sym (two-more kept (codes "fnId=" ++ id) (codes "stepId=" ++ target)))

-- the first such byte is here, or further on
pub until-here : (byte i : ℕ) (xs : List ℕ) (d : ℕ) → i < length xs → until byte xs ≡ i + until byte (drop i xs) → (get_or xs i d == byte) ≡ true → i ≡ until byte xs
until-here byte i xs d h p t = let e = p ∙ ap (λ n. i + n) (until-on byte i xs d h ∙ ap (λ b. cond b 0 (suc (until byte (drop (i + 1) xs)))) t) in omega (arith, e)

pub until-later : (byte i : ℕ) (xs : List ℕ) (d : ℕ) → i < length xs → until byte xs ≡ i + until byte (drop i xs) → (get_or xs i d == byte) ≡ false → until byte xs ≡ (i + 1) + until byte (drop (i + 1) xs)
until-later byte i xs d h p t = let e = p ∙ ap (λ n. i + n) (until-on byte i xs d h ∙ ap (λ b. cond b 0 (suc (until byte (drop (i + 1) xs)))) t) in omega (arith, e)

pub until-none : (byte : ℕ) (xs : List ℕ) → until byte xs ≡ length xs + until byte (drop (length xs) xs) → length xs ≡ until byte xs
until-none byte xs p = let e = p ∙ ap (λ r. length xs + until byte r) (drop-all xs) in omega (arith, e)
  where
    drop-all : (xs : List ℕ) → drop (length xs) xs ≡ []
    drop-all [] = refl
    drop-all (x ∷ xs) = drop-all xs
