-- Writes in a row.
use Rattle.std.proofs.Common.{◌≡◌, ℕ, ◌+◌, List, [], ◌++◌, length, take, Option, Some, None, inl, inr, refl, ap, ◌∙◌, sym, append_assoc, append-nil, arith}
use Rattle.std.specs.Option.{option_map}
use Rattle.std.proofs.lemmas.Bool.{cases_lt}
use Rattle.std.proofs.lemmas.List.{take-append-le, take_all}
use Rattle.std.proofs.Math.Seq.{take-append-add, take-append_seam}
use Rattle.rig.specs.Written.{Outgoing, after_write, after_failed_write, WritesPrefix, FailsWriting}

more_none : (old : Option (List ℕ)) → option_map (λ written. written ++ []) old ≡ old
more_none None = refl
more_none (Some w) = ap Some (append-nil w)

more_more : (old : Option (List ℕ)) (a b : List ℕ) → option_map (λ written. written ++ b) (option_map (λ written. written ++ a) old) ≡ option_map (λ written. written ++ (a ++ b)) old
more_more None a b = refl
more_more (Some w) a b = ap Some (append_assoc w a b)

-- nothing was written
pub write-nothing : (sink : Outgoing) → after_write [] sink ≡ sink
write-nothing sink = ap (λ w. record sink { written = w }) (more_none sink.written)

-- one text and then another
pub write-write : (sink : Outgoing) (a b : List ℕ) → after_write b (after_write a sink) ≡ after_write (a ++ b) sink
write-write sink a b = ap (λ w. record sink { written = w }) (more_more sink.written a b)

pub write-failed_write : (sink : Outgoing) (a b : List ℕ) → after_failed_write b (after_write a sink) ≡ after_failed_write (a ++ b) sink
write-failed_write sink a b = ap (λ w. record (after_failed_write [] sink) { written = w }) (more_more sink.written a b)

-- a prefix of a text is one of what goes on with it
pub take-more : (n : ℕ) (a b : List ℕ) → (m : ℕ) × (take m (a ++ b) ≡ take n a)
take-more n a b = elim (cases_lt n (length a)) as (λ _. (m : ℕ) × (take m (a ++ b) ≡ take n a)) [
  | inl h ↦ (n, take-append-le n a b (omega arith))
  | inr h ↦ (length a, take-append_seam a b ∙ sym (take_all n a h))
]

pub prefix-all : (text : List ℕ) (old new : Outgoing) → new ≡ after_write text old → WritesPrefix text old new
prefix-all text old new is = (length text, is ∙ ap (λ t. after_write t old) (sym (take_all (length text) text (omega arith))))

pub prefix-more : (a b : List ℕ) (old new : Outgoing) → WritesPrefix a old new → WritesPrefix (a ++ b) old new
prefix-more a b old new h = let more = take-more h.0 a b in (more.0, h.1 ∙ ap (λ t. after_write t old) (sym more.1))

pub fails-more : (a b : List ℕ) (old new : Outgoing) → FailsWriting a old new → FailsWriting (a ++ b) old new
fails-more a b old new h = let more = take-more h.0 a b in (more.0, h.1 ∙ ap (λ t. after_failed_write t old) (sym more.1))

pub write-fails : (a b : List ℕ) (old mid new : Outgoing) → mid ≡ after_write a old → FailsWriting b mid new → FailsWriting (a ++ b) old new
write-fails a b old mid new is h =
    (length a + h.0, h.1 ∙ ap (after_failed_write (take h.0 b)) is ∙ write-failed_write old a (take h.0 b) ∙ ap (λ t. after_failed_write t old) (sym (take-append-add a b h.0)))
