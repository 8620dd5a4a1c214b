-- Texts that are said in parts, and the faults that are counted.
use Rattle.std.proofs.Common.{◌≡◌, ℕ, ◌⊎◌, List, [], ◌++◌, Result, Ok, Err, inl, inr, ap, ◌∙◌, sym, subst, refl, codes, decimal}
use Rattle.rig.specs.Faults.{one_more}
use Rattle.rig.specs.Written.{Outgoing, FailsWriting, PutsOut, after_write}
use Rattle.rig.proofs.WrittenLemmas.{fails-more, write-fails, write-nothing, write-write}
use Rattle.replay_core.specs.Script.{CountsWrites as CountsRun}
use Rattle.replay_core.specs.declared.end.ReplayEnd.{ReplayEnd}
use Rattle.replay_core.specs.declared.end.ReplayEnd.TheVariants as end
use Rattle.top.specs.LastLine.{last_line, script_fault}
use Rattle.top.specs.Outcome.{CountsOne, CountsWrites, Says, status_of}

pub puts-says : {T E : Type 0} (text : List ℕ) (result : Result T E) (old new : Outgoing) → PutsOut text result old new → Says text old new
puts-says text (Ok x) old new h = inl h
puts-says text (Err e) old new h = inr h

-- a part that was said whole, and then another
puts-then : {T E : Type 0} (a b : List ℕ) (result : Result T E) (old mid new : Outgoing) → mid ≡ after_write a old → PutsOut b result mid new → PutsOut (a ++ b) result old new
puts-then a b (Ok x) old mid new h k = k ∙ ap (after_write b) h ∙ write-write old a b
puts-then a b (Err e) old mid new h k = write-fails a b old mid new h k

pub nothing-said : (sink : Outgoing) → sink ≡ after_write [] sink
nothing-said sink = sym (write-nothing sink)

pub fault-first : (line : ℕ) (w0 w1 : Outgoing) → FailsWriting (codes "script fault in line ") w0 w1 → FailsWriting (script_fault line) w0 w1
unfolding script_fault
fault-first line w0 w1 h = fails-more (codes "script fault in line ") (decimal line ++ codes "\n") w0 w1 h

pub fault-number : (line : ℕ) (number : List ℕ) (w0 w1 w2 : Outgoing) → number ≡ decimal line → w1 ≡ after_write (codes "script fault in line ") w0 → FailsWriting number w1 w2 → FailsWriting (script_fault line) w0 w2
unfolding script_fault
fault-number line number w0 w1 w2 is h k =
    write-fails (codes "script fault in line ") (decimal line ++ codes "\n") w0 w1 w2 h
    (fails-more (decimal line) (codes "\n") w1 w2 (subst (λ (t : List ℕ). FailsWriting t w1 w2) is k))

pub fault-last : {T E : Type 0} (line : ℕ) (number : List ℕ) (result : Result T E) (w0 w1 w2 w3 : Outgoing) → number ≡ decimal line → w1 ≡ after_write (codes "script fault in line ") w0 → w2 ≡ after_write number w1 → PutsOut (codes "\n") result w2 w3 → PutsOut (script_fault line) result w0 w3
unfolding script_fault
fault-last line number result w0 w1 w2 w3 is h k last =
    puts-then (codes "script fault in line ") (decimal line ++ codes "\n") result w0 w1 w3 h
    (puts-then (decimal line) (codes "\n") result w1 w2 w3 (k ∙ ap (λ (t : List ℕ). after_write t w1) is) last)

-- ## Counts

-- a text was said, whole or not
pub says-counts : (text : List ℕ) (old new : Outgoing) → Says text old new → CountsOne old.faults new.faults
says-counts text old new (inl h) = inl (ap (λ (o : Outgoing). o.faults) h)
says-counts text old new (inr h) = inr (ap (λ (o : Outgoing). o.faults) h.1)

-- no write failed before
one-after : (old mid new : ℕ) → mid ≡ old → CountsOne mid new → CountsOne old new
one-after old mid new is h = subst (λ (n : ℕ). CountsOne n new) is h

two-after : (old mid new : ℕ) → mid ≡ one_more old → CountsOne mid new → CountsOne old new ⊎ (new ≡ one_more (one_more old))
two-after old mid new is (inl h) = inl (inr (h ∙ is))
two-after old mid new is (inr h) = inr (h ∙ ap one_more is)

-- what a run counts whose last line says nothing but where it says one
pub run-counts : (e : ReplayEnd) (old : ℕ) (mid new : Outgoing) → CountsRun e old mid.faults → Says (last_line e) mid new → (e ≡ end.Done → new ≡ mid) → (e ≡ end.WriteFault → new ≡ mid) → CountsWrites (status_of e) old new.faults
run-counts end.Done old mid new (inl h) says done failed = ap (λ (o : Outgoing). o.faults) (done refl) ∙ h
run-counts end.Done old mid new (inr (is, h)) says done failed = cc
run-counts (end.Script line) old mid new (inl h) says done failed = one-after old mid.faults new.faults h (says-counts _ mid new says)
run-counts (end.Script line) old mid new (inr (is, h)) says done failed = cc
run-counts end.ReadFault old mid new (inl h) says done failed = one-after old mid.faults new.faults h (says-counts _ mid new says)
run-counts end.ReadFault old mid new (inr (is, h)) says done failed = cc
run-counts end.WriteFault old mid new (inl h) says done failed = ap (λ (o : Outgoing). o.faults) (failed refl) ∙ h
run-counts end.WriteFault old mid new (inr (is, h)) says done failed = cc
run-counts end.NumbersSpent old mid new (inl h) says done failed = one-after old mid.faults new.faults h (says-counts _ mid new says)
run-counts end.NumbersSpent old mid new (inr (is, h)) says done failed = cc
run-counts end.Memory old mid new (inl h) says done failed = inl (one-after old mid.faults new.faults h (says-counts _ mid new says))
run-counts end.Memory old mid new (inr (is, h)) says done failed = two-after old mid.faults new.faults h (says-counts _ mid new says)
