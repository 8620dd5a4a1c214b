-- A list as what was given of it and what is left.
use Rattle.std.proofs.Common.{◌≡◌, ℕ, ◌+◌, List, take, drop, ap, ap₂, sym, subst, Option, Some, None, Bool, false, if◌then◌else◌}
use Rattle.std.proofs.Math.Seq.{take-add}
use Rattle.std.proofs.lemmas.List.{drop-drop}
use Rattle.rig.specs.Faults.{one_more}
use Rattle.rig.specs.Flow.{Flow, IsFront, given_more}
use Rattle.rig.specs.MemorySource.{MemorySource, read_fails, read_count, after_read}

abbrev pub flow_at : ℕ → List ℕ → Flow
flow_at at bytes = record { given = take at bytes; left = drop at bytes }

pub given_more-flow_at : (n at : ℕ) (bytes : List ℕ) → given_more n (flow_at at bytes) ≡ flow_at (at + n) bytes
given_more-flow_at n at bytes =
    let flow : List ℕ → List ℕ → Flow = λ given left. record { given = given; left = left } in
    ap₂ flow (sym (take-add at n bytes)) (drop-drop n at bytes)

-- a read that isn't set to fail
pub after_read-given : (source : MemorySource) (room n : ℕ) → read_fails source ≡ false → n ≡ read_count source room → record source { reads = one_more source.reads; flow = given_more n source.flow } ≡ after_read source room
after_read-given source room n works is =
    let given : MemorySource = record source { reads = one_more source.reads; flow = given_more n source.flow } in
    let failed : MemorySource = record source { reads = one_more source.reads; faults = one_more source.faults } in
    let read : ℕ → MemorySource = λ count. record source { reads = one_more source.reads; flow = given_more count source.flow } in
    subst (λ (b : Bool). given ≡ (if b then failed else read (read_count source room))) (sym works) (ap read is)

-- what is told of a flow is told of each flow that it is
pub told_front : (n : ℕ) (buffer : List ℕ) (flow other : Flow) → IsFront n buffer flow → Some flow ≡ Some other → IsFront n buffer other
told_front n buffer flow other h is = subst (λ (o : Option Flow). of_flow o) is h
  where
    of_flow : Option Flow → Type 0
    of_flow None = IsFront n buffer flow
    of_flow (Some f) = IsFront n buffer f
