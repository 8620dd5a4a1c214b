use Rattle.std.proofs.Common.{arith, ◌≡◌, ◌+◌, ◌==◌, ℕ, List, length, take, drop, min, Some, false, sym, ap, ap₂, ◌∙◌, subst}
use Rattle.std.specs.List.{list_any}
use Rattle.std.proofs.lemmas.List.{nil_from_length}
use Rattle.rig.specs.Flow.{Flow, IsFront, HasGiven}
use Rattle.rig.specs.MemorySource.{MemorySource, incoming_of, read_fails, read_count, after_read}
use Rattle.rig.proofs.Pieces.{flow_at, given_more-flow_at, after_read-given, told_front}
use Rattle.rig.proofs.memory_source.MemSourceSource.read.Goals as goal

pub returns-clause-read : goal.returns-clause-read
returns-clause-read c =
    let at = c.self.inside.at in
    let bytes = c.self.inside.bytes in
    let n = c.copy_front-count.result in
    let buffer = c.copy_front-count.new.buffer in
    let left : c.split_at.result.1.now ≡ drop at bytes = c.split_at.ensures.back ∙ ap (drop at) c.as_slice-2.ensures in
    let count : length c.split_at.result.1.now ≡ length (drop at bytes) = ap length left in
    let is = c.copy_front-count.ensures in
    let room : length buffer ≡ length c.args.buf.now = c.copy_front-count.auto.buffer in
    let front : IsFront n buffer (flow_at at bytes) = record {
      within = omega arith;
      front = is.front ∙ ap (take n) left;
      some = λ has_room none. nil_from_length (drop at bytes) (omega arith);
    } in
    subst (λ (s : MemorySource). HasGiven n buffer (incoming_of s) (record { flow = Some (flow_at (at + n) bytes); faults = c.self.inside.faults })) c.self.view_is
    (record {
      fits = omega arith;
      moved = ap (λ (f : Flow). record { flow = Some f; faults = c.self.inside.faults }) (sym (given_more-flow_at n at bytes));
      told = λ flow is. told_front n buffer (flow_at at bytes) flow front is;
    })

pub returns-clause-left : goal.returns-clause-left
returns-clause-left c =
    let at = c.self.inside.at in
    let bytes = c.self.inside.bytes in
    let n = c.copy_front-count.result in
    let source : MemorySource = record {
      flow = flow_at at bytes;
      piece = c.self.inside.piece;
      failing = c.self.inside.failing;
      reads = c.self.inside.reads;
      faults = c.self.inside.faults;
    } in
    let any : ℕ → List ℕ → _ = λ number list. list_any (λ m. m == number) list in
    let works : read_fails source ≡ false =
    ap₂ any (sym c.next_count-self-inside.ensures) (sym c.as_slice.ensures) ∙ (sym c.contains.ensures.value ∙ c.if-contains.false) in
    let left : c.split_at.result.1.now ≡ drop at bytes = c.split_at.ensures.back ∙ ap (drop at) c.as_slice-2.ensures in
    let count : n ≡ read_count source (length c.args.buf.now) =
    c.copy_front-count.ensures.count ∙ ap (λ (l : List ℕ). min (min (length l) (length c.args.buf.now)) c.self.inside.piece) left in
    let flow : Flow = flow_at (at + n) bytes in
    let made : Flow → ℕ → MemorySource = λ f reads. record source { flow = f; reads = reads } in
    ap₂ made (sym (given_more-flow_at n at bytes)) c.next_count-self-inside.ensures
    ∙ (after_read-given source (length c.args.buf.now) n works count
    ∙ ap (λ (s : MemorySource). after_read s (length c.args.buf.now)) c.self.view_is)
