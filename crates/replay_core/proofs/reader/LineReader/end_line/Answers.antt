use Rattle.std.proofs.Common.{◌≡◌, ◌∙◌, ◌+◌, ◌++◌, ◌<◌, ◌≤◌, ◌==◌, List, ℕ, None, Some, ap, arith, length, refl, subst, sym}
use Rattle.std.specs.List.{position, slice_range}
use Rattle.replay_core.specs.Pieces.{IsUnended, line_feed}
use Rattle.replay_core.specs.Reading.{Ahead}
use Rattle.replay_core.proofs.ReaderLemmas.{fewer-unread, found-within, front-taken, is-ended, is-unended, moved-ended, none-unread}
use Rattle.replay_core.proofs.reader.LineReader.end_line.Goals as goal

pub returns-in_ok-extend_from_slice-in-Some-clause-moved : goal.returns-in_ok-extend_from_slice-in-Some-clause-moved
returns-in_ok-extend_from_slice-in-Some-clause-moved c =
    let fields = c.self.inside in
    let items = fields.buffer.items in
    let fits : fields.end ≤ length items = omega (arith, c.self.invariant.1, fields.buffer.ok) in
    let within = found-within items c.deref.result.now fields.start fields.end c.in-Some.place c.deref.ensures.value c.self.invariant.0 fits (sym c.in-Some.ensures) in
    let taken = front-taken fields.line c.extend_from_slice.new.self items c.deref.result.now fields.start fields.end (c.in-Some.place + 1) c.deref.ensures.value c.in_ok-extend_from_slice-in-Some.ensures.ok in
    moved-ended fields.line c.extend_from_slice.new.self items _ fields.start fields.end (c.in-Some.place + 1) within taken refl
    ∙ ap (λ (a : Ahead). a.line ++ a.unread) c.self.view_is

pub returns-in_ok-extend_from_slice-in-Some-clause-ended : goal.returns-in_ok-extend_from_slice-in-Some-clause-ended
returns-in_ok-extend_from_slice-in-Some-clause-ended c =
    let fields = c.self.inside in
    let items = fields.buffer.items in
    let fits : fields.end ≤ length items = omega (arith, c.self.invariant.1, fields.buffer.ok) in
    let within = found-within items c.deref.result.now fields.start fields.end c.in-Some.place c.deref.ensures.value c.self.invariant.0 fits (sym c.in-Some.ensures) in
    let taken = front-taken fields.line c.extend_from_slice.new.self items c.deref.result.now fields.start fields.end (c.in-Some.place + 1) c.deref.ensures.value c.in_ok-extend_from_slice-in-Some.ensures.ok in
    let found = subst (λ (xs : List ℕ). position (λ byte. byte == line_feed) (slice_range xs fields.start fields.end) ≡ Some c.in-Some.place) c.deref.ensures.value (sym c.in-Some.ensures) in
    let unended = subst IsUnended (sym (ap (λ (a : Ahead). a.line) c.self.view_is)) c.requires in
    let fewer = fewer-unread items fields.start fields.end (c.in-Some.place + 1) within (omega arith) fits in (
      is-ended fields.line c.extend_from_slice.new.self (slice_range items fields.start fields.end) c.in-Some.place unended found taken,
      subst (λ (u : List ℕ). length (slice_range items (fields.start + (c.in-Some.place + 1)) fields.end) < length u) (ap (λ (a : Ahead). a.unread) c.self.view_is) fewer,
    )

pub returns-in_ok-extend_from_slice-in-None-clause-ended : goal.returns-in_ok-extend_from_slice-in-None-clause-ended
returns-in_ok-extend_from_slice-in-None-clause-ended c =
    let fields = c.self.inside in
    let items = fields.buffer.items in
    let found = subst (λ (xs : List ℕ). position (λ byte. byte == line_feed) (slice_range xs fields.start fields.end) ≡ None) c.deref.ensures.value (sym c.in-None.ensures) in
    let taken = c.in_ok-extend_from_slice-in-None.ensures.ok ∙ ap (λ (xs : List ℕ). fields.line ++ slice_range xs fields.start fields.end) c.deref.ensures.value in
    let unended = subst IsUnended (sym (ap (λ (a : Ahead). a.line) c.self.view_is)) c.requires in
    (is-unended fields.line c.extend_from_slice-in-None.new.self (slice_range items fields.start fields.end) unended found taken, none-unread items fields.end)
