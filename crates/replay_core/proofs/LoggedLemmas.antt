-- One line over a journal, and the last line of a script.
use Rattle.std.proofs.Common.{◌≡◌, ℕ, ◌<◌, ◌⊎◌, inl, inr, Bool, true, false, List, [], ◌∷◌, ◌++◌, length, Ok, Err, refl, ap, ◌∙◌, sym, subst, append_assoc, append-nil, arith}
use Rattle.rig.specs.MemoryRig.{MemoryRig}
use Rattle.run_model.specs.State.{State}
use Rattle.journal_core.specs.Records.{StandsFor}
use Rattle.replay_core.specs.Accepted.{accepted_line, accepted_lines, is_accepted, line_where}
use Rattle.replay_core.specs.Line.{read_line}
use Rattle.replay_core.specs.Log.{FinishesLog, IsLogging, Logs, StandsForEither, StopsLog, payloads_in}
use Rattle.replay_core.specs.Pieces.{last_line}
use Rattle.replay_core.specs.Replay.{Outcome, Finished, Progress, end_line, finish, line_read, on_line, on_lines, passes_limits}
use Rattle.replay_core.specs.Run.{Finishes, RunsAs, Says, transcript_of}
use Rattle.replay_core.specs.declared.end.LineFault.{LineFault}
use Rattle.replay_core.specs.declared.end.LineFault.TheVariants as fault
use Rattle.replay_core.specs.declared.logged.Logged.{Logged}
use Rattle.replay_core.proofs.AcceptedLemmas.{accepted-one}
use Rattle.replay_core.proofs.LogLemmas.{logging-stands, logs-stands}
use Rattle.replay_core.proofs.ReplayLemmas.{on_lines-one}

-- ## One line

-- an accepted line has a text
pub accepted-some : (state : State) (text : List ℕ) → true ≡ is_accepted state (read_line text) → 0 < length text
unfolding read_line
accepted-some state [] is = cc
accepted-some state (byte ∷ bytes) is = omega arith

-- what a line within the limits adds
pub accepted-is : (progress : Progress) (line : List ℕ) (accepted : Bool) → passes_limits progress.room line ≡ false → accepted ≡ is_accepted progress.state (line_read line) → line_where accepted line ≡ accepted_line progress line
unfolding accepted_line
accepted-is progress line accepted within is = rw (within, is) refl

pub runs-says : (outcome : Outcome) (said : List ℕ) (e : LineFault) → RunsAs outcome (Err e) → Says outcome said said (Err e)
runs-says outcome said (fault.Outside line) h = (h, refl)
runs-says outcome said fault.Spent h = (h, refl)
runs-says outcome said fault.Memory h = refl

-- a line at which the run broke off before the journal was touched
pub runs-stops : (progress : Progress) (line : List ℕ) (size : ℕ) (rig : MemoryRig) (e : LineFault) → passes_limits progress.room line ≡ false → IsLogging size rig → (e ≡ fault.Memory) ⊎ (is_accepted progress.state (line_read line) ≡ false) → StopsLog (accepted_line progress line) rig rig e
runs-stops progress line size rig (fault.Outside n) fits log (inl is) = cc
runs-stops progress line size rig (fault.Outside n) fits log (inr none) = (sym (accepted-is progress line false fits (sym none)), refl)
runs-stops progress line size rig fault.Spent fits log (inl is) = cc
runs-stops progress line size rig fault.Spent fits log (inr none) = (sym (accepted-is progress line false fits (sym none)), refl)
runs-stops progress line size rig fault.Memory fits log h = inl (logging-stands size rig log)

-- a line that isn't accepted changes nothing
pub logs-nothing : (size : ℕ) (rig : MemoryRig) (line : List ℕ) (accepted : Bool) → accepted ≡ false → IsLogging size rig → Logs (payloads_in rig) (line_where accepted line) size rig
logs-nothing size rig line accepted is log = rw is (record { logging = log; payloads = sym (append-nil (payloads_in rig)) })

pub logs-either : (before added : List (List ℕ)) (size : ℕ) (rig : MemoryRig) → Logs before added size rig → StandsForEither before added rig.a.bytes
logs-either before added size rig log = inr (logs-stands before added size rig log)

-- ## The last line

finish-empty : (progress : Progress) (last : List ℕ) → last ≡ [] → finish (on_lines progress (last_line last)) ≡ transcript_of (end_line progress.state) Finished
unfolding on_lines
finish-empty progress last is = rw is refl

pub last-one : (progress : Progress) (last : List ℕ) → 0 < length last → on_lines progress (last_line last) ≡ on_line progress last
last-one progress [] some = absurd (omega (arith, some))
last-one progress (byte ∷ bytes) some = on_lines-one progress (byte ∷ bytes)

accepted-last : (progress : Progress) (last : List ℕ) → 0 < length last → accepted_lines progress (last_line last) ≡ accepted_line progress last
accepted-last progress [] some = absurd (omega (arith, some))
accepted-last progress (byte ∷ bytes) some = accepted-one progress (byte ∷ bytes)

accepted-empty : (progress : Progress) (last : List ℕ) → last ≡ [] → accepted_lines progress (last_line last) ≡ []
unfolding accepted_lines
accepted-empty progress last is = rw is refl

pub empty-finishes : (progress : Progress) (last old new : List ℕ) (done : Unit {0}) → last ≡ [] → new ≡ old ++ end_line progress.state → Finishes (finish (on_lines progress (last_line last))) old new (Ok done)
empty-finishes progress last old new done is h = rw (finish-empty progress last is) (refl, h)

-- nothing was said for want of memory
pub nothing-finishes : (progress : Progress) (last old new : List ℕ) → new ≡ old → Finishes (finish (on_lines progress (last_line last))) old new (Err fault.Memory)
nothing-finishes progress last old new same = ([], (finish (on_lines progress (last_line last))).text, refl, same ∙ sym (append-nil old))

pub line-finishes : (progress : Progress) (next : Logged) (last old mid new : List ℕ) (done : Unit {0}) → 0 < length last → Says (on_line progress last) old mid (Ok next) → new ≡ mid ++ end_line next.progress.state → Finishes (finish (on_lines progress (last_line last))) old new (Ok done)
line-finishes progress next last old mid new done some (text, goes, more) h =
    rw (last-one progress last some, goes) (refl, h ∙ ap (λ (t : List ℕ). t ++ end_line next.progress.state) more ∙ append_assoc old text (end_line next.progress.state))

pub line-nothing : (progress : Progress) (next : Logged) (last old mid new : List ℕ) → 0 < length last → Says (on_line progress last) old mid (Ok next) → new ≡ mid → Finishes (finish (on_lines progress (last_line last))) old new (Err fault.Memory)
line-nothing progress next last old mid new some (text, goes, more) same =
    rw (last-one progress last some, goes) (text, end_line next.progress.state, refl, same ∙ more)

pub line-stops : (progress : Progress) (last old new : List ℕ) (e : LineFault) → 0 < length last → Says (on_line progress last) old new (Err e) → Finishes (finish (on_lines progress (last_line last))) old new (Err e)
line-stops progress last old new (fault.Outside line) some (is, same) = rw (last-one progress last some, is) (refl, same)
line-stops progress last old new fault.Spent some (is, same) = rw (last-one progress last some, is) (refl, same)
line-stops progress last old new fault.Memory some same = nothing-finishes progress last old new same

-- ## The journal behind the last line

pub empty-log : (progress : Progress) (last old new : List ℕ) (size : ℕ) (rig : MemoryRig) (done : Unit {0}) → last ≡ [] → IsLogging size rig → FinishesLog (accepted_lines progress (last_line last)) rig rig old new (Ok done)
empty-log progress last old new size rig done is log = (rw (accepted-empty progress last is, append-nil) (logging-stands size rig log), log.ready.kept)

pub nothing-log : (added : List (List ℕ)) (old new : List ℕ) (size : ℕ) (rig : MemoryRig) → IsLogging size rig → new ≡ old → FinishesLog added rig rig old new (Err fault.Memory)
nothing-log added old new size rig log same = inl (same, logging-stands size rig log)

line-stands : (progress : Progress) (last : List ℕ) (size : ℕ) (rig rig2 : MemoryRig) → 0 < length last → Logs (payloads_in rig) (accepted_line progress last) size rig2 → StandsFor (payloads_in rig ++ accepted_lines progress (last_line last)) rig2.a.bytes
line-stands progress last size rig rig2 some log =
    subst (λ (added : List (List ℕ)). StandsFor (payloads_in rig ++ added) rig2.a.bytes) (sym (accepted-last progress last some)) (logs-stands (payloads_in rig) (accepted_line progress last) size rig2 log)

pub line-log : (progress : Progress) (last old new : List ℕ) (size : ℕ) (rig rig2 : MemoryRig) (done : Unit {0}) → 0 < length last → Logs (payloads_in rig) (accepted_line progress last) size rig2 → FinishesLog (accepted_lines progress (last_line last)) rig rig2 old new (Ok done)
line-log progress last old new size rig rig2 done some log = (line-stands progress last size rig rig2 some log, log.logging.ready.kept)

pub line-log-nothing : (progress : Progress) (last old new : List ℕ) (size : ℕ) (rig rig2 : MemoryRig) → 0 < length last → Logs (payloads_in rig) (accepted_line progress last) size rig2 → FinishesLog (accepted_lines progress (last_line last)) rig rig2 old new (Err fault.Memory)
line-log-nothing progress last old new size rig rig2 some log = inr (line-stands progress last size rig rig2 some log)

pub line-log-stops : (progress : Progress) (last old new : List ℕ) (rig rig2 : MemoryRig) (e : LineFault) → 0 < length last → Says (on_line progress last) old new (Err e) → StopsLog (accepted_line progress last) rig rig2 e → FinishesLog (accepted_lines progress (last_line last)) rig rig2 old new (Err e)
line-log-stops progress last old new rig rig2 (fault.Outside line) some said (none, same) = (accepted-last progress last some ∙ none, same)
line-log-stops progress last old new rig rig2 fault.Spent some said (none, same) = (accepted-last progress last some ∙ none, same)
line-log-stops progress last old new rig rig2 fault.Memory some said (inl stands) = inl (said, stands)
line-log-stops progress last old new rig rig2 fault.Memory some said (inr stands) =
    inr (subst (λ (added : List (List ℕ)). StandsFor (payloads_in rig ++ added) rig2.a.bytes) (sym (accepted-last progress last some)) stands)
