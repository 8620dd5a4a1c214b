-- What file A holds when the run of a script ends.
use Rattle.std.proofs.Common.{◌≡◌, ℕ, ◌<◌, ◌⊎◌, inl, inr, List, [], ◌∷◌, ◌++◌, length, take, Some, Ok, Err, refl, ap, ◌∙◌, sym, subst, append_assoc, append-nil}
use Rattle.std.proofs.Math.Seq.{take-append_seam}
use Rattle.journal_core.specs.Records.{StandsFor}
use Rattle.rig.specs.Flow.{Flow, Incoming}
use Rattle.rig.specs.MemoryRig.{MemoryRig}
use Rattle.rig.specs.Written.{Outgoing, FailsWriting, after_write}
use Rattle.rig.proofs.WrittenLemmas.{write-nothing}
use Rattle.replay_core.specs.Accepted.{accepted_line, accepted_lines}
use Rattle.replay_core.specs.Ends.{end_of, unwritten}
use Rattle.replay_core.specs.Log.{FinishesLog, GathersSome, HasLogged, Holds, HoldsOf, IsCutOff, IsCutShort, IsOnDisk, StopsLog, payloads_in}
use Rattle.replay_core.specs.Pieces.{IsEnded, IsUnended, Lines, all_lines, last_line, lines_of}
use Rattle.replay_core.specs.Reading.{Ahead}
use Rattle.replay_core.specs.Replay.{Outcome, Goes, Stops, Ending, Outside, Spent, Progress, after_text, finish, on_line, on_lines, start, text_of}
use Rattle.replay_core.specs.Run.{Finishes, Says}
use Rattle.replay_core.specs.Script.{Gathers, HasRun, PutsPrefix, Replays}
use Rattle.replay_core.specs.declared.end.LineFault.{LineFault}
use Rattle.replay_core.specs.declared.end.LineFault.TheVariants as fault
use Rattle.replay_core.specs.declared.end.ReplayEnd.{ReplayEnd}
use Rattle.replay_core.specs.declared.form.Form.{Form}
use Rattle.replay_core.specs.declared.end.ReplayEnd.TheVariants.{Done, Script, ReadFault, WriteFault, NumbersSpent, Memory}
use Rattle.replay_core.specs.declared.end.RunFault.TheVariants.{Line}
use Rattle.replay_core.specs.declared.logged.Logged.{Logged}
use Rattle.replay_core.proofs.AcceptedLemmas.{accepted-goes, accepted-one}
use Rattle.replay_core.proofs.LogLemmas.{logs-stands}
use Rattle.replay_core.proofs.PiecesLemmas.{all-whole, ended-lines}
use Rattle.replay_core.proofs.ReplayLemmas.{adds-none, on_lines-goes, on_lines-one, text-after}
use Rattle.replay_core.proofs.RunLemmas.{IsAtEnd, IsRunning, failed-replays, failed-written, gathers-failed, prefix-failed, prefix-written, run-finish-fault, silent-some, told-left}

-- ## Lines in which a run was cut off

-- behind the first lines
cut-behind : (form : Form) (P : List ℕ → Type 0) (front back : List (List ℕ)) (outcome : Outcome) (file : List ℕ) → on_lines (start form) front ≡ outcome → StandsFor (accepted_lines (start form) front) file → P (text_of outcome) → IsCutOff form P (front ++ back) file
cut-behind form P front back outcome file ran stands printed =
    let seam : take (length front) (front ++ back) ≡ front = take-append_seam front back in
    record {
      count = length front;
      stands = subst (λ (lines : List (List ℕ)). StandsFor (accepted_lines (start form) lines) file) (sym seam) stands;
      printed = subst (λ (lines : List (List ℕ)). P (text_of (on_lines (start form) lines))) (sym seam) (subst (λ (o : Outcome). P (text_of o)) (sym ran) printed);
    }

-- all lines of the script
script-lines : (form : Form) (in0 in1 : Incoming) (out0 out1 : Outgoing) (said : List ℕ) (rig : MemoryRig) (logged : Logged) (a : Ahead) (r : IsRunning form in0 in1 out0 out1 said rig logged a) (flow : Flow) → in0.flow ≡ Some flow → (rest : List ℕ) × (all_lines (lines_of flow.left) ≡ (lines_of r.bytes).ended ++ all_lines (lines_of (a.line ++ rest)))
script-lines form in0 in1 out0 out1 said rig logged a r flow is =
    let left = told-left form in0 in1 out0 out1 said rig logged a r flow is in
    (left.0, ap (λ (t : List ℕ). all_lines (lines_of t)) left.1 ∙ all-whole r.bytes (a.line ++ left.0) r.whole)

-- nothing more than was said
gathers-some : (out0 out1 : Outgoing) (said text more : List ℕ) → Gathers out0 out1 said text → GathersSome out0 out1 said (text ++ more)
gathers-some out0 out1 said text more g = inl (text, more, g, refl)

run-stands : (form : Form) (in0 in1 : Incoming) (out0 out1 : Outgoing) (said : List ℕ) (rig : MemoryRig) (logged : Logged) (a : Ahead) (r : IsRunning form in0 in1 out0 out1 said rig logged a) → StandsFor (accepted_lines (start form) (lines_of r.bytes).ended) rig.a.bytes
run-stands form in0 in1 out0 out1 said rig logged a r = logs-stands [] (accepted_lines (start form) (lines_of r.bytes).ended) logged.journal rig r.log

-- the run was cut off with what file A then had
cut-run : (form : Form) (in0 in1 : Incoming) (out0 out1 : Outgoing) (said : List ℕ) (rig : MemoryRig) (logged : Logged) (a : Ahead) (r : IsRunning form in0 in1 out0 out1 said rig logged a) (P : List ℕ → Type 0) (file : List ℕ) → StandsFor (accepted_lines (start form) (lines_of r.bytes).ended) file → P r.text → (flow : Flow) → in0.flow ≡ Some flow → IsCutOff form P (all_lines (lines_of flow.left)) file
cut-run form in0 in1 out0 out1 said rig logged a r P file stands printed flow is =
    let lines = script-lines form in0 in1 out0 out1 said rig logged a r flow is in
    subst (λ (ls : List (List ℕ)). IsCutOff form P ls file) (sym lines.1)
    (cut-behind form P (lines_of r.bytes).ended (all_lines (lines_of (a.line ++ lines.0))) (Goes logged.progress r.text) file r.ran stands printed)

-- and the next line, which is ended, is in file A too
cut-line : (form : Form) (in0 in1 : Incoming) (out0 out1 : Outgoing) (said : List ℕ) (rig : MemoryRig) (logged : Logged) (a : Ahead) (r : IsRunning form in0 in1 out0 out1 said rig logged a) (P : List ℕ → Type 0) (file : List ℕ) → IsEnded a.line → StandsFor (payloads_in rig ++ accepted_line logged.progress a.line) file → ((more : List ℕ) → P (r.text ++ more)) → (flow : Flow) → in0.flow ≡ Some flow → IsCutOff form P (all_lines (lines_of flow.left)) file
cut-line form in0 in1 out0 out1 said rig logged a r P file ended stands printed flow is =
    let p = logged.progress in
    let front = (lines_of r.bytes).ended in
    let lines = script-lines form in0 in1 out0 out1 said rig logged a r flow is in
    let back = all_lines (lines_of lines.0) in
    let parts : all_lines (lines_of flow.left) ≡ (front ++ a.line ∷ []) ++ back = lines.1 ∙ ap (λ (ls : List (List ℕ)). front ++ ls) (ended-lines a.line lines.0 ended) ∙ sym (append_assoc front (a.line ∷ []) back) in
    let ran : on_lines (start form) (front ++ a.line ∷ []) ≡ after_text r.text (on_line p a.line) = on_lines-goes (start form) p r.text front (a.line ∷ []) r.ran ∙ ap (after_text r.text) (on_lines-one p a.line) in
    let added : payloads_in rig ++ accepted_line p a.line ≡ accepted_lines (start form) (front ++ a.line ∷ []) = ap (λ (t : List (List ℕ)). t ++ accepted_line p a.line) r.log.payloads ∙ sym (accepted-goes (start form) p r.text front (a.line ∷ []) r.ran ∙ ap (λ (t : List (List ℕ)). accepted_lines (start form) front ++ t) (accepted-one p a.line)) in
    subst (λ (ls : List (List ℕ)). IsCutOff form P ls file) (sym parts)
    (cut-behind form P (front ++ a.line ∷ []) back (after_text r.text (on_line p a.line)) file ran
    (subst (λ (payloads : List (List ℕ)). StandsFor payloads file) added stands)
    (subst P (sym (text-after r.text (on_line p a.line))) (printed (text_of (on_line p a.line)))))

-- ## Ends

-- what file A had stands on the disk
on-disk : (form : Form) (in0 in1 : Incoming) (out0 out1 : Outgoing) (said : List ℕ) (rig : MemoryRig) (logged : Logged) (a : Ahead) → IsRunning form in0 in1 out0 out1 said rig logged a → IsOnDisk rig
on-disk form in0 in1 out0 out1 said rig logged a r = r.log.logging.ready.kept

-- memory was missing before anything was read
pub log-nothing : (form : Form) (input : Incoming) (out : Outgoing) (said : List ℕ) (old new : MemoryRig) → said ≡ [] → StandsFor [] new.a.bytes → HasLogged form input out out said old new Memory
unfolding accepted_lines on_lines
log-nothing form input out said old new silent stands = record {
  holds = λ flow is. inl (cut-behind form (GathersSome out out said) [] (all_lines (lines_of flow.left)) (Goes (start form) []) new.a.bytes refl stands (inl ([], [], ([], sym (write-nothing out), sym silent), refl)));
  synced = inr refl;
  starved = inr refl;
}

pub log-memory : (form : Form) (in0 in1 : Incoming) (out0 out1 : Outgoing) (said : List ℕ) (old rig : MemoryRig) (logged : Logged) (a : Ahead) → IsRunning form in0 in1 out0 out1 said rig logged a → HasLogged form in0 out0 out1 said old rig Memory
log-memory form in0 in1 out0 out1 said old rig logged a r = record {
  holds = λ flow is. inl (cut-run form in0 in1 out0 out1 said rig logged a r (GathersSome out0 out1 said) rig.a.bytes (run-stands form in0 in1 out0 out1 said rig logged a r) (inl (r.text, [], r.gathered, sym (append-nil r.text))) flow is);
  synced = inr refl;
  starved = inr refl;
}

pub log-source : (form : Form) (in0 in1 : Incoming) (out0 out1 : Outgoing) (said : List ℕ) (old rig : MemoryRig) (logged : Logged) (a : Ahead) → IsRunning form in0 in1 out0 out1 said rig logged a → rig.counts.starved ≡ old.counts.starved → HasLogged form in0 out0 out1 said old rig ReadFault
log-source form in0 in1 out0 out1 said old rig logged a r starved = record {
  holds = λ flow is. cut-run form in0 in1 out0 out1 said rig logged a r (GathersSome out0 out1 said) rig.a.bytes (run-stands form in0 in1 out0 out1 said rig logged a r) (inl (r.text, [], r.gathered, sym (append-nil r.text))) flow is;
  synced = inl (on-disk form in0 in1 out0 out1 said rig logged a r);
  starved = inl starved;
}

pub log-sink : (form : Form) (in0 in1 : Incoming) (out0 out1 out2 : Outgoing) (said left : List ℕ) (old rig : MemoryRig) (logged : Logged) (a : Ahead) → IsRunning form in0 in1 out0 out1 said rig logged a → FailsWriting said out1 out2 → left ≡ [] → rig.counts.starved ≡ old.counts.starved → HasLogged form in0 out0 out2 left old rig WriteFault
log-sink form in0 in1 out0 out1 out2 said left old rig logged a r failed silent starved = record {
  holds = λ flow is. inl (cut-run form in0 in1 out0 out1 said rig logged a r (GathersSome out0 out2 left) rig.a.bytes (run-stands form in0 in1 out0 out1 said rig logged a r) (inr (gathers-failed out0 out1 out2 said r.text r.gathered failed, silent)) flow is);
  synced = inl (on-disk form in0 in1 out0 out1 said rig logged a r);
  starved = inl starved;
}

-- the run stopped in a line that adds nothing, whatever follows
stop-stands : (form : Form) (in0 in1 : Incoming) (out0 out1 : Outgoing) (said : List ℕ) (rig : MemoryRig) (logged : Logged) (a : Ahead) → IsRunning form in0 in1 out0 out1 said rig logged a → ((more : List ℕ) → accepted_lines logged.progress (all_lines (lines_of (a.line ++ more))) ≡ []) → (flow : Flow) → in0.flow ≡ Some flow → StandsFor (accepted_lines (start form) (all_lines (lines_of flow.left))) rig.a.bytes
stop-stands form in0 in1 out0 out1 said rig logged a r none flow is =
    let front = (lines_of r.bytes).ended in
    let lines = script-lines form in0 in1 out0 out1 said rig logged a r flow is in
    let all : accepted_lines (start form) (all_lines (lines_of flow.left)) ≡ accepted_lines (start form) front =
    ap (accepted_lines (start form)) lines.1
    ∙ accepted-goes (start form) logged.progress r.text front (all_lines (lines_of (a.line ++ lines.0))) r.ran
    ∙ ap (λ (t : List (List ℕ)). accepted_lines (start form) front ++ t) (none lines.0)
    ∙ append-nil (accepted_lines (start form) front) in
    subst (λ (payloads : List (List ℕ)). StandsFor payloads rig.a.bytes) (sym all) (run-stands form in0 in1 out0 out1 said rig logged a r)

pub log-outside : (form : Form) (in0 in1 : Incoming) (out0 out1 : Outgoing) (said new : List ℕ) (old rig : MemoryRig) (logged : Logged) (a : Ahead) (line : ℕ) → IsRunning form in0 in1 out0 out1 said rig logged a → ((more : List ℕ) → accepted_lines logged.progress (all_lines (lines_of (a.line ++ more))) ≡ []) → rig.counts.starved ≡ old.counts.starved → HasLogged form in0 out0 out1 new old rig (Script line)
log-outside form in0 in1 out0 out1 said new old rig logged a line r none starved = record {
  holds = stop-stands form in0 in1 out0 out1 said rig logged a r none;
  synced = inl (on-disk form in0 in1 out0 out1 said rig logged a r);
  starved = inl starved;
}

log-spent : (form : Form) (in0 in1 : Incoming) (out0 out1 : Outgoing) (said new : List ℕ) (old rig : MemoryRig) (logged : Logged) (a : Ahead) → IsRunning form in0 in1 out0 out1 said rig logged a → ((more : List ℕ) → accepted_lines logged.progress (all_lines (lines_of (a.line ++ more))) ≡ []) → rig.counts.starved ≡ old.counts.starved → HasLogged form in0 out0 out1 new old rig NumbersSpent
log-spent form in0 in1 out0 out1 said new old rig logged a r none starved = record {
  holds = stop-stands form in0 in1 out0 out1 said rig logged a r none;
  synced = inl (on-disk form in0 in1 out0 out1 said rig logged a r);
  starved = inl starved;
}

ended-none : (progress : Progress) (line more : List ℕ) (ending : Ending) → IsEnded line → on_line progress line ≡ Stops ending [] → accepted_line progress line ≡ [] → accepted_lines progress (all_lines (lines_of (line ++ more))) ≡ []
ended-none progress line more ending ended is none = rw (ended-lines line more ended) (adds-none progress line (all_lines (lines_of more)) ending is none)

-- what was said before is all that was said
same-some : (out0 out1 : Outgoing) (said new text : List ℕ) → new ≡ said → Gathers out0 out1 said text → GathersSome out0 out1 new text
same-some out0 out1 said new text same g = inl (text, [], subst (λ (s : List ℕ). Gathers out0 out1 s text) (sym same) g, sym (append-nil text))

same-more : (out0 out1 : Outgoing) (said new text more : List ℕ) → new ≡ said → Gathers out0 out1 said text → GathersSome out0 out1 new (text ++ more)
same-more out0 out1 said new text more same g = inl (text, more, subst (λ (s : List ℕ). Gathers out0 out1 s text) (sym same) g, refl)

pub log-line-fault : (form : Form) (in0 in1 : Incoming) (out0 out1 : Outgoing) (said new : List ℕ) (old rig rig2 : MemoryRig) (logged : Logged) (a : Ahead) (e : LineFault) → IsRunning form in0 in1 out0 out1 said rig logged a → IsEnded a.line → Says (on_line logged.progress a.line) said new (Err e) → StopsLog (accepted_line logged.progress a.line) rig rig2 e → rig.counts.starved ≡ old.counts.starved → HasLogged form in0 out0 out1 new old rig2 (end_of (Err (Line e)))
log-line-fault form in0 in1 out0 out1 said new old rig rig2 logged a (fault.Outside line) r ended (is, same) (none, kept) starved =
    subst (λ (g : MemoryRig). HasLogged form in0 out0 out1 new old g (Script line)) (sym kept)
    (log-outside form in0 in1 out0 out1 said new old rig logged a line r (λ more. ended-none logged.progress a.line more (Outside line) ended is none) starved)
log-line-fault form in0 in1 out0 out1 said new old rig rig2 logged a fault.Spent r ended (is, same) (none, kept) starved =
    subst (λ (g : MemoryRig). HasLogged form in0 out0 out1 new old g NumbersSpent) (sym kept)
    (log-spent form in0 in1 out0 out1 said new old rig logged a r (λ more. ended-none logged.progress a.line more Spent ended is none) starved)
log-line-fault form in0 in1 out0 out1 said new old rig rig2 logged a fault.Memory r ended same (inl stands) starved = record {
  holds = λ flow is. inl (cut-run form in0 in1 out0 out1 said rig logged a r (GathersSome out0 out1 new) rig2.a.bytes
      (subst (λ (payloads : List (List ℕ)). StandsFor payloads rig2.a.bytes) r.log.payloads stands)
      (same-some out0 out1 said new r.text same r.gathered) flow is);
  synced = inr refl;
  starved = inr refl;
}
log-line-fault form in0 in1 out0 out1 said new old rig rig2 logged a fault.Memory r ended same (inr stands) starved = record {
  holds = λ flow is. inl (cut-line form in0 in1 out0 out1 said rig logged a r (GathersSome out0 out1 new) rig2.a.bytes ended stands
      (λ more. same-more out0 out1 said new r.text more same r.gathered) flow is);
  synced = inr refl;
  starved = inr refl;
}

-- ## The end of the source

-- the accepted lines of the script, from the last line on
last-accepted : (form : Form) (in0 in1 in2 : Incoming) (out0 out1 : Outgoing) (said : List ℕ) (rig : MemoryRig) (logged : Logged) (a : Ahead) (r : IsRunning form in0 in1 out0 out1 said rig logged a) → IsAtEnd in0 in2 r.bytes a.line → IsUnended a.line → (flow : Flow) → in0.flow ≡ Some flow → accepted_lines (start form) (all_lines (lines_of flow.left)) ≡ payloads_in rig ++ accepted_lines logged.progress (last_line a.line)
last-accepted form in0 in1 in2 out0 out1 said rig logged a r end unended flow is =
    let front = (lines_of r.bytes).ended in
    let last : List (List ℕ) = last_line a.line in
    ap (λ (t : List ℕ). accepted_lines (start form) (all_lines (lines_of t))) (end.left flow is)
    ∙ ap (accepted_lines (start form)) (all-whole r.bytes a.line r.whole ∙ ap (λ (l : Lines). front ++ all_lines l) unended)
    ∙ accepted-goes (start form) logged.progress r.text front last r.ran
    ∙ ap (λ (t : List (List ℕ)). t ++ accepted_lines logged.progress last) (sym r.log.payloads)

pub log-finished : (form : Form) (in0 in1 in2 : Incoming) (out0 out1 : Outgoing) (said new : List ℕ) (old rig rig2 : MemoryRig) (logged : Logged) (a : Ahead) (r : IsRunning form in0 in1 out0 out1 said rig logged a) → IsAtEnd in0 in2 r.bytes a.line → IsUnended a.line → (done : Unit {0}) → FinishesLog (accepted_lines logged.progress (last_line a.line)) rig rig2 said new (Ok done) → rig2.counts.starved ≡ old.counts.starved → HasLogged form in0 out0 out1 new old rig2 Done
log-finished form in0 in1 in2 out0 out1 said new old rig rig2 logged a r end unended done (stands, synced) starved = record {
  holds = λ flow is. subst (λ (payloads : List (List ℕ)). StandsFor payloads rig2.a.bytes) (sym (last-accepted form in0 in1 in2 out0 out1 said rig logged a r end unended flow is)) stands;
  synced = inl synced;
  starved = inl starved;
}

-- nothing was added to what stood
last-none : (form : Form) (in0 in1 in2 : Incoming) (out0 out1 : Outgoing) (said : List ℕ) (rig rig2 : MemoryRig) (logged : Logged) (a : Ahead) (r : IsRunning form in0 in1 out0 out1 said rig logged a) → IsAtEnd in0 in2 r.bytes a.line → IsUnended a.line → accepted_lines logged.progress (last_line a.line) ≡ [] → rig2 ≡ rig → (flow : Flow) → in0.flow ≡ Some flow → StandsFor (accepted_lines (start form) (all_lines (lines_of flow.left))) rig2.a.bytes
last-none form in0 in1 in2 out0 out1 said rig rig2 logged a r end unended none kept flow is =
    let all : accepted_lines (start form) (all_lines (lines_of flow.left)) ≡ accepted_lines (start form) (lines_of r.bytes).ended =
    last-accepted form in0 in1 in2 out0 out1 said rig logged a r end unended flow is
    ∙ ap (λ (t : List (List ℕ)). payloads_in rig ++ t) none
    ∙ append-nil (payloads_in rig)
    ∙ r.log.payloads in
    subst (λ (g : MemoryRig). StandsFor (accepted_lines (start form) (all_lines (lines_of flow.left))) g.a.bytes) (sym kept)
    (subst (λ (payloads : List (List ℕ)). StandsFor payloads rig.a.bytes) (sym all) (run-stands form in0 in1 out0 out1 said rig logged a r))

pub log-finish-fault : (form : Form) (in0 in1 in2 : Incoming) (out0 out1 : Outgoing) (said new : List ℕ) (old rig rig2 : MemoryRig) (logged : Logged) (a : Ahead) (e : LineFault) (r : IsRunning form in0 in1 out0 out1 said rig logged a) → IsAtEnd in0 in2 r.bytes a.line → IsUnended a.line → Finishes (finish (on_lines logged.progress (last_line a.line))) said new (Err e) → FinishesLog (accepted_lines logged.progress (last_line a.line)) rig rig2 said new (Err e) → rig.counts.starved ≡ old.counts.starved → HasLogged form in0 out0 out1 new old rig2 (end_of (Err (Line e)))
log-finish-fault form in0 in1 in2 out0 out1 said new old rig rig2 logged a (fault.Outside line) r end unended f (none, kept) starved = record {
  holds = last-none form in0 in1 in2 out0 out1 said rig rig2 logged a r end unended none kept;
  synced = inl (subst IsOnDisk (sym kept) (on-disk form in0 in1 out0 out1 said rig logged a r));
  starved = inl (ap (λ (g : MemoryRig). g.counts.starved) kept ∙ starved);
}
log-finish-fault form in0 in1 in2 out0 out1 said new old rig rig2 logged a fault.Spent r end unended f (none, kept) starved = record {
  holds = last-none form in0 in1 in2 out0 out1 said rig rig2 logged a r end unended none kept;
  synced = inl (subst IsOnDisk (sym kept) (on-disk form in0 in1 out0 out1 said rig logged a r));
  starved = inl (ap (λ (g : MemoryRig). g.counts.starved) kept ∙ starved);
}
log-finish-fault form in0 in1 in2 out0 out1 said new old rig rig2 logged a fault.Memory r end unended f (inl (same, stands)) starved = record {
  holds = λ flow is. inl (cut-run form in0 in1 out0 out1 said rig logged a r (GathersSome out0 out1 new) rig2.a.bytes
      (subst (λ (payloads : List (List ℕ)). StandsFor payloads rig2.a.bytes) r.log.payloads stands)
      (same-some out0 out1 said new r.text same r.gathered) flow is);
  synced = inr refl;
  starved = inr refl;
}
log-finish-fault form in0 in1 in2 out0 out1 said new old rig rig2 logged a fault.Memory r end unended f (inr stands) starved = record {
  holds = λ flow is. inr (
    subst (λ (payloads : List (List ℕ)). StandsFor payloads rig2.a.bytes) (sym (last-accepted form in0 in1 in2 out0 out1 said rig logged a r end unended flow is)) stands,
    inl ((run-finish-fault form in0 in1 in2 out0 out1 said new rig logged a fault.Memory r end unended f).replays flow is),
  );
  synced = inr refl;
  starved = inr refl;
}

-- ## Writing what has gathered

cut-map : (form : Form) (P Q : List ℕ → Type 0) (lines : List (List ℕ)) (file : List ℕ) → ((t : List ℕ) → P t → Q t) → IsCutOff form P lines file → IsCutOff form Q lines file
cut-map form P Q lines file f cut = record { count = cut.count; stands = cut.stands; printed = f _ cut.printed }

short-map : (form : Form) (P Q : List ℕ → Type 0) (lines : List (List ℕ)) (file : List ℕ) → ((t : List ℕ) → P t → Q t) → IsCutShort form P lines file → IsCutShort form Q lines file
short-map form P Q lines file f (inl cut) = inl (cut-map form P Q lines file f cut)
short-map form P Q lines file f (inr (stands, printed)) = inr (stands, f _ printed)

holds-map : (form : Form) (P Q : List ℕ → Type 0) (lines : List (List ℕ)) (file : List ℕ) (end : ReplayEnd) → ((t : List ℕ) → P t → Q t) → Holds form P lines file end → Holds form Q lines file end
holds-map form P Q lines file Done f h = h
holds-map form P Q lines file (Script line) f h = h
holds-map form P Q lines file NumbersSpent f h = h
holds-map form P Q lines file ReadFault f h = cut-map form P Q lines file f h
holds-map form P Q lines file WriteFault f h = short-map form P Q lines file f h
holds-map form P Q lines file Memory f h = short-map form P Q lines file f h

some-written : (out0 out1 out2 : Outgoing) (said text : List ℕ) → out2 ≡ after_write said out1 → GathersSome out0 out1 said text → PutsPrefix out0 out2 text
some-written out0 out1 out2 said text w (inl g) = inl (prefix-written out0 out1 out2 said text g w)
some-written out0 out1 out2 said text w (inr (failed, silent)) = inr (failed-written out0 out1 out2 said text failed silent w)

some-failed : (out0 out1 out2 : Outgoing) (said text : List ℕ) → FailsWriting said out1 out2 → 0 < length said → GathersSome out0 out1 said text → PutsPrefix out0 out2 text
some-failed out0 out1 out2 said text failed some (inl g) = inr (prefix-failed out0 out1 out2 said text g failed)
some-failed out0 out1 out2 said text failed some (inr (before, silent)) = absurd (silent-some said silent some)

pub written-holds : (form : Form) (in0 : Incoming) (out0 out1 out2 : Outgoing) (said : List ℕ) (old rig : MemoryRig) (end : ReplayEnd) → HasLogged form in0 out0 out1 said old rig end → out2 ≡ after_write said out1 → (flow : Flow) → in0.flow ≡ Some flow → HoldsOf form (PutsPrefix out0 out2) flow.left rig.a.bytes end
written-holds form in0 out0 out1 out2 said old rig end log w flow is =
    holds-map form (GathersSome out0 out1 said) (PutsPrefix out0 out2) (all_lines (lines_of flow.left)) rig.a.bytes end (λ t. some-written out0 out1 out2 said t w) (log.holds flow is)

pub failed-holds : (form : Form) (in0 in1 : Incoming) (out0 out1 out2 : Outgoing) (said : List ℕ) (old rig : MemoryRig) (end : ReplayEnd) → HasRun form in0 in1 out0 out1 said end → HasLogged form in0 out0 out1 said old rig end → FailsWriting said out1 out2 → 0 < length said → (flow : Flow) → in0.flow ≡ Some flow → HoldsOf form (PutsPrefix out0 out2) flow.left rig.a.bytes (unwritten end)
failed-holds form in0 in1 out0 out1 out2 said old rig end run log failed some flow is =
    rows end (log.holds flow is) (failed-replays form in0 in1 out0 out1 out2 said end run failed some flow is)
  where
    f : (t : List ℕ) → GathersSome out0 out1 said t → PutsPrefix out0 out2 t
    f t = some-failed out0 out1 out2 said t failed some

    rows : (e : ReplayEnd) → Holds form (GathersSome out0 out1 said) (all_lines (lines_of flow.left)) rig.a.bytes e → Replays form out0 out2 flow in1.flow (unwritten e) → Holds form (PutsPrefix out0 out2) (all_lines (lines_of flow.left)) rig.a.bytes (unwritten e)
    rows Done h k = inr (h, inr k)
    rows (Script line) h k = inr (h, inr k)
    rows NumbersSpent h k = inr (h, inr k)
    rows ReadFault h k = inl (cut-map form (GathersSome out0 out1 said) (PutsPrefix out0 out2) (all_lines (lines_of flow.left)) rig.a.bytes f h)
    rows WriteFault h k = short-map form (GathersSome out0 out1 said) (PutsPrefix out0 out2) (all_lines (lines_of flow.left)) rig.a.bytes f h
    rows Memory h k = short-map form (GathersSome out0 out1 said) (PutsPrefix out0 out2) (all_lines (lines_of flow.left)) rig.a.bytes f h

pub failed-synced : (form : Form) (in0 : Incoming) (out0 out1 : Outgoing) (said : List ℕ) (old rig : MemoryRig) (end : ReplayEnd) → HasLogged form in0 out0 out1 said old rig end → (IsOnDisk rig ⊎ (unwritten end ≡ Memory)) × ((rig.counts.starved ≡ old.counts.starved) ⊎ (unwritten end ≡ Memory))
failed-synced form in0 out0 out1 said old rig end log = (either log.synced, either log.starved)
  where
    either : {P : Type 0} → P ⊎ (end ≡ Memory) → P ⊎ (unwritten end ≡ Memory)
    either (inl h) = inl h
    either (inr is) = inr (ap unwritten is)
