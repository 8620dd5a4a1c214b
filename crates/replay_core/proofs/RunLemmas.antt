-- Where the run of a script stands between two looks for a line, and how it ends.
use Rattle.std.proofs.Common.{◌≡◌, ℕ, ◌+◌, ◌-◌, ◌*◌, ◌<◌, ◌≤◌, length-append, inl, inr, Bool, true, false, MatchBool, List, [], ◌∷◌, ◌++◌, length, Option, Some, Ok, Err, refl, ap, ◌∙◌, sym, subst, append_assoc, append-nil, arith}
use Rattle.rig.specs.Faults.{one_more}
use Rattle.rig.specs.Flow.{Flow, Incoming, after_failed_read}
use Rattle.rig.specs.MemoryRig.{MemoryRig}
use Rattle.rig.specs.Written.{Outgoing, FailsWriting, WritesPrefix, after_write}
use Rattle.rig.proofs.WrittenLemmas.{fails-more, prefix-all, prefix-more, write-fails, write-nothing, write-write}
use Rattle.replay_core.specs.Accepted.{accepted_line, accepted_lines}
use Rattle.replay_core.specs.Ends.{end_of, unwritten}
use Rattle.replay_core.specs.Log.{Logs, payloads_in}
use Rattle.replay_core.specs.Pieces.{IsEnded, IsUnended, Lines, all_lines, last_line, lines_of}
use Rattle.replay_core.specs.Reading.{Ahead, IsRead, ReadsOn}
use Rattle.replay_core.specs.Replay.{Ending, Outcome, Goes, Stops, Outside, Spent, Progress, Transcript, after_text, finish, on_line, on_lines, start, transcript}
use Rattle.replay_core.specs.Run.{Finishes, Says, transcript_of}
use Rattle.replay_core.specs.Script.{CountsWrites, Gathered, Gathers, GathersPrefix, HasRun, IsSilentAt, Replays, Writes, read_faults, write_faults}
use Rattle.replay_core.specs.declared.end.LineFault.{LineFault}
use Rattle.replay_core.specs.declared.end.LineFault.TheVariants as fault
use Rattle.replay_core.specs.declared.end.ReplayEnd.{ReplayEnd}
use Rattle.replay_core.specs.declared.form.Form.{Form}
use Rattle.replay_core.specs.declared.end.ReplayEnd.TheVariants.{Done, Script, ReadFault, WriteFault, NumbersSpent, Memory}
use Rattle.replay_core.specs.declared.end.RunFault.TheVariants.{Line}
use Rattle.replay_core.specs.declared.logged.Logged.{Logged}
use Rattle.replay_core.proofs.AcceptedLemmas.{accepted-goes, accepted-one}
use Rattle.replay_core.proofs.PiecesLemmas.{all-whole, ended-lines, go_on, lines-whole}
use Rattle.replay_core.proofs.ReplayLemmas.{finish-after, later, on_lines-goes, on_lines-one, stops-line}

-- So much was read. The lines of the first bytes of it were run, each of them ended, and are in the journal;
-- what follows them is the next line, as far as it was taken, and what is unread.
pub record IsRunning (form : Form) (in0 in1 : Incoming) (out0 out1 : Outgoing) (said : List ℕ) (rig : MemoryRig) (logged : Logged) (ahead : Ahead) : Type 0 where
  pub bytes : List ℕ
  pub told : (flow : Flow) → in0.flow ≡ Some flow → IsRead flow (bytes ++ (ahead.line ++ ahead.unread)) in1.flow
  pub reads : in1.faults ≡ in0.faults
  pub whole : (lines_of bytes).last ≡ []
  pub text : List ℕ
  pub ran : on_lines (start form) (lines_of bytes).ended ≡ Goes logged.progress text
  pub gathered : Gathers out0 out1 said text
  pub log : Logs [] (accepted_lines (start form) (lines_of bytes).ended) logged.journal rig

-- ## What has gathered

gathers-more : (out0 out1 : Outgoing) (said new text more : List ℕ) → Gathers out0 out1 said text → new ≡ said ++ more → Gathers out0 out1 new (text ++ more)
gathers-more out0 out1 said new text more g is =
    (g.0, g.1, ap (λ (t : List ℕ). t ++ more) g.2 ∙ append_assoc g.0 said more ∙ ap (λ (t : List ℕ). g.0 ++ t) (sym is))

gathers-written : (out0 out1 out2 : Outgoing) (said text : List ℕ) → Gathers out0 out1 said text → out2 ≡ after_write said out1 → out2 ≡ after_write text out0
gathers-written out0 out1 out2 said text g w =
    w ∙ ap (after_write said) g.1 ∙ write-write out0 g.0 said ∙ ap (λ (t : List ℕ). after_write t out0) (sym g.2)

pub gathers-failed : (out0 out1 out2 : Outgoing) (said text : List ℕ) → Gathers out0 out1 said text → FailsWriting said out1 out2 → FailsWriting text out0 out2
gathers-failed out0 out1 out2 said text g failed =
    subst (λ (t : List ℕ). FailsWriting t out0 out2) (sym g.2) (write-fails g.0 said out0 out1 out2 g.1 failed)

-- no write failed so far
gathers-faults : (out0 out1 : Outgoing) (said text : List ℕ) → Gathers out0 out1 said text → out1.faults ≡ out0.faults
gathers-faults out0 out1 said text g = ap (λ (o : Outgoing). o.faults) g.1

pub writes-all : (out1 out2 : Outgoing) (said left : List ℕ) → out2 ≡ after_write said out1 → left ≡ [] → Writes out1 out2 said left
writes-all out1 out2 said left w is = (said, w, sym (append-nil said) ∙ ap (λ (t : List ℕ). said ++ t) (sym is))

pub writes-none : (out : Outgoing) (said : List ℕ) → Writes out out said said
writes-none out said = ([], sym (write-nothing out), refl)

-- ## Steps

pub running-start : (form : Form) (input : Incoming) (out : Outgoing) (said : List ℕ) (rig : MemoryRig) (logged : Logged) (ahead : Ahead) → said ≡ [] → logged.progress ≡ (start form) → Logs [] [] logged.journal rig → ahead.line ≡ [] → ahead.unread ≡ [] → IsRunning form input input out out said rig logged ahead
unfolding lines_of on_lines accepted_lines
running-start form input out said rig logged ahead silent is log line unread = record {
  bytes = [];
  told = λ flow h. rw (line, unread) (record {
    rest = flow.left;
    left = refl;
    flow = h ∙ ap (λ (given : List ℕ). Some (record { given = given; left = flow.left })) (sym (append-nil flow.given));
  });
  reads = refl;
  whole = refl;
  text = [];
  ran = ap (λ (p : Progress). Goes p []) (sym is);
  gathered = ([], sym (write-nothing out), sym silent);
  log = log;
}

-- bytes were taken
pub running-moved : (form : Form) (in0 in1 : Incoming) (out0 out1 : Outgoing) (said : List ℕ) (rig : MemoryRig) (logged : Logged) (a b : Ahead) → IsRunning form in0 in1 out0 out1 said rig logged a → b.line ++ b.unread ≡ a.line ++ a.unread → IsRunning form in0 in1 out0 out1 said rig logged b
running-moved form in0 in1 out0 out1 said rig logged a b r moved = record {
  bytes = r.bytes;
  told = λ flow is. subst (λ (t : List ℕ). IsRead flow (r.bytes ++ t) in1.flow) (sym moved) (r.told flow is);
  reads = r.reads;
  whole = r.whole;
  text = r.text;
  ran = r.ran;
  gathered = r.gathered;
  log = r.log;
}

-- a line was run
pub running-line : (form : Form) (in0 in1 : Incoming) (out0 out1 : Outgoing) (said new : List ℕ) (rig rig2 : MemoryRig) (logged next : Logged) (a b : Ahead) → IsRunning form in0 in1 out0 out1 said rig logged a → IsEnded a.line → Says (on_line logged.progress a.line) said new (Ok next) → Logs (payloads_in rig) (accepted_line logged.progress a.line) next.journal rig2 → b.line ≡ [] → b.unread ≡ a.unread → IsRunning form in0 in1 out0 out1 new rig2 next b
running-line form in0 in1 out0 out1 said new rig rig2 logged next a b r ended (more, goes, is) log line unread =
    let p = logged.progress in
    let front = (lines_of r.bytes).ended in
    let lines : lines_of (r.bytes ++ a.line) ≡ go_on front (record { ended = a.line ∷ []; last = [] }) = lines-whole r.bytes a.line r.whole ∙ ap (go_on front) ended in
    let same : (r.bytes ++ a.line) ++ (b.line ++ b.unread) ≡ r.bytes ++ (a.line ++ a.unread) = rw (line, unread) (append_assoc r.bytes a.line a.unread) in
    let accepted : accepted_lines (start form) (lines_of (r.bytes ++ a.line)).ended ≡ accepted_lines (start form) front ++ accepted_line p a.line =
    ap (λ (l : Lines). accepted_lines (start form) l.ended) lines
    ∙ accepted-goes (start form) p r.text front (a.line ∷ []) r.ran
    ∙ ap (λ (t : List (List ℕ)). accepted_lines (start form) front ++ t) (accepted-one p a.line) in
    record {
      bytes = r.bytes ++ a.line;
      told = λ flow h. subst (λ (t : List ℕ). IsRead flow t in1.flow) (sym same) (r.told flow h);
      reads = r.reads;
      whole = ap (λ (l : Lines). l.last) lines;
      text = r.text ++ more;
      ran = ap (λ (l : Lines). on_lines (start form) l.ended) lines
          ∙ on_lines-goes (start form) p r.text front (a.line ∷ []) r.ran
          ∙ ap (after_text r.text) (on_lines-one p a.line ∙ goes);
      gathered = gathers-more out0 out1 said new r.text more r.gathered is;
      log = record {
        logging = log.logging;
        payloads = log.payloads ∙ ap (λ (t : List (List ℕ)). t ++ accepted_line p a.line) r.log.payloads ∙ sym accepted;
      };
    }

-- some of what had gathered was written
pub running-written : (form : Form) (in0 in1 : Incoming) (out0 out1 out2 : Outgoing) (said left : List ℕ) (rig : MemoryRig) (logged : Logged) (a : Ahead) → IsRunning form in0 in1 out0 out1 said rig logged a → Writes out1 out2 said left → IsRunning form in0 in1 out0 out2 left rig logged a
running-written form in0 in1 out0 out1 out2 said left rig logged a r w =
    let g = r.gathered in
    record {
      bytes = r.bytes;
      told = r.told;
      reads = r.reads;
      whole = r.whole;
      text = r.text;
      ran = r.ran;
      gathered = (
        g.0 ++ w.0,
        w.1 ∙ ap (after_write w.0) g.1 ∙ write-write out0 g.0 w.0,
        g.2 ∙ ap (λ (t : List ℕ). g.0 ++ t) w.2 ∙ sym (append_assoc g.0 w.0 left),
      );
      log = r.log;
    }

-- so much more was read
read-read : (flow : Flow) (a b : List ℕ) (mid new : Option Flow) (r : IsRead flow a mid) → IsRead (record { given = flow.given ++ a; left = r.rest }) b new → IsRead flow (a ++ b) new
read-read flow a b mid new r n = record {
  rest = n.rest;
  left = r.left ∙ ap (λ (t : List ℕ). a ++ t) n.left ∙ sym (append_assoc a b n.rest);
  flow = n.flow ∙ ap (λ (given : List ℕ). Some (record { given = given; left = n.rest })) (append_assoc flow.given a b);
}

pub running-read : (form : Form) (in0 in1 in2 : Incoming) (out0 out1 : Outgoing) (said : List ℕ) (rig : MemoryRig) (logged : Logged) (a b : Ahead) → IsRunning form in0 in1 out0 out1 said rig logged a → a.unread ≡ [] → b.line ≡ a.line → ReadsOn b.unread in1 in2 → IsRunning form in0 in2 out0 out1 said rig logged b
running-read form in0 in1 in2 out0 out1 said rig logged a b r none line reads =
    let whole : (r.bytes ++ (a.line ++ a.unread)) ++ b.unread ≡ r.bytes ++ (b.line ++ b.unread) =
    ap (λ (t : List ℕ). (r.bytes ++ (a.line ++ t)) ++ b.unread) none
    ∙ ap (λ (t : List ℕ). (r.bytes ++ t) ++ b.unread) (append-nil a.line ∙ sym line)
    ∙ append_assoc r.bytes b.line b.unread in
    record {
      bytes = r.bytes;
      told = λ flow is.
          let read = r.told flow is in
          subst (λ (t : List ℕ). IsRead flow t in2.flow) whole
          (read-read flow (r.bytes ++ (a.line ++ a.unread)) b.unread in1.flow in2.flow read (reads.told _ read.flow).0);
      reads = reads.faults ∙ r.reads;
      whole = r.whole;
      text = r.text;
      ran = r.ran;
      gathered = r.gathered;
      log = r.log;
    }

-- ## What is left

-- of bytes whose first lines were run
pub behind : (form : Form) (bytes more text : List ℕ) (progress : Progress) → (lines_of bytes).last ≡ [] → on_lines (start form) (lines_of bytes).ended ≡ Goes progress text → transcript form (bytes ++ more) ≡ later text (finish (on_lines progress (all_lines (lines_of more))))
behind form bytes more text progress whole ran =
    ap (λ (lines : List (List ℕ)). finish (on_lines (start form) lines)) (all-whole bytes more whole)
    ∙ ap finish (on_lines-goes (start form) progress text (lines_of bytes).ended (all_lines (lines_of more)) ran)
    ∙ finish-after text (on_lines progress (all_lines (lines_of more)))

-- the whole script begins with the lines that were run
pub told-left : (form : Form) (in0 in1 : Incoming) (out0 out1 : Outgoing) (said : List ℕ) (rig : MemoryRig) (logged : Logged) (a : Ahead) (r : IsRunning form in0 in1 out0 out1 said rig logged a) (flow : Flow) → in0.flow ≡ Some flow → (rest : List ℕ) × (flow.left ≡ r.bytes ++ (a.line ++ rest))
told-left form in0 in1 out0 out1 said rig logged a r flow is =
    let read = r.told flow is in
    (a.unread ++ read.rest, read.left ∙ append_assoc r.bytes (a.line ++ a.unread) read.rest ∙ ap (λ (t : List ℕ). r.bytes ++ t) (append_assoc a.line a.unread read.rest))

-- what was said is a prefix of the whole text
pub begun : (form : Form) (in0 in1 : Incoming) (out0 out1 : Outgoing) (said : List ℕ) (rig : MemoryRig) (logged : Logged) (a : Ahead) (r : IsRunning form in0 in1 out0 out1 said rig logged a) (flow : Flow) → in0.flow ≡ Some flow → (more : List ℕ) × ((transcript form flow.left).text ≡ r.text ++ more)
begun form in0 in1 out0 out1 said rig logged a r flow is =
    let left = told-left form in0 in1 out0 out1 said rig logged a r flow is in
    let whole = ap (transcript form) left.1 ∙ behind form r.bytes (a.line ++ left.0) r.text logged.progress r.whole r.ran in
    ((finish (on_lines logged.progress (all_lines (lines_of (a.line ++ left.0))))).text, ap (λ (t : Transcript). t.text) whole)

-- ## Ends

-- memory was missing before anything was read
pub run-nothing : (form : Form) (input : Incoming) (out : Outgoing) (said : List ℕ) → said ≡ [] → HasRun form input input out out said Memory
run-nothing form input out said silent = record {
  replays = λ flow is. ([], (transcript form flow.left).text, ([], sym (write-nothing out), sym silent), refl);
  reads = refl;
  writes = refl;
  silent = tt;
}

pub run-memory : (form : Form) (in0 in1 : Incoming) (out0 out1 : Outgoing) (said : List ℕ) (rig : MemoryRig) (logged : Logged) (a : Ahead) → IsRunning form in0 in1 out0 out1 said rig logged a → HasRun form in0 in1 out0 out1 said Memory
run-memory form in0 in1 out0 out1 said rig logged a r = record {
  replays = λ flow is. let more = begun form in0 in1 out0 out1 said rig logged a r flow is in (r.text, more.0, r.gathered, more.1);
  reads = r.reads;
  writes = gathers-faults out0 out1 said r.text r.gathered;
  silent = tt;
}

-- the sink failed
pub run-sink : (form : Form) (in0 in1 : Incoming) (out0 out1 out2 : Outgoing) (said left : List ℕ) (rig : MemoryRig) (logged : Logged) (a : Ahead) → IsRunning form in0 in1 out0 out1 said rig logged a → FailsWriting said out1 out2 → left ≡ [] → HasRun form in0 in1 out0 out2 left WriteFault
run-sink form in0 in1 out0 out1 out2 said left rig logged a r failed silent = record {
  replays = λ flow is.
      let more = begun form in0 in1 out0 out1 said rig logged a r flow is in
      subst (λ (t : List ℕ). FailsWriting t out0 out2) (sym more.1)
      (fails-more r.text more.0 out0 out2 (gathers-failed out0 out1 out2 said r.text r.gathered failed));
  reads = r.reads;
  writes = ap (λ (o : Outgoing). o.faults) failed.1 ∙ ap one_more (gathers-faults out0 out1 said r.text r.gathered);
  silent = silent;
}

-- the source failed
pub run-source : (form : Form) (in0 in1 in2 : Incoming) (out0 out1 : Outgoing) (said : List ℕ) (rig : MemoryRig) (logged : Logged) (a : Ahead) → IsRunning form in0 in1 out0 out1 said rig logged a → in2 ≡ after_failed_read in1 → said ≡ [] → a.unread ≡ [] → IsUnended a.line → HasRun form in0 in2 out0 out1 said ReadFault
run-source form in0 in1 in2 out0 out1 said rig logged a r failed silent none unended =
    let front = (lines_of r.bytes).ended in
    let line : lines_of (a.line ++ a.unread) ≡ record { ended = []; last = a.line } = ap lines_of (ap (λ (t : List ℕ). a.line ++ t) none ∙ append-nil a.line) ∙ unended in
    let lines : lines_of (r.bytes ++ (a.line ++ a.unread)) ≡ go_on front (record { ended = []; last = a.line }) = lines-whole r.bytes (a.line ++ a.unread) r.whole ∙ ap (go_on front) line in
    record {
      replays = λ flow is. record {
        bytes = r.bytes ++ (a.line ++ a.unread);
        read = subst (λ (f : Option Flow). IsRead flow (r.bytes ++ (a.line ++ a.unread)) f) (sym (ap (λ (i : Incoming). i.flow) failed)) (r.told flow is);
        progress = logged.progress;
        text = r.text;
        ended = ap (λ (l : Lines). on_lines (start form) l.ended) lines ∙ ap (on_lines (start form)) (append-nil front) ∙ r.ran;
        printed = r.gathered;
      };
      reads = ap (λ (i : Incoming). i.faults) failed ∙ ap one_more r.reads;
      writes = gathers-faults out0 out1 said r.text r.gathered;
      silent = silent;
    }

-- the run stops in the line, whatever follows
stopped : (form : Form) (in0 in1 : Incoming) (out0 out1 : Outgoing) (said : List ℕ) (rig : MemoryRig) (logged : Logged) (a : Ahead) (r : IsRunning form in0 in1 out0 out1 said rig logged a) (ending : Ending) → ((more : List ℕ) → on_lines logged.progress (all_lines (lines_of (a.line ++ more))) ≡ Stops ending []) → (flow : Flow) → in0.flow ≡ Some flow → transcript form flow.left ≡ transcript_of r.text ending
stopped form in0 in1 out0 out1 said rig logged a r ending stops flow is =
    let left = told-left form in0 in1 out0 out1 said rig logged a r flow is in
    ap (transcript form) left.1
    ∙ behind form r.bytes (a.line ++ left.0) r.text logged.progress r.whole r.ran
    ∙ ap (λ (o : Outcome). later r.text (finish o)) (stops left.0)
    ∙ ap (λ (t : List ℕ). transcript_of t ending) (append-nil r.text)

pub run-outside : (form : Form) (in0 in1 : Incoming) (out0 out1 : Outgoing) (said : List ℕ) (rig : MemoryRig) (logged : Logged) (a : Ahead) (line : ℕ) → IsRunning form in0 in1 out0 out1 said rig logged a → ((more : List ℕ) → on_lines logged.progress (all_lines (lines_of (a.line ++ more))) ≡ Stops (Outside line) []) → HasRun form in0 in1 out0 out1 said (Script line)
run-outside form in0 in1 out0 out1 said rig logged a line r stops = record {
  replays = λ flow is.
      let whole = stopped form in0 in1 out0 out1 said rig logged a r (Outside line) stops flow is in
      (ap (λ (t : Transcript). t.ending) whole, subst (Gathers out0 out1 said) (sym (ap (λ (t : Transcript). t.text) whole)) r.gathered);
  reads = r.reads;
  writes = gathers-faults out0 out1 said r.text r.gathered;
  silent = tt;
}

pub run-spent : (form : Form) (in0 in1 : Incoming) (out0 out1 : Outgoing) (said : List ℕ) (rig : MemoryRig) (logged : Logged) (a : Ahead) → IsRunning form in0 in1 out0 out1 said rig logged a → ((more : List ℕ) → on_lines logged.progress (all_lines (lines_of (a.line ++ more))) ≡ Stops Spent []) → HasRun form in0 in1 out0 out1 said NumbersSpent
run-spent form in0 in1 out0 out1 said rig logged a r stops = record {
  replays = λ flow is.
      let whole = stopped form in0 in1 out0 out1 said rig logged a r Spent stops flow is in
      (ap (λ (t : Transcript). t.ending) whole, subst (Gathers out0 out1 said) (sym (ap (λ (t : Transcript). t.text) whole)) r.gathered);
  reads = r.reads;
  writes = gathers-faults out0 out1 said r.text r.gathered;
  silent = tt;
}

-- an ended line at which the run stops
pub ended-stops : (progress : Progress) (line more : List ℕ) (ending : Ending) → IsEnded line → on_line progress line ≡ Stops ending [] → on_lines progress (all_lines (lines_of (line ++ more))) ≡ Stops ending []
ended-stops progress line more ending ended is = rw (ended-lines line more ended) (stops-line progress line (all_lines (lines_of more)) ending is)

-- nothing more was said
still-running : (form : Form) (in0 in1 : Incoming) (out0 out1 : Outgoing) (said new : List ℕ) (rig : MemoryRig) (logged : Logged) (a : Ahead) → new ≡ said → IsRunning form in0 in1 out0 out1 said rig logged a → IsRunning form in0 in1 out0 out1 new rig logged a
still-running form in0 in1 out0 out1 said new rig logged a same r = subst (λ (s : List ℕ). IsRunning form in0 in1 out0 out1 s rig logged a) (sym same) r

pub run-line-fault : (form : Form) (in0 in1 : Incoming) (out0 out1 : Outgoing) (said new : List ℕ) (rig : MemoryRig) (logged : Logged) (a : Ahead) (e : LineFault) → IsRunning form in0 in1 out0 out1 said rig logged a → IsEnded a.line → Says (on_line logged.progress a.line) said new (Err e) → HasRun form in0 in1 out0 out1 new (end_of (Err (Line e)))
run-line-fault form in0 in1 out0 out1 said new rig logged a (fault.Outside line) r ended (is, same) =
    run-outside form in0 in1 out0 out1 new rig logged a line (still-running form in0 in1 out0 out1 said new rig logged a same r) (λ more. ended-stops logged.progress a.line more (Outside line) ended is)
run-line-fault form in0 in1 out0 out1 said new rig logged a fault.Spent r ended (is, same) =
    run-spent form in0 in1 out0 out1 new rig logged a (still-running form in0 in1 out0 out1 said new rig logged a same r) (λ more. ended-stops logged.progress a.line more Spent ended is)
run-line-fault form in0 in1 out0 out1 said new rig logged a fault.Memory r ended same =
    run-memory form in0 in1 out0 out1 new rig logged a (still-running form in0 in1 out0 out1 said new rig logged a same r)

-- ## The end of the source

-- the script is what was run and the last line
pub record IsAtEnd (in0 in2 : Incoming) (bytes line : List ℕ) : Type 0 where
  pub left : (flow : Flow) → in0.flow ≡ Some flow → flow.left ≡ bytes ++ line
  pub read : (flow : Flow) → in0.flow ≡ Some flow → IsRead flow flow.left in2.flow
  pub reads : in2.faults ≡ in0.faults

pub at-end : (form : Form) (in0 in1 in2 : Incoming) (out0 out1 : Outgoing) (said : List ℕ) (rig : MemoryRig) (logged : Logged) (a b : Ahead) (r : IsRunning form in0 in1 out0 out1 said rig logged a) → a.unread ≡ [] → ReadsOn b.unread in1 in2 → b.unread ≡ [] → IsAtEnd in0 in2 r.bytes a.line
at-end form in0 in1 in2 out0 out1 said rig logged a b r none reads ended =
    let whole : List ℕ = r.bytes ++ (a.line ++ a.unread) in
    let all : (flow : Flow) → in0.flow ≡ Some flow → flow.left ≡ whole = λ flow is.
    let read = r.told flow is in
    read.left ∙ ap (λ (t : List ℕ). whole ++ t) ((reads.told _ read.flow).1 ended) ∙ append-nil whole in
    record {
      left = λ flow is. all flow is ∙ ap (λ (t : List ℕ). r.bytes ++ (a.line ++ t)) none ∙ ap (λ (t : List ℕ). r.bytes ++ t) (append-nil a.line);
      read = λ flow is.
          let read = r.told flow is in
          subst (λ (t : List ℕ). IsRead flow t in2.flow) (ap (λ (t : List ℕ). whole ++ t) ended ∙ append-nil whole ∙ sym (all flow is))
          (read-read flow whole b.unread in1.flow in2.flow read (reads.told _ read.flow).0);
      reads = reads.faults ∙ r.reads;
    }

-- the transcript of the script from the last line on
last-transcript : (form : Form) (in0 in1 in2 : Incoming) (out0 out1 : Outgoing) (said : List ℕ) (rig : MemoryRig) (logged : Logged) (a : Ahead) (r : IsRunning form in0 in1 out0 out1 said rig logged a) → IsAtEnd in0 in2 r.bytes a.line → IsUnended a.line → (flow : Flow) → in0.flow ≡ Some flow → transcript form flow.left ≡ later r.text (finish (on_lines logged.progress (last_line a.line)))
last-transcript form in0 in1 in2 out0 out1 said rig logged a r end unended flow is =
    ap (transcript form) (end.left flow is)
    ∙ behind form r.bytes a.line r.text logged.progress r.whole r.ran
    ∙ ap (λ (l : Lines). later r.text (finish (on_lines logged.progress (all_lines l)))) unended

pub run-finished : (form : Form) (in0 in1 in2 : Incoming) (out0 out1 : Outgoing) (said new : List ℕ) (rig : MemoryRig) (logged : Logged) (a : Ahead) (r : IsRunning form in0 in1 out0 out1 said rig logged a) → IsAtEnd in0 in2 r.bytes a.line → IsUnended a.line → (done : Unit {0}) → Finishes (finish (on_lines logged.progress (last_line a.line))) said new (Ok done) → HasRun form in0 in2 out0 out1 new Done
run-finished form in0 in1 in2 out0 out1 said new rig logged a r end unended done (finished, is) = record {
  replays = λ flow h.
      let whole = last-transcript form in0 in1 in2 out0 out1 said rig logged a r end unended flow h in (
        ap (λ (t : Transcript). t.ending) whole ∙ finished,
        end.read flow h,
        subst (Gathers out0 out1 new) (sym (ap (λ (t : Transcript). t.text) whole)) (gathers-more out0 out1 said new r.text _ r.gathered is),
      );
  reads = end.reads;
  writes = gathers-faults out0 out1 said r.text r.gathered;
  silent = tt;
}

-- the run stopped in the last line
last-stopped : (form : Form) (in0 in1 in2 : Incoming) (out0 out1 : Outgoing) (said new : List ℕ) (rig : MemoryRig) (logged : Logged) (a : Ahead) (r : IsRunning form in0 in1 out0 out1 said rig logged a) (ending : Ending) → IsAtEnd in0 in2 r.bytes a.line → IsUnended a.line → finish (on_lines logged.progress (last_line a.line)) ≡ transcript_of [] ending → new ≡ said → (flow : Flow) → in0.flow ≡ Some flow → ((transcript form flow.left).ending ≡ ending) × Gathers out0 out1 new (transcript form flow.left).text
last-stopped form in0 in1 in2 out0 out1 said new rig logged a r ending end unended stops same flow is =
    let whole = last-transcript form in0 in1 in2 out0 out1 said rig logged a r end unended flow is ∙ ap (later r.text) stops in (
      ap (λ (t : Transcript). t.ending) whole,
      subst (Gathers out0 out1 new) (sym (ap (λ (t : Transcript). t.text) whole))
          (gathers-more out0 out1 said new r.text [] r.gathered (same ∙ sym (append-nil said))),
    )

pub run-finish-fault : (form : Form) (in0 in1 in2 : Incoming) (out0 out1 : Outgoing) (said new : List ℕ) (rig : MemoryRig) (logged : Logged) (a : Ahead) (e : LineFault) (r : IsRunning form in0 in1 out0 out1 said rig logged a) → IsAtEnd in0 in2 r.bytes a.line → IsUnended a.line → Finishes (finish (on_lines logged.progress (last_line a.line))) said new (Err e) → HasRun form in0 in2 out0 out1 new (end_of (Err (Line e)))
run-finish-fault form in0 in1 in2 out0 out1 said new rig logged a (fault.Outside line) r end unended (is, same) = record {
  replays = last-stopped form in0 in1 in2 out0 out1 said new rig logged a r (Outside line) end unended is same;
  reads = end.reads;
  writes = gathers-faults out0 out1 said r.text r.gathered;
  silent = tt;
}
run-finish-fault form in0 in1 in2 out0 out1 said new rig logged a fault.Spent r end unended (is, same) = record {
  replays = last-stopped form in0 in1 in2 out0 out1 said new rig logged a r Spent end unended is same;
  reads = end.reads;
  writes = gathers-faults out0 out1 said r.text r.gathered;
  silent = tt;
}
run-finish-fault form in0 in1 in2 out0 out1 said new rig logged a fault.Memory r end unended (part, more, parts, is) = record {
  replays = λ flow h.
      let whole = last-transcript form in0 in1 in2 out0 out1 said rig logged a r end unended flow h in (
        r.text ++ part,
        more,
        gathers-more out0 out1 said new r.text part r.gathered is,
        ap (λ (t : Transcript). t.text) whole ∙ ap (λ (t : List ℕ). r.text ++ t) parts ∙ sym (append_assoc r.text part more),
      );
  reads = end.reads;
  writes = gathers-faults out0 out1 said r.text r.gathered;
  silent = tt;
}

-- ## Writing what has gathered

pub prefix-written : (out0 out1 out2 : Outgoing) (said text : List ℕ) → GathersPrefix out0 out1 said text → out2 ≡ after_write said out1 → WritesPrefix text out0 out2
prefix-written out0 out1 out2 said text (before, more, g, parts) w =
    subst (λ (t : List ℕ). WritesPrefix t out0 out2) (sym parts)
    (prefix-more before more out0 out2 (prefix-all before out0 out2 (gathers-written out0 out1 out2 said before g w)))

pub failed-written : (out0 out1 out2 : Outgoing) (said text : List ℕ) → FailsWriting text out0 out1 → said ≡ [] → out2 ≡ after_write said out1 → FailsWriting text out0 out2
failed-written out0 out1 out2 said text failed silent w =
    subst (λ (o : Outgoing). FailsWriting text out0 o) (sym (w ∙ ap (λ (s : List ℕ). after_write s out1) silent ∙ write-nothing out1)) failed

pub prefix-failed : (out0 out1 out2 : Outgoing) (said text : List ℕ) → GathersPrefix out0 out1 said text → FailsWriting said out1 out2 → FailsWriting text out0 out2
prefix-failed out0 out1 out2 said text (before, more, g, parts) failed =
    subst (λ (t : List ℕ). FailsWriting t out0 out2) (sym parts)
    (fails-more before more out0 out2 (gathers-failed out0 out1 out2 said before g failed))

pub written-replays : (form : Form) (in0 in1 : Incoming) (out0 out1 out2 : Outgoing) (said : List ℕ) (end : ReplayEnd) → HasRun form in0 in1 out0 out1 said end → out2 ≡ after_write said out1 → (flow : Flow) → in0.flow ≡ Some flow → Replays form out0 out2 flow in1.flow end
written-replays form in0 in1 out0 out1 out2 said end run w flow is = rows end run.silent (run.replays flow is)
  where
    rows : (e : ReplayEnd) → IsSilentAt e said → Gathered form out0 out1 said flow in1.flow e → Replays form out0 out2 flow in1.flow e
    rows Done silent h = (h.0, h.1, gathers-written out0 out1 out2 said _ h.2 w)
    rows (Script line) silent h = (h.0, gathers-written out0 out1 out2 said _ h.1 w)
    rows NumbersSpent silent h = (h.0, gathers-written out0 out1 out2 said _ h.1 w)
    rows ReadFault silent h = record {
      bytes = h.bytes;
      read = h.read;
      progress = h.progress;
      text = h.text;
      ended = h.ended;
      printed = gathers-written out0 out1 out2 said h.text h.printed w;
    }
    rows WriteFault silent h = failed-written out0 out1 out2 said (transcript form flow.left).text h silent w
    rows Memory silent h = inl (prefix-written out0 out1 out2 said (transcript form flow.left).text h w)

pub written-faults : (form : Form) (in0 in1 : Incoming) (out0 out1 out2 : Outgoing) (said : List ℕ) (end : ReplayEnd) → HasRun form in0 in1 out0 out1 said end → out2 ≡ after_write said out1 → CountsWrites end out0.faults out2.faults
written-faults form in0 in1 out0 out1 out2 said end run w = inl (ap (λ (o : Outgoing). o.faults) w ∙ run.writes)

pub silent-some : (said : List ℕ) → said ≡ [] → 0 < length said → ⊥
silent-some said silent some = let none : length said ≡ 0 = ap length silent in omega (arith, none, some)

-- ## A last write that fails

pub failed-replays : (form : Form) (in0 in1 : Incoming) (out0 out1 out2 : Outgoing) (said : List ℕ) (end : ReplayEnd) → HasRun form in0 in1 out0 out1 said end → FailsWriting said out1 out2 → 0 < length said → (flow : Flow) → in0.flow ≡ Some flow → Replays form out0 out2 flow in1.flow (unwritten end)
failed-replays form in0 in1 out0 out1 out2 said end run failed some flow is = rows end run.silent (run.replays flow is)
  where
    rows : (e : ReplayEnd) → IsSilentAt e said → Gathered form out0 out1 said flow in1.flow e → Replays form out0 out2 flow in1.flow (unwritten e)
    rows Done silent h = gathers-failed out0 out1 out2 said _ h.2 failed
    rows (Script line) silent h = gathers-failed out0 out1 out2 said _ h.1 failed
    rows NumbersSpent silent h = gathers-failed out0 out1 out2 said _ h.1 failed
    rows ReadFault silent h = absurd (silent-some said silent some)
    rows WriteFault silent h = absurd (silent-some said silent some)
    rows Memory silent h = inr (prefix-failed out0 out1 out2 said (transcript form flow.left).text h failed)

pub failed-reads : (form : Form) (in0 in1 : Incoming) (out0 out1 : Outgoing) (said : List ℕ) (end : ReplayEnd) → HasRun form in0 in1 out0 out1 said end → 0 < length said → in1.faults ≡ read_faults (unwritten end) in0.faults
failed-reads form in0 in1 out0 out1 said end run some = rows end run.silent run.reads
  where
    rows : (e : ReplayEnd) → IsSilentAt e said → in1.faults ≡ read_faults e in0.faults → in1.faults ≡ read_faults (unwritten e) in0.faults
    rows Done silent h = h
    rows (Script line) silent h = h
    rows NumbersSpent silent h = h
    rows ReadFault silent h = absurd (silent-some said silent some)
    rows WriteFault silent h = h
    rows Memory silent h = h

pub failed-writes : (form : Form) (in0 in1 : Incoming) (out0 out1 out2 : Outgoing) (said : List ℕ) (end : ReplayEnd) → HasRun form in0 in1 out0 out1 said end → FailsWriting said out1 out2 → 0 < length said → CountsWrites (unwritten end) out0.faults out2.faults
failed-writes form in0 in1 out0 out1 out2 said end run failed some = rows end run.silent run.writes
  where
    counted : out1.faults ≡ out0.faults → out2.faults ≡ one_more out0.faults
    counted h = ap (λ (o : Outgoing). o.faults) failed.1 ∙ ap one_more h

    rows : (e : ReplayEnd) → IsSilentAt e said → out1.faults ≡ write_faults e out0.faults → CountsWrites (unwritten e) out0.faults out2.faults
    rows Done silent h = inl (counted h)
    rows (Script line) silent h = inl (counted h)
    rows NumbersSpent silent h = inl (counted h)
    rows ReadFault silent h = inl (counted h)
    rows WriteFault silent h = absurd (silent-some said silent some)
    rows Memory silent h = inr (refl, counted h)

-- ## The loop

pub at-true : (b : Bool) (P Q : Type 0) → b ≡ true → MatchBool b P Q → P
at-true true P Q is h = h
at-true false P Q is h = cc

pub at-false : (b : Bool) (P Q : Type 0) → b ≡ false → MatchBool b P Q → Q
at-false true P Q is h = cc
at-false false P Q is h = h

pub unended-none : (line : List ℕ) → line ≡ [] → IsUnended line
unfolding lines_of
unended-none line is = rw is refl

-- a line was run
pub step-ran : (form : Form) (in0 in1 : Incoming) (out0 out1 : Outgoing) (said new : List ℕ) (rig rig2 : MemoryRig) (logged next : Logged) (a b : Ahead) (line : List ℕ) → IsRunning form in0 in1 out0 out1 said rig logged a → line ≡ a.line → IsEnded a.line → Says (on_line logged.progress line) said new (Ok next) → Logs (payloads_in rig) (accepted_line logged.progress line) next.journal rig2 → b.line ≡ [] → b.unread ≡ a.unread → IsRunning form in0 in1 out0 out1 new rig2 next b
step-ran form in0 in1 out0 out1 said new rig rig2 logged next a b line r same ended says log empty unread =
    running-line form in0 in1 out0 out1 said new rig rig2 logged next a b r ended
    (subst (λ (l : List ℕ). Says (on_line logged.progress l) said new (Ok next)) same says)
    (subst (λ (l : List ℕ). Logs (payloads_in rig) (accepted_line logged.progress l) next.journal rig2) same log)
    empty unread

-- all that had gathered was written, and more was read
pub step-read : (form : Form) (in0 in1 in2 : Incoming) (out0 out1 out2 : Outgoing) (said left : List ℕ) (rig : MemoryRig) (logged : Logged) (a b : Ahead) → IsRunning form in0 in1 out0 out1 said rig logged a → out2 ≡ after_write said out1 → left ≡ [] → a.unread ≡ [] → b.line ≡ a.line → ReadsOn b.unread in1 in2 → IsRunning form in0 in2 out0 out2 left rig logged b
step-read form in0 in1 in2 out0 out1 out2 said left rig logged a b r written silent none line reads =
    running-read form in0 in1 in2 out0 out2 left rig logged a b
    (running-written form in0 in1 out0 out1 out2 said left rig logged a r (writes-all out1 out2 said left written silent)) none line reads

-- the measure goes down with each line, and with each read
pub smaller-line : (room line unread taken left next bline bunread : ℕ) → taken + left ≡ line + unread → left < unread → taken ≤ room → next + taken ≡ room → bline ≡ 0 → bunread ≡ left → 2 * (next - bline) + (1 - bunread) < 2 * (room - line) + (1 - unread)
smaller-line room line unread taken left next bline bunread moved fewer within counted empty same = omega (arith, moved, fewer, within, counted, empty, same)

pub smaller-read : (room line unread taken left bline bunread : ℕ) → taken + left ≡ line + unread → left ≡ 0 → taken ≤ room → bline ≡ taken → 0 < bunread → 2 * (room - bline) + (1 - bunread) < 2 * (room - line) + (1 - unread)
smaller-read room line unread taken left bline bunread moved none within same some = omega (arith, moved, none, within, same, some)

pub moved-lengths : (a b c d : List ℕ) → a ++ b ≡ c ++ d → length a + length b ≡ length c + length d
moved-lengths a b c d is = sym (length-append a b) ∙ ap length is ∙ length-append c d
