-- The journal over a rig in memory: what its calls tell, as facts of the rig's value.
use Rattle.std.proofs.Common.{◌≡◌, ℕ, ◌⊎◌, List, [], ◌∷◌, ◌++◌, true, Ok, Err, inl, inr, refl, ap, ◌∙◌, sym, subst, arith, lit<}
use Rattle.journal_core.specs.Appends.{IsAppended, IsBeforeOrAfter, IsOpened, IsReady}
use Rattle.journal_core.specs.Records.{Contents, StandsFor, contents, read_records}
use Rattle.rig.specs.Disk.{File, IsSound, IsSoundDisk, settled}
use Rattle.rig.specs.MemoryFile.{MemoryFile, file_in}
use Rattle.rig.specs.MemoryRig.{IsSteady, MemoryRig, disk_of, moment_of, rig_tells}
use Rattle.rig.specs.Told.{GoesOn, Moment, StillTells, WhereTold, reads_of}
use Rattle.rig.specs.declared.side.Side.TheVariants.{A}
use Rattle.rig.proofs.MemoryMoments.{took_place}
use Rattle.replay_core.specs.Log.{IsBlank, IsLogging, Logs, payloads_in}

-- what is told of the present, of a rig that tells
now-told : (rig : MemoryRig) (P : Moment → Type 0) → (rig.telling ≡ true) × IsSoundDisk (disk_of rig) → WhereTold rig_tells rig P → P (moment_of rig)
now-told rig P tells h = h (record { now = moment_of rig; past = [] }) (tells.0, refl, tells.1)

-- ## Opening

empty-stands : contents [] ≡ record { payloads = []; rest = [] }
unfolding contents read_records
empty-stands = refl

empty-sound : IsSound (settled [])
empty-sound = record {
  reads = record { no_shorter = omega arith; no_longer = omega arith; stays = λ place below untouched. refl };
  kept = record { no_shorter = omega arith; no_longer = omega arith; stays = λ place below untouched. refl };
  fits = lit< tt;
}

blank-sound : (rig : MemoryRig) → IsBlank rig → IsSoundDisk (disk_of rig)
blank-sound rig blank = record {
  a = subst (λ (f : MemoryFile). IsSound (file_in f)) (sym blank.a) empty-sound;
  b = subst (λ (f : MemoryFile). IsSound (file_in f)) (sym blank.b) empty-sound;
}

pub blank-stands : (rig : MemoryRig) → IsBlank rig → StandsFor [] rig.a.bytes
blank-stands rig blank = ap (λ (f : MemoryFile). contents f.bytes) blank.a ∙ empty-stands

pub opened-logs : {E : Type 0} (old new : MemoryRig) (end : ℕ) → IsBlank old → (IsSteady old → IsSteady new) → StillTells rig_tells old new → GoesOn rig_tells old new (IsOpened {E = E} (IsSteady old) (Ok end)) → WhereTold rig_tells new (IsReady end) → Logs [] [] end new
opened-logs {E = E} old new end blank stays still goes ready =
    let took = took_place old new (IsOpened {E = E} (IsSteady old) (Ok end)) blank.telling (blank-sound old blank) still goes in
    let empty : new.a.bytes ≡ [] = ap (reads_of A) (sym took.is) ∙ ap (λ (f : File). f.reads) took.went.kept in
    record {
      logging = record {
        telling = took.telling;
        steady = stays blank.steady;
        sound = took.sound;
        ready = now-told new (IsReady end) (took.telling, took.sound) ready;
      };
      payloads = ap (λ bytes. (contents bytes).payloads) empty ∙ ap (λ (c : Contents). c.payloads) empty-stands;
    }

pub opening-failed : {T E : Type 0} (old new : MemoryRig) (error : E) → IsBlank old → StillTells rig_tells old new → GoesOn rig_tells old new (IsOpened {T = T} (IsSteady old) (Err error)) → StandsFor [] new.a.bytes
opening-failed {T = T} old new error blank still goes =
    let took = took_place old new (IsOpened {T = T} (IsSteady old) (Err error)) blank.telling (blank-sound old blank) still goes in
    let same : new.a.bytes ≡ old.a.bytes = ap (reads_of A) (sym took.is) ∙ ap (λ (f : File). f.reads) (took.went.idle blank.steady) ∙ ap (reads_of A) took.was in
    ap contents same ∙ blank-stands old blank

-- ## Appending

pub appended-logs : {E : Type 0} (old new : MemoryRig) (end after : ℕ) (payload : List ℕ) → IsLogging end old → (IsSteady old → IsSteady new) → StillTells rig_tells old new → GoesOn rig_tells old new (IsAppended {E = E} (IsSteady old) payload (Ok after)) → WhereTold rig_tells new (IsReady after) → Logs (payloads_in old) (payload ∷ []) after new
appended-logs {E = E} old new end after payload log stays still goes ready =
    let took = took_place old new (IsAppended {E = E} (IsSteady old) payload (Ok after)) log.telling log.sound still goes in
    record {
      logging = record {
        telling = took.telling;
        steady = stays log.steady;
        sound = took.sound;
        ready = now-told new (IsReady after) (took.telling, took.sound) ready;
      };
      payloads = ap (λ (m : Moment). (contents (reads_of A m)).payloads) (sym took.is) ∙ took.went.stands ∙ ap (λ (m : Moment). (contents (reads_of A m)).payloads ++ payload ∷ []) took.was;
    }

pub append-failed : {T E : Type 0} (old new : MemoryRig) (end : ℕ) (payload : List ℕ) (error : E) → IsLogging end old → StillTells rig_tells old new → GoesOn rig_tells old new (IsAppended {T = T} (IsSteady old) payload (Err error)) → StandsFor (payloads_in old) new.a.bytes ⊎ StandsFor (payloads_in old ++ payload ∷ []) new.a.bytes
append-failed {T = T} old new end payload error log still goes =
    let took = took_place old new (IsAppended {T = T} (IsSteady old) payload (Err error)) log.telling log.sound still goes in
    let left : IsBeforeOrAfter payload (reads_of A took.before.now) (reads_of A took.after.now) = took.went.whole log.steady in
    let from = subst (λ (m : Moment). IsBeforeOrAfter payload (reads_of A m) (reads_of A took.after.now)) took.was left in
    let to = subst (λ (m : Moment). IsBeforeOrAfter payload old.a.bytes (reads_of A m)) took.is from in
    either to
  where
    either : IsBeforeOrAfter payload old.a.bytes new.a.bytes → StandsFor (payloads_in old) new.a.bytes ⊎ StandsFor (payloads_in old ++ payload ∷ []) new.a.bytes
    either (inl same) = inl same.1
    either (inr more) = inr more.1

-- ## What file A stands for

pub logging-stands : (size : ℕ) (rig : MemoryRig) → IsLogging size rig → StandsFor (payloads_in rig) rig.a.bytes
logging-stands size rig log = ap (λ rest. record { payloads = payloads_in rig; rest = rest }) log.ready.whole

pub logs-stands : (before added : List (List ℕ)) (size : ℕ) (rig : MemoryRig) → Logs before added size rig → StandsFor (before ++ added) rig.a.bytes
logs-stands before added size rig log = subst (λ (payloads : List (List ℕ)). StandsFor payloads rig.a.bytes) log.payloads (logging-stands size rig log.logging)
