-- What a crash leaves at each step of an append and of an opening, and what stands after them.
use Rattle.std.proofs.Common.{◌≡◌, ℕ, false, true, ◌+◌, ◌<◌, ◌≤◌, List, [], ◌∷◌, ◌++◌, length, take, drop, Result, Ok, Err, inl, inr, sym, ap, ap₂, ◌∙◌, subst, arith, append-nil}
use Rattle.std.proofs.lemmas.List.{ext_get_or, length-take, length-append, get_or-take, take_all, drop_all, take-append-drop}
use Rattle.rig.specs.Disk.{File, IsImage, IsSoundDisk, settled, overwritten, write_begun, IsWritten, IsSynced, file_of, with_file}
use Rattle.rig.specs.Told.{Moment, History, IsStep, OnFile, GoesOn, WhereTold, HasOneNow, Then, reads_of}
use Rattle.rig.specs.declared.side.Side.TheVariants.{A}
use Rattle.std.specs.Result.{IsErr}
use Rattle.rig.proofs.Histories.{then, into_told, since_step, since_since}
use Rattle.rig.proofs.Images.{images_after_write, images_after_sync}
use Rattle.journal_core.specs.Records.{Contents, StandsFor, contents, spelled, greatest}
use Rattle.journal_core.specs.Appends.{IsReady, IsTorn, IsWithinAppend, IsAppended, IsWithinOpening, IsOpened}
use Rattle.journal_core.proofs.Reading.{contents-append, contents-spelled, no_bytes}

-- ---- appending

-- a crash while the record is written behind whole records that are on the disk
torn_image : (payload bytes image : List ℕ) → (contents bytes).rest ≡ [] → IsImage (write_begun (length bytes) (length (spelled payload)) (settled bytes)) image → IsTorn payload bytes image
torn_image payload bytes image whole is =
    let size : length (take (length bytes) image) ≡ length bytes = simp length-take (omega (arith, is.no_shorter)) in
    let front : take (length bytes) image ≡ bytes =
    ext_get_or 0 (take (length bytes) image) bytes size (λ i within. let below : i < length bytes = omega (arith, size) in
    get_or-take (length bytes) image i 0 below ∙ is.stays i below (inl below, tt)) in
    record {
      front = front;
      most = omega (arith, is.no_longer);
      stands =
          ap (λ i. (contents i).payloads) (sym (take-append-drop (length bytes) image) ∙ ap (λ f. f ++ drop (length bytes) image) front)
          ∙ ap (λ (c : Contents). c.payloads) (contents-append bytes (drop (length bytes) image) whole);
    }

-- after the write, whatever it answered
within_write : {E : Type 0} {steady : Type 0} (end : ℕ) (payload : List ℕ) (result : Result (Unit {0}) E) (old new : Moment) → IsReady end old → OnFile A (IsWritten steady end (spelled payload) result) old new → IsWithinAppend payload old new
within_write end payload result old new ready step = record {
  elsewhere = step.rest;
  images = λ image is. torn_image payload (reads_of A old) image ready.whole
      (let begun : ℕ → File → Type 0 = λ at file. IsImage (write_begun at (length (spelled payload)) file) image in
      subst (λ at. begun at (settled (reads_of A old))) ready.size
      (subst (begun end) ready.kept (images_after_write end (spelled payload) result (file_of A old.disk) (file_of A new.disk) image step.file is)));
}

-- after the sync, whatever it answered
within_sync : {E : Type 0} {steady : Type 0} (payload : List ℕ) (result : Result (Unit {0}) E) (old middle new : Moment) → IsSoundDisk middle.disk → IsWithinAppend payload old middle → OnFile A (IsSynced steady result) middle new → IsWithinAppend payload old new
within_sync payload result old middle new sound within step = record {
  elsewhere = step.rest ∙ ap (λ (m : Moment). record m { disk = with_file A (file_of A new.disk) m.disk }) within.elsewhere;
  images = λ image is. within.images image (images_after_sync result (file_of A middle.disk) (file_of A new.disk) image sound.a step.file is);
}

whole_contents : (c : Contents) → c.rest ≡ [] → c ≡ record { payloads = c.payloads; rest = [] }
whole_contents c whole = ap (λ rest. record { payloads = c.payloads; rest = rest }) whole

-- whole records with another behind them
stands_more : (payload bytes : List ℕ) → 0 < length payload → length payload ≤ greatest → (contents bytes).rest ≡ [] → StandsFor ((contents bytes).payloads ++ payload ∷ []) (bytes ++ spelled payload)
stands_more payload bytes some fits whole =
    contents-append bytes (spelled payload) whole
    ∙ ap (λ (c : Contents). record { payloads = (contents bytes).payloads ++ c.payloads; rest = c.rest }) (contents-spelled payload some fits)

-- the write failed
write_failed : {T E F : Type 0} {steady : Type 0} (end : ℕ) (payload : List ℕ) (e : E) (result : Result T F) (old new : History) → IsErr result → IsReady end old.now → IsStep (OnFile A (IsWritten steady end (spelled payload) (Err e))) old new → IsAppended steady payload result old new
write_failed end payload e (Ok v) old new fails ready step = absurd (let wrong : false ≡ true = fails in cc)
write_failed end payload e (Err f) old new fails ready step =
    let within = within_write end payload (Err e) old.now new.now ready step.changed in
    record {
      steps = since_step step within;
      left = within;
      kept = tt;
      stands = tt;
      whole = λ is. let same = ap (λ (f : File). f.reads) (step.changed.file.idle is) in inl (same, ap contents same ∙ whole_contents (contents (reads_of A old.now)) ready.whole);
    }

overwritten_end : (bytes more : List ℕ) → overwritten (length bytes) more bytes ≡ bytes ++ more
overwritten_end bytes more =
    ap₂ (λ (a b : List ℕ). a ++ (more ++ b)) (take_all (length bytes) bytes (omega arith)) (drop_all (length bytes + length more) bytes (omega arith))
    ∙ ap (λ b. bytes ++ b) (append-nil more)

-- what a read gives after the write
written_reads : {E : Type 0} {steady : Type 0} (end : ℕ) (payload : List ℕ) (old middle : Moment) → IsReady end old → OnFile A (IsWritten {E = E} steady end (spelled payload) (Ok tt)) old middle → reads_of A middle ≡ reads_of A old ++ spelled payload
written_reads end payload old middle ready step =
    ap (λ (f : File). f.reads) step.file.done
    ∙ ap (λ at. overwritten at (spelled payload) (reads_of A old)) ready.size
    ∙ overwritten_end (reads_of A old) (spelled payload)

-- the write was done, and the sync failed
sync_failed : {R : Type 0} (tells : R → History → Type 0) (between : R) {T E F : Type 0} (steady later : Type 0) (end : ℕ) (payload : List ℕ) (e : E) (result : Result T F) (old new : History) → (steady → later) → 0 < length payload → length payload ≤ greatest → IsErr result → IsReady end old.now
    → WhereTold tells between (λ now. IsSoundDisk now.disk) → Then tells between (IsStep (OnFile A (IsWritten {E = E} steady end (spelled payload) (Ok tt)))) (IsStep (OnFile A (IsSynced later (Err e)))) old new → IsAppended steady payload result old new
sync_failed tells between steady later end payload e (Ok v) old new stays some fits fails ready sound both = absurd (let wrong : false ≡ true = fails in cc)
sync_failed tells between steady later end payload e (Err f) old new stays some fits fails ready sound both =
    let first = within_write end payload (Ok tt) old.now both.middle.now ready both.went.changed in
    let second = within_sync payload (Err e) old.now both.middle.now new.now (sound both.middle both.told) first both.goes.changed in
    record {
      steps = since_since (since_step both.went first) (since_step both.goes second);
      left = second;
      kept = tt;
      stands = tt;
      whole = λ is.
          let same = ap (λ (f : File). f.reads) (both.goes.changed.file.idle (stays is)) ∙ written_reads end payload old.now both.middle.now ready both.went.changed in
          inr (same, ap contents same ∙ stands_more payload (reads_of A old.now) some fits ready.whole);
    }

-- both were done
appended : {R : Type 0} (tells : R → History → Type 0) (between : R) {T E F : Type 0} {steady later : Type 0} (end : ℕ) (payload : List ℕ) (v : T) (old new : History) → 0 < length payload → length payload ≤ greatest → IsReady end old.now
    → WhereTold tells between (λ now. IsSoundDisk now.disk) → Then tells between (IsStep (OnFile A (IsWritten {E = E} steady end (spelled payload) (Ok tt)))) (IsStep (OnFile A (IsSynced {E = E} later (Ok tt)))) old new → IsAppended {E = F} steady payload (Ok v) old new
appended tells between end payload v old new some fits ready sound both =
    let first = within_write end payload (Ok tt) old.now both.middle.now ready both.went.changed in
    let second = within_sync payload (Ok tt) old.now both.middle.now new.now (sound both.middle both.told) first both.goes.changed in
    let reads = written_reads end payload old.now both.middle.now ready both.went.changed in
    let kept : file_of A new.now.disk ≡ settled (reads_of A old.now ++ spelled payload) = both.goes.changed.file.done ∙ ap settled reads in
    record {
      steps = since_since (since_step both.went first) (since_step both.goes second);
      left = second;
      kept = kept;
      stands =
          ap (λ (c : Contents). c.payloads) (ap contents (ap (λ (f : File). f.reads) kept) ∙ contents-append (reads_of A old.now) (spelled payload) ready.whole)
          ∙ ap (λ (c : Contents). (contents (reads_of A old.now)).payloads ++ c.payloads) (contents-spelled payload some fits);
      whole = tt;
    }

-- ---- the same of what is told

module _ {R : Type 0} (tells : R → History → Type 0) where
  pub told_write_failed : (a b : R) {T E F : Type 0} {steady : Type 0} (end at : ℕ) (payload bytes : List ℕ) (e : E) (result : Result T F) → at ≡ end → bytes ≡ spelled payload → IsErr result → WhereTold tells a (IsReady end)
      → GoesOn tells a b (IsStep (OnFile A (IsWritten steady at bytes (Err e)))) → GoesOn tells a b (IsAppended steady payload result)
  told_write_failed a b {steady = steady} end at payload bytes e result same_at same_bytes fails ready goes =
      into_told (λ old new at_a at_b step. write_failed end payload e result old new fails (ready old at_a)
      (subst (λ n. IsStep (OnFile A (IsWritten steady n (spelled payload) (Err e))) old new) same_at (subst (λ bs. IsStep (OnFile A (IsWritten steady at bs (Err e))) old new) same_bytes step)))
      goes

  write_told : (a b : R) {E : Type 0} {steady : Type 0} (end at : ℕ) (payload bytes : List ℕ) (v : Unit {0}) → at ≡ end → bytes ≡ spelled payload → GoesOn tells a b (IsStep (OnFile A (IsWritten {E = E} steady at bytes (Ok v)))) → GoesOn tells a b (IsStep (OnFile A (IsWritten {E = E} steady end (spelled payload) (Ok tt))))
  write_told a b {E = E} {steady = steady} end at payload bytes v same_at same_bytes goes =
      subst (λ n. GoesOn tells a b (IsStep (OnFile A (IsWritten {E = E} steady n (spelled payload) (Ok tt))))) same_at (subst (λ bs. GoesOn tells a b (IsStep (OnFile A (IsWritten {E = E} steady at bs (Ok tt))))) same_bytes goes)

  pub told_sync_failed : (a between b : R) {T E F : Type 0} (steady later : Type 0) (end at : ℕ) (payload bytes : List ℕ) (v : Unit {0}) (e : E) (result : Result T F) → at ≡ end → bytes ≡ spelled payload → (steady → later) → 0 < length payload → length payload ≤ greatest → IsErr result → WhereTold tells a (IsReady end)
      → WhereTold tells between (λ now. IsSoundDisk now.disk) → GoesOn tells a between (IsStep (OnFile A (IsWritten {E = E} steady at bytes (Ok v)))) → GoesOn tells between b (IsStep (OnFile A (IsSynced later (Err e)))) → GoesOn tells a b (IsAppended steady payload result)
  told_sync_failed a between b steady later end at payload bytes v e result same_at same_bytes stays some fits fails ready sound wrote synced =
      into_told (λ old new at_a at_b both. sync_failed tells between steady later end payload e result old new stays some fits fails (ready old at_a) sound both)
      (then (write_told a between end at payload bytes v same_at same_bytes wrote) synced)

  pub told_appended : (a between b : R) {T E F : Type 0} {steady later : Type 0} (end at : ℕ) (payload bytes : List ℕ) (v w : Unit {0}) (x : T) → at ≡ end → bytes ≡ spelled payload → 0 < length payload → length payload ≤ greatest → WhereTold tells a (IsReady end)
      → WhereTold tells between (λ now. IsSoundDisk now.disk) → GoesOn tells a between (IsStep (OnFile A (IsWritten {E = E} steady at bytes (Ok v)))) → GoesOn tells between b (IsStep (OnFile A (IsSynced {E = E} later (Ok w)))) → GoesOn tells a b (IsAppended {E = F} steady payload (Ok x))
  told_appended a between b end at payload bytes v w x same_at same_bytes some fits ready sound wrote synced =
      into_told (λ old new at_a at_b both. appended tells between end payload x old new some fits (ready old at_a) sound both)
      (then (write_told a between end at payload bytes v same_at same_bytes wrote) synced)

-- the file is ready for the next
pub ready_after : {R : Type 0} (tells : R → History → Type 0) (a b : R) {T E : Type 0} {steady : Type 0} (end after : ℕ) (payload : List ℕ) (v : T) → HasOneNow tells b → WhereTold tells a (IsReady end)
    → 0 < length payload → length payload ≤ greatest → after ≡ end + (4 + length payload) → GoesOn tells a b (IsAppended {E = E} steady payload (Ok v)) → WhereTold tells b (IsReady after)
ready_after tells a b end after payload v one_now ready some fits is goes told at_b =
    let before = goes.back told at_b in
    let later = goes.each before.0 before.1 told at_b in
    let was = ready before.0 before.1 in
    subst (IsReady after) (one_now later.0 told later.1 at_b) (ready_now before.0.now later.0.now was later.2.kept)
  where
    ready_now : (old new : Moment) → IsReady end old → file_of A new.disk ≡ settled (reads_of A old ++ spelled payload) → IsReady after new
    ready_now old new was kept =
        let reads = ap (λ (f : File). f.reads) kept in
        let size = ap length reads in
        let whole = length-append (reads_of A old) (spelled payload) in
        record {
          kept = kept ∙ ap settled (sym reads);
          whole = ap (λ (c : Contents). c.rest) (ap contents reads ∙ contents-append (reads_of A old) (spelled payload) was.whole ∙ ap (λ (c : Contents). record { payloads = (contents (reads_of A old)).payloads ++ c.payloads; rest = c.rest }) (contents-spelled payload some fits));
          size = omega (arith, is, size, whole, was.size);
        }

-- ---- opening

within_opening : {E : Type 0} {steady : Type 0} (result : Result (Unit {0}) E) (old new : Moment) → IsSoundDisk old.disk → OnFile A (IsSynced steady result) old new → IsWithinOpening old new
within_opening result old new sound step = record {
  elsewhere = step.rest;
  images = λ image is. images_after_sync result (file_of A old.disk) (file_of A new.disk) image sound.a step.file is;
}

opening_failed : {T E F : Type 0} {steady : Type 0} (e : E) (result : Result T F) (old new : History) → IsErr result → IsSoundDisk old.now.disk → IsStep (OnFile A (IsSynced steady (Err e))) old new → IsOpened steady result old new
opening_failed e (Ok v) old new fails sound step = absurd (let wrong : false ≡ true = fails in cc)
opening_failed e (Err f) old new fails sound step =
    let within = within_opening (Err e) old.now new.now sound step.changed in
    record { steps = since_step step within; left = within; kept = tt; idle = λ is. step.changed.file.idle is }

opened : {T E F : Type 0} {steady : Type 0} (v : T) (old new : History) → reads_of A old.now ≡ [] → IsSoundDisk old.now.disk → IsStep (OnFile A (IsSynced {E = E} steady (Ok tt))) old new → IsOpened {E = F} steady (Ok v) old new
opened v old new empty sound step =
    let within = within_opening (Ok tt) old.now new.now sound step.changed in
    record { steps = since_step step within; left = within; kept = step.changed.file.done ∙ ap settled empty; idle = tt }

module _ {R : Type 0} (tells : R → History → Type 0) where
  pub told_opening_failed : (a b : R) {T E F : Type 0} {steady : Type 0} (e : E) (result : Result T F) → IsErr result → WhereTold tells a (λ now. IsSoundDisk now.disk)
      → GoesOn tells a b (IsStep (OnFile A (IsSynced steady (Err e)))) → GoesOn tells a b (IsOpened steady result)
  told_opening_failed a b e result fails sound goes = into_told (λ old new at_a at_b step. opening_failed e result old new fails (sound old at_a) step) goes

  pub told_opened : (a b : R) {T E F : Type 0} {steady : Type 0} (v : Unit {0}) (x : T) → WhereTold tells a (λ now. reads_of A now ≡ []) → WhereTold tells a (λ now. IsSoundDisk now.disk)
      → GoesOn tells a b (IsStep (OnFile A (IsSynced {E = E} steady (Ok v)))) → GoesOn tells a b (IsOpened {E = F} steady (Ok x))
  told_opened a b v x empty sound goes = into_told (λ old new at_a at_b step. opened x old new (empty old at_a) (sound old at_a) step) goes

-- an empty file is ready
pub ready_opened : {R : Type 0} (tells : R → History → Type 0) (a b : R) {T E : Type 0} {steady : Type 0} (v : T) → HasOneNow tells b → GoesOn tells a b (IsOpened {E = E} steady (Ok v)) → WhereTold tells b (IsReady 0)
ready_opened tells a b v one_now goes told at_b =
    let before = goes.back told at_b in
    let later = goes.each before.0 before.1 told at_b in
    subst (IsReady 0) (one_now later.0 told later.1 at_b) (ready_now later.0.now later.2.kept)
  where
    ready_now : (new : Moment) → file_of A new.disk ≡ settled [] → IsReady 0 new
    ready_now new kept =
        let reads = ap (λ (f : File). f.reads) kept in
        record {
          kept = kept ∙ ap settled (sym reads);
          whole = ap (λ bytes. (contents bytes).rest) reads ∙ ap (λ (c : Contents). c.rest) no_bytes;
          size = sym (ap length reads);
        }
