-- What a crash may leave of a file.
use Rattle.std.proofs.Common.{◌≡◌, ℕ, List, [], ◌∷◌, ◌++◌, length, Result, Ok, Err, inl, inr, sym, subst, arith}
use Rattle.std.proofs.lemmas.List.{ext_get_or}
use Rattle.rig.specs.Disk.{File, IsUntouched, IsImage, IsSound, settled, write_begun, write_done, cut_begun, BreaksOff, IsWritten, IsSynced}

-- the image of a settled file
pub settled_image : (bytes image : List ℕ) → IsImage (settled bytes) image → image ≡ bytes
settled_image bytes image is =
    let same_length : length image ≡ length bytes = omega (arith, is.no_shorter, is.no_longer) in
    ext_get_or 0 image bytes same_length (λ i within. is.stays i (omega arith) tt)

-- what a read gives says nothing of the images
pub same_images : (file : File) (reads image : List ℕ) → IsImage (record file { reads = reads }) image → IsImage file image
same_images file reads image is = record { no_shorter = is.no_shorter; no_longer = is.no_longer; stays = is.stays }

-- a place that more writes left alone
untouched_before : (written more : List (ℕ × ℕ)) (place : ℕ) → IsUntouched (written ++ more) place → IsUntouched written place
untouched_before [] more place h = tt
untouched_before (w ∷ written) more place h = (h.0, untouched_before written more place h.1)

-- an image stays one when a write begins
pub image_in_write : (at count : ℕ) (file : File) (image : List ℕ) → IsImage file image → IsImage (write_begun at count file) image
image_in_write at count file image is = record {
  no_shorter = is.no_shorter;
  no_longer = omega (arith, is.no_longer);
  stays = λ place below untouched. is.stays place below (untouched_before file.written ((at, count) ∷ []) place untouched);
}

-- and when a cut begins
pub image_in_cut : (len : ℕ) (file : File) (image : List ℕ) → IsImage file image → IsImage (cut_begun len file) image
image_in_cut len file image is = record {
  no_shorter = omega (arith, is.no_shorter);
  no_longer = is.no_longer;
  stays = λ place below untouched. is.stays place (omega arith) untouched;
}

broken_images : (begun old new : File) (image : List ℕ) → ((i : List ℕ) → IsImage old i → IsImage begun i) → BreaksOff begun old new → IsImage new image → IsImage begun image
broken_images begun old new image more (inl same) is = more image (subst (λ (f : File). IsImage f image) same is)
broken_images begun old new image more (inr broken) is = same_images begun broken.0 image (subst (λ (f : File). IsImage f image) broken.2 is)

-- After a write, done or failed, each image is one of a write that has begun.
pub images_after_write : {E : Type 0} {steady : Type 0} (at : ℕ) (bytes : List ℕ) (result : Result (Unit {0}) E) (old new : File) (image : List ℕ) → IsWritten steady at bytes result old new → IsImage new image → IsImage (write_begun at (length bytes) old) image
images_after_write at bytes (Ok _) old new image h is = same_images (write_begun at (length bytes) old) (write_done at bytes old).reads image (subst (λ (f : File). IsImage f image) h.done is)
images_after_write at bytes (Err _) old new image h is = broken_images (write_begun at (length bytes) old) old new image (image_in_write at (length bytes) old) h.failed is

-- After a sync, done or failed, each image is one of those before it.
pub images_after_sync : {E : Type 0} {steady : Type 0} (result : Result (Unit {0}) E) (old new : File) (image : List ℕ) → IsSound old → IsSynced steady result old new → IsImage new image → IsImage old image
images_after_sync (Ok _) old new image sound h is =
    subst (λ (i : List ℕ). IsImage old i) (sym (settled_image old.reads image (subst (λ (f : File). IsImage f image) h.done is))) sound.reads
images_after_sync (Err _) old new image sound h is = broken_images old old new image (λ i h. h) h.failed is
