-- The word of a kind has no escape.
use Rattle.std.proofs.Common.{◌≡◌, ◌⊎◌, inl, inr, refl, ap, ◌∙◌, Bool, true, false, cond, List, ℕ, bytes_eq, codes}
use Rattle.json_text.specs.Plain.{is_plain}
use Rattle.json_text.specs.Text.{inside, unescaped}
use Rattle.json_text.proofs.PlainLemmas.{plain-spelling}
use Rattle.lists.proofs.Texts.{bytes_same}
use Rattle.sdk_reply.specs.Operations.{word_of}
use Rattle.sdk_reply.specs.declared.op_word.OpWord.{OpWord}
use Rattle.sdk_reply.specs.declared.op_word.OpWord.TheVariants.{Ran, Failed, Planned, Sleeps, Waits, Invokes, Unknown}

by-word : (t name : List ℕ) (word rest : OpWord) (is : Bool) → bytes_eq t name ≡ is → is_plain name ≡ true
    → (is_plain t ≡ true) ⊎ (rest ≡ Unknown) → (is_plain t ≡ true) ⊎ (cond is word rest ≡ Unknown)
by-word t name word rest true e plain others = inl (ap is_plain (bytes_same t name e) ∙ plain)
by-word t name word rest false e plain others = others

plain-word : (t : List ℕ) → (is_plain t ≡ true) ⊎ (word_of t ≡ Unknown)
plain-word t =
    by-word t (codes "StepRun") Ran _ (bytes_eq t (codes "StepRun")) refl refl
    (by-word t (codes "StepError") Failed _ (bytes_eq t (codes "StepError")) refl refl
    (by-word t (codes "StepPlanned") Planned _ (bytes_eq t (codes "StepPlanned")) refl refl
    (by-word t (codes "Sleep") Sleeps _ (bytes_eq t (codes "Sleep")) refl refl
    (by-word t (codes "WaitForEvent") Waits _ (bytes_eq t (codes "WaitForEvent")) refl refl
    (by-word t (codes "InvokeFunction") Invokes Unknown (bytes_eq t (codes "InvokeFunction")) refl refl (inr refl))))))

known : (w : List ℕ) → (is_plain (inside w) ≡ true) ⊎ (word_of (inside w) ≡ Unknown) → (word_of (inside w) ≡ Unknown → ⊥)
    → word_of (inside w) ≡ word_of (unescaped w)
known w (inl plain) is = ap word_of (plain-spelling w plain)
known w (inr unknown) is = absurd (is unknown)

pub known-word : (w : List ℕ) (word : OpWord) → word ≡ word_of (inside w) → (word ≡ Unknown → ⊥) → word ≡ word_of (unescaped w)
known-word w word e is = e ∙ known w (plain-word (inside w)) (λ (u : word_of (inside w) ≡ Unknown). is (e ∙ u))
