-- What a parse that succeeds or fails says of the words, and what the getters read of them.
use Rattle.std.proofs.Common.{◌≡◌, ◌∙◌, ◌⊎◌, ◌<◌, ◌≤◌, ◌^◌, ℕ, Bool, true, false, refl, sym, ap, ap₂, subst, arith, List, [], ◌∷◌, Option, Some, None, Result, Ok, Err, inl, inr}
use Rattle.std.specs.Prelude.{◌≢◌, IfSome, codes, option_map, pos, unwrap_or}
use Rattle.std.specs.Str.{bytes_eq}
use Rattle.std.specs.Str.Parse.{ParsesBool, ParsesUnsigned}
use Rattle.std.proofs.lemmas.Slice.Eq.{bytes_eq-Decides}
use Rattle.clap.specs.Faults.{fault_of, is_simple_and_free}
use Rattle.clap.specs.Kinds.{HasKind, Kinds}
use Rattle.clap.specs.Matches.{ReadsOne, found_of, one_text}
use Rattle.clap.specs.Simple.{App, HasMatchesOf, app_of, matches_of}
use Rattle.clap.specs.Values.{kind_of}
use Rattle.clap.specs.Walk.{Row, Text, rows_of}
use Rattle.clap.specs.declared.builder.command.Command.{Command}
use Rattle.clap.specs.declared.builder.value_parser.ValueParser.TheVariants.{Signed}
use Rattle.clap.specs.declared.error.Error.{Error}
use Rattle.clap.specs.declared.error.kind.ErrorKind.TheVariants.{OutOfMemory}
use Rattle.clap.specs.declared.parser.matches.ArgMatches.{ArgMatches}
use Rattle.clap.proofs.CallerReads.{signed_reads}
use Rattle.clap.proofs.WalkLemmas.{both, one_text-rows}
use Rattle.words.specs.Reading.{IsRead, flag_of, is_true, number_in, number_of, unless_refused, words_of}
use Rattle.words.specs.declared.fault.WordsFault.{WordsFault}
use Rattle.words.specs.declared.fault.WordsFault.TheVariants.{Usage, Memory}
use Rattle.words.proofs.ValueLemmas.{IsPassed}

-- ## A parse

-- an error for another reason than memory refuses the words
error_refuses : {W : Type 0} (kinds : Kinds) (e : Error) (w : W) → HasKind kinds e → kind_of e ≢ OutOfMemory → unless_refused kinds w ≡ None
error_refuses [] e w (inl memory) other = absurd (other memory)
error_refuses [] e w (inr none) other = absurd none
error_refuses (kind ∷ kinds) e w h other = refl

is_read : {W : Type 0} (kinds : Kinds) (e : Error) (f : WordsFault) (w : W) → HasKind kinds e → (f ≡ Memory) ⊎ ((f ≡ Usage) × (kind_of e ≢ OutOfMemory)) → IsRead (unless_refused kinds w) (Err f)
is_read kinds e f w h (inl memory) = rw memory tt
is_read kinds e f w h (inr (usage, other)) = rw usage (error_refuses kinds e w h other)

module _ (c : Command) (app : App) (same : app_of c ≡ app) (free : is_simple_and_free app ≡ true) (texts : List Text) (W : Type 0) (found : List Row → W) where
  pub refuses : (e : Error) (f : WordsFault) → (is_simple_and_free (app_of c) ≡ true → HasKind (fault_of (app_of c) texts) e)
      → (f ≡ Memory) ⊎ ((f ≡ Usage) × (kind_of e ≢ OutOfMemory)) → IsRead (words_of app found texts) (Err f)
  refuses e f kinds from =
      is_read (fault_of app texts) e f (found (matches_of app texts)) (subst (λ (a : App). HasKind (fault_of a texts) e) same (kinds (ap is_simple_and_free same ∙ free))) from

  pub takes : (m : ArgMatches) (w : W) → HasMatchesOf (app_of c) texts m → (is_simple_and_free (app_of c) ≡ true → fault_of (app_of c) texts ≡ [])
      → w ≡ found (rows_of (found_of m)) → words_of app found texts ≡ Some w
  takes m w matches kinds is =
      let always = ap is_simple_and_free same ∙ free in
      let none : fault_of app texts ≡ [] = ap (λ (a : App). fault_of a texts) (sym same) ∙ kinds always in
      let rows : rows_of (found_of m) ≡ matches_of app texts = (matches (both _ _ always).0).0 ∙ ap (λ (a : App). matches_of a texts) same in
      ap₂ (λ (k : Kinds) (r : List Row). unless_refused k (found r)) none (sym rows) ∙ ap Some (sym is)

-- ## A flag

flag_at : (E : Type 0) (text : Text) (r : Option Bool) → ReadsOne {T = Bool} {E = E} ParsesBool text r → unwrap_or r false ≡ bytes_eq text (codes "true")
flag_at E text (Some true) h = rw h refl
flag_at E text (Some false) h = rw h refl
flag_at E text None h = sym (go (bytes_eq text (codes "true")) refl)
  where
    go : (b : Bool) → bytes_eq text (codes "true") ≡ b → b ≡ false
    go true e = absurd (h.1.0 ((bytes_eq-Decides text (codes "true")).0 e))
    go false e = refl

flag_in : (E : Type 0) (o : Option Text) (r : Option Bool) → (o ≡ None → r ≡ None) → ((text : Text) → o ≡ Some text → ReadsOne {T = Bool} {E = E} ParsesBool text r)
    → unwrap_or r false ≡ is_true o
flag_in E None r none some = rw (none refl) refl
flag_in E (Some text) r none some = flag_at E text r (some text refl)

pub flag_read : (E : Type 0) (m : ArgMatches) (id : Text) (r : Option Bool) → (one_text (found_of m) id ≡ None → r ≡ None)
    → ((text : Text) → one_text (found_of m) id ≡ Some text → ReadsOne {T = Bool} {E = E} ParsesBool text r) → unwrap_or r false ≡ flag_of id (rows_of (found_of m))
flag_read E m id r none some = flag_in E _ r none some ∙ ap is_true (one_text-rows (found_of m) id)

-- ## A number

-- what is read of an option with a number from 0 on
abbrev IsNumber : ℕ → Option Text → Option ℕ → Type 0
IsNumber high o r = (r ≡ option_map number_in o) × IfSome r (λ n. n ≤ high)

module _ (E : Type 0) (G : Text → Result ℕ E → Type 0) (only : (u : Text) (x : Result ℕ E) → G u x → ParsesUnsigned 32 10 u x) (high : ℕ) (fits : high < 2 ^ 32) where
  number_at : (text : Text) (r : Option ℕ) → IsPassed (Signed (pos 0) (pos high)) text → ReadsOne G text r → IsNumber high (Some text) r
  number_at text r passed read =
      let got = signed_reads E G 32 0 high passed.0 r (subst (λ (t : Text). ReadsOne G t r) passed.1 read) only fits passed.2 in
      go r got.0 got.1 got.3 read
    where
      go : (o : Option ℕ) (n : ℕ) → o ≡ Some n → n ≤ high → ReadsOne G text o → IsNumber high (Some text) o
      go None n is le h = cc
      go (Some k) n is le h =
          let same : k ≡ n = cc in
          (ap Some (only text (Ok k) h).1, omega arith)

  number_at_most : (o : Option Text) (r : Option ℕ) → ((text : Text) → o ≡ Some text → IsPassed (Signed (pos 0) (pos high)) text)
      → (o ≡ None → r ≡ None) → ((text : Text) → o ≡ Some text → ReadsOne G text r) → IsNumber high o r
  number_at_most None r passed none some = rw (none refl) (refl, tt)
  number_at_most (Some text) r passed none some = number_at text r (passed text refl) (some text refl)

  pub number_read : (m : ArgMatches) (id : Text) (r : Option ℕ) → ((text : Text) → one_text (found_of m) id ≡ Some text → IsPassed (Signed (pos 0) (pos high)) text)
      → (one_text (found_of m) id ≡ None → r ≡ None) → ((text : Text) → one_text (found_of m) id ≡ Some text → ReadsOne G text r)
      → (r ≡ number_of id (rows_of (found_of m))) × IfSome r (λ n. n ≤ high)
  number_read m id r passed none some =
      let got = number_at_most (one_text (found_of m) id) r passed none some in
      (got.0 ∙ ap (option_map number_in) (one_text-rows (found_of m) id), got.1)
