-- The command of replay, and what is read of its words.
use Rattle.std.proofs.Common.{◌≡◌, ◌⊎◌, ◌≤◌, ℕ, Bool, true, false, refl, sym, ap₂, arith, true≢false, [], List, Option, Some, None, Result, Err}
use Rattle.std.specs.Prelude.{◌≢◌, IfSome, String, codes, pos, unwrap_or}
use Rattle.std.specs.List.{AllByRecursion}
use Rattle.std.specs.Str.Parse.{ParsesBool, ParsesUnsigned}
use Rattle.std.specs.declared.alloc.Global.{Global}
use Rattle.clap.specs.Built.{IsParsedFrom}
use Rattle.clap.specs.Faults.{fault_of, is_simple_and_free}
use Rattle.clap.specs.Kinds.{HasKind}
use Rattle.clap.specs.Matches.{ReadsOne, found_of, one_text}
use Rattle.clap.specs.Simple.{HasMatchesOf, app_of, is_simple}
use Rattle.clap.specs.Values.{kind_of}
use Rattle.clap.specs.Walk.{Text, rows_of}
use Rattle.clap.specs.declared.builder.command.Command.{Command}
use Rattle.clap.specs.declared.builder.value_parser.ValueParser.TheVariants.{Signed}
use Rattle.clap.specs.declared.error.Error.{Error}
use Rattle.clap.specs.declared.error.kind.ErrorKind.TheVariants.{OutOfMemory}
use Rattle.clap.specs.declared.parser.matches.ArgMatches.{ArgMatches}
use Rattle.clap.proofs.OnLiterals.{clap_on_literals}
use Rattle.words.specs.Reading.{IsRead, texts_of}
use Rattle.words.specs.Replay.{found, replay_app, replay_words}
use Rattle.words.specs.declared.fault.WordsFault.{WordsFault}
use Rattle.words.specs.declared.fault.WordsFault.TheVariants.{Usage, Memory}
use Rattle.words.specs.declared.replay.ReplayWords.{ReplayWords}
use Rattle.words.proofs.ReadingLemmas.{flag_read, number_read, refuses, takes}
use Rattle.words.proofs.ValueLemmas.{HasParser, value_passed}

is_free : is_simple_and_free replay_app ≡ true
unfolding clap_on_literals
is_free = refl

is_plain : is_simple replay_app ≡ true
unfolding clap_on_literals
is_plain = refl

gen_parser : AllByRecursion (HasParser (codes "gen") (Signed (pos 0) (pos 100000))) replay_app.top.rules
gen_parser = ((λ e. absurd (true≢false (sym e))), ((λ e. (refl, refl)), tt))

module _ (c : Command) (words : List (String Global)) (same : app_of c ≡ replay_app) where
  pub replay_refuses : (e : Error) (f : WordsFault) → (is_simple_and_free (app_of c) ≡ true → HasKind (fault_of (app_of c) (texts_of words)) e)
      → (f ≡ Memory) ⊎ ((f ≡ Usage) × (kind_of e ≢ OutOfMemory)) → IsRead (replay_words words) (Err f)
  unfolding replay_words
  replay_refuses = refuses c replay_app same is_free (texts_of words) ReplayWords found

  replay_takes : (m : ArgMatches) (w : ReplayWords) → HasMatchesOf (app_of c) (texts_of words) m
      → (is_simple_and_free (app_of c) ≡ true → fault_of (app_of c) (texts_of words) ≡ []) → w ≡ found (rows_of (found_of m)) → replay_words words ≡ Some w
  unfolding replay_words
  replay_takes = takes c replay_app same is_free (texts_of words) ReplayWords found

  module _ (E F : Type 0) (G : Text → Result ℕ F → Type 0) (only : (u : Text) (x : Result ℕ F) → G u x → ParsesUnsigned 32 10 u x) where
    pub replay_read : (m : ArgMatches) (brief : Option Bool) (generate : Option ℕ) → IsParsedFrom c m → HasMatchesOf (app_of c) (texts_of words) m
        → (is_simple_and_free (app_of c) ≡ true → fault_of (app_of c) (texts_of words) ≡ [])
        → (one_text (found_of m) (codes "brief") ≡ None → brief ≡ None)
        → ((text : Text) → one_text (found_of m) (codes "brief") ≡ Some text → ReadsOne {T = Bool} {E = E} ParsesBool text brief)
        → (one_text (found_of m) (codes "gen") ≡ None → generate ≡ None)
        → ((text : Text) → one_text (found_of m) (codes "gen") ≡ Some text → ReadsOne G text generate)
        → (replay_words words ≡ Some (record { brief = unwrap_or brief false; generate = generate })) × IfSome generate (λ n. n ≤ 100000)
    replay_read m brief generate parsed matches kinds no_brief is_brief no_gen is_gen =
        let passed = value_passed c replay_app m same is_plain parsed (codes "gen") (Signed (pos 0) (pos 100000)) gen_parser (λ e. cc) (λ e. cc) (λ e. cc) in
        let number = number_read F G only 100000 (omega arith) m (codes "gen") generate passed no_gen is_gen in
        let flag = flag_read E m (codes "brief") brief no_brief is_brief in
        (replay_takes m _ matches kinds (ap₂ (λ b n. record { brief = b; generate = n }) flag number.0), number.1)
