-- The value of an option passed its parser.
use Rattle.std.proofs.Common.{◌≡◌, ◌∙◌, ◌<◌, ℕ, Bool, true, false, zero, suc, refl, sym, ap, subst, arith, List, [], ◌∷◌, map, length, Option, Some, None, inl, inr}
use Rattle.std.specs.Prelude.{codes, option_map, slice_get}
use Rattle.std.specs.List.{All, AllByRecursion, slice_index_or}
use Rattle.std.specs.Str.{bytes_eq}
use Rattle.std.specs.Borrow.{Bor}
use Rattle.std.proofs.lemmas.Bool.{cases_lt}
use Rattle.std.proofs.lemmas.List.Elements.{All-get_or}
use Rattle.std.proofs.lemmas.Slice.Eq.{bytes_eq-Decides}
use Rattle.clap.specs.Built.{IsParsedFrom, SameRules}
use Rattle.clap.specs.Facts.{EntryPasses, HasReading, PassesArg, args_of, groups_of, parser_of, parser_of_value}
use Rattle.clap.specs.Matches.{found_of, matched_of, one_text}
use Rattle.clap.specs.Simple.{App, app_of, is_simple}
use Rattle.clap.specs.Values.{Accepts, read_as, reading_of}
use Rattle.clap.specs.Walk.{Rule, Text, rule_of}
use Rattle.clap.specs.declared.builder.arg.Arg.{Arg}
use Rattle.clap.specs.declared.builder.command.Command.{Command}
use Rattle.clap.specs.declared.builder.value_parser.Reading.{Reading}
use Rattle.clap.specs.declared.builder.value_parser.ValueParser.{ValueParser}
use Rattle.clap.specs.declared.parser.matches.ArgMatches.{ArgMatches}
use Rattle.clap.specs.declared.parser.matches.MatchedArg.{MatchedArg}
use Rattle.clap.proofs.CallerLemmas.{entry_by_id}
use Rattle.clap.proofs.SimpleLemmas.{HasPlainFields, plain_fields, simple_groups}
use Rattle.clap.proofs.WalkLemmas.{both}

-- an argument with this id has this parser
abbrev pub HasParser : Text → ValueParser → Rule → Type 0
HasParser id parser rule = bytes_eq rule.id id ≡ true → (rule.parser ≡ Some parser) × (rule.ignore_case ≡ false)

-- a text that is read of a value which passed
abbrev pub IsPassed : ValueParser → Text → Type 0
IsPassed parser text = (value : Text) × (text ≡ read_as (reading_of parser) value) × Accepts false parser value

args_have : (id : Text) (parser : ValueParser) (xs : List Arg) → AllByRecursion (HasParser id parser) (map rule_of xs) → (k : ℕ) (d : Arg) → k < length xs → HasParser id parser (rule_of (slice_index_or xs k d))
args_have id parser [] all k d lt = absurd (omega arith)
args_have id parser (x ∷ xs) all zero d lt = all.0
args_have id parser (x ∷ xs) all (suc k) d lt = args_have id parser xs all.1 k d (omega arith)

-- the first of some values, as it is read
first_passes : (P : Text → Type 0) (how : Reading) (vs : List (Bor Text)) (text : Text) → All (λ v. P v.now) vs
    → option_map (λ s. read_as how s.now) (slice_get vs 0) ≡ Some text → (value : Text) × (text ≡ read_as how value) × P value
first_passes P how [] text all is = cc
first_passes P how (v ∷ vs) text all is = (v.now, cc, All-get_or (λ (x : Bor Text). P x.now) (v ∷ vs) 0 v (omega arith) all)

module _ (c : Command) (app : App) (m : ArgMatches) (same : app_of c ≡ app) (simple : is_simple app ≡ true) (p : IsParsedFrom c m)
    (id : Text) (parser : ValueParser) (all : AllByRecursion (HasParser id parser) app.top.rules)
    (named : id ≡ [] → ⊥) (help : id ≡ codes "help" → ⊥) (version : id ≡ codes "version" → ⊥) where
  is_plain : (app_of c).top.is_plain ≡ true
  is_plain = (both _ _ (both _ _ (both _ _ (ap is_simple same ∙ simple)).0).0).0

  fields : HasPlainFields c
  fields = plain_fields c is_plain

  no_groups : groups_of p.built ≡ []
  no_groups =
      let rules = (both _ _ (both _ _ (both _ _ (ap is_simple same ∙ simple)).0).0).1 in
      (p.from.same_groups (simple_groups c rules)).1 ∙ fields.groups

  -- an argument of the built command with the id is the caller's
  built_has : (j : ℕ) (x : Arg) → j < length (args_of p.built) → slice_index_or (args_of p.built) j x ≡ x → bytes_eq x.id.now id ≡ true
      → (x.value_parser ≡ Some parser) × (x.ignore_case ≡ false)
  built_has j x high at is = elim (cases_lt j (length (args_of c))) [
    | inl under ↦
        let s = subst (λ w. SameRules (slice_index_or (args_of c) j x) w) at (p.from.kept j x under).1 in
        let rules : AllByRecursion (HasParser id parser) (app_of c).top.rules = subst (λ (a : App). AllByRecursion (HasParser id parser) a.top.rules) (sym same) all in
        let own = args_have id parser (args_of c) rules j x under (ap (λ (b : Bor Text). bytes_eq b.now id) (sym s.id) ∙ is) in
        (s.parser parser own.0, s.ignore_case ∙ own.1)
    | inr over ↦
        let x_id : x.id.now ≡ id = (bytes_eq-Decides x.id.now id).0 is in
        let flag = p.from.extra j x over high in
        absurd (elim flag [ inl h ↦ help (sym x_id ∙ (ap (λ (a : Arg). a.id.now) (sym at) ∙ h)) | inr h ↦ version (sym x_id ∙ (ap (λ (a : Arg). a.id.now) (sym at) ∙ h)) ])
  ]

  value_accepted : (value : Text) → PassesArg p.built id value → Accepts false parser value
  value_accepted value pass =
      let own = built_has pass.0 pass.1 pass.2 pass.3 pass.4.0 in
      let is : parser_of pass.1 ≡ parser = ap parser_of_value own.0 in
      subst (λ (b : Bool). Accepts b parser value) own.1 (subst (λ (w : ValueParser). Accepts pass.1.ignore_case w value) is pass.4.1)

  reading_is : (how : Reading) → HasReading p.built id how → how ≡ reading_of parser
  reading_is how any =
      let own = built_has any.0 any.1 any.2 any.3 any.4.0 in
      let is : parser_of any.1 ≡ parser = ap parser_of_value own.0 in
      sym any.4.1 ∙ ap reading_of is

  entry_passed : (x : MatchedArg) (text : Text) → matched_of (found_of m) id ≡ Some x → option_map (λ s. read_as x.reading s.now) (slice_get x.vals.items 0) ≡ Some text → IsPassed parser text
  entry_passed x text found is =
      let parsed = p.parsed (p.from.globals ∙ fields.globals) in
      let got = entry_by_id (EntryPasses p.built) (found_of m).entries.items id x parsed.values found in
      let key : got.0.0.now ≡ id = (bytes_eq-Decides got.0.0.now id).0 got.2 in
      let no_group : got.0.1.is_group ≡ true → ⊥ = λ g. elim (got.3.3 g) [
        | inl empty ↦ named (sym key ∙ empty)
        | inr lots ↦
            let bad : 0 < 0 = rw no_groups at lots in
            absurd (omega arith)
      ] in
      let values : All (λ v. PassesArg p.built id v.now) x.vals.items = elim got.3.0 [
        | inl g ↦ absurd (no_group g)
        | inr vals ↦ subst (λ (w : Text). All (λ v. PassesArg p.built w v.now) x.vals.items) key (rw got.1 at vals)
      ] in
      let how : x.reading ≡ reading_of parser = elim got.3.4 [
        | inl g ↦ absurd (no_group g)
        | inr h ↦ ap (λ (a : MatchedArg). a.reading) (sym got.1) ∙ reading_is got.0.1.reading (subst (λ (w : Text). HasReading p.built w got.0.1.reading) key h)
      ] in
      finish (first_passes (PassesArg p.built id) x.reading x.vals.items text values is) how
    where
      finish : ((value : Text) × (text ≡ read_as x.reading value) × PassesArg p.built id value) → x.reading ≡ reading_of parser → IsPassed parser text
      finish first how = (first.0, first.1 ∙ ap (λ (r : Reading). read_as r first.0) how, value_accepted first.0 first.2)

  pub value_passed : (text : Text) → one_text (found_of m) id ≡ Some text → IsPassed parser text
  value_passed text is = go (matched_of (found_of m) id) refl is
    where
      go : (o : Option MatchedArg) → matched_of (found_of m) id ≡ o → one_text (found_of m) id ≡ Some text → IsPassed parser text
      go None e h =
          let bad : None ≡ Some text = rw e at h in
          cc
      go (Some x) e h = entry_passed x text e (rw e at h)
