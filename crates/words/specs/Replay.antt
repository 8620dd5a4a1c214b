-- The words of replay: `--brief`, and `--gen` with a number up to 100,000.
use Rattle.std.specs.Prelude.{List, Option, Some, String, codes, pos, true}
use Rattle.std.specs.declared.alloc.Global.{Global}
use Rattle.clap.specs.Words.{App, Row, Rule, new_app, new_rule, with_rule}
use Rattle.clap.specs.declared.builder.action.ArgAction.TheVariants.{SetTrue}
use Rattle.clap.specs.declared.builder.value_parser.ValueParser.TheVariants.{Signed}
use Rattle.words.specs.Reading.{flag_of, number_of, texts_of, words_of}
use Rattle.words.specs.declared.replay.ReplayWords.{ReplayWords}

abbrev pub brief_rule : Rule
brief_rule = record (new_rule (codes "brief")) {
  long = Some (codes "brief");
  action = Some SetTrue;
}

abbrev pub gen_rule : Rule
gen_rule = record (new_rule (codes "gen")) {
  long = Some (codes "gen");
  parser = Some (Signed (pos 0) (pos 100000));
}

-- a command without the program's name among its words, and without help
abbrev pub bare_app : App
bare_app =
    let app = new_app (codes "replay") in
    record app { top = record app.top { no_binary_name = true; disable_help_flag = true } }

abbrev pub replay_app : App
replay_app = with_rule (with_rule bare_app brief_rule) gen_rule

abbrev pub found : List Row → ReplayWords
found rows = record { brief = flag_of (codes "brief") rows; generate = number_of (codes "gen") rows }

-- what the words of replay ask for
unfoldable pub replay_words : List (String Global) → Option ReplayWords
replay_words words = words_of replay_app found (texts_of words)
