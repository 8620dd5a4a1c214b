use Rattle.std.proofs.Common.{length, sym, ap, ◌∙◌}
use Rattle.uuid.specs.Text.{hyphenated_text, lower}
use Rattle.uuid.proofs.TextLemmas.{by_index_length}
use Rattle.step_ids.specs.Run.{run_text, run_of_text, IsRun}
use Rattle.step_ids.proofs.RunLemmas.{own_run}
use Rattle.step_ids.proofs.run.run_id.Goals as goal

pub copy_from_slice-requires : goal.copy_from_slice-requires
copy_from_slice-requires c = sym (ap length (c.as_bytes.ensures.value ∙ c.encode_lower-text.ensures.text) ∙ by_index_length 36 _)

pub returns-clause-id : goal.returns-clause-id
unfolding run_text
returns-clause-id c =
    c.copy_from_slice.ensures.after ∙ c.as_bytes.ensures.value ∙ c.encode_lower-text.ensures.text
    ∙ ap (hyphenated_text lower) (c.hyphenated.ensures ∙ c.uuid_of.ensures)

pub returns-clause-read_back : goal.returns-clause-read_back
returns-clause-read_back c =
    let is_run : IsRun c.args.moment c.args.number = record { moment_fits = c.requires.moment; number_fits = c.requires.number } in
    ap run_of_text (returns-clause-id c) ∙ own_run c.args.moment c.args.number is_run
