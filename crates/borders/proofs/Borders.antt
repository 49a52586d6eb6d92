-- Every border holds: each row by computing, with all definitions unfolded, the longest job by the law of jobs that are written and
-- read, and the largest word digit by digit. The check names the table in which a row is wrong, and where that is not too much to
-- print the row too, with its number, what came and what was expected. Assumes nothing.
use Rattle.std.specs.Prelude.{refl}
use Rattle.basics.specs.Lists.{up_from, keep, each, some}
use Rattle.basics.specs.Sums.{sum_from}
use Rattle.words.specs.Word.{bit, flip, force, all_on, all_ones, lines_on}
use Rattle.words.specs.Inverse.{inverse}
use Rattle.words.specs.WordOf.{word_of, lacking, lone_zero}
use Rattle.refusals.specs.Places.{first_bad_from, in_word}
use Rattle.circuit.specs.Gates.{gates_of, gate_at, no_gate}
use Rattle.circuit.specs.Controls.{is_control, less_control, more_control, touches, is_other}
use Rattle.circuit.specs.Runs.{fires, step, run, forward, backward}
use Rattle.circuit.specs.Rules.{
  bad_lines,
  bad_counts,
  bad_gate,
  first_bad_gate,
  first_bad_vector,
  circuit_set_rows,
  circuit_rows,
  set_rows,
  vector_rows,
  level_rows,
  run_rows,
}
use Rattle.simulator.specs.Faulty.{force_at, stuck_run, without, changed, faulty, caught}
use Rattle.faults.specs.Sites.{sites, site_count}
use Rattle.faults.specs.Rules.{is_stuck_at, is_gate, is_missing_gate, is_missing_control, is_extra_control, is_fault, fault_rows}
use Rattle.faults.specs.Records.{no_fault, faults_of, first_bad_record}
use Rattle.simulator.specs.Rules.{catch_rows}
use Rattle.fault_test.specs.Rules.{test_rows}
use Rattle.multiple_faults.specs.Multiple.{caught_together, bad_entry, same_site, site_twice}
use Rattle.multiple_faults.specs.Rules.{entries_rows, multiple_rows}
use Rattle.fault_test.specs.Tests.{test_level, line_at_zero, test_state, test_for}
use Rattle.faults.specs.Classes.{fault_of, stuck_faults, missing_gates, missing_controls, extra_controls, class_faults, is_class}
use Rattle.judge.specs.Judging.{caught_by_some, caught_of, uncaught_of, verdict}
use Rattle.judge.specs.Coverages.{empty_coverage, with_vector, is_marked}
use Rattle.marking.specs.Marks.{caught_lines, marked}
use Rattle.judge.specs.Rules.{class_rows, judge_rows, count_rows}
use Rattle.dropping.specs.Dropping.{uncaught, dropped, words_of}
use Rattle.dropping.specs.Rules.{bad_record, record_rows, drop_rows, drop_records_rows}
use Rattle.testsets.specs.Log2.{log2_in, log2}
use Rattle.testsets.specs.Sets.{score, best_of, best, picks, bound, compact_set, backward_input, backward_set}
use Rattle.testsets.specs.Rules.{backward_rows, compact_rows}
use Rattle.number_bytes.specs.Bytes.{bytes_of, number_at, words_at}
use Rattle.job.specs.Image.{header, row_bytes, gate_count, image, lines_in, classes_in, gates_in, vectors_in, gate_words, vector_words}
use Rattle.job.specs.Rules.{bad_classes, bad_sizes, header_rows, content_rows, read_rows, write_rows}
use Rattle.text.specs.Texts.{ascii, every, begins, same, among, distinct, place}
use Rattle.text.specs.Decimal.{digit, decimal_in, decimal, is_digit, is_number}
use Rattle.text_words.specs.Words.{in_front, lines_of, is_blank, word_ends, words_of as wordsOfLine}
use Rattle.real.specs.Form.{
  is_letter,
  is_name,
  optional_parts,
  is_constants,
  controls_of,
  target_of,
  is_gate as isGateLine,
  mask_of,
  gate_of,
  next,
  is_other as isOtherToken,
  is_plain,
  step_with,
  step_of,
}
use Rattle.real.specs.Reading.{read_from, reading}
use Rattle.real.specs.Export.{name_of, gate_line, head_lines, joined, line_text, real_text}
use Rattle.real_import.specs.Rules.{import_rows}
use Rattle.real_export.specs.Rules.{export_rows}
use Rattle.report_text.specs.Lines.{spaced, line}
use Rattle.report_text.specs.Report.{letter_of, shown, first_text, class_text, job_text, refused_text, report_text}
use Rattle.job.specs.Wanted.{is_wanted, wanted}
use Rattle.report_text.specs.Rules.{report_rows}
use Rattle.proved_samples.specs.Sample.{sample_words, sample_job}
use Rattle.borders.specs.Answers.{answer_table}
use Rattle.borders.specs.Circuit.{circuit_table}
use Rattle.borders.specs.Faults.{fault_table}
use Rattle.borders.specs.Meanings.{meaning_table}
use Rattle.borders.specs.Multiple.{multiple_table}
use Rattle.borders.specs.Judging.{judge_table}
use Rattle.borders.specs.Dropping.{drop_table}
use Rattle.borders.specs.Sets.{set_table}
use Rattle.borders.specs.Images.{job, bare_job}
use Rattle.borders.specs.Reading.{read_table}
use Rattle.borders.specs.Writing.{write_table}
use Rattle.borders.specs.Reports.{report_table}
use Rattle.borders.specs.Importing.{form_table, gate_table}
use Rattle.borders.specs.Exporting.{export_table}
use Rattle.borders.specs.Orders.{order_table}
use Rattle.borders.specs.JobOrders.{job_order_table}
use Rattle.borders.specs.Long.{long_table, long_order_table, long_text_table}
use Rattle.borders.specs.Claim.{Borders}
use Rattle.borders.proofs.Computing.{by_computing}
use Rattle.borders.proofs.Longest.{longest_read, longest_reported, largest_word, longest_text}

pub every_border : Borders
unfolding answer_table circuit_table fault_table meaning_table multiple_table judge_table drop_table set_table job bare_job read_table write_table
    report_table form_table gate_table export_table order_table job_order_table long_table long_order_table long_text_table sample_words sample_job
    up_from keep each some sum_from bit flip force all_on all_ones lines_on inverse word_of lacking lone_zero first_bad_from in_word
    gates_of gate_at no_gate is_control less_control more_control touches is_other fires step run forward backward bad_gate first_bad_gate
    first_bad_vector circuit_set_rows circuit_rows set_rows vector_rows level_rows run_rows
    force_at stuck_run without changed faulty caught sites is_stuck_at is_gate is_missing_gate is_missing_control is_extra_control is_fault no_fault
    fault_rows catch_rows test_rows faults_of first_bad_record caught_together bad_entry same_site site_twice entries_rows multiple_rows
    test_level line_at_zero test_state test_for
    fault_of stuck_faults missing_gates missing_controls extra_controls class_faults is_class caught_by_some caught_of uncaught_of verdict
    empty_coverage caught_lines marked with_vector is_marked class_rows judge_rows count_rows
    uncaught dropped words_of bad_record record_rows drop_rows drop_records_rows
    log2_in log2 score best_of best picks site_count bound compact_set backward_input backward_set backward_rows compact_rows
    bytes_of number_at words_at header row_bytes gate_count image lines_in classes_in gates_in vectors_in gate_words vector_words
    bad_lines bad_classes bad_counts bad_sizes header_rows content_rows read_rows write_rows
    ascii every begins same among distinct place is_digit is_number in_front lines_of is_blank word_ends wordsOfLine
    is_letter is_name optional_parts is_constants controls_of target_of isGateLine mask_of gate_of next isOtherToken is_plain step_with step_of
    read_from reading name_of gate_line head_lines joined line_text real_text import_rows export_rows
    digit decimal_in decimal spaced line letter_of shown first_text class_text is_wanted wanted job_text refused_text report_text report_rows
every_border = record {
  answers = by_computing answer_table refl;
  circuits = by_computing circuit_table refl;
  faults = by_computing fault_table refl;
  meanings = by_computing meaning_table refl;
  multiple_faults = by_computing multiple_table refl;
  judging = by_computing judge_table refl;
  dropping = by_computing drop_table refl;
  sets = by_computing set_table refl;
  reading = by_computing read_table refl;
  writing = by_computing write_table refl;
  reports = by_computing report_table refl;
  forms = by_computing form_table refl;
  gate_lines = by_computing gate_table refl;
  exporting = by_computing export_table refl;
  orders = by_computing order_table refl;
  job-orders = by_computing job_order_table refl;
  long_lists = by_computing long_table refl;
  long_orders = by_computing long_order_table refl;
  long_texts = by_computing long_text_table refl;
  longest_read = longest_read;
  longest_reported = longest_reported;
  longest_text = longest_text;
  largest_word = largest_word;
}
