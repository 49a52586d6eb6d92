-- The one claim: every row of every table is right, the longest job is taken, the largest word is written, and so long is the
-- longest text.
use Rattle.std.specs.Prelude.{◌≡◌, [], ◌∷◌, length, take, replicate}
use Rattle.basics.specs.Lists.{All}
use Rattle.refusals.specs.Tables.Told.{answered}
use Rattle.text.specs.Decimal.{decimal}
use Rattle.report_text.specs.Report.{report_text}
use Rattle.real.specs.Export.{real_text}
use Rattle.borders.specs.Rows.{Right}
use Rattle.job.specs.Promises.{read_tells}
use Rattle.borders.specs.Answers.{answer_table}
use Rattle.borders.specs.Circuit.{circuit_table}
use Rattle.borders.specs.Faults.{fault_table}
use Rattle.borders.specs.Meanings.{meaning_table}
use Rattle.borders.specs.Multiple.{multiple_table}
use Rattle.borders.specs.Judging.{judge_table}
use Rattle.borders.specs.Dropping.{drop_table}
use Rattle.borders.specs.Sets.{set_table}
use Rattle.borders.specs.Images.{longest_job}
use Rattle.borders.specs.Reading.{read_table}
use Rattle.borders.specs.Writing.{write_table}
use Rattle.borders.specs.Reports.{report_table}
use Rattle.borders.specs.Importing.{form_table, gate_table}
use Rattle.borders.specs.Exporting.{export_table}
use Rattle.borders.specs.Orders.{order_table}
use Rattle.borders.specs.JobOrders.{job_order_table}
use Rattle.borders.specs.Long.{long_table, long_order_table, long_text_table, widest}

pub record Borders : Type 0 where
  pub answers : All Right answer_table
  pub circuits : All Right circuit_table
  pub faults : All Right fault_table
  pub meanings : All Right meaning_table
  pub multiple_faults : All Right multiple_table
  pub judging : All Right judge_table
  pub dropping : All Right drop_table
  pub sets : All Right set_table
  pub reading : All Right read_table
  pub writing : All Right write_table
  pub reports : All Right report_table
  pub forms : All Right form_table
  pub gate_lines : All Right gate_table
  pub exporting : All Right export_table
  pub orders : All Right order_table
  pub job-orders : All Right job_order_table
  pub long_lists : All Right long_table
  pub long_orders : All Right long_order_table
  pub long_texts : All Right long_text_table
  -- the longest job is read into the least room for it: 1 line, class 1, 1,024 gates, 2,048 vectors
  pub longest_read : read_tells longest_job (replicate 3072 9) (replicate 2048 9) ≡ answered (1 ∷ 1 ∷ 1024 ∷ 2048 ∷ [])
  -- and reported: J 1 1024 2048
  pub longest_reported : take 14 (report_text longest_job) ≡ 74 ∷ 32 ∷ 49 ∷ 32 ∷ 49 ∷ 48 ∷ 50 ∷ 52 ∷ 32 ∷ 50 ∷ 48 ∷ 52 ∷ 56 ∷ 10 ∷ []
  -- the largest word in decimal
  pub largest_word : decimal 4294967295 ≡ 52 ∷ 50 ∷ 57 ∷ 52 ∷ 57 ∷ 54 ∷ 55 ∷ 50 ∷ 57 ∷ 53 ∷ []
  -- the text of 32 lines and 1,024 gates on all of them
  pub longest_text : length (real_text 32 widest) ≡ 125094
