-- The whole table holds, by computing.
use mathlib.Core.Path.{◌≡◌, refl}
use mathlib.Core.Bool.{true}
use Rattle.basics.specs.Lists.{up_from, keep, each, some}
use Rattle.basics.specs.Sums.{sum_from}
use Rattle.words.specs.Word.{bit, flip, force, all_on, all_ones, lines_on}
use Rattle.words.specs.Inverse.{inverse}
use Rattle.words.specs.WordOf.{word_of}
use Rattle.circuit.specs.Gates.{gates_of, gate_at}
use Rattle.circuit.specs.Controls.{is_control, less_control, more_control, touches}
use Rattle.circuit.specs.Runs.{fires, step, run, forward, backward}
use Rattle.simulator.specs.Faulty.{force_at, stuck_run, without, changed, faulty, caught}
use Rattle.faults.specs.Sites.{sites, site_count}
use Rattle.faults.specs.Classes.{fault_of, stuck_faults, class_faults}
use Rattle.judge.specs.Judging.{caught_by_some, uncaught_of, verdict}
use Rattle.testsets.specs.Log2.{log2_in, log2}
use Rattle.testsets.specs.Sets.{score, best_of, best, picks, bound, compact_set, backward_input, backward_set}
use Rattle.proved_samples.specs.Sample.{sample_words, sample}
use Rattle.proved_samples.specs.Table.{states, catching, judged, table, holds}

pub every-sample : holds table ≡ true
unfolding sample_words sample states catching judged table up_from keep each some sum_from bit flip force all_on all_ones lines_on inverse word_of
    gates_of gate_at is_control less_control more_control touches fires step run forward backward force_at stuck_run without changed faulty caught
    sites fault_of stuck_faults class_faults caught_by_some uncaught_of verdict log2_in log2 score best_of best picks site_count bound compact_set
    backward_input backward_set
every-sample = refl
