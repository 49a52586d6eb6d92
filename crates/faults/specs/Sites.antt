-- Where a line can be stuck: a site is a level and a line of the gate that makes it, or level 0 and any line.
use Rattle.std.specs.Prelude.{ℕ, zero, suc, List, length}
use Rattle.basics.specs.Sums.{sum_from}
use Rattle.words.specs.Word.{all_ones, lines_on}
use Rattle.words.specs.WordOf.{word_of}
use Rattle.circuit.specs.Gates.{gate_at}
use Rattle.circuit.specs.Controls.{touches}
use Rattle.circuit.specs.declared.Gate.{Gate}

-- the lines that are sites at a level, as a word: all n lines at level 0, the lines of gate i at level i
unfoldable pub sites : ℕ → List Gate → ℕ → ℕ
sites n gs zero = all_ones n
sites n gs (suc i) = word_of n (touches (gate_at gs (suc i)))

-- the number of sites, over all levels
unfoldable pub site_count : ℕ → List Gate → ℕ
site_count n gs = sum_from (λ i. length (lines_on n (sites n gs i))) 0 (suc (length gs))
