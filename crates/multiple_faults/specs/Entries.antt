-- What the entries of a multiple fault that breaks no rule are.
use Rattle.std.specs.Prelude.{ℕ, ◌*◌, ◌≡◌, List, [], ◌∷◌, length}
use Rattle.std.specs.Coded.{Coded-set, coded_ℕ, ×_prop, Unit-prop, le_prop}
use Rattle.basics.specs.Lists.{All}
use Rattle.circuit.specs.declared.Gate.{Gate}
use Rattle.faults.specs.Records.{faults_of}
use Rattle.faults.specs.Stuck.{StuckOk}
use Rattle.faults.specs.declared.Fault.{Fault}

-- no word left over, and every record a stuck line of the circuit
pub record Entries (n : ℕ) (gs : List Gate) (list : List ℕ) : Type 0 where
  pub whole : length list ≡ 4 * length (faults_of list)
  pub entries_ok : All (StuckOk n (length gs)) (faults_of list)

-- ---- there is one proof of each of these at most, as a type that keeps one asks

StuckOk-prop : (n d : ℕ) (f : Fault) → IsProp (StuckOk n d f)
StuckOk-prop n d f a b = λ i. record {
  class_is = Coded-set coded_ℕ f.class 1 a.class_is b.class_is i;
  place_in = le_prop a.place_in b.place_in i;
  line_in = le_prop a.line_in b.line_in i;
  value_in = le_prop a.value_in b.value_in i;
}

AllStuck-prop : (n d : ℕ) (fs : List Fault) → IsProp (All (StuckOk n d) fs)
AllStuck-prop n d [] = Unit-prop
AllStuck-prop n d (f ∷ fs) = ×_prop (StuckOk-prop n d f) (AllStuck-prop n d fs)

pub Entries-prop : (n : ℕ) (gs : List Gate) (list : List ℕ) → IsProp (Entries n gs list)
Entries-prop n gs list a b = λ i. record {
  whole = Coded-set coded_ℕ (length list) (4 * length (faults_of list)) a.whole b.whole i;
  entries_ok = AllStuck-prop n (length gs) (faults_of list) a.entries_ok b.entries_ok i;
}
