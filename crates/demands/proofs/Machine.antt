-- The circuit and its faults in the words of docs/SCOPE.md, spelled from the bits of a state and from lists: what the contracts are held against.
-- Of what they cite it names the structs `Gate` and `Fault`, `All`, and `bit`, which `bit_is` of `Demand2` spells.
use Prim.Native.Nat.{ℕ, zero, suc, ◌+◌, ◌-◌, ◌^◌, ◌≤◌, ◌<◌}
use mathlib.Core.Path.{◌≡◌}
use mathlib.Core.Logic.{◌↔◌, ◌≢◌, ◌⊎◌}
use mathlib.Core.List.{List, [], ◌∷◌, ◌++◌, Memᴰ}
use lib.ListN.{length, get_or, take, drop}
use Rattle.basics.specs.Lists.{All}
use Rattle.words.specs.Word.{bit}
use Rattle.circuit.specs.declared.Gate.{Gate}
use Rattle.faults.specs.declared.Fault.{Fault}

-- ---- gates and runs

-- line c is a control of the gate
abbrev pub Control : Gate → ℕ → Type 0
Control g c = bit g.controls c ≡ 1

-- all its controls are 1
abbrev pub AllControls : Gate → ℕ → Type 0
AllControls g s = (c : ℕ) → Control g c → bit s c ≡ 1

-- what a gate makes of state s is t: where all its controls are 1 the target is inverted, else it stays, and every other line stays
pub record Makes (g : Gate) (s t : ℕ) : Type 0 where
  pub inverts : AllControls g s → bit t g.target ≡ 1 - bit s g.target
  pub rests : (AllControls g s → ⊥) → bit t g.target ≡ bit s g.target
  pub others : (j : ℕ) → g.target ≢ j → bit t j ≡ bit s j

-- what some gates, in order, make of state s is t
abbrev pub Runs : List Gate → ℕ → ℕ → Type 0
Runs [] s t = t ≡ s
Runs (g ∷ gs) s t = (u : ℕ) × Makes g s u × Runs gs u t

-- level i of input x is s: the input is level 0, and gate i makes level i of level i - 1; above d, where no call goes, it stays the output
abbrev pub Level : List Gate → ℕ → ℕ → ℕ → Type 0
Level gs i x s = Runs (take i gs) x s

-- a circuit as it is lent: three words a gate
abbrev pub flat : List Gate → List ℕ
flat [] = []
flat (g ∷ gs) = g.controls ∷ g.spare ∷ g.target ∷ flat gs

-- some words are a circuit of n lines, whose gates are these; that spare words are 0 is said by `Valid`
pub record Circuit (n : ℕ) (words : List ℕ) (gs : List Gate) : Type 0 where
  pub lent : words ≡ flat gs
  pub some_lines : 1 ≤ n
  pub lines_fit : n ≤ 32
  pub gates_fit : length gs ≤ 1024
  -- controls and target are lines, and the target is no control
  pub controls_in : All (λ g. g.controls < 2 ^ n) gs
  pub target_in : All (λ g. g.target < n) gs
  pub apart : All (λ g. Control g g.target → ⊥) gs

-- ---- class 1, stuck-at, one fault or several

-- the lines that are stuck at level i are forced to their values, and every other line stays
pub record Forced (fs : List Fault) (i s t : ℕ) : Type 0 where
  pub forced : (f : Fault) → Memᴰ f fs → f.place ≡ i → bit t f.line ≡ f.value
  pub others : (j : ℕ) → ((f : Fault) → Memᴰ f fs → f.place ≡ i → f.line ≢ j) → bit t j ≡ bit s j

-- from level i on, which the run reaches with s: the lines stuck there are forced, and the run goes on, to output t
abbrev pub StuckRuns : List Fault → ℕ → List Gate → ℕ → ℕ → Type 0
StuckRuns fs i [] s t = Forced fs i s t
StuckRuns fs i (g ∷ gs) s t = (u : ℕ) × (v : ℕ) × Forced fs i s u × Makes g u v × StuckRuns fs (suc i) gs v t

-- ---- classes 2 to 4: gate i, from 1, is away or another

abbrev pub Without : List Gate → ℕ → List Gate
Without gs i = take (i - 1) gs ++ drop i gs

abbrev pub Instead : List Gate → ℕ → Gate → List Gate
Instead gs i h = take (i - 1) gs ++ (h ∷ drop i gs)

abbrev pub gate : List Gate → ℕ → Gate
gate gs i = get_or gs (i - 1) (record { controls = 0; spare = 0; target = 0 })

-- h is gate g save for line c, which may be a control of one and not of the other
pub record SaveFor (c : ℕ) (g h : Gate) : Type 0 where
  pub same_target : h.target ≡ g.target
  pub same_controls : (j : ℕ) → c ≢ j → Control h j ↔ Control g j

-- ---- the circuit with a fault in it gives output t

pub data FaultyRuns (gs : List Gate) (f : Fault) (x t : ℕ) : Type 0 where
  -- when the state reaches the level the line is forced, and the run goes on
  stuck_at : f.class ≡ 1 → StuckRuns (f ∷ []) 0 gs x t → FaultyRuns gs f x t
  -- the gate does nothing
  missing_gate : f.class ≡ 2 → Runs (Without gs f.place) x t → FaultyRuns gs f x t
  -- the gate works without the control
  missing_control : f.class ≡ 3 → (h : Gate) → SaveFor f.line (gate gs f.place) h → (Control h f.line → ⊥)
      → Runs (Instead gs f.place h) x t → FaultyRuns gs f x t
  -- the line is a control too
  extra_control : f.class ≡ 4 → (h : Gate) → SaveFor f.line (gate gs f.place) h → Control h f.line
      → Runs (Instead gs f.place h) x t → FaultyRuns gs f x t

-- ---- caught: the final output differs from the good one; there is one of each (`runs_one`, `stuck_one` of `MachineLaws`)

pub record Outputs (gs : List Gate) (x : ℕ) (Faulty : ℕ → Type 0) (Compared : ℕ → ℕ → Type 0) : Type 0 where
  pub bad : ℕ
  pub good : ℕ
  pub bad-is : Faulty bad
  pub good_is : Runs gs x good
  pub compared : Compared bad good

abbrev pub Caught : List Gate → Fault → ℕ → Type 0
Caught gs f x = Outputs gs x (FaultyRuns gs f x) ◌≢◌

-- missed: it is the good one
abbrev pub Missed : List Gate → Fault → ℕ → Type 0
Missed gs f x = Outputs gs x (FaultyRuns gs f x) ◌≡◌

-- of a multiple fault, all of whose entries are forced in one run
abbrev pub CaughtTogether : List Gate → List Fault → ℕ → Type 0
CaughtTogether gs fs x = Outputs gs x (StuckRuns fs 0 gs x) ◌≢◌

abbrev pub MissedTogether : List Gate → List Fault → ℕ → Type 0
MissedTogether gs fs x = Outputs gs x (StuckRuns fs 0 gs x) ◌≡◌

-- ---- the faults that a circuit of n lines has

-- line j is a line of the gate: a control or the target
abbrev pub Touches : Gate → ℕ → Type 0
Touches g j = Control g j ⊎ (j ≡ g.target)

-- a site is level 0 and any line, or level i and a line of gate i
pub data Site (n : ℕ) (gs : List Gate) (i j : ℕ) : Type 0 where
  input : i ≡ 0 → j < n → Site n gs i j
  touched : 1 ≤ i → i ≤ length gs → j < n → Touches (gate gs i) j → Site n gs i j

-- how many of k lines from line a on are 1 in a word
abbrev pub ones_from : ℕ → ℕ → ℕ → ℕ
ones_from w a zero = 0
ones_from w a (suc k) = bit w a + ones_from w (suc a) k

-- S, the number of sites: n, and the size of each gate, which is the number of its controls and 1
abbrev pub site_total : ℕ → List Gate → ℕ
site_total n [] = n
site_total n (g ∷ gs) = (ones_from g.controls 0 n + 1) + site_total n gs

-- fields that a class has no use for are 0
pub data Has (n : ℕ) (gs : List Gate) (f : Fault) : Type 0 where
  stuck_at : f.class ≡ 1 → Site n gs f.place f.line → f.value ≤ 1 → Has n gs f
  missing_gate : f.class ≡ 2 → 1 ≤ f.place → f.place ≤ length gs → f.line ≡ 0 → f.value ≡ 0 → Has n gs f
  missing_control : f.class ≡ 3 → 1 ≤ f.place → f.place ≤ length gs → Control (gate gs f.place) f.line → f.value ≡ 0 → Has n gs f
  extra_control : f.class ≡ 4 → 1 ≤ f.place → f.place ≤ length gs → f.line < n → (Control (gate gs f.place) f.line → ⊥)
      → f.line ≢ (gate gs f.place).target → f.value ≡ 0 → Has n gs f

-- a plain list of fault records: four words a record
abbrev pub records : List Fault → List ℕ
records [] = []
records (f ∷ fs) = f.class ∷ f.place ∷ f.line ∷ f.value ∷ records fs

-- no site is named twice
abbrev pub OtherSite : Fault → Fault → Type 0
OtherSite f h = h.place ≡ f.place → h.line ≢ f.line

abbrev pub NoSiteTwice : List Fault → Type 0
NoSiteTwice [] = Unit {0}
NoSiteTwice (f ∷ fs) = All (OtherSite f) fs × NoSiteTwice fs

-- a multiple fault: 1 to 256 entries of class 1, no site named twice
pub record Multiple (n : ℕ) (gs : List Gate) (fs : List Fault) : Type 0 where
  pub some : 1 ≤ length fs
  pub most : length fs ≤ 256
  pub stuck : All (λ f. (f.class ≡ 1) × Has n gs f) fs
  pub once : NoSiteTwice fs
