-- The .real form as a grammar: which lines a text has, and which circuit of n lines they say. Of what the contracts cite it names the lines of a
-- text, the words of a line and quoted texts (`lines_of`, `words_of`, `ascii`), numbers in decimal (`decimal`, which `decimal-is` of `Reporting`
-- spells), the struct `Gate`, and `All`. `form_read` of `RealReading` holds the reading of the contracts against it.
use Prim.Native.Nat.{ℕ, suc, ◌≤◌, ◌<◌}
use mathlib.Core.Path.{◌≡◌}
use mathlib.Core.Logic.{◌↔◌, ◌≢◌, ◌⊎◌}
use mathlib.Core.List.{List, [], ◌∷◌, ◌++◌, map, Memᴰ}
use lib.ListN.{length, get_or, replicate}
use Rattle.basics.specs.Lists.{All}
use Rattle.circuit.specs.declared.Gate.{Gate}
use Rattle.text.specs.Texts.{ascii}
use Rattle.text.specs.Decimal.{decimal}
use Rattle.text_words.specs.Words.{lines_of, words_of}
use Rattle.demands.proofs.FaultLists.{Kept}
use Rattle.demands.proofs.Machine.{Control, flat}

abbrev pub Word : Type 0
Word = List ℕ

-- ---- lines

-- a line is skipped that has no words, or whose first word begins with # (35); every other line counts
pub data Skipped (line : List ℕ) : Type 0 where
  blank : words_of line ≡ [] → Skipped line
  comment : (rest : List ℕ) (more : List Word) → words_of line ≡ (35 ∷ rest) ∷ more → Skipped line

abbrev pub Counts : List ℕ → Type 0
Counts line = Skipped line → ⊥

-- a tab (9), or a byte from 32 to 126
abbrev pub Plain : ℕ → Type 0
Plain b = (b ≡ 9) ⊎ ((32 ≤ b) × (b ≤ 126))

-- ---- names

abbrev pub Letter : ℕ → Type 0
Letter b = ((65 ≤ b) × (b ≤ 90)) ⊎ ((97 ≤ b) × (b ≤ 122))

abbrev pub Digit : ℕ → Type 0
Digit b = (48 ≤ b) × (b ≤ 57)

-- 1 to 8 letters, digits or underscores (95)
pub record Name (word : Word) : Type 0 where
  pub some : 1 ≤ length word
  pub most : length word ≤ 8
  pub bytes : All (λ b. Letter b ⊎ (Digit b ⊎ (b ≡ 95))) word

-- no word stands twice
abbrev pub Once : List Word → Type 0
Once [] = Unit {0}
Once (w ∷ ws) = All (λ v. w ≢ v) ws × Once ws

-- line j has this name: the first name is that of line 0
abbrev pub NameOf : List Word → ℕ → Word → Type 0
NameOf names j w = (j < length names) × (get_or names j [] ≡ w)

-- ---- optional lines of a circuit of n lines: three with any words, and one with one word of n hyphens (45)

pub data Optional (n : ℕ) (line : List Word) : Type 0 where
  inputs : (more : List Word) → line ≡ ascii ".inputs" ∷ more → Optional n line
  outputs : (more : List Word) → line ≡ ascii ".outputs" ∷ more → Optional n line
  garbage : (more : List Word) → line ≡ ascii ".garbage" ∷ more → Optional n line
  constants : line ≡ ascii ".constants" ∷ replicate n 45 ∷ [] → Optional n line

-- what kind of line it is: its first word
abbrev pub kind : List Word → Word
kind [] = []
kind (w ∷ more) = w

-- ---- gates

-- a line says a gate: t with the number of its names, the controls, the target; each name is declared, and no control is named twice
pub record SaysGate (names line : List Word) (g : Gate) : Type 0 where
  pub controls : List Word
  pub target : Word
  pub line-is : line ≡ (ascii "t" ++ decimal (suc (length controls))) ∷ (controls ++ (target ∷ []))
  pub declared : All (λ w. (j : ℕ) × NameOf names j w) controls
  pub once : Once controls
  -- a line is a control exactly if it is named as one
  pub controls_are : (j : ℕ) → Control g j ↔ ((w : Word) × Memᴰ w controls × NameOf names j w)
  pub target_is : NameOf names g.target target
  pub spare_is : g.spare ≡ 0

-- some lines say some gates, in order
abbrev pub SayGates : List Word → List (List Word) → List Gate → Type 0
SayGates names [] gs = gs ≡ []
SayGates names (line ∷ lines) gs = (g : Gate) × (more : List Gate) × (gs ≡ g ∷ more) × SaysGate names line g × SayGates names lines more

-- ---- a text

-- some lines, by their words, say a circuit of n lines and these words of gates: what follows .version may be any words, as many names are
-- declared as .numvars says, no kind of optional line comes twice, .begin and .end stand alone, and nothing follows
pub record SayCircuit (lines : List (List Word)) (n : ℕ) (words : List ℕ) : Type 0 where
  pub version : List Word
  pub names : List Word
  pub optional : List (List Word)
  pub gate_lines : List (List Word)
  pub gates : List Gate
  pub lines_are : lines ≡
      (ascii ".version" ∷ version) ∷
      (ascii ".numvars" ∷ decimal n ∷ []) ∷
      (ascii ".variables" ∷ names) ∷ (optional ++ (
      (ascii ".begin" ∷ []) ∷ (gate_lines ++ (
      (ascii ".end" ∷ []) ∷ []))))
  pub names-are : All Name names
  pub names_once : Once names
  pub as_many : length names ≡ n
  pub optional_are : All (Optional n) optional
  pub optional_once : Once (map kind optional)
  pub gates_are : SayGates names gate_lines gates
  pub words_are : words ≡ flat gates

-- a text is of the form, and says this circuit: the lines that count do, and have plain bytes only
pub record OfForm (text : List ℕ) (n : ℕ) (words : List ℕ) : Type 0 where
  pub lines : List (List ℕ)
  pub lines_are : Kept Counts Skipped (lines_of text) lines
  pub plain : All (All Plain) lines
  pub say : SayCircuit (map words_of lines) n words
